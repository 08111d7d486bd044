use Rattle.std.proofs.Common.{rules}
use Rattle.rz_app.proofs.Pages.{kernel_writes, kernel_cannot_read, page_composes}
use Rattle.rz_app.proofs.page.kernel_page.Goals as goal

pub returns-in_ok-kernel-in-Ok-clause-composed : goal.returns-in_ok-kernel-in-Ok-clause-composed
returns-in_ok-kernel-in-Ok-clause-composed g c =
    page_composes _ _ _ _ _ _ c.answer_page.result
    (kernel_writes _ _ _ _ _ _ _ c.in-Ok.ensures.bytes c.as_slice.ensures c.in_ok-kernel-in-Ok.ensures.says)
    c.answer_page.ensures.text c.answer_page.ensures.status

pub returns-in-Err-Missing : goal.returns-in-Err-Missing
returns-in-Err-Missing g c = record {
  composed = page_composes _ _ _ _ _ _ c.cannot_read_page.result
      (kernel_cannot_read _ _ _ _ (search rules))
      c.cannot_read_page.ensures.text c.cannot_read_page.ensures.status;
  told = c.in-Err-Missing.ensures.kept;
  never_falls = c.in-Err-Missing.ensures.never_falls;
}
