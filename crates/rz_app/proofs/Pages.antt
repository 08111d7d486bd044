-- What the kernel's command writes.
use Rattle.std.proofs.Common.{◌≡◌, ℕ, ◌⊎◌, inl, inr, Option, List, [], ◌∷◌, ◌++◌, Some, Ok, Err, Result, IfOk, codes, refl, sym, subst, arith}
use Rattle.rz_rules.specs.declared.memory.OutOfMemory.{OutOfMemory}
use Rattle.rz_io.specs.Device.{Told, Absent, MayRead, Rose}
use Rattle.rz_kernel.specs.Answer.{KernelSays}
use Rattle.rz_kernel.specs.declared.answer.KernelAnswer.{KernelAnswer}
use Rattle.rz_app.specs.declared.page.Page.{Page}
use Rattle.rz_app.specs.Command.{Command, Kernel}
use Rattle.rz_app.specs.Answer.{text_of, status_of, line}
use Rattle.rz_app.specs.Fault.{Composes}

-- the kernel's answer on bytes that the store may give
pub kernel_writes : (file : List ℕ) (told : List ℕ → Told) (before now : ℕ) (bytes seen : List ℕ) (answer : KernelAnswer) → MayRead (told file) bytes → seen ≡ bytes → KernelSays seen answer → Composes (Some (Kernel file)) told before now (text_of answer) (status_of answer)
kernel_writes file told before now bytes seen answer read same says =
    inl (record {
      contents = bytes ∷ [];
      read = (read, tt);
      writes = record {
        answer = answer;
        says = subst (λ bs. KernelSays bs answer) same says;
        text_is = refl;
        status_is = refl;
      };
    })

-- the one file that the kernel reads is missing, or its read failed
pub kernel_cannot_read : (file : List ℕ) (told : List ℕ → Told) (before now : ℕ) → Rose before now ⊎ (told file ≡ Absent) → Composes (Some (Kernel file)) told before now (line (codes "cannot read " ++ file)) 3
kernel_cannot_read file told before now cause =
    inr (
      record {
        earlier = [];
        name = file;
        later = [];
        place = refl;
        first = λ k d below. absurd (omega arith);
        cause = cause;
        text_is = refl;
      },
      refl,
    )

-- a page of this text and status
pub page_composes : (asked : Option Command) (told : List ℕ → Told) (before now : ℕ) (text : List ℕ) (status : ℕ) (result : Result Page OutOfMemory) → Composes asked told before now text status → IfOk result (λ page. page.text ≡ text) → IfOk result (λ page. page.status ≡ status) → IfOk result (λ page. Composes asked told before now page.text page.status)
page_composes asked told before now text status (Ok page) composes text_is status_is =
    subst (λ t. Composes asked told before now t page.status) (sym text_is)
    (subst (λ s. Composes asked told before now text s) (sym status_is) composes)
page_composes asked told before now text status (Err fault) composes text_is status_is = tt
