use Rattle.std.proofs.Common.{ℕ, List, sym, subst}
use Rattle.rz_rules.specs.File.{IsFile}
use Rattle.rz_export.specs.Claims.{claims_in}
use Rattle.rz_tope_tests.proofs.bench.Bench.file.Goals as goal

pub returns : goal.returns
returns c =
    let claims = claims_in c.args.self.now.w c.deref.result.now in
    (claims, subst (λ (bytes : List ℕ). IsFile bytes claims) (sym c.in_ok-bytes.ensures) c.in_ok-part.ensures.file)
