-- Changes at a depth: what becomes of a tree behind entries, where the variables outside of them change.
use Rattle.std.proofs.Common.{◌≡◌, ℕ, ◌+◌, sym, ap, ◌∙◌, arith}
use Rattle.rz_rules.specs.declared.kinds.Space.{Space}
use Rattle.rz_rules.specs.declared.kinds.Space.TheVariants.{Points, Terms}
use Rattle.rz_rules.specs.Tree.{Tree}
use Rattle.rz_rules.specs.Substitution.{Depth, Renumbered, changed, none, only, total, raising, putting, shift, put, weakened}
use Rattle.rz_rules.proofs.SubstitutionRuns.{changed_alike, staying, changed_staying, deeper, changed_from}
use Rattle.rz_rules.proofs.SubstitutionVariables.{raised, raised_by_none, put_change, Beside, same, apart, beside, only_apart, raising_apart, putting_here, putting_apart}

-- nothing changes
pub changed_nothing : (depth : Depth) (t : Tree) → changed (raising none none) depth t ≡ t
changed_nothing depth t =
    changed_alike (raising none none) staying (λ x d number. ap Renumbered (raised_by_none (0 + d x) number)) depth t ∙ changed_staying depth t

opened_at : (s : Space) (depth : Depth) (x : Space) → Beside s x → (d : Depth) (number : ℕ)
    → deeper (raising none (only s 1)) depth x d number ≡ raising (only s (depth s)) (only s 1) x d number
opened_at Points depth Points same d number = ap (λ place. Renumbered (raised place 1 number)) (omega arith)
opened_at Terms depth Terms same d number = ap (λ place. Renumbered (raised place 1 number)) (omega arith)
opened_at s depth x (apart e) d number =
    ap Renumbered (ap (λ by. raised (0 + (depth x + d x)) by number) (only_apart s x 1 e) ∙ raised_by_none (0 + (depth x + d x)) number)
    ∙ sym (raising_apart s x (depth s) 1 d number e)

-- one variable more is bound outside
pub changed_opened : (s : Space) (depth : Depth) (t : Tree) → changed (raising none (only s 1)) depth t ≡ shift s (depth s) 1 t
changed_opened s depth t =
    changed_from (raising none (only s 1)) depth t
    ∙ changed_alike (deeper (raising none (only s 1)) depth) (raising (only s (depth s)) (only s 1)) (λ x. opened_at s depth x (beside s x)) none t

put_at : (s : Space) (depth : Depth) (value : Tree) (x : Space) → Beside s x → (d : Depth) (number : ℕ)
    → deeper (putting s none value) depth x d number ≡ putting s depth value x d number
put_at s depth value x same d number =
    putting_here s none value (total depth d) number
    ∙ ap (λ place. put_change place (weakened (total none (total depth d)) value) number) (omega arith)
    ∙ ap (λ (by : Depth). put_change (depth s + d s) (weakened by value) number) all
    ∙ sym (putting_here s depth value d number) where
      all : total none (total depth d) ≡ total depth d
      all = λ i space. plain space i where
        plain : (space : Space) → total none (total depth d) space ≡ total depth d space
        plain space = omega arith
put_at s depth value x (apart e) d number = putting_apart s x none value (total depth d) number e ∙ sym (putting_apart s x depth value d number e)

-- a value takes the place of a variable that is bound outside
pub changed_put : (s : Space) (depth : Depth) (value t : Tree) → changed (putting s none value) depth t ≡ put s depth value t
changed_put s depth value t =
    changed_from (putting s none value) depth t
    ∙ changed_alike (deeper (putting s none value) depth) (putting s depth value) (λ x. put_at s depth value x (beside s x)) none t
