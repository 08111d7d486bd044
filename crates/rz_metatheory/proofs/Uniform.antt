-- Shifts and puts are uniform: they do further in what they do further out.
use Rattle.std.proofs.Common.{◌≡◌, ℕ, suc, ◌+◌, false, refl, sym, ap, ◌∙◌, arith}
use Rattle.std.proofs.lemmas.Bool.Decides.{nat_tests}
use Rattle.rz_rules.specs.declared.kinds.Space.{Space}
use Rattle.rz_rules.specs.declared.kinds.Space.TheVariants.{Points, Terms}
use Rattle.rz_rules.specs.Tree.{Tree}
use Rattle.rz_rules.specs.Substitution.{Depth, Change, Renumbered, Replaced, only, total, raising, weakened, putting, same_space}
use Rattle.rz_rules.proofs.Substitution.{weakened-weakened}
use Rattle.rz_rules.proofs.SubstitutionRuns.{staying}
use Rattle.rz_rules.proofs.SubstitutionVariables.{raised, put_change}
use Rattle.rz_metatheory.proofs.Places.{lifted, IsUniform}

pub staying_uniform : IsUniform staying
staying_uniform = record { first = first; next = next; other = other } where
  first : (opened : Space) (depth : Depth) → staying opened (total depth (only opened 1)) 0 ≡ Renumbered 0
  first opened depth = refl

  next : (opened : Space) (depth : Depth) (index : ℕ) → staying opened (total depth (only opened 1)) (suc index) ≡ lifted opened opened (staying opened depth index)
  next Points depth index = refl
  next Terms depth index = refl

  other : (opened space : Space) (depth : Depth) (index : ℕ) → same_space opened space ≡ false → staying space (total depth (only opened 1)) index ≡ lifted opened space (staying space depth index)
  other Points Points depth index e = absurd cc
  other Points Terms depth index e = refl
  other Terms Points depth index e = refl
  other Terms Terms depth index e = absurd cc

raised_first : (from depth by : ℕ) → raised (from + (depth + 1)) by 0 ≡ 0
raised_first from depth by = grind (arith, nat_tests)

raised_next : (from depth by index : ℕ) → raised (from + (depth + 1)) by (suc index) ≡ suc (raised (from + depth) by index)
raised_next from depth by index = grind (arith, nat_tests)

raised_other : (from depth by index : ℕ) → raised (from + (depth + 0)) by index ≡ raised (from + depth) by index
raised_other from depth by index = grind (arith, nat_tests)

pub raising_uniform : (from by : Depth) → IsUniform (raising from by)
raising_uniform from by = record { first = first; next = next; other = other } where
  first : (opened : Space) (depth : Depth) → raising from by opened (total depth (only opened 1)) 0 ≡ Renumbered 0
  first Points depth = ap Renumbered (raised_first (from Points) (depth Points) (by Points))
  first Terms depth = ap Renumbered (raised_first (from Terms) (depth Terms) (by Terms))

  next : (opened : Space) (depth : Depth) (index : ℕ) → raising from by opened (total depth (only opened 1)) (suc index) ≡ lifted opened opened (raising from by opened depth index)
  next Points depth index = ap Renumbered (raised_next (from Points) (depth Points) (by Points) index)
  next Terms depth index = ap Renumbered (raised_next (from Terms) (depth Terms) (by Terms) index)

  other : (opened space : Space) (depth : Depth) (index : ℕ) → same_space opened space ≡ false
      → raising from by space (total depth (only opened 1)) index ≡ lifted opened space (raising from by space depth index)
  other Points Points depth index e = absurd cc
  other Points Terms depth index e = ap Renumbered (raised_other (from Terms) (depth Terms) (by Terms) index)
  other Terms Points depth index e = ap Renumbered (raised_other (from Points) (depth Points) (by Points) index)
  other Terms Terms depth index e = absurd cc

-- the value of a put, further in
deep_value : (opened : Space) (at depth : Depth) (value : Tree) → weakened (total at (total depth (only opened 1))) value ≡ weakened (only opened 1) (weakened (total at depth) value)
deep_value opened at depth value = sym (weakened-weakened (only opened 1) (total at depth) value ∙ (λ i. weakened (λ space. swap space i) value)) where
  swap : (space : Space) → only opened 1 space + (at space + depth space) ≡ at space + (depth space + only opened 1 space)
  swap space = omega arith

put_first : (at depth : ℕ) (value : Tree) → put_change (at + (depth + 1)) value 0 ≡ Renumbered 0
put_first at depth value = grind (arith, nat_tests)

put_next : (opened : Space) (lift : Change → Change) (at depth : ℕ) (value deep : Tree) (index : ℕ)
    → ((m : ℕ) → lift (Renumbered m) ≡ Renumbered (suc m)) → lift (Replaced value) ≡ Replaced deep
    → put_change (at + (depth + 1)) deep (suc index) ≡ lift (put_change (at + depth) value index)
put_next opened lift at depth value deep index r p = grind (arith, nat_tests)

put_other : (lift : Change → Change) (at depth : ℕ) (value deep : Tree) (index : ℕ)
    → ((m : ℕ) → lift (Renumbered m) ≡ Renumbered m) → lift (Replaced value) ≡ Replaced deep
    → put_change (at + (depth + 0)) deep index ≡ lift (put_change (at + depth) value index)
put_other lift at depth value deep index r p = grind (arith, nat_tests)

pub putting_uniform : (s : Space) (at : Depth) (value : Tree) → IsUniform (putting s at value)
putting_uniform Points at value = record { first = first; next = next; other = other } where
  first : (opened : Space) (depth : Depth) → putting Points at value opened (total depth (only opened 1)) 0 ≡ Renumbered 0
  first Points depth = put_first (at Points) (depth Points) (weakened (total at (total depth (only Points 1))) value)
  first Terms depth = refl

  next : (opened : Space) (depth : Depth) (index : ℕ) → putting Points at value opened (total depth (only opened 1)) (suc index) ≡ lifted opened opened (putting Points at value opened depth index)
  next Points depth index =
      put_next Points (lifted Points Points) (at Points) (depth Points) (weakened (total at depth) value) (weakened (total at (total depth (only Points 1))) value) index
      (λ m. refl) (ap Replaced (sym (deep_value Points at depth value)))
  next Terms depth index = refl

  other : (opened space : Space) (depth : Depth) (index : ℕ) → same_space opened space ≡ false
      → putting Points at value space (total depth (only opened 1)) index ≡ lifted opened space (putting Points at value space depth index)
  other Points Points depth index e = absurd cc
  other Points Terms depth index e = refl
  other Terms Points depth index e =
      put_other (lifted Terms Points) (at Points) (depth Points) (weakened (total at depth) value) (weakened (total at (total depth (only Terms 1))) value) index
      (λ m. refl) (ap Replaced (sym (deep_value Terms at depth value)))
  other Terms Terms depth index e = absurd cc
putting_uniform Terms at value = record { first = first; next = next; other = other } where
  first : (opened : Space) (depth : Depth) → putting Terms at value opened (total depth (only opened 1)) 0 ≡ Renumbered 0
  first Points depth = refl
  first Terms depth = put_first (at Terms) (depth Terms) (weakened (total at (total depth (only Terms 1))) value)

  next : (opened : Space) (depth : Depth) (index : ℕ) → putting Terms at value opened (total depth (only opened 1)) (suc index) ≡ lifted opened opened (putting Terms at value opened depth index)
  next Points depth index = refl
  next Terms depth index =
      put_next Terms (lifted Terms Terms) (at Terms) (depth Terms) (weakened (total at depth) value) (weakened (total at (total depth (only Terms 1))) value) index
      (λ m. refl) (ap Replaced (sym (deep_value Terms at depth value)))

  other : (opened space : Space) (depth : Depth) (index : ℕ) → same_space opened space ≡ false
      → putting Terms at value space (total depth (only opened 1)) index ≡ lifted opened space (putting Terms at value space depth index)
  other Points Points depth index e = absurd cc
  other Points Terms depth index e =
      put_other (lifted Points Terms) (at Terms) (depth Terms) (weakened (total at depth) value) (weakened (total at (total depth (only Points 1))) value) index
      (λ m. refl) (ap Replaced (sym (deep_value Points at depth value)))
  other Terms Points depth index e = refl
  other Terms Terms depth index e = absurd cc
