-- Items that fit and follow one after the other.
use Rattle.std.proofs.Common.{◌≡◌, List, [], ◌∷◌, ◌++◌, refl, sym, ap, subst, ◌∙◌}
use Rattle.rz_rules.specs.File.{AllFit, AllFollow, FileState, Fits, Item, ItemFollows, extended, state_after}

-- the items fit and follow behind what is known, and then this is known
pub record Runs (known : FileState) (items : List Item) (after : FileState) : Type 0 where
  pub fit : AllFit known items
  pub follow : AllFollow known items
  pub state : state_after known items ≡ after

pub runs_none : (known after : FileState) → known ≡ after → Runs known [] after
runs_none known after e = record { fit = tt; follow = tt; state = e }

pub runs_cons : (known : FileState) (item : Item) (items : List Item) (next after : FileState) → Fits known item → ItemFollows known item
    → extended known item ≡ next → Runs next items after → Runs known (item ∷ items) after
runs_cons known item items next after fits follows e rest = record {
  fit = (fits, subst (λ (s : FileState). AllFit s items) (sym e) rest.fit);
  follow = (follows, subst (λ (s : FileState). AllFollow s items) (sym e) rest.follow);
  state = ap (λ (s : FileState). state_after s items) e ∙ rest.state;
}

pub runs_append : (known : FileState) (front rest : List Item) (between after : FileState) → Runs known front between → Runs between rest after
    → Runs known (front ++ rest) after
runs_append known [] rest between after first second =
    subst (λ (s : FileState). Runs s rest after) (sym first.state) second
runs_append known (item ∷ front) rest between after first second =
    let others : Runs (extended known item) front between = record { fit = first.fit.1; follow = first.follow.1; state = first.state } in
    runs_cons known item (front ++ rest) (extended known item) after first.fit.0 first.follow.0 refl
    (runs_append (extended known item) front rest between after others second)
