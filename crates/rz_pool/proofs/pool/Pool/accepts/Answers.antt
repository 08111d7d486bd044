use Rattle.std.proofs.Common.{List, ℕ, ◌<◌, length, map, All, sym, ap, ◌∙◌, subst}
use Rattle.rz_rules.specs.declared.kinds.Slot.{Slot}
use Rattle.rz_rules.specs.Tree.{sort_of, tree_of}
use Rattle.rz_pool.proofs.pool.Pool.accepts.Goals as goal

pub returns-then-is_labelled : goal.returns-then-is_labelled
returns-then-is_labelled c =
    let ns = c.args.self.now.nodes in
    let slots = ap (map (λ (slot : Slot). slot.sort)) c.form.ensures.kids in
    let ids = c.as_slice.ensures.value in
    let Low : List ℕ → Type 0 = λ ids. All (λ id. id < length ns) ids in (
      λ yes. let have = c.have_sorts.ensures.0 yes in
          record {
            kids = subst Low ids have.0;
            sorts = sym (ap (λ (ids : List ℕ). map sort_of (map (tree_of ns) ids)) ids) ∙ have.1 ∙ slots;
            label = c.is_labelled.ensures.0 c.if-is_labelled.true;
          },
      λ form. c.have_sorts.ensures.1 (
        subst Low (sym ids) form.kids,
        ap (λ (ids : List ℕ). map sort_of (map (tree_of ns) ids)) ids ∙ form.sorts ∙ sym slots,
      ),
    )
