use Rattle.std.proofs.Common.{◌≡◌, ℕ, ◌+◌, ◌-◌, List, [], ◌∷◌, length, get_or, Some, refl, sym, ap, subst, ◌∙◌, arith}
use Rattle.std.specs.Prelude.{slice_get}
use Rattle.std.proofs.lemmas.List.{length_push}
use Rattle.std.proofs.lemmas.Option.{slice_get-get_or}
use Rattle.rz_rules.specs.Tree.{tree_of}
use Rattle.rz_tope_proof.specs.declared.proof.Claim.TheVariants as claim
use Rattle.rz_tope_proof.specs.declared.parts.Part.{Part}
use Rattle.rz_tope_proof.specs.Part.{IsMadeOf}
use Rattle.rz_tope_proof.specs.Reading.{HasForm}
use Rattle.rz_tope_normal.specs.Norm.{equation_of}
use Rattle.rz_tope_normal.specs.Read.{ArePartsOf, SaysTope}
use Rattle.rz_tope_normal.proofs.Joining.{Said, joined_parts, last_readable_at, said_at, said_more, splits_front}
use Rattle.rz_tope_normal.proofs.ReadParts.{says_still}
use Rattle.rz_tope_normal.proofs.join.join.Goals as goal
use Rattle.rz_tope_normal.proofs.join.join.Goals.{After-len-place, After-index-of}

place : (c : After-len-place) → c.len-place.result ≡ length c.pop.new.self.items
place c = omega (arith, c.len-place.ensures, c.pop.new.self.ok)

count : (c : After-len-place) → length c.pop.new.self.items + 1 ≡ length c.loop-split.done.items
count c = omega (arith, ap length c.in-Some.ensures.items, length_push c.pop.new.self.items c.in-Some.split)

pub form_of-form-requires-clause-readable : goal.form_of-form-requires-clause-readable
form_of-form-requires-clause-readable c of e =
    let g = (goal.at.form_of-form-requires-clause-readable c).After-len-place in
    let ns = c.args.pool.now.nodes in
    last_readable_at ns (tree_of ns c.args.setting.now.context) c.args.list.now c.args.norms.now
    (record { all = c.args.splits.all; done = c.loop-split.done })
    c.pop.new.self.items c.in-Some.split of c.loop-split.invariant.splits c.in-Some.ensures.items c.deref-in-Some.result.now c.len-place.result
    c.deref-in-Some.ensures.value
    (place g) e

pub form_of-form-requires-clause-said : goal.form_of-form-requires-clause-said
form_of-form-requires-clause-said c =
    let g = (goal.at.form_of-form-requires-clause-said c).After-len-place in
    said_at c.args.pool.now.nodes c.loop-split.parts.items c.args.splits.all.items (length c.loop-split.done.items)
    (c.len.result + c.len-2.result - 1)
    c.loop-split.invariant.count c.loop-split.invariant.said c.deref.result.now c.deref-in-Some.result.now c.len-place.result c.deref.ensures.value
    c.deref-in-Some.ensures.value
    (omega (arith, place g, count g))

at : (c : After-index-of) → slice_get c.args.splits.all.items (length c.pop.new.self.items) ≡ Some c.index-of.result.now
at c =
    let g = (goal.at.After-index-of c).After-len-place in
    let of = c.index-of.result.now in
    let all = c.args.splits.all.items in
    slice_get-get_or all (length c.pop.new.self.items) of (omega (arith, count g, c.loop-split.invariant.room))
    ∙ ap Some (ap (λ (n : ℕ). get_or all n of) (sym (place g)) ∙ sym c.index-of.ensures)

pub loop-split-preserved : goal.loop-split-preserved
loop-split-preserved c =
    let g = (goal.at.loop-split-preserved c).After-index-of in
    let h = (goal.at.loop-split-preserved c).After-len-place in
    let ns = c.args.pool.now.nodes in
    let context = tree_of ns c.args.setting.now.context in
    let places = c.args.setting.now.places in
    let inv = c.loop-split.invariant in
    let parts = c.loop-split.parts.items in
    let of = c.index-of.result.now in
    let form = c.form_of-form.result in
    let front = c.pop.new.self.items in
    let said = c.form_of-form.ensures in
    let part : Part = record { claim = claim.Equal of.0 of.1 of.2; form = form } in
    let last = c.len.result + c.len-2.result - 1 in
    let items = c.in_ok-push.ensures.items in
    let here : slice_get c.deref-in-Some.result.now c.len-place.result ≡ Some of =
    (λ i. slice_get (c.deref-in-Some.ensures.value i) (place h i)) ∙ at g in
    let made : IsMadeOf (length parts) places.count form = subst (λ (ps : List Part). IsMadeOf (length ps) places.count form) c.deref.ensures.value
    said.made in
    let has : HasForm ns context places c.args.proof.now parts form (equation_of ns of) =
    subst (λ (ps : List Part). HasForm ns context places c.args.proof.now ps form (equation_of ns of)) c.deref.ensures.value (said.form of here) in
    let fine = inv.splits.fine (length front) of (at g) in
    record {
      parts = subst (λ (ps : List Part). ArePartsOf ns context c.args.list.now places c.args.proof.now ps) (sym items)
          (joined_parts ns context c.args.list.now c.args.norms.now places c.args.proof.now parts of fine form inv.parts made has said.sides);
      splits = splits_front ns context c.args.list.now c.args.norms.now (record { all = c.args.splits.all; done = c.loop-split.done })
          (record { all = c.args.splits.all; done = c.pop.new.self }) c.in-Some.split inv.splits refl c.in-Some.ensures.items;
      said = subst (λ (ps : List Part). Said ns ps c.args.splits.all.items (length front) last) (sym items)
          (said_more ns parts part c.args.splits.all.items (length c.loop-split.done.items) (length front) last (count h) inv.count inv.said of (at g)
          refl);
      count = omega (arith, ap length items, length_push parts part, inv.count, count h);
      room = omega (arith, count h, inv.room);
      last = inv.last;
      kept = λ number tope s.
          subst (λ (ps : List Part). SaysTope ns ps number tope) (sym items) (says_still ns parts (part ∷ []) number tope (inv.kept number tope s));
    }

pub returns-clause-says : goal.returns-clause-says
returns-clause-says c of e =
    let none : length c.loop-split.done.items ≡ 0 = omega (arith, c.in_default.ensures.cases, c.loop-split.done.ok) in
    let last = c.len.result + c.len-2.result - 1 in
    let number : last - 0 ≡ last = omega arith in
    subst (λ (n : ℕ). SaysTope c.args.pool.now.nodes c.loop-split.parts.items n (equation_of c.args.pool.now.nodes of)) number
    (c.loop-split.invariant.said 0 of (omega (arith, none)) e)
