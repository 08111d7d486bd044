use Rattle.std.proofs.Common.{◌≡◌, ℕ, ◌+◌, ◌-◌, length, get_or, Some, refl, sym, subst, ◌∙◌, arith}
use Rattle.std.specs.Prelude.{slice_get}
use Rattle.std.proofs.lemmas.Option.{slice_get-get_or}
use Rattle.rz_rules.specs.Tree.{tree_of}
use Rattle.rz_tope_proof.specs.declared.parts.Form.{Form}
use Rattle.rz_tope_proof.specs.declared.parts.Form.TheVariants as form
use Rattle.rz_tope_proof.specs.Reading.{HasForm}
use Rattle.rz_tope_normal.specs.declared.splits.Split.{Split}
use Rattle.rz_tope_normal.specs.declared.splits.Split.TheVariants as split
use Rattle.rz_tope_normal.specs.Equation.{IsReadable}
use Rattle.rz_tope_normal.specs.Norm.{equation_of}
use Rattle.rz_tope_normal.proofs.Joining.{first_point, halved_form, halved_made, interval_form, item_is, one_form, right_within, same_form, second_point}
use Rattle.rz_tope_normal.proofs.join.form_of.Goals as goal
use Rattle.rz_tope_normal.proofs.join.form_of.Goals.{Start}

abbrev of : Start → ℕ × ℕ × ℕ
of c = get_or c.args.all.now c.args.place (0, 0, 0)

at : (c : Start) → slice_get c.args.all.now c.args.place ≡ Some (of c)
at c = slice_get-get_or c.args.all.now c.args.place (0, 0, 0) c.requires.place

readable : (c : Start) (how : Split) → c.args.split ≡ how → IsReadable c.args.pool.now.nodes
    (tree_of c.args.pool.now.nodes c.args.setting.now.context) c.args.list.now
    c.args.norms.now c.args.all.now c.args.place (of c) how
readable c how is =
    subst (λ (s : Split). IsReadable c.args.pool.now.nodes (tree_of c.args.pool.now.nodes c.args.setting.now.context) c.args.list.now c.args.norms.now
    c.args.all.now c.args.place
    (of c) s) is (c.requires.readable (of c) (at c))

form_at : (c : Start) (f : Form) → HasForm c.args.pool.now.nodes (tree_of c.args.pool.now.nodes c.args.setting.now.context) c.args.setting.now.places
    c.args.proof.now
    c.args.parts.now f (equation_of c.args.pool.now.nodes (of c)) → (p : ℕ × ℕ × ℕ) → slice_get c.args.all.now c.args.place ≡ Some p
    → HasForm c.args.pool.now.nodes (tree_of c.args.pool.now.nodes c.args.setting.now.context) c.args.setting.now.places c.args.proof.now
    c.args.parts.now f (equation_of c.args.pool.now.nodes p)
form_at c f has p e =
    subst (λ (q : ℕ × ℕ × ℕ). HasForm c.args.pool.now.nodes (tree_of c.args.pool.now.nodes c.args.setting.now.context) c.args.setting.now.places
    c.args.proof.now
    c.args.parts.now f (equation_of c.args.pool.now.nodes q)) (item_is (of c) p (sym (at c) ∙ e)) has

pub side-first-requires-clause-known : goal.side-first-requires-clause-known
side-first-requires-clause-known c = (readable (goal.at.side-first-requires-clause-known c).Start split.Interval c.in-Interval.is).fine.first_known

pub side-first-requires-clause-point : goal.side-first-requires-clause-point
side-first-requires-clause-point c =
    let g = (goal.at.side-first-requires-clause-point c).Start in
    first_point c.args.pool.now.nodes (tree_of c.args.pool.now.nodes c.args.setting.now.context) c.args.list.now c.args.norms.now
    c.args.setting.now.places c.args.proof.now
    c.args.parts.now c.args.all.now c.args.place (of g) (readable g split.Interval c.in-Interval.is)

pub side-first-requires-clause-among : goal.side-first-requires-clause-among
side-first-requires-clause-among c = (readable (goal.at.side-first-requires-clause-among c).Start split.Interval c.in-Interval.is).fine.first_among

pub side-second-requires-clause-known : goal.side-second-requires-clause-known
side-second-requires-clause-known c = (readable (goal.at.side-second-requires-clause-known c).Start split.Interval c.in-Interval.is).fine.second_known

pub side-second-requires-clause-point : goal.side-second-requires-clause-point
side-second-requires-clause-point c =
    let g = (goal.at.side-second-requires-clause-point c).Start in
    second_point c.args.pool.now.nodes (tree_of c.args.pool.now.nodes c.args.setting.now.context) c.args.list.now c.args.norms.now
    c.args.setting.now.places c.args.proof.now
    c.args.parts.now c.args.all.now c.args.place (of g) (readable g split.Interval c.in-Interval.is)

pub side-second-requires-clause-among : goal.side-second-requires-clause-among
side-second-requires-clause-among c = (readable (goal.at.side-second-requires-clause-among c).Start split.Interval c.in-Interval.is).fine.second_among

pub overflow_sub-left : goal.overflow_sub-left
overflow_sub-left c =
    let g = (goal.at.overflow_sub-left c).Start in
    let is = readable g (split.Halved c.in-Halved.at c.in-Halved.pairs) c.in-Halved.is in
    omega (
      arith,
      c.requires.room,
      right_within c.args.pool.now.nodes (tree_of c.args.pool.now.nodes c.args.setting.now.context) c.args.list.now c.args.norms.now
          c.args.setting.now.places c.args.proof.now c.args.parts.now c.args.all.now c.args.place (of g) c.in-Halved.at c.in-Halved.pairs is
          c.requires.room c.requires.said,
    )

pub overflow_sub-right : goal.overflow_sub-right
overflow_sub-right c =
    let g = (goal.at.overflow_sub-right c).Start in
    let is = readable g (split.Halved c.in-Halved.at c.in-Halved.pairs) c.in-Halved.is in
    omega (
      arith,
      c.requires.room,
      right_within c.args.pool.now.nodes (tree_of c.args.pool.now.nodes c.args.setting.now.context) c.args.list.now c.args.norms.now
          c.args.setting.now.places c.args.proof.now c.args.parts.now c.args.all.now c.args.place (of g) c.in-Halved.at c.in-Halved.pairs is
          c.requires.room c.requires.said,
    )

pub returns-in-Same-clause-form : goal.returns-in-Same-clause-form
returns-in-Same-clause-form c =
    let g = (goal.at.returns-in-Same-clause-form c).Start in
    form_at g form.Same (same_form c.args.pool.now.nodes (tree_of c.args.pool.now.nodes c.args.setting.now.context) c.args.list.now c.args.norms.now
    c.args.setting.now.places
    c.args.proof.now c.args.parts.now c.args.all.now c.args.place (of g) (readable g split.Same c.in-Same.is))

pub returns-in-OnePoint-clause-form : goal.returns-in-OnePoint-clause-form
returns-in-OnePoint-clause-form c =
    let g = (goal.at.returns-in-OnePoint-clause-form c).Start in
    form_at g form.OnePoint (one_form c.args.pool.now.nodes (tree_of c.args.pool.now.nodes c.args.setting.now.context) c.args.list.now
    c.args.norms.now c.args.setting.now.places
    c.args.proof.now c.args.parts.now c.args.all.now c.args.place (of g) (readable g split.OnePoint c.in-OnePoint.is))

pub returns-in-Interval-clause-form : goal.returns-in-Interval-clause-form
returns-in-Interval-clause-form c =
    let g = (goal.at.returns-in-Interval-clause-form c).Start in
    form_at g (form.Equal c.side-first.result c.side-second.result)
    (interval_form c.args.pool.now.nodes (tree_of c.args.pool.now.nodes c.args.setting.now.context) c.args.list.now c.args.norms.now
    c.args.setting.now.places
    c.args.proof.now c.args.parts.now c.args.all.now c.args.place (of g) (readable g split.Interval c.in-Interval.is) c.side-first.result
    c.side-second.result
    c.side-first.ensures.side c.side-second.ensures.side c.side-first.ensures.point c.side-second.ensures.point)

pub returns-in-Halved-clause-made : goal.returns-in-Halved-clause-made
returns-in-Halved-clause-made c =
    let g = (goal.at.returns-in-Halved-clause-made c).Start in
    let is = readable g (split.Halved c.in-Halved.at c.in-Halved.pairs) c.in-Halved.is in
    let left = length c.args.parts.now + c.args.place - c.in-Halved.at in
    halved_made c.args.pool.now.nodes (tree_of c.args.pool.now.nodes c.args.setting.now.context) c.args.list.now c.args.norms.now
    c.args.setting.now.places c.args.proof.now c.args.parts.now c.args.all.now c.args.place (of g) c.in-Halved.at c.in-Halved.pairs is c.requires.room
    c.requires.said
    left (left - 1) refl refl

pub returns-in-Halved-clause-form : goal.returns-in-Halved-clause-form
returns-in-Halved-clause-form c =
    let g = (goal.at.returns-in-Halved-clause-form c).Start in
    let is = readable g (split.Halved c.in-Halved.at c.in-Halved.pairs) c.in-Halved.is in
    let left = length c.args.parts.now + c.args.place - c.in-Halved.at in
    form_at g (form.EqualPairs (of g) left (left - 1) c.in-Halved.pairs)
    (halved_form c.args.pool.now.nodes (tree_of c.args.pool.now.nodes c.args.setting.now.context) c.args.list.now c.args.norms.now
    c.args.setting.now.places c.args.proof.now c.args.parts.now c.args.all.now c.args.place (of g) c.in-Halved.at c.in-Halved.pairs is c.requires.room
    c.requires.said
    left (left - 1) refl refl)
