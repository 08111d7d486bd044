use Rattle.std.proofs.Common.{◌≡◌, ◌-◌, max, get_or, sym, ◌∙◌, arith, refl}
use Rattle.rz_rules.specs.declared.kinds.Sort.TheVariants.{Cube}
use Rattle.rz_rules.specs.declared.kinds.Space.{Space}
use Rattle.rz_rules.specs.declared.kinds.Space.TheVariants.{Points, Terms}
use Rattle.rz_rules.specs.Form.{plain, bound}
use Rattle.rz_rules.specs.Tree.{tree_of}
use Rattle.rz_pool.specs.declared.spans.Spans.{Spans}
use Rattle.rz_pool.specs.Spans.{span_of, lesser}
use Rattle.rz_pool.proofs.FreeBounds.{bound_of_more}
use Rattle.rz_pool.proofs.FreeLeasts.{least_of_more}
use Rattle.rz_pool.proofs.pool.Pool.spans_of_kids.Goals as goal

empty : Spans
empty = record { points = record { least = 0; bound = 0 }; terms = record { least = 0; bound = 0 } }

pub loop-i-init : goal.loop-i-init
unfolding empty
loop-i-init c = record {
  bound = λ space. elim space as (λ (s : Space). (span_of empty s).bound ≡ 0) [ Points ↦ refl | Terms ↦ refl ];
  least = λ space. elim space as (λ (s : Space). (span_of empty s).least ≡ 0) [ Points ↦ refl | Terms ↦ refl ];
}

pub loop-i-preserved : goal.loop-i-preserved
loop-i-preserved c =
    let tree = tree_of c.args.self.now.nodes in
    let slots = c.args.slots.now in
    let ids = c.args.ids.now in
    let i = c.loop-i.i in
    let d = plain Cube in
    let slot = get_or slots i d in
    let before = c.loop-i.invariant in
    let kid = c.spans.ensures.spans in
    record {
      bound = λ space.
          c.joined-spans.ensures.bound space
          ∙ (λ j. max (before.bound space j) (kid.bound space j - bound slot space))
          ∙ sym (bound_of_more tree space slots ids i d (omega arith) (omega arith));
      least = λ space.
          c.joined-spans.ensures.least space
          ∙ (λ j. lesser (before.bound space j) (before.least space j) (kid.bound space j - bound slot space) (kid.least space j - bound slot space))
          ∙ sym (least_of_more tree space slots ids i d (omega arith) (omega arith));
    }
