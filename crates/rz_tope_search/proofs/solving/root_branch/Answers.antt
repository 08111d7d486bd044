use Rattle.std.proofs.Common.{ℕ, List, get_or, All, inl, inr, sym, ap, subst, ◌∙◌, arith}
use Rattle.std.proofs.lemmas.Option.{slice_get-get_or, get_or_from_slice_get}
use Rattle.rz_tope_search.specs.declared.branches.Waiting.{Waiting}
use Rattle.rz_tope_search.specs.Branch.{IsWaitingFor}
use Rattle.rz_tope_search.specs.Table.{order_of, between_ends}
use Rattle.rz_tope_search.proofs.RankOrders.{last_or_before}
use Rattle.rz_tope_search.proofs.Orders.{IsOrder-same, ends-order}
use Rattle.rz_tope_proof.specs.Reading.{tope_at}
use Rattle.rz_tope_proof.proofs.Proving.{Extends-both}
use Rattle.rz_tope_search.specs.Showing.{ProvesWaiting}
use Rattle.rz_tope_search.proofs.Showing.{reading-later, shows-later}
use Rattle.rz_tope_search.proofs.solving.root_branch.Goals as goal

pub loop-part-init : goal.loop-part-init
loop-part-init c =
    let count = c.args.places.now.count in
    record {
      branch = record {
        order = IsOrder-same count between_ends (order_of c.in_ok-new.field-0) (omega arith) c.in_ok-new.ensures.order (ends-order count);
        waiting = subst (λ (ws : List Waiting). All (IsWaitingFor c.args.parts.now) ws) (sym c.new-2.ensures.items) (λ k d lt. absurd (omega (arith, lt)));
      };
      holds = λ le value model k d lt. absurd (omega (arith, lt));
      extends = c.in_ok-new.ensures.extends;
      proves = λ at is given. record {
        table = c.in_ok-new.ensures.proves at is.places_are;
        waiting = subst (λ (ws : List Waiting). All (ProvesWaiting at c.new.new.proof c.args.parts.now) ws) (sym c.new-2.ensures.items)
            (λ k d lt. absurd (omega (arith, lt)));
      };
    }

pub loop-part-preserved : goal.loop-part-preserved
loop-part-preserved c =
    let given = c.args.given.now in
    let i = c.loop-part.part-index in
    let new = c.in_ok-assume.ensures in
    record {
      branch = new.branch;
      holds = λ le value model k d lt. elim (last_or_before i k (omega (arith, lt))) [
        | inl same ↦
            let start : ℕ × ℕ = (0, 0) in
            ap (λ m. value (get_or given m d).0) same
            ∙ ap (λ (p : ℕ × ℕ). value p.0) (sym (get_or_from_slice_get given i (get_or given i d) start (slice_get-get_or given i d c.loop-part-test.true)))
            ∙ new.holds le value model
        | inr less ↦ c.loop-part.invariant.holds le value (new.refines le value model) k d less
      ];
      extends = Extends-both c.args.proof.now c.loop-part.proof c.assume.new.proof c.loop-part.invariant.extends new.extends;
      proves = λ at is all.
          let parts = c.args.parts.now in
          let start : ℕ × ℕ = (0, 0) in
          let p0 = c.args.proof.now in
          let p1 = c.loop-part.proof in
          let hypothesis : ℕ × ℕ = get_or given i start in
          new.proves at (reading-later at parts p0 p1 c.loop-part.invariant.extends c.args.places.now is)
          (shows-later at p0 p1 c.loop-part.invariant.extends hypothesis.1 (tope_at at.nodes parts hypothesis.0) (all i start c.loop-part-test.true))
          (c.loop-part.invariant.proves at is all);
    }

pub returns-clause-holds : goal.returns-clause-holds
returns-clause-holds c le value model k d lt =
    c.loop-part.invariant.holds le value model k d (omega (arith, lt, c.loop-part-test.false))
