use Rattle.std.proofs.Common.{◌≡◌, ◌+◌, List, [], length, sym, ap, ◌∙◌, subst, arith}
use Rattle.std.specs.Prelude.{All}
use Rattle.rz_rules.specs.declared.coordinates.Coord.{Coord}
use Rattle.rz_rules.specs.Tree.{tree_of}
use Rattle.rz_rules.specs.Validity.{IsRankList, Refutes}
use Rattle.rz_tope_proof.specs.declared.parts.Part.{Part}
use Rattle.rz_tope_proof.specs.Order.{by_rank, rank}
use Rattle.rz_tope_proof.specs.Ranks.{ranks_from}
use Rattle.rz_tope_proof.specs.Reading.{tope_at}
use Rattle.rz_tope_proof.specs.Part.{AreParts, AreValues}
use Rattle.rz_tope_search.specs.Search.{IsFound, IsRefuted}
use Rattle.rz_tope_search.specs.Searching.{ProvesFound}
use Rattle.rz_tope_search.specs.Showing.{IsReading, Setting, Shows}
use Rattle.rz_tope_search.specs.Solving.{IsTrueGiven, ProvesGiven}
use Rattle.rz_tope_search.specs.Table.{order_of}
use Rattle.rz_tope_search.proofs.RankOrders.{rank-one, rank-zero}
use Rattle.rz_tope_search.proofs.Refuting.{ranks-refute}
use Rattle.rz_tope_search.proofs.Showing.{reading-later}
use Rattle.rz_solver.proofs.Values.{rank_list, values, values-are}
use Rattle.rz_solver.proofs.solver.decide.Goals as goal

pub returns-in-Proved-clause-answer : goal.returns-in-Proved-clause-answer
returns-in-Proved-clause-answer c =
    let nodes = c.read-answer.new.pool.nodes in
    let here : Setting = record { nodes = nodes; context = tree_of c.args.pool.now.nodes c.args.context; assumed = [] } in
    let is = c.in_ok-sequent.ensures.read in
    let places = c.in_ok-sequent.sequent.places in
    let parts = c.as_slice-parts.result.now in
    let goal_part = c.in_ok-sequent.sequent.goal in
    let start = c.read-answer.new.proof in
    let middle = c.root_branch.new.proof in
    let parts_is = c.as_slice-parts.ensures.value in
    let reading : IsReading here start places parts =
    subst (IsReading here start places) (sym parts_is) (record { places_are = is.places; parts_are = is.read }) in
    let given : All (ProvesGiven here start parts) c.as_slice-given.result.now =
    subst (All (ProvesGiven here start parts)) (sym c.as_slice-given.ensures.value)
    (subst (λ (l : List Part). All (ProvesGiven here start l) c.in_ok-sequent.sequent.given.items) (sym parts_is) (λ k d less. (is.given k d less).proves)) in
    let branch = c.in_ok-root.ensures.proves here reading given in
    let found = c.in_ok-found.ensures.proves here (reading-later here parts start middle c.in_ok-root.ensures.extends places reading) branch in
    let shows : Shows here c.prove.new.proof c.in-Proved.step (tope_at nodes parts goal_part) =
    subst (ProvesFound here c.prove.new.proof parts goal_part) c.in-Proved.is found in
    subst (Shows here c.prove.new.proof c.in-Proved.step) (ap (λ (l : List Part). tope_at nodes l goal_part) parts_is ∙ is.goal.says) shows

pub returns-in_ok-refuting-in-Refuted-clause-answer : goal.returns-in_ok-refuting-in-Refuted-clause-answer
returns-in_ok-refuting-in-Refuted-clause-answer c =
    let old = c.args.pool.now.nodes in
    let context = tree_of old c.args.context in
    let tope = tree_of old c.args.tope in
    let list = c.args.list.now in
    let is = c.in_ok-sequent.ensures.read in
    let count = c.in_ok-sequent.sequent.places.count in
    let goal_part = c.in_ok-sequent.sequent.goal in
    let parts = c.as_slice-parts.result.now in
    let parts_is = c.as_slice-parts.ensures.value in
    let given = c.as_slice-given.result.now in
    let table = c.in-Refuted.table in
    let le = order_of table in
    let root = c.in_ok-root.root in
    let refuted : IsRefuted count parts root goal_part table = subst (IsFound count parts root goal_part) c.in-Refuted.is c.in_ok-found.ensures.found in
    let refutes = ranks-refute count parts given root goal_part table c.in_ok-root.ensures.holds refuted in
    let count_is = is.count in
    let r = rank count le in
    let made : AreParts count parts = subst (AreParts count) (sym parts_is) is.parts in
    let value = values count (by_rank r) parts made in
    let are = values-are count (by_rank r) parts made in
    let one : r 1 ≡ length list + 1 = rank-one count le (omega (count_is, arith)) refuted.order ∙ omega (count_is, arith) in
    let zero : r 0 ≡ 0 = rank-zero count le (omega (count_is, arith)) refuted.order refuted.apart in
    let valued = c.in_ok-sequent.ensures.values r value zero one (subst (λ (l : List Part). AreValues (by_rank r) l value) parts_is are) in
    let all_true = subst (All (IsTrueGiven value)) c.as_slice-given.ensures.value (refutes.hypotheses value are) in
    let result : c.in_ok-refuting-in-Refuted.refuting ≡ ranks_from r 2 list = c.in_ok-refuting-in-Refuted.ensures in
    subst (Refutes context tope) (sym result) (record {
      ranks_are = subst (λ (l : List Coord). IsRankList l (ranks_from r 2 list)) c.requires.list (rank_list count le list refuted.order count_is);
      context_is_true = valued.given all_true;
      tope_is_false = valued.goal ∙ refutes.fails value are;
    })
