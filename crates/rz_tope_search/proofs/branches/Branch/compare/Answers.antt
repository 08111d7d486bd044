use Rattle.std.proofs.Common.{arith}
use Rattle.rz_tope_proof.specs.Order.{IsOrder}
use Rattle.rz_tope_search.specs.Table.{order_of, with_pair}
use Rattle.rz_tope_search.proofs.Orders.{IsOrder-same, with_pair-order}
use Rattle.rz_tope_search.proofs.Showing.{waiting-later}
use Rattle.rz_tope_search.proofs.branches.Branch.compare.Goals as goal

pub returns-clause-branch : goal.returns-clause-branch
returns-clause-branch c =
    let count = c.args.places.now.count in
    let le = order_of c.args.self.now.table in
    let pair : IsOrder count (with_pair le c.args.first c.args.second) =
    with_pair-order count le c.args.first c.args.second c.requires.first c.requires.second c.requires.branch.order in
    record {
      order = IsOrder-same count (with_pair le c.args.first c.args.second) (order_of c.add.new.self) (omega arith) c.in_ok-add.ensures.order pair;
      waiting = c.requires.branch.waiting;
    }

pub returns-clause-proves : goal.returns-clause-proves
returns-clause-proves c at are shows proves = record {
  table = c.in_ok-add.ensures.proves at are proves.table shows;
  waiting = waiting-later at c.args.parts.now c.args.proof.now c.add.new.proof c.in_ok-add.ensures.extends c.args.self.now.waiting.items proves.waiting;
}
