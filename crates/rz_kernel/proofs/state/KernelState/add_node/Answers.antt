use Rattle.std.proofs.Common.{◌<◌, ℕ, sym, subst, length, All, arith}
use Rattle.std.proofs.lemmas.List.Elements.{All-push}
use Rattle.rz_pool.proofs.Nodes.{length-Grows}
use Rattle.rz_context.proofs.Growing.{IsKnown-Grows}
use Rattle.rz_kernel.proofs.Adding.{state_with_tree, all_over}
use Rattle.rz_kernel.proofs.state.KernelState.add_node.Goals as goal

pub returns-clause-tree : goal.returns-clause-tree
returns-clause-tree c =
    let state = c.args.self.now in
    let made = c.in_ok-place.ensures in
    state_with_tree state c.make.new.self.nodes c.in_ok-place.place c.args.node made.grows c.requires.state made.tree
    c.push.new.self.items c.in_ok-push.ensures.items

pub returns-clause-state : goal.returns-clause-state
returns-clause-state c =
    let state = c.args.self.now in
    let made = c.in_ok-place.ensures in
    let longer = length-Grows state.pool.nodes c.make.new.self.nodes made.grows in
    record {
      places = subst (λ places. All (λ place. place < length c.make.new.self.nodes) places) (sym c.in_ok-push.ensures.items)
          (All-push (λ (place : ℕ). place < length c.make.new.self.nodes) state.places.items c.in_ok-place.place
          (λ k d lt. omega (arith, longer, c.requires.state.places k d lt)) made.within);
      said = all_over state.pool.nodes c.make.new.self.nodes made.grows longer state.said.items c.requires.state.said;
      known = IsKnown-Grows state.pool.nodes c.make.new.self.nodes made.grows state.known c.requires.state.known;
    }
