use Rattle.std.proofs.Common.{ℕ, ◌<◌, List, ◌∷◌, [], ◌++◌, length, get_or, map, All, refl, ap, subst, ◌∙◌}
use Rattle.std.proofs.lemmas.List.{length-map}
use Rattle.std.proofs.lemmas.Result.{on_ok_weaker}
use Rattle.rz_rules.specs.declared.nodes.Node.{Node}
use Rattle.rz_rules.specs.Tree.{Tree, tree_of}
use Rattle.rz_kernel.specs.declared.state.KernelState.{KernelState}
use Rattle.rz_kernel.specs.State.{file_state}
use Rattle.rz_kernel.proofs.Adding.{form_in_pool, node_tree}
use Rattle.rz_kernel.proofs.state.KernelState.take_node.Goals as goal

-- the kids are nodes of the file
there : (state : KernelState) (kids : List ℕ) → All (λ id. id < length (file_state state).trees) kids → All (λ id. id < length state.places.items) kids
there state kids low = subst (λ (k : ℕ). All (λ id. id < k) kids) (length-map state.places.items (tree_of state.pool.nodes)) low

pub add_node-requires-clause-form : goal.add_node-requires-clause-form
add_node-requires-clause-form c =
    let state = c.args.self.now in
    form_in_pool state.pool.nodes state.places.items c.requires.state.places c.args.node _ refl refl refl (there state c.args.node.kids c.requires.fits.form.kids)
    (rw c.deref.ensures.value at (c.kids_at-kids.ensures ∙ ap (map (λ id. get_or c.deref.result.now id 0)) c.as_slice.ensures.value)) c.requires.fits.form

pub returns-clause-known : goal.returns-clause-known
returns-clause-known c =
    let state = c.args.self.now in
    let known = file_state state in
    let placed : Node = record { kind = c.args.node.kind; number = c.args.node.number; name = c.args.node.name; kids = c.kids_at-kids.result } in
    let tree = node_tree state.pool.nodes state.places.items c.requires.state.places c.args.node placed refl refl refl (there state c.args.node.kids c.requires.fits.form.kids)
    (rw c.deref.ensures.value at (c.kids_at-kids.ensures ∙ ap (map (λ id. get_or c.deref.result.now id 0)) c.as_slice.ensures.value)) in
    on_ok_weaker c.add_node.result (λ e. e ∙ ap (λ (t : Tree). record known { trees = known.trees ++ t ∷ [] }) tree) c.add_node.ensures.tree
