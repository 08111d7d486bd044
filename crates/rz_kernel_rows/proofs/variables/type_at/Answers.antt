use Rattle.std.proofs.Common.{refl, sym, ap, subst, ◌∙◌}
use Rattle.rz_rules.specs.declared.kinds.Space.TheVariants.{Terms}
use Rattle.rz_rules.specs.Tree.{tree_of}
use Rattle.rz_rules.specs.Substitution.{Depth, only, total}
use Rattle.rz_rules.specs.Context.{with_entries, with_entry}
use Rattle.rz_rules.specs.Structural.{term_variable}
use Rattle.rz_pool.specs.Counts.{depth_of as depth_of_counts}
use Rattle.rz_pool.specs.declared.entries.Entry.{Entry}
use Rattle.rz_context.specs.declared.summaries.Measure.TheVariants as measure
use Rattle.rz_context.proofs.Measures.{counted-terms}
use Rattle.rz_kernel_rows.specs.Context.{IsEntryAt, bound_by, entry_over, tree_in}
use Rattle.rz_kernel_rows.proofs.Searching.{few_terms, found_cut, term_entry}
use Rattle.rz_kernel_rows.proofs.Giving.{no_variable, sort_weakened, type_for, variable_iff}
use Rattle.rz_kernel_rows.proofs.variables.type_at.Goals as goal

pub returns-in_default-clause-typed : goal.returns-in_default-clause-typed
returns-in_default-clause-typed c type whole v =
    let ns = c.args.pool.now.nodes in
    no_variable (tree_of ns c.args.context) (term_variable c.args.index) c.args.index refl
    (few_terms (tree_of ns c.args.context) c.args.index (rw c.in_default.is at c.in_ok-found.ensures.none)) type v

pub returns-clause-typed : goal.returns-clause-typed
returns-clause-typed c =
    let ns = c.args.pool.now.nodes in
    let found = c.in-Some.found in
    let is = rw c.in-Some.is at c.in_ok-found.ensures.found in
    let term = term_entry ns found.last.entry is.counts in
    let entry = term.1 in
    let stated = subst (IsEntryAt ns) entry is.last.entry in
    let depth = c.in_ok-depth.ensures ∙ ap (λ (e : Entry). bound_by (depth_of_counts found.depth) e) entry ∙ ap (λ (d : Depth). total d (only Terms 1)) is.depth in
    let id = c.tree.ensures ∙ ap tree_in entry in
    let cut = found_cut ns c.args.context c.args.index measure.Terms found is ∙ ap (λ (e : Entry). with_entries (with_entry (tree_of ns found.last.before) (entry_over ns e)) is.inner) entry in
    type_for c.weaken.result c.weaken.new.pool.nodes _ _ (sort_weakened _ (tree_of ns term.0) ∙ stated.1)
    (variable_iff (tree_of ns c.args.context) (term_variable c.args.index) c.args.index refl (tree_of ns found.last.before) (tree_of ns term.0) is.inner cut (sym (counted-terms is.inner) ∙ is.behind))
    (rw (depth, id) at c.weaken.ensures.answer)
