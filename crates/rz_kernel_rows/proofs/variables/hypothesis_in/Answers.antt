use Rattle.std.proofs.Common.{◌≡◌, ◌∷◌, [], refl, sym, ap, subst, ◌∙◌}
use Rattle.rz_rules.specs.declared.kinds.Sort.TheVariants as sort
use Rattle.rz_rules.specs.Tree.{sort_of, tree_of, trees_in}
use Rattle.rz_rules.specs.Judgment.{IsStatement, Statement, statement}
use Rattle.rz_rules.specs.declared.judgments.Judgment.TheVariants.{Holds}
use Rattle.rz_rules.specs.Substitution.{Depth, weakened}
use Rattle.rz_rules.specs.Structural.{IsHypothesis, formed, holds}
use Rattle.rz_pool.proofs.Nodes.{KeepsTrees-Grows, Grows-same}
use Rattle.rz_kernel_rows.specs.Context.{IsEntryAt, entry_over}
use Rattle.std.specs.Prelude.{◌↔◌}
use Rattle.rz_pool.specs.Counts.{depth_of as depth_of_counts}
use Rattle.rz_rule_text.proofs.Stacks.{IndicesBelow-IsTree}
use Rattle.rz_kernel_rows.proofs.Extending.{IsAt-Grows}
use Rattle.rz_kernel_rows.proofs.Judged.{holds_over}
use Rattle.rz_context.specs.declared.summaries.Measure.TheVariants.{Entries}
use Rattle.rz_context.proofs.Measures.{counted-length}
use Rattle.rz_kernel_rows.proofs.Searching.{few_entries, found_cut}
use Rattle.rz_kernel_rows.proofs.Giving.{hypothesis_iff, no_entry, no_tope, no_tope_over, sort_weakened}
use Rattle.rz_kernel_rows.proofs.variables.hypothesis_in.Goals as goal
use Rattle.rz_kernel_rows.proofs.variables.hypothesis_in.Goals.{In_ok-phi}

-- the conclusion is that the tope holds, as it is read in the whole context
iff : (c : In_ok-phi) (says : Statement) → IsHypothesis c.args.number (formed (tree_of c.args.pool.now.nodes c.args.context) ∷ []) says
    ↔ (says ≡ holds (tree_of c.args.pool.now.nodes c.args.context) (weakened (depth_of_counts c.in-Some.found.depth) (tree_of c.args.pool.now.nodes c.in-Tope.tope)))
iff c says =
    let ns = c.args.pool.now.nodes in
    let found = c.in-Some.found in
    let is = rw c.in-Some.is at c.in_ok-found.ensures.found in
    let both = hypothesis_iff c.args.number (tree_of ns c.args.context) (tree_of ns found.last.before) (entry_over ns found.last.entry) is.inner (found_cut ns c.args.context c.args.number Entries found is)
    (sym (counted-length is.inner) ∙ is.behind) (tree_of ns c.in-Tope.tope) (ap (entry_over ns) c.in-Tope.is) says in
    subst (λ (d : Depth). IsHypothesis c.args.number (formed (tree_of ns c.args.context) ∷ []) says ↔ (says ≡ holds (tree_of ns c.args.context) (weakened d (tree_of ns c.in-Tope.tope))))
    (sym is.depth) both

pub returns-in_default-clause-concludes : goal.returns-in_default-clause-concludes
returns-in_default-clause-concludes c says is h =
    no_entry c.args.number (tree_of c.args.pool.now.nodes c.args.context) (few_entries (tree_of c.args.pool.now.nodes c.args.context) c.args.number (rw c.in_default.is at c.in_ok-found.ensures.none)) says h

pub returns-in_default-entry : goal.returns-in_default-entry
returns-in_default-entry c =
    let ns = c.args.pool.now.nodes in
    let found = c.in-Some.found in
    let is = rw c.in-Some.is at c.in_ok-found.ensures.found in
    record {
      concludes = λ says whole h. no_tope c.args.number (tree_of ns c.args.context) (tree_of ns found.last.before) (entry_over ns found.last.entry) is.inner (found_cut ns c.args.context c.args.number Entries found is)
          (sym (counted-length is.inner) ∙ is.behind) (no_tope_over ns found.last.entry c.in_default-entry.not-Tope) says h;
      known = c.in_ok-found.ensures.known;
      grows = Grows-same ns ns refl;
      pool = c.requires.pool;
    }

pub returns-in-Some-2-clause-concludes : goal.returns-in-Some-2-clause-concludes
returns-in-Some-2-clause-concludes c =
    let at = (goal.at.returns-in-Some-2-clause-concludes c).In_ok-phi in
    let ns = c.args.pool.now.nodes in
    let new = c.weaken.new.pool.nodes in
    let is = rw c.in-Some.is at c.in_ok-found.ensures.found in
    let grows = c.in_ok-phi.ensures.grows in
    let answer = rw c.in-Some-2.is at c.in_ok-phi.ensures.answer in
    let tope = subst (IsEntryAt ns) c.in-Tope.is is.last.entry in
    let phi_sort : sort_of (tree_of new c.in-Some-2.phi) ≡ sort.Tope = ap sort_of answer.1 ∙ sort_weakened (depth_of_counts c.in-Some.found.depth) (tree_of ns c.in-Tope.tope) ∙ tope.1 in
    let context = KeepsTrees-Grows ns new grows c.args.context c.requires.context.0 in
    let made : statement (trees_in new) (Holds c.args.context c.in-Some-2.phi)
    ≡ holds (tree_of ns c.args.context) (weakened (depth_of_counts c.in-Some.found.depth) (tree_of ns c.in-Tope.tope)) =
    λ i. holds (context i) (answer.1 i) in (
      holds_over new c.args.context c.in-Some-2.phi (IsAt-Grows ns new grows sort.Context c.args.context c.requires.context) (answer.0, phi_sort),
      λ says. (λ h. (iff at says).0 h ∙ sym made, λ e. (iff at says).1 (e ∙ made)),
    )

pub returns-in-None-clause-concludes : goal.returns-in-None-clause-concludes
returns-in-None-clause-concludes c says is h =
    let at = (goal.at.returns-in-None-clause-concludes c).In_ok-phi in
    let high = rw c.in-None.is at c.in_ok-phi.ensures.answer in
    let whole = subst IsStatement ((iff at says).0 h) is in
    high (IndicesBelow-IsTree sort.Tope _ whole.parts.0)
