use Rattle.std.proofs.Common.{ap, sym, subst, ◌<◌, ◌∙◌, ℕ, length}
use Rattle.rz_rules.specs.Context.{OfTope}
use Rattle.rz_rules.specs.Substitution.{weakened}
use Rattle.rz_rules.specs.Tree.{tree_of}
use Rattle.rz_pool.specs.Counts.{depth_of}
use Rattle.rz_subst.specs.Walk.{IsAnswerOf}
use Rattle.rz_lemmas.proofs.Moving.{found_depth, tope_found}
use Rattle.rz_lemmas.proofs.structural.tope_at.Goals as goal

pub find-requires-clause-enough : goal.find-requires-clause-enough
find-requires-clause-enough c = (c.requires.enough.0, OfTope c.requires.enough.1, c.requires.enough.2, c.requires.enough.3)

pub weaken-requires : goal.weaken-requires
weaken-requires c =
    let is = c.in_ok-behind.ensures.found c.requires.enough.0 (OfTope c.requires.enough.1) c.requires.enough.2 c.requires.enough.3 in
    record { live = subst (λ (id : ℕ). id < length c.args.pool.now.nodes) (sym c.tree.ensures) is.there.0 }

pub returns-in-Some-clause-tope : goal.returns-in-Some-clause-tope
returns-in-Some-clause-tope c outer tope inner behind =
    let old = c.args.pool.now.nodes in
    let new = c.weaken.new.pool.nodes in
    let found = c.in_ok-behind.behind in
    let is = c.in_ok-behind.ensures.found outer (OfTope tope) inner behind in
    let depth = found_depth old found (OfTope tope) inner is in
    let tree = ap (tree_of old) c.tree.ensures ∙ tope_found old found.entry tope is.is in
    let answer = subst (IsAnswerOf new (weakened (depth_of found.depth) (tree_of old c.tree.result))) c.in-Some.is c.in_ok-tope.ensures.answer in
    answer.1 ∙ (λ i. weakened (depth i) (tree i))
