use Rattle.std.proofs.Common.{◌≤◌, ◌↔◌, ◌∙◌, sym, ap, subst}
use Rattle.rz_rules.specs.Tree.{tree_of}
use Rattle.rz_rules.specs.Substitution.{NoneFrom}
use Rattle.rz_pool.specs.declared.spans.Span.{Span}
use Rattle.rz_pool.proofs.FreeBounds.{NoneFrom-free_bound}
use Rattle.rz_pool.proofs.pool.Pool.free_bound.Goals as goal

pub returns-clause-value : goal.returns-clause-value
returns-clause-value c = ap (λ (s : Span). s.bound) c.of.ensures ∙ c.spans.ensures.spans.bound c.args.space

pub returns-clause-least : goal.returns-clause-least
returns-clause-least c limit =
    let tree = tree_of c.args.self.now.nodes c.args.id in
    subst (λ n. NoneFrom c.args.space limit tree ↔ (n ≤ limit)) (sym (returns-clause-value c)) (NoneFrom-free_bound c.args.space tree limit)
