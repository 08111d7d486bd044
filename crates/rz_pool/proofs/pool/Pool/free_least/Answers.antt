use Rattle.std.proofs.Common.{ℕ, ◌<◌, ◌≤◌, ◌↔◌, ◌∙◌, sym, ap, subst}
use Rattle.rz_rules.specs.Tree.{tree_of}
use Rattle.rz_pool.specs.declared.spans.Span.{Span}
use Rattle.rz_pool.specs.Free.{NoneBetween}
use Rattle.rz_pool.proofs.FreeLeasts.{NoneBetween-free_least}
use Rattle.rz_pool.proofs.pool.Pool.free_least.Goals as goal

pub returns-clause-value : goal.returns-clause-value
returns-clause-value c = ap (λ (s : Span). s.least) c.of.ensures ∙ c.spans.ensures.spans.least c.args.space

pub returns-clause-least : goal.returns-clause-least
returns-clause-least c =
    let tree = tree_of c.args.self.now.nodes c.args.id in
    subst (λ n. 0 < n → (limit : ℕ) → NoneBetween c.args.space 0 limit tree ↔ (limit ≤ n)) (sym (returns-clause-value c)) (NoneBetween-free_least c.args.space tree)
