use Rattle.std.proofs.Common.{sym, ◌∙◌}
use Rattle.rz_context.specs.Knowledge.{view_of}
use Rattle.rz_context.proofs.knowledge.Knowledge.is_cached_over.Goals as goal

pub returns-in-Some : goal.returns-in-Some
returns-in-Some c nodes known caches = (known.views (view_of c.args.context c.args.node) c.in-Some.cached (sym c.cached.ensures ∙ c.in-Some.is)).is.tope
