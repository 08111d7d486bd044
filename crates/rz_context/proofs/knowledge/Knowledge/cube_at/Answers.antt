use Rattle.std.proofs.Common.{sym, ◌∙◌}
use Rattle.rz_context.specs.Knowledge.{view_of}
use Rattle.rz_context.proofs.knowledge.Knowledge.cube_at.Goals as goal

pub returns : goal.returns
returns c nodes known caches = (known.views (view_of c.args.context c.args.node) c.in_ok-cached.field-0 (sym c.cached.ensures ∙ c.in_ok-cached.was)).is.point
