-- Spans of indices, one for each space, as the code keeps them.
use Rattle.std.specs.Prelude.{ℕ, min, ◌==◌, if◌then◌else◌}
use Rattle.rz_rules.specs.declared.kinds.Space.{Space}
use Rattle.rz_rules.specs.declared.kinds.Space.TheVariants.{Points, Terms}
use Rattle.rz_pool.specs.declared.spans.Span.{Span}
use Rattle.rz_pool.specs.declared.spans.Spans.{Spans}

abbrev pub span_of : Spans → Space → Span
span_of spans Points = spans.points
span_of spans Terms = spans.terms

-- the lesser of two least indices, each with its bound; one with bound 0 is of no variable
abbrev pub lesser : (bound least other_bound other_least : ℕ) → ℕ
lesser bound least other_bound other_least =
    if bound == 0 then other_least else if other_bound == 0 then least else min least other_least
