-- What a search needs to know of some extents to pass over them.
use Rattle.std.specs.Prelude.{ℕ, ◌+◌, ◌-◌, ◌≤◌, max, List, [], ◌∷◌, Option, None, Some}
use Rattle.blob_store.specs.declared.span.Span.{Span}

-- the span of one extent
abbrev pub extent_span : ℕ → ℕ → Span
extent_span start units = record { first = start; last = start + units; gap = 0 }

-- the span of extents and of others after them
abbrev pub both_spans : Span → Span → Span
both_spans front back = record { first = front.first; last = back.last; gap = max (max front.gap (back.first - front.last)) back.gap }

-- the same where there may be none
abbrev pub spans_joined : Option Span → Option Span → Option Span
spans_joined None back = back
spans_joined (Some front) None = Some front
spans_joined (Some front) (Some back) = Some (both_spans front back)

-- the second begins at or after the end of the first
abbrev pub SpanFollows : Option Span → Option Span → Type 0
SpanFollows (Some front) (Some back) = front.last ≤ back.first
SpanFollows front back = Unit {0}

-- the span of an extent and of others in order after it
abbrev pub span_from : ℕ × ℕ → List (ℕ × ℕ) → Span
span_from e [] = extent_span e.0 e.1
span_from e (f ∷ es) = both_spans (extent_span e.0 e.1) (span_from f es)

-- the span of extents in order
abbrev pub span_of : List (ℕ × ℕ) → Option Span
span_of [] = None
span_of (e ∷ es) = Some (span_from e es)
