-- What the span of extents says of a search among them.
use Rattle.std.specs.Prelude.{◌≡◌, ℕ, ◌+◌, ◌-◌, ◌≤◌, ◌<◌, max, true, false, cond, nat_lt, nat_le, List, [], ◌∷◌, ◌++◌, length, Option, None, Some, refl}
use Rattle.std.proofs.Common.{sym, ◌∙◌, ap, arith, tests}
use Rattle.std.proofs.lemmas.Bool.{le-leb, lt-leb}
use Rattle.ddc_model.specs.declared.rows.Extent.{Extent}
use Rattle.blob_store.specs.declared.span.Span.{Span}
use Rattle.blob_store.specs.inside.Runs.{AreInOrder, next_after, first_gap, end_of}
use Rattle.blob_store.specs.inside.Spans.{extent_span, spans_joined, span_from, span_of, SpanFollows}
use Rattle.blob_store.proofs.Runs.{low_end, in_order_back, some_is_not_none}

same_span : (a b : Span) → Some a ≡ Some b → a ≡ b
same_span a b is = cc

span_with : ℕ → ℕ → ℕ → Span
span_with first last gap = record { first = first; last = last; gap = gap }

widest : (a b c m n : ℕ) → max (max (max (max a m) b) n) c ≡ max (max a m) (max (max b n) c)
widest a b c m n = omega arith

joined_assoc : (a b c : Option Span) → spans_joined (spans_joined a b) c ≡ spans_joined a (spans_joined b c)
unfolding span_with
joined_assoc None b c = refl
joined_assoc (Some a) None c = refl
joined_assoc (Some a) (Some b) None = refl
joined_assoc (Some a) (Some b) (Some c) = ap (λ (g : ℕ). Some (span_with a.first c.last g)) (widest a.gap b.gap c.gap (b.first - a.last) (c.first - b.last))

pub span_of_append : (xs ys : List (ℕ × ℕ)) → span_of (xs ++ ys) ≡ spans_joined (span_of xs) (span_of ys)
span_of_append [] ys = refl
span_of_append (e ∷ []) [] = refl
span_of_append (e ∷ []) (y ∷ ys) = refl
span_of_append (e ∷ f ∷ es) ys = ap (spans_joined (Some (extent_span e.0 e.1))) (span_of_append (f ∷ es) ys) ∙ sym (joined_assoc (Some (extent_span e.0 e.1)) (span_of (f ∷ es)) (span_of ys))

pub span_first : (e : ℕ × ℕ) (es : List (ℕ × ℕ)) → (span_from e es).first ≡ e.0
span_first e [] = refl
span_first e (f ∷ es) = refl

pub span_last : (from : ℕ) (e : ℕ × ℕ) (es : List (ℕ × ℕ)) → (span_from e es).last ≡ end_of from (e ∷ es)
span_last from e [] = refl
span_last from e (f ∷ es) = span_last (e.0 + e.1) f es

-- parts of a list in order follow one another
pub parts_follow : (low high : ℕ) (xs ys : List (ℕ × ℕ)) → AreInOrder low high (xs ++ ys) → SpanFollows (span_of xs) (span_of ys)
parts_follow low high [] ys o = tt
parts_follow low high (e ∷ es) [] o = tt
parts_follow low high (e ∷ es) (y ∷ ys) o =
    let rest = in_order_back low high (e ∷ es) (y ∷ ys) o in
    omega (arith, span_last low e es, span_first y ys, rest.0)

-- ---- the first that ends after a unit

pub next_none : (at low high : ℕ) (es : List (ℕ × ℕ)) → AreInOrder low high es → end_of low es ≤ at → next_after at es ≡ None
next_none at low high [] o h = refl
next_none at low high (e ∷ es) o h =
    let ends : e.0 + e.1 ≤ end_of (e.0 + e.1) es = low_end (e.0 + e.1) high es o.3 in
    let past : nat_lt at (e.0 + e.1) ≡ false = search (arith, tests, ends, h) in
    rw past (next_none at (e.0 + e.1) high es o.3 h)

pub next_front : (at : ℕ) (x : Extent) (xs ys : List (ℕ × ℕ)) → next_after at xs ≡ Some x → next_after at (xs ++ ys) ≡ Some x
next_front at x [] ys f = absurd (some_is_not_none x (sym f))
next_front at x (e ∷ es) ys f =
    let this : Extent = record { start = e.0; units = e.1 } in
    elim (nat_lt at (e.0 + e.1)) as (λ b. cond b (Some this) (next_after at es) ≡ Some x → cond b (Some this) (next_after at (es ++ ys)) ≡ Some x) [
      | true ↦ λ f. f
      | false ↦ λ f. next_front at x es ys f
    ] f

pub next_back : (at : ℕ) (xs ys : List (ℕ × ℕ)) → next_after at xs ≡ None → next_after at (xs ++ ys) ≡ next_after at ys
next_back at [] ys f = refl
next_back at (e ∷ es) ys f =
    let this : Extent = record { start = e.0; units = e.1 } in
    elim (nat_lt at (e.0 + e.1)) as (λ b. cond b (Some this) (next_after at es) ≡ None → cond b (Some this) (next_after at (es ++ ys)) ≡ next_after at ys) [
      | true ↦ λ f. absurd (some_is_not_none this f)
      | false ↦ λ f. next_back at es ys f
    ] f

-- ---- the first run of free units before one of them

pub gap_here : (from units : ℕ) (e : ℕ × ℕ) (es : List (ℕ × ℕ)) → from + units ≤ e.0 → first_gap from units (e ∷ es) ≡ Some from
gap_here from units e es h = rw (le-leb (from + units) e.0 h) refl

pub gap_later : (from units : ℕ) (e : ℕ × ℕ) (es : List (ℕ × ℕ)) → e.0 < from + units → first_gap from units (e ∷ es) ≡ first_gap (e.0 + e.1) units es
gap_later from units e es h = rw (lt-leb (from + units) e.0 h) refl

-- none where the span says that no gap is so wide
pub gap_none : (from units high : ℕ) (e : ℕ × ℕ) (es : List (ℕ × ℕ)) → AreInOrder from high (e ∷ es) → e.0 < from + units → (span_from e es).gap < units → first_gap from units (e ∷ es) ≡ None
gap_none from units high e [] o h g = gap_later from units e [] h
gap_none from units high e (f ∷ es) o h g =
    let next : f.0 < (e.0 + e.1) + units = omega (arith, g, span_first f es, o.3.0) in
    gap_later from units e (f ∷ es) h ∙ gap_none (e.0 + e.1) units high f es o.3 next (omega (arith, g))

pub gap_front : (from units start : ℕ) (xs ys : List (ℕ × ℕ)) → first_gap from units xs ≡ Some start → first_gap from units (xs ++ ys) ≡ Some start
gap_front from units start [] ys f = absurd (some_is_not_none start (sym f))
gap_front from units start (e ∷ es) ys f =
    elim (nat_le (from + units) e.0) as (λ b. cond b (Some from) (first_gap (e.0 + e.1) units es) ≡ Some start → cond b (Some from) (first_gap (e.0 + e.1) units (es ++ ys)) ≡ Some start) [
      | true ↦ λ f. f
      | false ↦ λ f. gap_front (e.0 + e.1) units start es ys f
    ] f

pub gap_back : (from units : ℕ) (xs ys : List (ℕ × ℕ)) → first_gap from units xs ≡ None → first_gap from units (xs ++ ys) ≡ first_gap (end_of from xs) units ys
gap_back from units [] ys f = refl
gap_back from units (e ∷ es) ys f =
    elim (nat_le (from + units) e.0) as (λ b. cond b (Some from) (first_gap (e.0 + e.1) units es) ≡ None → cond b (Some from) (first_gap (e.0 + e.1) units (es ++ ys)) ≡ first_gap (end_of (e.0 + e.1) es) units ys) [
      | true ↦ λ f. absurd (some_is_not_none from f)
      | false ↦ λ f. gap_back (e.0 + e.1) units es ys f
    ] f

-- ---- what a search reads off the span

pub span_below : (low high : ℕ) (es : List (ℕ × ℕ)) (span : Span) → span_of es ≡ Some span → AreInOrder low high es → low ≤ span.first
span_below low high [] span is o = absurd (some_is_not_none span (sym is))
span_below low high (e ∷ es) span is o = let first : span.first ≡ e.0 = sym (ap (λ (s : Span). s.first) (same_span _ _ is)) ∙ span_first e es in omega (arith, first, o.0)

pub span_end : (from : ℕ) (es : List (ℕ × ℕ)) (span : Span) → span_of es ≡ Some span → span.last ≡ end_of from es
span_end from [] span is = absurd (some_is_not_none span (sym is))
span_end from (e ∷ es) span is = sym (ap (λ (s : Span). s.last) (same_span _ _ is)) ∙ span_last from e es

-- one extent and more have a span
pub no_span_of_none : (es : List (ℕ × ℕ)) → span_of es ≡ None → 1 ≤ length es → ⊥
no_span_of_none [] is h = omega (arith, h)
no_span_of_none (e ∷ es) is h = some_is_not_none (span_from e es) is

pub next_quits : (at low high : ℕ) (es : List (ℕ × ℕ)) (span : Span) → span_of es ≡ Some span → span.last ≤ at → AreInOrder low high es → next_after at es ≡ None
next_quits at low high es span is h o = next_none at low high es o (omega (arith, span_end low es span is, h))

pub gap_begins : (from units high : ℕ) (es : List (ℕ × ℕ)) (span : Span) → span_of es ≡ Some span → units ≤ span.first - from → AreInOrder from high es → first_gap from units es ≡ Some from
gap_begins from units high [] span is h o = absurd (some_is_not_none span (sym is))
gap_begins from units high (e ∷ es) span is h o =
    let first : span.first ≡ e.0 = sym (ap (λ (s : Span). s.first) (same_span _ _ is)) ∙ span_first e es in
    gap_here from units e es (omega (arith, first, o.0, h))

pub gap_quits : (from units high : ℕ) (es : List (ℕ × ℕ)) (span : Span) → span_of es ≡ Some span → span.first - from < units → span.gap < units → AreInOrder from high es → first_gap from units es ≡ None
gap_quits from units high [] span is h g o = refl
gap_quits from units high (e ∷ es) span is h g o =
    let same = same_span _ _ is in
    let first : span.first ≡ e.0 = sym (ap (λ (s : Span). s.first) same) ∙ span_first e es in
    let wide : (span_from e es).gap ≡ span.gap = ap (λ (s : Span). s.gap) same in
    gap_none from units high e es o (omega (arith, first, o.0, h)) (omega (arith, wide, g))
