-- A head in a window of the bytes is a head of the bytes.
use Rattle.std.proofs.Common.{◌≡◌, ℕ, ◌≤◌, ◌+◌, ◌-◌, List, [], ◌∷◌, ◌++◌, Bool, true, false, ◌||◌, ◌==◌, nat_le, length, take, drop, sym, ap, ◌∙◌, append_assoc, arith, Option, length-append, refl}
use Rattle.std.proofs.lemmas.List.{drop-append-le}
use Rattle.std.proofs.Math.Seq.{take-append-add, take-append_seam}
use Rattle.std.specs.List.{flat_map, list_any}
use Rattle.std.proofs.lemmas.Bool.Decides.{nat_tests}
use Rattle.httparse.specs.Ascii.{line_feed, space}
use Rattle.httparse.specs.Grammar.{RequestHead, print_request, print_blank, print_version, print_end, print_field, crlf, lf, HasNoRequest}
use Rattle.httparse.specs.Spans.{RequestOverflows}
use Rattle.ddc_protocol.specs.declared.request_form.RequestForm.{RequestForm}
use Rattle.ddc_protocol.specs.Requests.{HasNoHead, NeverHasHead}
use Rattle.ddc_http.specs.inside.Parts.{HeadAt, HeadOf, is_line_feed}

pub head_at-widen : (window tail : List ℕ) (len : ℕ) (found : Option RequestForm) → length window ≤ 16384 → HeadOf window len found → HeadAt (window ++ tail) len found
head_at-widen window tail len found small h = record {
  head = h.head;
  is_head = record { valid = h.valid; few = h.few; short = let e = h.long in let w = h.within in omega arith };
  spelled = ap (λ l. l ++ tail) h.spelled ∙ append_assoc (print_request h.head) (drop len window) tail
      ∙ ap (λ l. print_request h.head ++ l) (sym (drop-append-le len window tail h.within));
  long = h.long;
  within = let w = h.within in omega (arith, length-append window tail);
  asks = h.asks;
}

pub never-overflows : (window tail : List ℕ) → RequestOverflows 64 window → NeverHasHead (window ++ tail)
never-overflows window tail over more head rest is_head e =
    let many = over (tail ++ more) head rest (is_head.valid, sym (append_assoc window tail more) ∙ e) in
    let few = is_head.few in
    absurd (omega arith)

-- the first bytes of a list that begins with a text no longer than they are
pub front-within : (window more text rest : List ℕ) → window ++ more ≡ text ++ rest → length text ≤ length window → (back : List ℕ) × (window ≡ text ++ back)
front-within window more text rest e fits =
    let k = length window - length text in
    let long : length window ≡ length text + k = omega arith in
    (take k rest, sym (take-append_seam window more) ∙ ap (take (length window)) e ∙ ap (λ n. take n (text ++ rest)) long ∙ take-append-add text rest k)

pub never-full : (window tail : List ℕ) → 16384 ≤ length window → HasNoRequest window → NeverHasHead (window ++ tail)
never-full window tail full none more head rest is_head e =
    let short = is_head.short in
    let found = front-within window (tail ++ more) (print_request head) rest (sym (append_assoc window tail more) ∙ e) (omega arith) in
    none head found.0 (is_head.valid, found.1)

-- a head ends in a line feed
ends_in_line_feed : (head : RequestHead) → (front : List ℕ) × (print_request head ≡ front ++ line_feed ∷ [])
unfolding print_request
ends_in_line_feed head = elim head.last as (λ last. (front : List ℕ) × (start head ++ (flat_map print_field head.fields ++ print_end last) ≡ front ++ line_feed ∷ [])) [
  | crlf ↦ (start head ++ (flat_map print_field head.fields ++ 13 ∷ []), simp append_assoc)
  | lf ↦ (start head ++ flat_map print_field head.fields, simp append_assoc)
]
  where
    start : RequestHead → List ℕ
    start h = print_blank h.blank ++ h.method ++ space ∷ h.target ++ space ∷ print_version h.minor ++ print_end h.line_end

or_true : (b : Bool) → (b || true) ≡ true
or_true true = refl
or_true false = refl

-- where the bytes before a line feed go on after a front, what follows the front has one
has_line_feed : (old piece front rest : List ℕ) → old ++ piece ≡ front ++ line_feed ∷ rest → length old ≤ length front → list_any is_line_feed piece ≡ true
has_line_feed [] [] [] rest e fits = cc
has_line_feed [] [] (y ∷ front) rest e fits = cc
has_line_feed [] (x ∷ piece) [] rest e fits = let h : x ≡ line_feed = cc in ap (λ z. (z == 10) || list_any is_line_feed piece) h
has_line_feed [] (x ∷ piece) (y ∷ front) rest e fits =
    let t : piece ≡ front ++ line_feed ∷ rest = cc in
    ap (λ b. is_line_feed x || b) (has_line_feed [] piece front rest t (omega arith)) ∙ or_true (is_line_feed x)
has_line_feed (x ∷ old) piece [] rest e fits = absurd (omega arith)
has_line_feed (x ∷ old) piece (y ∷ front) rest e fits = let t : old ++ piece ≡ front ++ line_feed ∷ rest = cc in has_line_feed old piece front rest t (omega arith)

-- bytes without a line feed make no head of bytes that hold none
pub headless_without_line_feed : (old piece : List ℕ) → HasNoHead old → list_any is_line_feed piece ≡ false → HasNoHead (old ++ piece)
headless_without_line_feed old piece none without head rest is_head e =
    elim (nat_le (length (print_request head)) (length old)) as (λ b. nat_le (length (print_request head)) (length old) ≡ b → ⊥) [
      | true ↦ λ fits.
          let found = front-within old piece (print_request head) rest e (grind (arith, nat_tests)) in
          none head found.0 is_head found.1
      | false ↦ λ long.
          let (front, ends) = ends_in_line_feed head in
          let split : old ++ piece ≡ front ++ line_feed ∷ rest = e ∙ ap (λ l. l ++ rest) ends ∙ append_assoc front (line_feed ∷ []) rest in
          let count : length (print_request head) ≡ length front + 1 = ap length ends ∙ length-append front (line_feed ∷ []) in
          let past : length old ≤ length front = grind (arith, nat_tests) in
          let has = has_line_feed old piece front rest split past in
          cc
    ] refl
