-- What a step of the walk keeps: what is left of each open container completes the whole.
use Rattle.std.proofs.Common.{◌≡◌, ℕ, ◌+◌, ◌-◌, ◌<◌, ◌≤◌, List, [], ◌∷◌, ◌++◌, length, take, drop, reverse, refl, sym, ap, ◌∙◌, length-take, length-drop, length-append, arith}
use Rattle.std.proofs.lemmas.List.{append-nil, drop-take, drop-drop, take-take, reverse-append, take_all}
use Rattle.std.specs.List.{slice_range}
use Rattle.cb_fields.specs.declared.links.LinkKind.{LinkKind}
use Rattle.cb_fields.specs.declared.links.Link.{Link as LinkOf}
use Rattle.cb_fields.specs.declared.header.Contents.{Contents}
use Rattle.cb_fields.specs.declared.header.Header.TheVariants.{End, Bad, Plain, Link, Container}
use Rattle.cb_fields.specs.declared.field_walk.Open.{Open}
use Rattle.cb_fields.specs.declared.field_walk.FieldWalk.{FieldWalk}
use Rattle.cb_fields.specs.Shape.{counted, fewer}
use Rattle.cb_fields.specs.inside.Header.{next_header}
use Rattle.cb_fields.specs.Language.{attached_link}
use Rattle.cb_fields.specs.inside.FieldWalk.{Outcome, Fault, Cut, Comes, Then, Nested, InBounds, Carries, StepsOn}
use Rattle.cb_fields.proofs.Steps.{end_comes, bad_comes, plain_comes, link_comes, inner_fault_comes, within_comes}

nested-end : (at end : ℕ) (outer : List Open) → Nested at outer end → at ≤ end
nested-end at end [] h = h
nested-end at end (container ∷ outer) h =
    let e : container.end ≤ end = nested-end container.end end outer h.1 in
    let f : at ≤ container.end = h.0 in
    omega arith

then_fault : (bytes : List ℕ) (outer : List Open) (at p : ℕ) (o : Outcome) → o ≡ Fault p → Then bytes outer at (Fault p) o
then_fault bytes [] at p o h = h
then_fault bytes (container ∷ outer) at p o h = h

-- a part of a part
part-drop : (bytes : List ℕ) (at n end : ℕ) → at + n ≤ end → drop n (slice_range bytes at end) ≡ slice_range bytes (at + n) end
part-drop bytes at n end h =
    let e : end - at ≡ n + (end - (at + n)) = omega arith in
    rw (e, drop-take, drop-drop) refl

part-take : (bytes : List ℕ) (at skip size end : ℕ) → at + (skip + size) ≤ end → take size (drop skip (slice_range bytes at end)) ≡ slice_range bytes (at + skip) (at + (skip + size))
part-take bytes at skip size end h =
    let e : end - at ≡ skip + (end - (at + skip)) = omega arith in
    let f : (at + (skip + size)) - (at + skip) ≡ size = omega arith in
    let fits : size ≤ end - (at + skip) = omega arith in
    rw (e, drop-take, take-take, drop-drop, f) refl

last_part : (k n : ℕ) (bytes : List ℕ) → k ≤ n → slice_range bytes k n ≡ drop k (take n bytes)
last_part k n bytes h =
    let e : k + (n - k) ≡ n = omega arith in
    sym (drop-take k (n - k) bytes) ∙ ap (λ j. drop k (take j bytes)) e

part-length : (bytes : List ℕ) (at end : ℕ) → at ≤ end → end ≤ length bytes → length (slice_range bytes at end) ≡ end - at
part-length bytes at end h f = simp (length-take, length-drop) (omega arith)

-- before any byte
pub first_carries : (bytes : List ℕ) (mid o : Outcome) → Comes (counted 1) (slice_range bytes 0 (length bytes)) 0 [] mid → o ≡ mid → Comes (counted 1) bytes 0 [] o
first_carries bytes mid o r t =
    let n : length bytes - 0 ≡ length bytes = omega arith in
    let e : take (length bytes - 0) (drop 0 bytes) ≡ bytes = rw n (take_all (length bytes) bytes (omega arith)) in
    let q : Comes (counted 1) bytes 0 [] mid = rw e at r in
    rw t q

opened : (bytes : List ℕ) (c : Contents) (at end before size : ℕ) (inner : Contents) (outer : List Open) (links : List LinkOf) (mid o : Outcome)
    → ((m p : Outcome) → Comes c (slice_range bytes at end) at links m → Then bytes outer end m p → Comes (counted 1) bytes 0 [] p)
    → next_header c (slice_range bytes at end) ≡ Container before size inner → at + (before + size) ≤ end
    → Comes inner (slice_range bytes (at + before) (at + (before + size))) (at + before) links mid
    → Then bytes (record { contents = fewer c; end = end } ∷ outer) (at + (before + size)) mid o
    → Comes (counted 1) bytes 0 [] o
opened bytes c at end before size inner outer links (Fault p) o f is h r t =
    f (Fault p) o (inner_fault_comes c inner _ at before size p links is (rw (part-take bytes at before size end h) r)) (then_fault bytes outer end p o t)
opened bytes c at end before size inner outer links (Cut more) o f is h r t =
    f t.0 o (within_comes c inner _ at before size links more t.0 is (rw (part-take bytes at before size end h) r) (rw (part-drop bytes at (before + size) end h) t.1)) t.2

-- the bytes that are left of the inmost container
abbrev pub left_of : List ℕ → FieldWalk → List ℕ
left_of bytes walk = slice_range bytes walk.at walk.inmost.end

module _ (bytes : List ℕ) (old new : FieldWalk) (bounds : InBounds bytes old) where
  reach : (k : ℕ) → k ≤ length (left_of bytes old) → old.at + k ≤ old.inmost.end
  reach k h =
      let e = part-length bytes old.at old.inmost.end bounds.before bounds.fits in
      let b : old.at ≤ old.inmost.end = bounds.before in
      omega (arith, h, e)

  pub plain_steps : (n : ℕ) → Plain n ≡ next_header old.inmost.contents (left_of bytes old) → (0 < n) × (n ≤ length (left_of bytes old))
      → new.at ≡ old.at + n → new.inmost ≡ record { contents = fewer old.inmost.contents; end = old.inmost.end } → new.outer ≡ old.outer → StepsOn bytes old new []
  plain_steps n is m place around within =
      let r : old.at + n ≤ old.inmost.end = reach n m.1 in
      let p = part-drop bytes old.at n old.inmost.end r in
      record {
        bounds = rw (place, around, within) (record { before = r; fits = bounds.fits; nested = bounds.nested });
        smaller = rw (place, within) (omega (arith, r, bounds.fits, m.0));
        carries = λ links c. rw (place, around, within, append-nil) (λ mid o come t. c mid o (plain_comes _ _ old.at n links mid (sym is) (rw p come)) t);
      }

  pub link_steps : (kind : LinkKind) (n : ℕ) (met : LinkOf) → Link kind n ≡ next_header old.inmost.contents (left_of bytes old) → (20 ≤ n) × (n ≤ length (left_of bytes old))
      → met ≡ attached_link kind (slice_range (left_of bytes old) (n - 20) n)
      → new.at ≡ old.at + n → new.inmost ≡ record { contents = fewer old.inmost.contents; end = old.inmost.end } → new.outer ≡ old.outer → StepsOn bytes old new (met ∷ [])
  link_steps kind n met is m e place around within =
      let r : old.at + n ≤ old.inmost.end = reach n m.1 in
      let p = part-drop bytes old.at n old.inmost.end r in
      let last : slice_range (left_of bytes old) (n - 20) n ≡ drop (n - 20) (take n (left_of bytes old)) = last_part (n - 20) n (left_of bytes old) (omega arith) in
      record {
        bounds = rw (place, around, within) (record { before = r; fits = bounds.fits; nested = bounds.nested });
        smaller = rw (place, within) (omega (arith, r, bounds.fits, m.0));
        carries = λ links c. rw (place, around, within, e, last) (λ mid o come t. c mid o (link_comes _ _ old.at n kind links mid (sym is) (rw p come)) t);
      }

  pub container_steps : (before size : ℕ) (inner : Contents) → Container before size inner ≡ next_header old.inmost.contents (left_of bytes old) → (0 < before) × (before + size ≤ length (left_of bytes old))
      → new.at ≡ old.at + before → new.inmost ≡ record { contents = inner; end = old.at + before + size }
      → new.outer.items ≡ old.outer.items ++ record { contents = fewer old.inmost.contents; end = old.inmost.end } ∷ [] → StepsOn bytes old new []
  container_steps before size inner is m place around within =
      let r : old.at + (before + size) ≤ old.inmost.end = reach (before + size) m.1 in
      let a : old.at + before + size ≡ old.at + (before + size) = omega arith in
      let rev : reverse new.outer.items ≡ record { contents = fewer old.inmost.contents; end = old.inmost.end } ∷ reverse old.outer.items =
      ap reverse within ∙ reverse-append old.outer.items (record { contents = fewer old.inmost.contents; end = old.inmost.end } ∷ []) in
      let len : length new.outer.items ≡ length old.outer.items + 1 = ap length within ∙ length-append old.outer.items _ in
      record {
        bounds = record { before = rw (place, around) (omega arith); fits = rw around (omega (arith, r, bounds.fits)); nested = rw (around, rev, a) (r, bounds.nested) };
        smaller = rw (place, len) (omega (arith, r, bounds.fits, m.0));
        carries = λ links c. rw (place, around, rev, append-nil, a) (λ mid o come t. opened bytes old.inmost.contents old.at old.inmost.end before size inner (reverse old.outer.items) links mid o c (sym is) r come t);
      }

  pub end_steps : (container : Open) → End ≡ next_header old.inmost.contents (left_of bytes old) → length (left_of bytes old) ≡ 0
      → new.at ≡ old.at → new.inmost ≡ container → old.outer.items ≡ new.outer.items ++ container ∷ [] → StepsOn bytes old new []
  end_steps container is m place around within =
      let p = part-length bytes old.at old.inmost.end bounds.before bounds.fits in
      let b : old.at ≤ old.inmost.end = bounds.before in
      let same : old.at ≡ old.inmost.end = omega (arith, p, m) in
      let rev : reverse old.outer.items ≡ container ∷ reverse new.outer.items = ap reverse within ∙ reverse-append new.outer.items (container ∷ []) in
      let nested : Nested old.inmost.end (container ∷ reverse new.outer.items) (length bytes) = rw rev at bounds.nested in
      let len : length old.outer.items ≡ length new.outer.items + 1 = ap length within ∙ length-append new.outer.items _ in
      record {
        bounds = rw (place, around) (record { before = omega (arith, nested.0); fits = nested-end container.end (length bytes) (reverse new.outer.items) nested.1; nested = nested.1 });
        smaller = rw (place, len) (omega arith);
        carries = λ links c. rw (place, around, append-nil) (λ mid o come t. c (Cut links) o (end_comes _ _ old.at links (sym is)) (rw rev (mid, rw (sym same) come, t)));
      }

  pub complete_comes : End ≡ next_header old.inmost.contents (left_of bytes old) → old.outer.items ≡ [] → (links : List LinkOf) → Carries bytes old links → Comes (counted 1) bytes 0 [] (Cut links)
  complete_comes is e links c =
      let rev : reverse old.outer.items ≡ [] = ap reverse e in
      c (Cut links) (Cut links) (end_comes _ _ old.at links (sym is)) (rw rev refl)

  pub broken_comes : Bad ≡ next_header old.inmost.contents (left_of bytes old) → (links : List LinkOf) → Carries bytes old links → Comes (counted 1) bytes 0 [] (Fault old.at)
  broken_comes is links c = c (Fault old.at) (Fault old.at) (bad_comes _ _ old.at links (sym is)) (then_fault bytes (reverse old.outer.items) old.inmost.end old.at (Fault old.at) refl)
