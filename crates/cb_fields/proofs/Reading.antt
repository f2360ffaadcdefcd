-- Reading by headers from left to right, which comes to one outcome.
use Rattle.std.proofs.Common.{◌≡◌, ℕ, ◌+◌, ◌-◌, List, [], ◌∷◌, ◌++◌, take, drop, refl, sym, ◌∙◌}
use Rattle.cb_fields.specs.declared.links.LinkKind.{LinkKind}
use Rattle.cb_fields.specs.declared.links.Link.{Link as LinkOf}
use Rattle.cb_fields.specs.declared.header.Contents.{Contents}
use Rattle.cb_fields.specs.declared.header.Header.{Header}
use Rattle.cb_fields.specs.declared.header.Header.TheVariants.{End, Bad, Plain, Link, Container}
use Rattle.cb_fields.specs.Shape.{fewer}
use Rattle.cb_fields.specs.inside.Header.{next_header}
use Rattle.cb_fields.specs.Language.{attached_link}
use Rattle.cb_fields.specs.inside.FieldWalk.{Outcome, Fault, Cut}

-- the link at the end of n bytes
abbrev pub last_link : LinkKind → ℕ → List ℕ → LinkOf
last_link kind n bs = attached_link kind (drop (n - 20) (take n bs))

-- bs, whose first byte is at the place at, is to be contents; links came before; o is what comes of it
pub data Reads : Contents → List ℕ → ℕ → List LinkOf → Outcome → Type 0 where
  ended : {c : Contents} {bs : List ℕ} {at : ℕ} {links : List LinkOf} → next_header c bs ≡ End → Reads c bs at links (Cut links)
  broken : {c : Contents} {bs : List ℕ} {at : ℕ} {links : List LinkOf} → next_header c bs ≡ Bad → Reads c bs at links (Fault at)
  past_plain : {c : Contents} {bs : List ℕ} {at : ℕ} {links : List LinkOf} {o : Outcome} (n : ℕ)
      → next_header c bs ≡ Plain n → Reads (fewer c) (drop n bs) (at + n) links o → Reads c bs at links o
  past_link : {c : Contents} {bs : List ℕ} {at : ℕ} {links : List LinkOf} {o : Outcome} (kind : LinkKind) (n : ℕ)
      → next_header c bs ≡ Link kind n → Reads (fewer c) (drop n bs) (at + n) (links ++ last_link kind n bs ∷ []) o → Reads c bs at links o
  broken_inside : {c : Contents} {bs : List ℕ} {at : ℕ} {links : List LinkOf} {place : ℕ} (before size : ℕ) (inner : Contents)
      → next_header c bs ≡ Container before size inner → Reads inner (take size (drop before bs)) (at + before) links (Fault place) → Reads c bs at links (Fault place)
  past_container : {c : Contents} {bs : List ℕ} {at : ℕ} {links : List LinkOf} {o : Outcome} (before size : ℕ) (inner : Contents) (more : List LinkOf)
      → next_header c bs ≡ Container before size inner → Reads inner (take size (drop before bs)) (at + before) links (Cut more)
      → Reads (fewer c) (drop (before + size) bs) (at + (before + size)) more o → Reads c bs at links o

-- what comes after the contents of a container
abbrev Goes : Contents → List ℕ → ℕ → Outcome → Outcome → Type 0
Goes c bs at (Fault q) p = p ≡ Fault q
Goes c bs at (Cut more) p = Reads c bs at more p

-- what a reading is, by its first header
abbrev Unfolds : Header → Contents → List ℕ → ℕ → List LinkOf → Outcome → Type 0
Unfolds End c bs at links p = p ≡ Cut links
Unfolds Bad c bs at links p = p ≡ Fault at
Unfolds (Plain n) c bs at links p = Reads (fewer c) (drop n bs) (at + n) links p
Unfolds (Link kind n) c bs at links p = Reads (fewer c) (drop n bs) (at + n) (links ++ last_link kind n bs ∷ []) p
Unfolds (Container before size inner) c bs at links p =
    (mid : Outcome) × Reads inner (take size (drop before bs)) (at + before) links mid × Goes (fewer c) (drop (before + size) bs) (at + (before + size)) mid p

unfolds : {c : Contents} {bs : List ℕ} {at : ℕ} {links : List LinkOf} {p : Outcome} → Reads c bs at links p → Unfolds (next_header c bs) c bs at links p
unfolds (ended is) = rw is refl
unfolds (broken is) = rw is refl
unfolds (past_plain n is r) = rw is r
unfolds (past_link kind n is r) = rw is r
unfolds (broken_inside {place = place} before size inner is r) = rw is (Fault place, r, refl)
unfolds (past_container before size inner more is r s) = rw is (Cut more, r, s)

after_fault : (c : Contents) (bs : List ℕ) (at f : ℕ) (mid p : Outcome) → Fault f ≡ mid → Goes c bs at mid p → Fault f ≡ p
after_fault c bs at f (Fault g) p e h = e ∙ sym h
after_fault c bs at f (Cut more) p e h = cc

after_cut : (c : Contents) (bs : List ℕ) (at : ℕ) (more : List LinkOf) (mid p : Outcome) → Cut more ≡ mid → Goes c bs at mid p → Reads c bs at more p
after_cut c bs at more (Fault g) p e h = cc
after_cut c bs at more (Cut others) p e h =
    let s : others ≡ more = cc in
    rw (sym s) h

pub one_outcome : {c : Contents} {bs : List ℕ} {at : ℕ} {links : List LinkOf} {o : Outcome} → Reads c bs at links o → (p : Outcome) → Reads c bs at links p → o ≡ p
one_outcome (ended is) p q = sym (rw is at (unfolds q))
one_outcome (broken is) p q = sym (rw is at (unfolds q))
one_outcome (past_plain n is r) p q = one_outcome r p (rw is at (unfolds q))
one_outcome (past_link kind n is r) p q = one_outcome r p (rw is at (unfolds q))
one_outcome (broken_inside {c = c} {bs = bs} {at = at} {links = links} {place = f} before size inner is r) p q =
    let u : Unfolds (Container before size inner) c bs at links p = rw is at (unfolds q) in
    after_fault _ _ _ f u.0 p (one_outcome r u.0 u.1) u.2
one_outcome (past_container {c = c} {bs = bs} {at = at} {links = links} {o = o} before size inner more is r s) p q =
    let u : Unfolds (Container before size inner) c bs at links p = rw is at (unfolds q) in
    one_outcome s p (after_cut _ _ _ more u.0 p (one_outcome r u.0 u.1) u.2)
