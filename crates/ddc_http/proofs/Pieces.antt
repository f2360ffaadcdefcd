-- What was taken from a source piece by piece.
use Rattle.std.proofs.Common.{◌≡◌, ◌⊎◌, ℕ, ◌≤◌, List, [], ◌++◌, length, refl, sym, ap, ◌∙◌, subst, append_assoc, append-nil, arith, Option, Some, None, Err, inl, inr}
use Rattle.std.specs.Prelude.{Vec}
use Rattle.std.specs.declared.alloc.Global.{Global}
use Rattle.std.specs.Io.KnownBytes.{Keeps, Consumes, prepend_known}
use Rattle.ddc_protocol.specs.Requests.{HasNoHead, HasNoRequestText}
use Rattle.ddc_http.specs.declared.request.HttpFault.{HttpFault}
use Rattle.ddc_http.specs.declared.request.HttpFault.TheVariants.{ReadFailed, NoMemory}
use Rattle.ddc_http.specs.Reader.{Ahead, bytes_of_ahead, TakesPieces}
use Rattle.ddc_http.specs.inside.Parts.{HoldsPieces, FillsAs, HeadsAs}
use Rattle.ddc_http.proofs.Taken.{consumes-kept, no_item-without_head}

pub consumes-nothing : (left : Option (List ℕ)) → Consumes left left []
consumes-nothing None = tt
consumes-nothing (Some x) = refl

pub keeps-same : (bytes : Option (List ℕ)) → Keeps bytes bytes
keeps-same None = tt
keeps-same (Some x) = refl

pub keeps-both : (a b c : Option (List ℕ)) → Keeps a b → Keeps b c → Keeps a c
keeps-both None b c first second = tt
keeps-both (Some x) None c first second = absurd first
keeps-both (Some x) (Some y) None first second = absurd second
keeps-both (Some x) (Some y) (Some z) first second = second ∙ first

-- what is held of the bytes ahead was taken of them
held-consumes : (before left : Option (List ℕ)) (held : List ℕ) → Keeps before (prepend_known held left) → Consumes before left held
held-consumes None left held kept = tt
held-consumes (Some x) None held kept = absurd kept
held-consumes (Some x) (Some y) held kept = sym kept

-- a head that isn't there, since more of it could not be held
pub fill_fails : (old mid new : Ahead) (fault : HttpFault) → Keeps (bytes_of_ahead old) (bytes_of_ahead mid) → FillsAs mid new (Err fault) → HeadsAs old new (Err fault)
fill_fails old mid new ReadFailed k h = (new.held, held-consumes (bytes_of_ahead old) new.left new.held (keeps-both (bytes_of_ahead old) (bytes_of_ahead mid) (bytes_of_ahead new) k h.0), h.1)
fill_fails old mid new NoMemory k h = tt
fill_fails old mid new other k h = absurd h

pub consumes-both : (a b c : Option (List ℕ)) (p q : List ℕ) → Consumes a b p → Consumes b c q → Consumes a c (p ++ q)
consumes-both None b c p q first second = tt
consumes-both (Some x) None c p q first second = absurd first
consumes-both (Some x) (Some y) None p q first second = absurd second
consumes-both (Some x) (Some y) (Some z) p q first second = first ∙ ap (λ l. p ++ l) second ∙ sym (append_assoc p q z)

-- no whole request in the bytes held with what was taken, and then a piece
pub takes-piece : (a b c : Option (List ℕ)) (held front piece : List ℕ) → Consumes a b front → Consumes b c piece → length piece ≤ 16384 → HasNoRequestText (held ++ front) → TakesPieces held a c
takes-piece a b c held front piece first second small none = (front, piece, consumes-both a b c front piece first second, small, none)

-- and then a read that gave nothing
pub takes-nothing : (a b c : Option (List ℕ)) (held front : List ℕ) → Consumes a b front → Keeps b c → HasNoRequestText (held ++ front) → TakesPieces held a c
takes-nothing a b c held front first kept none =
    let P : List ℕ → Type 0 = λ l. Consumes a c l in
    (front, [], subst P (sym (append-nil front)) (consumes-kept a b c front first kept), omega arith, none)

-- what is held is what was held and what was taken
pub holds-piece : (a b c : Option (List ℕ)) (held front piece old now : List ℕ) → old ≡ held ++ front → now ≡ old ++ piece → Consumes a b front → Consumes b c piece → length piece ≤ 16384
    → HasNoHead old → HoldsPieces held now a c
holds-piece a b c held front piece old now is grown first second small none =
    let P : List ℕ → Type 0 = HasNoRequestText in
    (front, piece, grown ∙ ap (λ l. l ++ piece) is ∙ append_assoc held front piece, consumes-both a b c front piece first second, small, subst P is (no_item-without_head old none))

pub forget : (held now : List ℕ) (a b : Option (List ℕ)) → HoldsPieces held now a b → TakesPieces held a b
forget held now a b (front, last, is, taken, small, none) = (front, last, taken, small, none)

-- pieces after pieces
pieces-takes : (held now : List ℕ) (a b c : Option (List ℕ)) → HoldsPieces held now a b → TakesPieces now b c → TakesPieces held a c
pieces-takes held now a b c (f, l, is, taken, small, none) (g, m, more, short, lacks) =
    let P : List ℕ → Type 0 = λ t. Consumes a c t in
    let Q : List ℕ → Type 0 = HasNoRequestText in (
      (f ++ l) ++ g,
      m,
      subst P (sym (append_assoc (f ++ l) g m)) (consumes-both a b c (f ++ l) (g ++ m) taken more),
      short,
      subst Q (ap (λ t. t ++ g) is ∙ append_assoc held (f ++ l) g) lacks,
    )

pieces-holds : (held now new : List ℕ) (a b c : Option (List ℕ)) → HoldsPieces held now a b → HoldsPieces now new b c → HoldsPieces held new a c
pieces-holds held now new a b c (f, l, is, taken, small, none) (g, m, grown, more, short, lacks) =
    let P : List ℕ → Type 0 = λ t. Consumes a c t in
    let Q : List ℕ → Type 0 = HasNoRequestText in (
      (f ++ l) ++ g,
      m,
      grown ∙ ap (λ t. t ++ (g ++ m)) is ∙ append_assoc held (f ++ l) (g ++ m) ∙ ap (λ t. held ++ t) (sym (append_assoc (f ++ l) g m)),
      subst P (sym (append_assoc (f ++ l) g m)) (consumes-both a b c (f ++ l) (g ++ m) taken more),
      short,
      subst Q (ap (λ t. t ++ g) is ∙ append_assoc held (f ++ l) g) lacks,
    )

-- the bytes held and the source as they were, or pieces of it
abbrev pub SameOrHolds : {S : Type 0} → (S → Option (List ℕ)) → S → S → Vec ℕ Global → Vec ℕ Global → Type 0
SameOrHolds left old new held now = ((new ≡ old) × (now ≡ held)) ⊎ HoldsPieces held.items now.items (left old) (left new)

pub then-takes : {S : Type 0} (left : S → Option (List ℕ)) (old mid new : S) (held now : Vec ℕ Global) → SameOrHolds left old mid held now → TakesPieces now.items (left mid) (left new)
    → TakesPieces held.items (left old) (left new)
then-takes {S} left old mid new held now (inl same) h =
    let P : Vec ℕ Global → Type 0 = λ v. TakesPieces v.items (left mid) (left new) in
    let Q : S → Type 0 = λ s. TakesPieces held.items (left s) (left new) in
    subst Q same.0 (subst P same.1 h)
then-takes {S} left old mid new held now (inr k) h = pieces-takes held.items now.items (left old) (left mid) (left new) k h

pub then-holds : {S : Type 0} (left : S → Option (List ℕ)) (old mid new : S) (held now : Vec ℕ Global) (later : List ℕ) → SameOrHolds left old mid held now
    → HoldsPieces now.items later (left mid) (left new) → HoldsPieces held.items later (left old) (left new)
then-holds {S} left old mid new held now later (inl same) h =
    let P : Vec ℕ Global → Type 0 = λ v. HoldsPieces v.items later (left mid) (left new) in
    let Q : S → Type 0 = λ s. HoldsPieces held.items later (left s) (left new) in
    subst Q same.0 (subst P same.1 h)
then-holds {S} left old mid new held now later (inr k) h = pieces-holds held.items now.items later (left old) (left mid) (left new) k h

pub same_or_takes : {S : Type 0} (left : S → Option (List ℕ)) (old new : S) (held now : Vec ℕ Global) → SameOrHolds left old new held now → (new ≡ old) ⊎ TakesPieces held.items (left old) (left new)
same_or_takes left old new held now (inl same) = inl same.0
same_or_takes left old new held now (inr k) = inr (forget held.items now.items (left old) (left new) k)

-- a head was read, and then its body
pub body-takes : {S : Type 0} (left : S → Option (List ℕ)) (old mid new : S) (held now : Vec ℕ Global) → SameOrHolds left old mid held now
    → (new ≡ mid) ⊎ TakesPieces now.items (left mid) (left new) → (new ≡ old) ⊎ TakesPieces held.items (left old) (left new)
body-takes left old mid new held now k (inr h) = inr (then-takes left old mid new held now k h)
body-takes left old mid new held now (inl same) (inl e) = inl (e ∙ same.0)
body-takes {S} left old mid new held now (inr k) (inl e) =
    let P : S → Type 0 = λ s. TakesPieces held.items (left old) (left s) in
    inr (subst P (sym e) (forget held.items now.items (left old) (left mid) k))
