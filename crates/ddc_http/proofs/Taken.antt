-- What was taken of the bytes ahead.
use Rattle.std.proofs.Common.{◌≡◌, ◌⊎◌, ℕ, ◌≤◌, ◌<◌, ◌+◌, ◌-◌, ◌^◌, min, List, [], ◌++◌, length, take, drop, refl, sym, ap, ◌∙◌, subst, append_assoc, append-nil, arith, Option, Some, None, Result, Ok, Err, IfSome, length-append, take-append-drop, inl, inr}
use Rattle.std.proofs.Math.Seq.{take-add}
use Rattle.std.proofs.lemmas.List.{length-drop, length-take-le, take_at}
use Rattle.std.specs.Prelude.{Vec}
use Rattle.std.specs.declared.alloc.Global.{Global}
use Rattle.std.specs.Io.KnownBytes.{Keeps, Consumes, IsAtEnd, prepend_known}
use Rattle.httparse.specs.Grammar.{RequestHead, print_request}
use Rattle.httparse.proofs.GrammarLemmas.{request_unique}
use Rattle.ddc_protocol.specs.declared.request_form.RequestForm.{RequestForm}
use Rattle.ddc_protocol.proofs.Once.{after_head}
use Rattle.ddc_protocol.specs.HeadForms.{form_of_head}
use Rattle.ddc_protocol.specs.Requests.{IsHead, HasNoHead, body_length, Item, mismatch, not_object, Asks, IsRequestText, IsCut, HasNoRequestText, IsUnread}
use Rattle.ddc_http.specs.declared.request.Request.{Request}
use Rattle.ddc_http.specs.declared.request.HttpFault.{HttpFault}
use Rattle.ddc_http.specs.declared.request.HttpFault.TheVariants.{Unread, Cut, HashMismatch, NotAnObject, ReadFailed, NoMemory}
use Rattle.ddc_http.specs.Reader.{Ahead, stream_ahead, bytes_of_ahead, FaultsAs, HasRequestText, ReadsNext, asked_item, place_after_text}
use Rattle.ddc_http.specs.inside.Parts.{HeadAt, BodyAt, BodyAs, AskedAs}

pub no_item-without_head : (bytes : List ℕ) → HasNoHead bytes → HasNoRequestText bytes
no_item-without_head bytes none item text rest s e = none s.head (s.body ++ rest) s.is_head (after_head bytes text rest item s e)

-- a fact that holds unless the bytes have no whole request
pub when_ready : (P : Type 0) (bytes : List ℕ) → HasNoRequestText bytes ⊎ P → HasRequestText bytes → P
when_ready P bytes (inl none) (item, text, rest, s, e) = absurd (none item text rest s e)
when_ready P bytes (inr p) h = p

never_ready : (P : Type 0) (bytes : List ℕ) → HasNoRequestText bytes → HasRequestText bytes → P
never_ready P bytes none (item, text, rest, s, e) = absurd (none item text rest s e)

-- where what is held has no head, what was held at first has no whole request
pub never_yet : (P Q : Type 0) (now initial : Vec ℕ Global) → HasNoHead now.items → HasNoRequestText initial.items ⊎ (Q × (now ≡ initial)) → HasRequestText initial.items → P
never_yet P Q now initial none (inl h) = never_ready P initial.items h
never_yet P Q now initial none (inr h) = never_ready P initial.items (subst (λ (v : Vec ℕ Global). HasNoRequestText v.items) h.1 (no_item-without_head now.items none))

pub lacks_yet : (Q : Type 0) (now initial : Vec ℕ Global) → HasNoHead now.items → HasNoRequestText initial.items ⊎ (Q × (now ≡ initial)) → HasNoRequestText initial.items
lacks_yet Q now initial none (inl h) = h
lacks_yet Q now initial none (inr h) = subst (λ (v : Vec ℕ Global). HasNoRequestText v.items) h.1 (no_item-without_head now.items none)

-- the first bytes are a head, and fewer than its body states follow
pub record Lacks (bytes : List ℕ) (size : ℕ) : Type 0 where
  pub head : RequestHead
  pub form : RequestForm
  pub body : List ℕ
  pub is_head : IsHead head
  pub asks : form_of_head head ≡ Some form
  pub spelled : bytes ≡ print_request head ++ body
  pub states : size ≡ body_length form
  pub short : length body < size

pub no_item-short : (bytes : List ℕ) (size : ℕ) → Lacks bytes size → HasNoRequestText bytes
no_item-short bytes size h item text rest s e =
    let same = request_unique bytes h.head s.head h.body (s.body ++ rest) (h.is_head.valid, h.spelled) (s.is_head.valid, after_head bytes text rest item s e) in
    let asks : Some h.form ≡ Some s.form = sym h.asks ∙ ap form_of_head same.0 ∙ s.asks in
    let forms : h.form ≡ s.form = cc in
    let long : length h.body ≡ length s.body + length rest = ap length same.1 ∙ length-append s.body rest in
    let whole : length s.body ≡ body_length h.form = s.whole ∙ ap body_length (sym forms) in
    let states = h.states in
    let short = h.short in
    absurd (omega arith)

pub cut-short : (bytes : List ℕ) (size : ℕ) → Lacks bytes size → IsCut bytes
cut-short bytes size h = inr record { head = h.head; form = h.form; rest = h.body; is_head = h.is_head; asks = h.asks; spelled = h.spelled; lacks = let e = h.states in let s = h.short in omega arith }

-- the head that bytes begin with is their first part
pub front_is_head : (bytes : List ℕ) (len size : ℕ) (h : BodyAt bytes len size) → take len bytes ≡ print_request h.head_at.head
front_is_head bytes len size h = ap (take len) h.head_at.spelled ∙ take_at (print_request h.head_at.head) (drop len bytes) len (sym h.head_at.long)

-- a head, and less than its body after it
pub lacks : (bytes body : List ℕ) (len size : ℕ) → BodyAt bytes len size → length body < size → Lacks (take len bytes ++ body) size
lacks bytes body len size h short = record {
  head = h.head_at.head;
  form = h.form;
  body = body;
  is_head = h.head_at.is_head;
  asks = sym h.head_at.asks;
  spelled = ap (λ l. l ++ body) (front_is_head bytes len size h);
  states = h.states;
  short = short;
}

pub known-at-end : (before left : Option (List ℕ)) (part : List ℕ) (P : List ℕ → Type 0) → Consumes before left part → IsAtEnd left → P part → IfSome before P
known-at-end None left part P k e p = tt
known-at-end (Some x) None part P k e p = absurd k
known-at-end (Some x) (Some y) part P k e p = subst P (sym (append-nil part) ∙ ap (λ l. part ++ l) (sym e) ∙ sym k) p

pub consumes-front : (left : Option (List ℕ)) (held : List ℕ) (end : ℕ) → Consumes (prepend_known held left) (prepend_known (drop end held) left) (take end held)
consumes-front None held end = tt
consumes-front (Some y) held end = ap (λ l. l ++ y) (sym (take-append-drop end held)) ∙ append_assoc (take end held) (drop end held) y

-- where nothing is held, what is ahead is what the source has left
pub consumes-bare : (before left : Option (List ℕ)) (held part : List ℕ) → held ≡ [] → Consumes before (prepend_known held left) part → Consumes before left part
consumes-bare None left held part e c = tt
consumes-bare (Some x) None held part e c = absurd c
consumes-bare (Some x) (Some y) held part e c = c ∙ ap (λ l. part ++ (l ++ y)) e

-- more of the source, where nothing is held
pub consumes-more : (before left after : Option (List ℕ)) (held part piece : List ℕ) → held ≡ [] → Consumes before (prepend_known held left) part → Consumes left after piece → Consumes before (prepend_known held after) (part ++ piece)
consumes-more None left after held part piece e c d = tt
consumes-more (Some x) None after held part piece e c d = absurd c
consumes-more (Some x) (Some y) None held part piece e c d = absurd d
consumes-more (Some x) (Some y) (Some z) held part piece e c d =
    c ∙ ap (λ l. part ++ (l ++ y)) e ∙ ap (λ l. part ++ l) d ∙ sym (append_assoc part piece z) ∙ ap (λ l. (part ++ piece) ++ (l ++ z)) (sym e)

-- what was read of a body, where the source gave no more of it
pub consumes-kept : (before left after : Option (List ℕ)) (part : List ℕ) → Consumes before left part → Keeps left after → Consumes before after part
consumes-kept None left after part c k = tt
consumes-kept (Some x) None after part c k = absurd c
consumes-kept (Some x) (Some y) None part c k = absurd k
consumes-kept (Some x) (Some y) (Some z) part c k = c ∙ ap (λ l. part ++ l) (sym k)

-- the head and the first bytes of the body are taken from what is held
pub taken-first : (left : Option (List ℕ)) (held rest body : List ℕ) (len first : ℕ) → rest ≡ drop (len + first) held → body ≡ take first (drop len held)
    → Consumes (prepend_known held left) (prepend_known rest left) (take len held ++ body)
taken-first left held rest body len first e f =
    let P : List ℕ → Type 0 = λ b. Consumes (prepend_known held left) (prepend_known rest left) b in
    let Q : List ℕ → Type 0 = λ h. Consumes (prepend_known held left) (prepend_known h left) (take (len + first) held) in
    subst P (take-add len first held ∙ ap (λ b. take len held ++ b) (sym f)) (subst Q (sym e) (consumes-front left held (len + first)))

-- one more piece of the body is taken from the source
pub taken-more : (before left after : Option (List ℕ)) (held front body piece : List ℕ) → held ≡ [] → Consumes before (prepend_known held left) (front ++ body) → Consumes left after piece
    → Consumes before (prepend_known held after) (front ++ (body ++ piece))
taken-more before left after held front body piece e c d =
    let P : List ℕ → Type 0 = λ b. Consumes before (prepend_known held after) b in
    subst P (append_assoc front body piece) (consumes-more before left after held (front ++ body) piece e c d)

-- what is taken of bytes that stayed
pub kept-consumes : (before mid after : Option (List ℕ)) (part : List ℕ) → Keeps before mid → Consumes mid after part → Consumes before after part
kept-consumes None mid after part k c = tt
kept-consumes (Some x) None after part k c = absurd k
kept-consumes (Some x) (Some y) None part k c = absurd c
kept-consumes (Some x) (Some y) (Some z) part k c = sym k ∙ c

pub kept-known : (before mid : Option (List ℕ)) (P : List ℕ → Type 0) → Keeps before mid → IfSome mid P → IfSome before P
kept-known None mid P k h = tt
kept-known (Some x) None P k h = absurd k
kept-known (Some x) (Some y) P k h = subst P k h

-- bytes that begin with a head of no form, which more follow
pub formless : (held : List ℕ) (left : Option (List ℕ)) (len : ℕ) → HeadAt held len None → IfSome (prepend_known held left) IsUnread
formless held None len h = tt
formless held (Some y) len h = inr record {
  head = h.head;
  rest = drop len held ++ y;
  is_head = h.is_head;
  spelled = ap (λ l. l ++ y) h.spelled ∙ append_assoc (print_request h.head) (drop len held) y;
  asks = sym h.asks;
}

-- where the bytes have a whole request, its body is among them
pub whole_held : (bytes : List ℕ) (len size : ℕ) → BodyAt bytes len size → HasRequestText bytes → len + size ≤ length bytes
whole_held bytes len size h (item, text, rest, s, e) =
    let at = h.head_at in
    let same = request_unique bytes at.head s.head (drop len bytes) (s.body ++ rest) (at.is_head.valid, at.spelled) (s.is_head.valid, after_head bytes text rest item s e) in
    let asks : Some h.form ≡ Some s.form = at.asks ∙ ap form_of_head same.0 ∙ s.asks in
    let forms : h.form ≡ s.form = cc in
    let long : length (drop len bytes) ≡ length s.body + length rest = ap length same.1 ∙ length-append s.body rest in
    let whole : length s.body ≡ body_length h.form = s.whole ∙ ap body_length (sym forms) in
    let states = h.states in
    let within = at.within in
    let cut = length-drop len bytes in
    omega arith

-- the head, and a body of the length that it states
pub spells : (bytes body : List ℕ) (len : ℕ) (form : RequestForm) (item : Item) → HeadAt bytes len (Some form) → length body ≡ body_length form → Asks body form item → IsRequestText (take len bytes ++ body) item
spells bytes body len form item h whole asked = record {
  head = h.head;
  form = form;
  body = body;
  is_head = h.is_head;
  asks = sym h.asks;
  whole = whole;
  spelled = ap (λ l. l ++ body) (ap (take len) h.spelled ∙ take_at (print_request h.head) (drop len bytes) len (sym h.long));
  item_is = asked;
}

-- a body that was not read whole
pub body_fails : (old new : Ahead) (len size from : ℕ) (fault : HttpFault) → BodyAs old new len size (Err fault) → ReadsNext old new from from (Err fault)
body_fails old new len size from Cut h = (h, refl)
body_fails old new len size from ReadFailed h = (h, refl)
body_fails old new len size from NoMemory h = tt
body_fails old new len size from other h = absurd h

-- a place after a head and a body
pub place_is : (from len size : ℕ) (held body : List ℕ) → len ≤ length held → length body ≡ size → min (from + len + size) (2 ^ 64 - 1) ≡ place_after_text from (take len held ++ body)
place_is from len size held body within whole =
    let front = length-take-le len held within in
    let long = length-append (take len held) body in
    let sum : from + len + size ≡ from + length (take len held ++ body) = omega arith in
    ap (λ n. min n (2 ^ 64 - 1)) sum

-- a request whose head and body were taken
pub body_asked : (old new : Ahead) (form : RequestForm) (body : List ℕ) (len from to : ℕ) (result : Result (Option Request) HttpFault)
    → HeadAt old.held len (Some form) → Consumes (bytes_of_ahead old) (bytes_of_ahead new) (take len old.held ++ body) → length body ≡ body_length form
    → to ≡ min (from + len + body_length form) (2 ^ 64 - 1) → AskedAs form body result → ReadsNext old new from to result
body_asked old new form body len from to (Ok (Some request)) h c whole place a =
    (take len old.held ++ body, spells old.held body len form (asked_item request) h whole a, c, place ∙ place_is from len (body_length form) old.held body h.within whole)
body_asked old new form body len from to (Err (HashMismatch named found)) h c whole place a =
    (take len old.held ++ body, spells old.held body len form (mismatch named found) h whole a, c, place ∙ place_is from len (body_length form) old.held body h.within whole)
body_asked old new form body len from to (Err (NotAnObject at)) h c whole place a =
    (take len old.held ++ body, spells old.held body len form (not_object at) h whole a, c, place ∙ place_is from len (body_length form) old.held body h.within whole)
body_asked old new form body len from to (Err NoMemory) h c whole place a = tt
body_asked old new form body len from to other h c whole place a = absurd a

-- a request without a body
pub head_asked : (left : Option (List ℕ)) (held now : List ℕ) (form : RequestForm) (len from to : ℕ) (request : Request)
    → HeadAt held len (Some form) → now ≡ drop len held → body_length form ≡ 0 → to ≡ min (from + len + 0) (2 ^ 64 - 1)
    → Asks [] form (asked_item request) → ReadsNext (stream_ahead held left) (stream_ahead now left) from to (Ok (Some request))
head_asked left held now form len from to request h rest none place a =
    let P : List ℕ → Type 0 = λ t. Consumes (prepend_known held left) (prepend_known (drop len held) left) t in
    let Q : List ℕ → Type 0 = λ r. Consumes (prepend_known held left) (prepend_known r left) (take len held ++ []) in
    let taken = subst Q (sym rest) (subst P (sym (append-nil (take len held))) (consumes-front left held len)) in
    body_asked (stream_ahead held left) (stream_ahead now left) form [] len from to (Ok (Some request)) h taken (sym none) (place ∙ ap (λ n. min (from + len + n) (2 ^ 64 - 1)) (sym none)) a

-- an answer about bytes that stayed
pub kept-reads : (old mid new : Ahead) (from to : ℕ) (result : Result (Option Request) HttpFault) → Keeps (bytes_of_ahead old) (bytes_of_ahead mid) → ReadsNext mid new from to result
    → ReadsNext old new from to result
kept-reads old mid new from to (Ok (Some request)) k (text, s, c, place) = (text, s, kept-consumes (bytes_of_ahead old) (bytes_of_ahead mid) (bytes_of_ahead new) text k c, place)
kept-reads old mid new from to (Ok None) k (known, end, place) = (kept-known (bytes_of_ahead old) (bytes_of_ahead mid) (λ bytes. bytes ≡ []) k known, end, place)
kept-reads old mid new from to (Err Unread) k (known, place) = (kept-known (bytes_of_ahead old) (bytes_of_ahead mid) IsUnread k known, place)
kept-reads old mid new from to (Err Cut) k (known, place) = (kept-known (bytes_of_ahead old) (bytes_of_ahead mid) IsCut k known, place)
kept-reads old mid new from to (Err (HashMismatch named found)) k (text, s, c, place) = (text, s, kept-consumes (bytes_of_ahead old) (bytes_of_ahead mid) (bytes_of_ahead new) text k c, place)
kept-reads old mid new from to (Err (NotAnObject at)) k (text, s, c, place) = (text, s, kept-consumes (bytes_of_ahead old) (bytes_of_ahead mid) (bytes_of_ahead new) text k c, place)
kept-reads old mid new from to (Err ReadFailed) k ((part, lost, none), place) = ((part, kept-consumes (bytes_of_ahead old) (bytes_of_ahead mid) new.left part k lost, none), place)
kept-reads old mid new from to (Err NoMemory) k h = tt

-- ---- counts of faults

-- a call that met no fault, and then another
pub faults-from : {T : Type 0} (before mid now : ℕ) (result : Result T HttpFault) → before ≡ mid → FaultsAs mid now result → FaultsAs before now result
faults-from before mid now result e h = subst (λ n. FaultsAs n now result) (sym e) h

-- what is asked of a body that was read whole is no failed read
pub faults-asked : (before now : ℕ) (form : RequestForm) (body : List ℕ) (result : Result (Option Request) HttpFault) → before ≡ now → AskedAs form body result → FaultsAs before now result
faults-asked before now form body (Err ReadFailed) e a = absurd a
faults-asked before now form body other e a = e

-- what is ahead stays where a piece of the source is held after the rest
pub keeps-more : (before left after : Option (List ℕ)) (held piece : List ℕ) → Keeps before (prepend_known held left) → Consumes left after piece → Keeps before (prepend_known (held ++ piece) after)
keeps-more None left after held piece k c = tt
keeps-more (Some x) None after held piece k c = absurd k
keeps-more (Some x) (Some y) None held piece k c = absurd c
keeps-more (Some x) (Some y) (Some z) held piece k c = append_assoc held piece z ∙ ap (λ l. held ++ l) (sym c) ∙ k
