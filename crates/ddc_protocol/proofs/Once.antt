-- A stream is cut in one way.
use Rattle.std.proofs.Common.{suc, zero-add, true, ◌≡◌, ℕ, ◌≤◌, ◌<◌, ◌+◌, List, [], ◌∷◌, ◌++◌, length, take, drop, refl, sym, ap, ◌∙◌, subst, append_assoc, append-nil, arith, Some, None, length-append, inl, inr}
use Rattle.std.proofs.lemmas.List.{take_at, drop_at}
use Rattle.std.proofs.lemmas.List.Elements.{All-nil, All-push}
use Rattle.std.proofs.lemmas.Str.{IsUtf8-from_ascii}
use Rattle.std.proofs.lemmas.Str.Ascii.{IsAscii-cons, IsAscii-nil}
use Rattle.httparse.proofs.OpenLemmas.{letter_is_token}
use Rattle.httparse.specs.Grammar.{RequestHead, print_request, is_token_byte, is_uri_byte, lf}
use Rattle.httparse.proofs.GrammarLemmas.{request_unique, print_request-append}
use Rattle.std.specs.Prelude.{Bool, false}
use Rattle.cb_fields.specs.Language.{IsObject}
use Rattle.cb_fields.proofs.Theorems.{fault_is_no_object, one_fault}
use Rattle.ddc_model.specs.Content.{Content, IsContent, AreLinksOf}
use Rattle.ddc_model.proofs.Once.{content_once}
use Rattle.ddc_protocol.specs.declared.request_form.RequestForm.{RequestForm}
use Rattle.ddc_protocol.specs.declared.request_form.RequestForm.TheVariants.{PutBlob, GetBlob, PutRef, GetRef, Finalise}
use Rattle.ddc_protocol.specs.HeadForms.{form_of_head}
use Rattle.ddc_protocol.specs.Requests.{IsHead, body_length, Item, put_blob, put_ref, not_object, Asks, stores, mismatches, fetches, puts, breaks, reads, finalises, IsRequestText, IsUnread, IsCut, HasNoRequestText, Begins, End, closed, cut, unread, spent, most_items, EndsAs, Cuts}
use Rattle.ddc_protocol.specs.Laws.{SameEnd, same, hopeless_cut, hopeless_unread, OneCut}

pub record SameItem (r q : List ℕ) (i j : Item) : Type 0 where
  pub rest : r ≡ q
  pub item : i ≡ j

-- the head of a whole request, and what follows it in the bytes
pub after_head : (bytes text rest : List ℕ) (item : Item) (s : IsRequestText text item) → bytes ≡ text ++ rest → bytes ≡ print_request s.head ++ (s.body ++ rest)
after_head bytes text rest item s e = e ∙ ap (λ l. l ++ rest) s.spelled ∙ append_assoc (print_request s.head) s.body rest

-- the bytes of contents that are an object are one
object_at : (content : Content) (body : List ℕ) → content.bytes ≡ body → IsContent content → content.is_object ≡ true → IsObject body content.links
object_at content body e k o = subst (λ (bytes : List ℕ). IsObject bytes content.links) e (subst (λ (b : Bool). AreLinksOf content.bytes b content.links) o k)

-- one form and one body ask one thing
asks_once : (form : RequestForm) (body : List ℕ) (item other : Item) → Asks body form item → Asks body form other → item ≡ other
asks_once (PutBlob space hash size) body _ _ (stores c e k t) (stores d f l u) = ap (put_blob space) (content_once c d (e ∙ sym f) k l)
asks_once (PutBlob space hash size) body _ _ (stores c e k t) (mismatches u) = absurd (let g : true ≡ false = sym t ∙ u in cc)
asks_once (PutBlob space hash size) body _ _ (mismatches t) (stores d f l u) = absurd (let g : true ≡ false = sym u ∙ t in cc)
asks_once (PutBlob space hash size) body _ _ (mismatches t) (mismatches u) = refl
asks_once (GetBlob space hash) body _ _ fetches fetches = refl
asks_once (PutRef name size) body _ _ (puts c e k o) (puts d f l p) = ap (put_ref name) (content_once c d (e ∙ sym f) k l)
asks_once (PutRef name size) body _ _ (puts c e k o) (breaks {at = at} h) = absurd (fault_is_no_object body at h c.links (object_at c body e k o))
asks_once (PutRef name size) body _ _ (breaks {at = at} h) (puts d f l p) = absurd (fault_is_no_object body at h d.links (object_at d body f l p))
asks_once (PutRef name size) body _ _ (breaks {at = a} h) (breaks {at = b} g) = ap not_object (one_fault body a b h g)
asks_once (GetRef name) body _ _ reads reads = refl
asks_once (Finalise name hash) body _ _ finalises finalises = refl

pub spells_unique : (t u r q : List ℕ) (i j : Item) → IsRequestText t i → IsRequestText u j → t ++ r ≡ u ++ q → SameItem r q i j
spells_unique t u r q i j s z e =
    let left = after_head (t ++ r) t r i s refl in
    let right = after_head (t ++ r) u q j z e in
    let same = request_unique (t ++ r) s.head z.head (s.body ++ r) (z.body ++ q) (s.is_head.valid, left) (z.is_head.valid, right) in
    let asks : Some s.form ≡ Some z.form = sym s.asks ∙ ap form_of_head same.0 ∙ z.asks in
    let forms : s.form ≡ z.form = cc in
    let long : length z.body ≡ length s.body = z.whole ∙ ap body_length (sym forms) ∙ sym s.whole in
    let bodies : s.body ≡ z.body = sym (take_at s.body r (length s.body) refl) ∙ ap (take (length s.body)) same.1 ∙ take_at z.body q (length s.body) long in
    record {
      rest = sym (drop_at s.body r (length s.body) refl) ∙ ap (drop (length s.body)) same.1 ∙ drop_at z.body q (length s.body) long;
      item = asks_once z.form z.body i j (subst (λ (b : List ℕ). Asks b z.form i) bodies (subst (λ (f : RequestForm). Asks s.body f i) forms s.item_is)) z.item_is;
    }

-- a request has a head, which has a byte
longer : (a b c : List ℕ) → 0 < length b → a ++ (b ++ c) ≡ [] → ⊥
longer a b c full e =
    let total : length a + length (b ++ c) ≡ 0 = sym (length-append a (b ++ c)) ∙ ap length e in
    let part = length-append b c in
    omega arith

-- no whole request stands where a stream has ended
pub no_item-at_end : (count : ℕ) (rest : List ℕ) (end : End) → count < most_items → EndsAs count rest end → HasNoRequestText rest
no_item-at_end count rest closed few h item text tail s e =
    let split = after_head rest text tail item s e in
    longer _ s.head.method _ s.is_head.valid.method.0 (sym (print_request-append s.head (s.body ++ tail)) ∙ sym split ∙ h.1)
no_item-at_end count rest cut few (_, inl h) item text tail s e = h.1 s.head (s.body ++ tail) s.is_head (after_head rest text tail item s e)
no_item-at_end count rest cut few (_, inr h) item text tail s e =
    let split = after_head rest text tail item s e in
    let same = request_unique rest h.head s.head h.rest (s.body ++ tail) (h.is_head.valid, h.spelled) (s.is_head.valid, split) in
    let asks : Some h.form ≡ Some s.form = sym h.asks ∙ ap form_of_head same.0 ∙ s.asks in
    let forms : h.form ≡ s.form = cc in
    let long : length h.rest ≡ length s.body + length tail = ap length same.1 ∙ length-append s.body tail in
    let body : length s.body ≡ body_length h.form = s.whole ∙ ap body_length (sym forms) in
    let lacks = h.lacks in
    absurd (omega arith)
no_item-at_end count rest unread few (_, inl h) item text tail s e = h [] s.head (s.body ++ tail) s.is_head (append-nil rest ∙ after_head rest text tail item s e)
no_item-at_end count rest unread few (_, inr h) item text tail s e =
    let same = request_unique rest h.head s.head h.rest (s.body ++ tail) (h.is_head.valid, h.spelled) (s.is_head.valid, after_head rest text tail item s e) in
    let asks : None ≡ Some s.form = sym h.asks ∙ ap form_of_head same.0 ∙ s.asks in
    cc
no_item-at_end count rest spent few h item text tail s e = absurd (omega arith)

counted : (count : ℕ) (rest : List ℕ) (end : End) → EndsAs count rest end → count ≤ most_items
counted count rest closed h = omega (arith, h.0)
counted count rest cut h = omega (arith, h.0)
counted count rest unread h = omega (arith, h.0)
counted count rest spent h = omega (arith, h)

pub record SameItems (xs ys : List Item) (r q : List ℕ) : Type 0 where
  pub items : xs ≡ ys
  pub rest : r ≡ q

pub begins_unique : (items others : List Item) (bytes r q : List ℕ) (base : ℕ) (end other : End)
    → Begins bytes items r → Begins bytes others q → EndsAs (base + length items) r end → EndsAs (base + length others) q other → SameItems items others r q
begins_unique [] [] bytes r q base end other x y e f = record { items = refl; rest = sym x ∙ y }
begins_unique [] (j ∷ js) bytes r q base end other x (u, tail, split, z, more) e f =
    let most = counted _ q other f in
    absurd (no_item-at_end (base + 0) r end (omega arith) e j u tail z (sym x ∙ split))
begins_unique (i ∷ is) [] bytes r q base end other (t, tail, split, s, more) y e f =
    let most = counted _ r end e in
    absurd (no_item-at_end (base + 0) q other (omega arith) f i t tail s (sym y ∙ split))
begins_unique (i ∷ is) (j ∷ js) bytes r q base end other (t, left, split, s, more) (u, right, divided, z, rest) e f =
    let same = spells_unique t u left right i j s z (sym split ∙ divided) in
    let E : ℕ → Type 0 = λ n. EndsAs n r end in
    let F : ℕ → Type 0 = λ n. EndsAs n q other in
    let one_more : (n : ℕ) → base + suc n ≡ base + 1 + n = λ n. omega arith in
    let tails = begins_unique is js left r q (base + 1) end other more (subst (λ (l : List ℕ). Begins l js q) (sym same.rest) rest) (subst E (one_more (length is)) e) (subst F (one_more (length js)) f) in
    record { items = ap (λ (x : Item). x ∷ is) same.item ∙ ap (λ (l : List Item). j ∷ l) tails.items; rest = tails.rest }

-- a head is not empty
full : (head : RequestHead) (rest : List ℕ) → IsHead head → print_request head ++ rest ≡ [] → ⊥
full head rest h e = longer _ head.method _ h.valid.method.0 (sym (print_request-append head rest) ∙ e)

-- `A / HTTP/1.1` and no field
shortest : RequestHead
shortest = record { blank = []; method = 65 ∷ []; target = 47 ∷ []; minor = 1; line_end = lf; fields = []; last = lf }

length-shortest : length (print_request shortest) ≡ 14
unfolding shortest print_request
length-shortest = refl

shortest_is_head : IsHead shortest
unfolding shortest
shortest_is_head = record {
  valid = record {
    method = (omega arith, All-push (λ b. is_token_byte b ≡ true) [] 65 (All-nil _) letter_is_token);
    target = (omega arith, All-push (λ b. is_uri_byte b ≡ true) [] 47 (All-nil _) refl);
    target_text = IsUtf8-from_ascii _ (IsAscii-cons 47 [] (omega arith) IsAscii-nil);
    minor = omega arith;
    fields = All-nil _;
  };
  few = omega arith;
  short = let e = length-shortest in omega arith;
}

closed_alone : (count : ℕ) (rest : List ℕ) (other : End) → rest ≡ [] → count < most_items → EndsAs count rest other → SameEnd rest closed other
closed_alone count rest closed e few h = same closed
closed_alone count rest cut e few (_, inl h) = let z : length rest ≡ 0 = ap length e in let p = h.0 in absurd (omega arith)
closed_alone count rest cut e few (_, inr h) = absurd (full h.head h.rest h.is_head (sym h.spelled ∙ e))
closed_alone count rest unread e few (_, inl h) = absurd (h (print_request shortest) shortest [] shortest_is_head (ap (λ l. l ++ print_request shortest) e ∙ sym (append-nil (print_request shortest))))
closed_alone count rest unread e few (_, inr h) = absurd (full h.head h.rest h.is_head (sym h.spelled ∙ e))
closed_alone count rest spent e few h = absurd (omega (arith, h))

turned : (rest : List ℕ) (end other : End) → SameEnd rest end other → SameEnd rest other end
turned rest end other (same e) = same e
turned rest end other (hopeless_cut h) = hopeless_unread h
turned rest end other (hopeless_unread h) = hopeless_cut h

-- an end inside a request, and a request that isn't read
cut_or_unread : (rest : List ℕ) → IsCut rest → IsUnread rest → SameEnd rest cut unread
cut_or_unread rest (inl h) (inl never) = hopeless_cut never
cut_or_unread rest (inl h) (inr other) = absurd (h.1 other.head other.rest other.is_head other.spelled)
cut_or_unread rest (inr h) (inl never) = hopeless_cut never
cut_or_unread rest (inr h) (inr other) =
    let same = request_unique rest h.head other.head h.rest other.rest (h.is_head.valid, h.spelled) (other.is_head.valid, other.spelled) in
    let asks : Some h.form ≡ None = sym h.asks ∙ ap form_of_head same.0 ∙ other.asks in
    cc

same_end : (count : ℕ) (rest : List ℕ) (end other : End) → EndsAs count rest end → EndsAs count rest other → SameEnd rest end other
same_end count rest closed other e f = closed_alone count rest other e.1 e.0 f
same_end count rest end closed e f = turned rest closed end (closed_alone count rest end f.1 f.0 e)
same_end count rest cut cut e f = same cut
same_end count rest cut unread e f = cut_or_unread rest e.1 f.1
same_end count rest cut spent e f = absurd (omega (arith, e.0, f))
same_end count rest unread cut e f = turned rest cut unread (cut_or_unread rest f.1 e.1)
same_end count rest unread unread e f = same unread
same_end count rest unread spent e f = absurd (omega (arith, e.0, f))
same_end count rest spent cut e f = absurd (omega (arith, e, f.0))
same_end count rest spent unread e f = absurd (omega (arith, e, f.0))
same_end count rest spent spent e f = same spent

-- what is left after the items is what stands after their bytes
begins_front : (items : List Item) (bytes rest : List ℕ) → Begins bytes items rest → (front : List ℕ) × (bytes ≡ front ++ rest)
begins_front [] bytes rest h = ([], h)
begins_front (item ∷ items) bytes rest (text, tail, split, spells, more) =
    let (front, after) = begins_front items tail rest more in
    (text ++ front, split ∙ ap (λ l. text ++ l) after ∙ sym (append_assoc text front rest))

rest_at : (bytes : List ℕ) (items : List Item) (at : ℕ) (end : End) (h : Cuts bytes items at end) → drop at bytes ≡ h.rest
rest_at bytes items at end h =
    let (front, split) = begins_front items bytes h.rest h.begins in
    let total : length bytes ≡ length front + length h.rest = ap length split ∙ length-append front h.rest in
    let place = h.place in
    let long : length front ≡ at = omega arith in
    ap (drop at) split ∙ drop_at front h.rest at long

pub one_cut : OneCut
one_cut bytes items others a b end other x y =
    let both = begins_unique items others bytes x.rest y.rest 0 end other x.begins y.begins (subst (λ (n : ℕ). EndsAs n x.rest end) (sym (zero-add (length items))) x.ends) (subst (λ (n : ℕ). EndsAs n y.rest other) (sym (zero-add (length others))) y.ends) in
    let counts : length others ≡ length items = ap length (sym both.items) in
    let there : EndsAs (length items) x.rest other = subst (λ (n : ℕ). EndsAs n x.rest other) counts (subst (λ (l : List ℕ). EndsAs (length others) l other) (sym both.rest) y.ends) in
    let left = x.place in
    let right = y.place in
    let long : length x.rest ≡ length y.rest = ap length both.rest in
    record {
      items = both.items;
      place = omega arith;
      end = subst (λ (l : List ℕ). SameEnd l end other) (sym (rest_at bytes items a end x)) (same_end (length items) x.rest end other x.ends there);
    }
