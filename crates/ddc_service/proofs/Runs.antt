-- A run of turns, and how each end of it follows.
use Rattle.std.proofs.Common.{◌≡◌, ℕ, ◌≤◌, ◌<◌, ◌+◌, ◌*◌, Bool, true, false, List, [], ◌∷◌, ◌++◌, length, refl, sym, ap, ◌∙◌, subst, append_assoc, append-nil, arith, Option, Some, None, IfSome, inl, inr, length-append}
use Rattle.std.specs.Io.KnownBytes.{Keeps, Appends, Consumes}
use Rattle.std.proofs.KnownBytes.{Appends-trans, Appends-kept, Consumes-trans}
use Rattle.ddc_protocol.specs.Requests.{Item, Begins, IsRequestText, EndsAs, IsUnread, IsCut, End, closed, cut, unread, spent, most_items}
use Rattle.ddc_protocol.specs.Replies.{unread_reply}
use Rattle.ddc_http.specs.Reader.{Ahead, stream_ahead, bytes_of_ahead}
use Rattle.ddc_service.specs.declared.session.SessionEnd.{SessionEnd}
use Rattle.ddc_service.specs.declared.session.SessionEnd.TheVariants.{Closed, Unread, Cut, Spent, ReadFailed, WriteFailed, DiskFailed, Damaged, NoMemory}
use Rattle.ddc_service.specs.declared.session.Turn.TheVariants.{Over}
use Rattle.ddc_service.specs.declared.session.Turn.TheVariants as turns
use Rattle.ddc_service.specs.Effects.{Effect, Bytes}
use Rattle.ddc_service.specs.Replies.{OpenStore, IsReplyAt, FailsAt, closes, Runs, last_text, failed_reply}
use Rattle.ddc_service.specs.Session.{Session, HasCut, AllReplies, StartsAs, AnsweredFront, OneMore, OneFailure, IsSession}
use Rattle.ddc_service.specs.inside.Turns.{Reading, TookItem, TurnAs}
use Rattle.ddc_service.proofs.Writing.{front_after}
use Rattle.ddc_service.proofs.Turning.{appends_none}
use Rattle.ddc_service.proofs.Bounds.{length-text}

begins_more : (items : List Item) (front mid rest : List ℕ) → Begins front items mid → Begins (front ++ rest) items (mid ++ rest)
begins_more [] front mid rest h = ap (λ l. l ++ rest) h
begins_more (item ∷ items) front mid rest (text, tail, split, spells, more) =
    (text, tail ++ rest, ap (λ l. l ++ rest) split ∙ append_assoc text tail rest, spells, begins_more items tail mid rest more)

begins_snoc : (items : List Item) (item : Item) (bytes text rest : List ℕ) → Begins bytes items (text ++ rest) → IsRequestText text item → Begins bytes (items ++ item ∷ []) rest
begins_snoc [] item bytes text rest h s = (text, rest, h, s, refl)
begins_snoc (first ∷ items) item bytes text rest (t, tail, split, spells, more) s = (t, tail, split, spells, begins_snoc items item tail text rest more s)

-- the replies so far, and one more
runs_snoc : (told : Option ℕ) (count : ℕ) (items : List Item) (item : Item) (text more : List ℕ) (a b c : OpenStore)
    → Runs told count a items text b → IsReplyAt told false (closes (count + length items)) b item more c → Runs told count a (items ++ item ∷ []) (text ++ more) c
runs_snoc told count [] item text more a b c (e, same) answers =
    let here : count + 0 ≡ count = omega arith in
    let moved = subst (λ (from : OpenStore). IsReplyAt told false (closes count) from item more c) same (subst (λ (n : ℕ). IsReplyAt told false (closes n) b item more c) here answers) in
    (more, [], c, moved, (refl, refl), ap (λ l. l ++ more) e ∙ sym (append-nil more))
runs_snoc told count (head ∷ items) item text more a b c (first, others, between, answered, after, split) answers =
    let place : count + length (head ∷ items) ≡ count + 1 + length items = omega arith in (
      first,
      others ++ more,
      between,
      answered,
      runs_snoc told (count + 1) items item others more between b c after (subst (λ (n : ℕ). IsReplyAt told false (closes n) b item more c) place answers),
      ap (λ l. l ++ more) split ∙ append_assoc first others more,
    )

-- the items so far
pub record SoFar (told : Option ℕ) (input : Bytes) (here : Ahead) (old now : Bytes) (start next : OpenStore) (count place : ℕ) : Type 0 where
  pub items : List Item
  pub front : List ℕ
  pub text : List ℕ
  pub begins : Begins front items []
  pub consumed : Consumes input (bytes_of_ahead here) front
  pub runs : Runs told 0 start items text next
  pub wrote : Appends old now text
  pub counted : length items ≡ count
  pub placed : place ≡ length front
  pub bounded : length front ≤ count * 67125248

consumes_none : (input : Bytes) → Consumes input (bytes_of_ahead (stream_ahead [] input)) []
consumes_none None = tt
consumes_none (Some bytes) = refl

pub at_start : (told : Option ℕ) (input old : Bytes) (start : OpenStore) (held : List ℕ) (place : ℕ) → held ≡ [] → place ≡ 0 → SoFar told input (stream_ahead held input) old old start start 0 place
at_start told input old start held place bare is = record {
  items = [];
  front = [];
  text = [];
  begins = refl;
  consumed = subst (λ (bytes : List ℕ). Consumes input (bytes_of_ahead (stream_ahead bytes input)) []) (sym bare) (consumes_none input);
  runs = (refl, refl);
  wrote = appends_none old;
  counted = refl;
  placed = is;
  bounded = omega arith;
}

-- one item more, answered
runs_more : (told : Option ℕ) (items : List Item) (item : Item) (text more : List ℕ) (a b c : OpenStore) (close : Bool) (count : ℕ) → close ≡ closes count → length items ≡ count
    → Runs told 0 a items text b → IsReplyAt told false close b item more c → Runs told 0 a (items ++ item ∷ []) (text ++ more) c
runs_more told items item text more a b c close count last counted runs answers =
    let here : count ≡ 0 + length items = omega arith in
    runs_snoc told 0 items item text more a b c runs (subst (λ (l : Bool). IsReplyAt told false l b item more c) (last ∙ ap closes here) answers)

has_cut : (input ahead : Bytes) (front : List ℕ) (items : List Item) (at : ℕ) (end : End) → Consumes input ahead front → Begins front items [] → at ≡ length front → IfSome ahead (λ rest. EndsAs (length items) rest end) → HasCut input items at end
has_cut None ahead front items at end c b p e = tt
has_cut (Some x) None front items at end c b p e = absurd c
has_cut (Some x) (Some y) front items at end c b p e = record {
  rest = y;
  begins = subst (λ (bytes : List ℕ). Begins bytes items y) (sym c) (begins_more items front [] y b);
  place = let total : length x ≡ length front + length y = ap length c ∙ length-append front y in omega arith;
  ends = e;
}

starts_as : (input ahead : Bytes) (front : List ℕ) (items : List Item) → Consumes input ahead front → Begins front items [] → StartsAs input items
starts_as None ahead front items c b = tt
starts_as (Some x) None front items c b = absurd c
starts_as (Some x) (Some y) front items c b = (y, subst (λ (bytes : List ℕ). Begins bytes items y) (sym c) (begins_more items front [] y b))

with_count : (ahead : Bytes) (P : List ℕ → Type 0) (count : ℕ) → count < most_items → IfSome ahead P → IfSome ahead (λ rest. (count < most_items) × P rest)
with_count None P count few h = tt
with_count (Some x) P count few h = (few, h)

always : (ahead : Bytes) (count : ℕ) → count ≡ most_items → IfSome ahead (λ rest. count ≡ most_items)
always None count e = tt
always (Some x) count e = e

-- what a turn does with which a session ends, up to there
abbrev pub turn_reading : Session → Ahead → List ℕ → ℕ → ℕ → Reading
turn_reading s here held from to = record { old = here; new = stream_ahead held s.source.after; place = from; place_after = to }

abbrev pub turn_sink : Session → Bytes → ℕ → Effect Bytes
turn_sink s mid faults = record { before = mid; after = s.sink.after; faults_before = faults; faults_after = s.sink.faults_after }

-- one turn after the items so far
module _ (s : Session) (here : Ahead) (held : List ℕ) (mid : Bytes) (faults : ℕ) (at : OpenStore) (count from to : ℕ) (close : Bool) (few : count < most_items) (last : close ≡ closes count)
    (far : SoFar s.hour s.source.before here s.sink.before mid s.store.before at count from) where
  pub so_far_answered : AnsweredFront s.hour s.source.before s.store.before far.items far.text at
  so_far_answered = let counted = far.counted in record { begins = starts_as s.source.before (bytes_of_ahead here) far.front far.items far.consumed far.begins; few = omega arith; runs = far.runs }

  pub few_so_far : length far.items < most_items
  few_so_far = let counted = far.counted in omega arith

  module _ (item : Item) (took : TookItem (turn_reading s here held from to) item) where
    pub begun : Begins (far.front ++ took.0) (far.items ++ item ∷ []) []
    begun = begins_snoc far.items item (far.front ++ took.0) took.0 [] (subst (λ (r : List ℕ). Begins (far.front ++ took.0) far.items r) (sym (append-nil took.0)) (begins_more far.items far.front [] took.0 far.begins)) took.1

    pub one_begins : StartsAs s.source.before (far.items ++ item ∷ [])
    one_begins = starts_as s.source.before (bytes_of_ahead (stream_ahead held s.source.after)) (far.front ++ took.0) (far.items ++ item ∷ []) (Consumes-trans s.source.before (bytes_of_ahead here) (bytes_of_ahead (stream_ahead held s.source.after)) far.front took.0 far.consumed took.2) begun

    one_more : (damaged : Bool) (more : List ℕ) → IsReplyAt s.hour damaged close at item more s.store.after → OneMore s.hour s.source.before s.store.before s.store.after damaged far.text more
    one_more damaged more answers = record {
      items = far.items;
      between = at;
      answered = so_far_answered;
      few = few_so_far;
      item = item;
      begins = one_begins;
      answers = subst (λ (l : Bool). IsReplyAt s.hour damaged l at item more s.store.after) (last ∙ ap closes (sym far.counted)) answers;
    }

    -- an answer that says nothing of damage makes the items one more
    pub then_answered : (next : OpenStore) (more : List ℕ) → IsReplyAt s.hour false close at item more next → AnsweredFront s.hour s.source.before s.store.before (far.items ++ item ∷ []) (far.text ++ more) next
    then_answered next more answers =
        let counted = far.counted in
        let long = length-append far.items (item ∷ []) in
        record { begins = one_begins; few = omega arith; runs = runs_more s.hour far.items item far.text more s.store.before at next close count last far.counted far.runs answers }

    abbrev pub one_failure : FailsAt s.hour at item s.store.after → OneFailure s.hour s.source.before s.store.before s.store.after far.text
    one_failure failure = record { items = far.items; between = at; answered = so_far_answered; few = few_so_far; item = item; begins = one_begins; failure = failure }

  stays : s.store.after ≡ at → Runs s.hour 0 s.store.before far.items far.text s.store.after
  stays same = subst (λ (store : OpenStore). Runs s.hour 0 s.store.before far.items far.text store) (sym same) far.runs

  pub extends : TurnAs s.hour (turn_reading s here held from to) close (turn_sink s mid faults) at s.store.after turns.Answered → SoFar s.hour s.source.before (stream_ahead held s.source.after) s.sink.before s.sink.after s.store.before s.store.after (count + 1) to
  extends (more, (item, took, answers), wrote) =
      let long = length-text took.0 item took.1 in
      let bounded = far.bounded in
      let placed = far.placed in
      let total = length-append far.front took.0 in
      let place = took.3 in
      record {
        items = far.items ++ item ∷ [];
        front = far.front ++ took.0;
        text = far.text ++ more;
        begins = begun item took;
        consumed = Consumes-trans s.source.before (bytes_of_ahead here) (bytes_of_ahead (stream_ahead held s.source.after)) far.front took.0 far.consumed took.2;
        runs = runs_more s.hour far.items item far.text more s.store.before at s.store.after close count last far.counted far.runs answers;
        wrote = Appends-trans s.sink.before mid s.sink.after far.text more far.wrote wrote;
        counted = length-append far.items (item ∷ []) ∙ ap (λ n. n + 1) far.counted;
        placed = omega arith;
        bounded = omega arith;
      }

  quiet : (place : ℕ) (end : End) → place ≡ from → last_text end ≡ [] → IfSome (bytes_of_ahead here) (λ rest. EndsAs (length far.items) rest end) → Keeps mid s.sink.after → s.store.after ≡ at → AllReplies s place end
  quiet place end e none ended kept same = (
    far.items,
    far.text,
    has_cut s.source.before (bytes_of_ahead here) far.front far.items place end far.consumed far.begins (e ∙ far.placed) ended,
    stays same,
    subst (Appends s.sink.before s.sink.after) (sym (append-nil far.text) ∙ ap (λ l. far.text ++ l) (sym none)) (Appends-kept s.sink.before mid s.sink.after far.text far.wrote kept),
  )

  counts : (P : List ℕ → Type 0) → IfSome (bytes_of_ahead here) P → IfSome (bytes_of_ahead here) (λ rest. (length far.items < most_items) × P rest)
  counts P h = let counted = far.counted in with_count (bytes_of_ahead here) P (length far.items) (omega arith) h

  pub ends : (end : SessionEnd) → TurnAs s.hour (turn_reading s here held from to) close (turn_sink s mid faults) at s.store.after (Over end) → IsSession s end
  ends Closed (none, end, kept, same) = (from, quiet from closed refl refl (counts (λ rest. rest ≡ []) none) kept same, end)
  ends (Unread place) (is_unread, is, wrote, same) = (
    far.items,
    far.text,
    has_cut s.source.before (bytes_of_ahead here) far.front far.items place unread far.consumed far.begins (is ∙ far.placed) (counts IsUnread is_unread),
    stays same,
    Appends-trans s.sink.before mid s.sink.after far.text unread_reply far.wrote wrote,
  )
  ends (Cut place) (is_cut, is, kept, same) = quiet place cut is refl (counts IsCut is_cut) kept same
  ends (Spent place) h = absurd h
  ends ReadFailed ((part, lost, none), kept, same) = (
    far.items,
    far.text,
    far.front ++ part,
    part,
    Consumes-trans s.source.before (bytes_of_ahead here) s.source.after far.front part far.consumed lost,
    begins_more far.items far.front [] part far.begins,
    few_so_far,
    none,
    stays same,
    Appends-kept s.sink.before mid s.sink.after far.text far.wrote kept,
  )
  ends WriteFailed (inl (damaged, more, (item, took, answers), wrote)) = inl (damaged, far.text, more, one_more item took damaged more answers, front_after s.sink.before mid s.sink.after far.text more far.wrote wrote)
  ends WriteFailed (inr (is_unread, wrote, same)) = inr (
    far.items,
    far.text,
    from,
    has_cut s.source.before (bytes_of_ahead here) far.front far.items from unread far.consumed far.begins far.placed (counts IsUnread is_unread),
    stays same,
    front_after s.sink.before mid s.sink.after far.text unread_reply far.wrote wrote,
  )
  ends DiskFailed (item, took, failure, wrote) = (far.text, one_failure item took failure, front_after s.sink.before mid s.sink.after far.text failed_reply far.wrote wrote)
  ends Damaged (more, (item, took, answers), wrote) = (far.text, more, one_more item took true more answers, front_after s.sink.before mid s.sink.after far.text more far.wrote wrote)
  ends NoMemory (kept, inl same) = (
    far.text,
    Appends-kept s.sink.before mid s.sink.after far.text far.wrote kept,
    inl (far.items, subst (λ (store : OpenStore). AnsweredFront s.hour s.source.before s.store.before far.items far.text store) (sym same) so_far_answered),
  )
  ends NoMemory (kept, inr (more, (item, took, answers))) = (far.text, Appends-kept s.sink.before mid s.sink.after far.text far.wrote kept, inr (more, one_more item took false more answers))

-- as many turns as there may be
pub spends : (s : Session) (here : Ahead) (place : ℕ) → SoFar s.hour s.source.before here s.sink.before s.sink.after s.store.before s.store.after 10000 place → IsSession s (Spent place)
spends s here place far = (
  far.items,
  far.text,
  has_cut s.source.before (bytes_of_ahead here) far.front far.items place spent far.consumed far.begins far.placed (always (bytes_of_ahead here) (length far.items) far.counted),
  far.runs,
  subst (Appends s.sink.before s.sink.after) (sym (append-nil far.text)) far.wrote,
)
