-- What a session writes and leaves, by what it reads.
use Rattle.std.specs.Prelude.{◌⊎◌, ℕ, ◌≤◌, ◌<◌, Bool, true, false, IsTrue, List, [], ◌∷◌, ◌++◌, length, Option, IfSome}
use Rattle.std.specs.Io.KnownBytes.{Appends, Consumes, IsAtEnd}
use Rattle.ddc_link.specs.Writes.{AppendsFront}
use Rattle.ddc_disk.specs.Disk.{Meaning, Timeline, EachImage}
use Rattle.ddc_disk.specs.Images.{Images}
use Rattle.ddc_model.specs.declared.rows.Limits.{Limits}
use Rattle.ddc_model.specs.Sound.{IsSound}
use Rattle.ddc_model.specs.History.{past_of}
use Rattle.ddc_book.specs.Calls.{OpensWhole}
use Rattle.ddc_book.specs.View.{BookView, limits_of, book_line}
use Rattle.ddc_protocol.specs.Requests.{Item, Begins, Cuts, HasNoRequestText, End, closed, cut, unread, spent, most_items}
use Rattle.ddc_protocol.specs.Replies.{unread_reply}
use Rattle.ddc_service.specs.declared.session.SessionEnd.{SessionEnd}
use Rattle.ddc_service.specs.declared.session.SessionEnd.TheVariants.{Closed, Unread, Cut, Spent, ReadFailed, WriteFailed, DiskFailed, Damaged, NoMemory}
use Rattle.ddc_service.specs.Effects.{Effect, Bytes, Rises, MeetsNoFault}
use Rattle.ddc_service.specs.Replies.{OpenStore, IsReplyAt, FailsAt, closes, Runs, last_text, failed_reply}

-- a book as a stream sees it
abbrev pub store_of : {D : Type 0} → BookView D → OpenStore
store_of book = record { cache = book.cache; past = past_of book.steps }

-- the clock's hour, where the clock tells it, and what the session did to its source, to its sink and to its store
pub record Session : Type 0 where
  pub hour : Option ℕ
  pub source : Effect Bytes
  pub sink : Effect Bytes
  pub store : Effect OpenStore

abbrev pub session : Option ℕ → Effect Bytes → Effect Bytes → Effect OpenStore → Session
session hour source sink store = record { hour = hour; source = source; sink = sink; store = store }

-- the bytes of the input, where it tells them, are these items, and this end after `at` bytes
abbrev pub HasCut : Bytes → List Item → ℕ → End → Type 0
HasCut input items at end = IfSome input (λ bytes. Cuts bytes items at end)

-- the input begins with these items
abbrev pub StartsAs : Bytes → List Item → Type 0
StartsAs input items = IfSome input (λ bytes. (rest : List ℕ) × Begins bytes items rest)

-- the first items of the input, the texts of their replies, and the store after them
pub record AnsweredFront (told : Option ℕ) (input : Bytes) (start : OpenStore) (items : List Item) (text : List ℕ) (next : OpenStore) : Type 0 where
  pub begins : StartsAs input items
  pub few : length items ≤ most_items
  pub runs : Runs told 0 start items text next

-- the reply to one item more
pub record OneMore (told : Option ℕ) (input : Bytes) (start final : OpenStore) (damaged : Bool) (text more : List ℕ) : Type 0 where
  pub items : List Item
  pub between : OpenStore
  pub answered : AnsweredFront told input start items text between
  pub few : length items < most_items
  pub item : Item
  pub begins : StartsAs input (items ++ item ∷ [])
  pub answers : IsReplyAt told damaged (closes (length items)) between item more final

-- the disks failed at one item more
pub record OneFailure (told : Option ℕ) (input : Bytes) (start seen : OpenStore) (text : List ℕ) : Type 0 where
  pub items : List Item
  pub between : OpenStore
  pub answered : AnsweredFront told input start items text between
  pub few : length items < most_items
  pub item : Item
  pub begins : StartsAs input (items ++ item ∷ [])
  pub failure : FailsAt told between item seen

-- the replies to all of the items before the end, and what is written at the end
abbrev pub AllReplies : Session → ℕ → End → Type 0
AllReplies s at end = (items : List Item) × (text : List ℕ) × HasCut s.source.before items at end × Runs s.hour 0 s.store.before items text s.store.after × Appends s.sink.before s.sink.after (text ++ last_text end)

-- the replies to all items that the bytes read hold whole, which are fewer than the most
abbrev pub RepliesToRead : Session → Type 0
RepliesToRead s =
    (items : List Item) × (text : List ℕ) × (read : List ℕ) × (part : List ℕ) × Consumes s.source.before s.source.after read × Begins read items part × (length items < most_items) × HasNoRequestText part
    × Runs s.hour 0 s.store.before items text s.store.after × Appends s.sink.before s.sink.after text

-- a front of the replies to the first items, the last of which may say that a blob is damaged; or of the replies to all
-- items and of the refusal after them
abbrev pub FrontOfReplies : Session → Type 0
FrontOfReplies s =
    ((damaged : Bool) × (text : List ℕ) × (more : List ℕ) × OneMore s.hour s.source.before s.store.before s.store.after damaged text more × AppendsFront s.sink.before s.sink.after (text ++ more))
    ⊎ ((items : List Item) × (text : List ℕ) × (at : ℕ) × HasCut s.source.before items at unread × Runs s.hour 0 s.store.before items text s.store.after × AppendsFront s.sink.before s.sink.after (text ++ unread_reply))

-- the replies to the first items, each whole; the change of one item more may be made
abbrev pub FirstReplies : Session → Type 0
FirstReplies s =
    (text : List ℕ) × Appends s.sink.before s.sink.after text
    × (((items : List Item) × AnsweredFront s.hour s.source.before s.store.before items text s.store.after) ⊎ ((more : List ℕ) × OneMore s.hour s.source.before s.store.before s.store.after false text more))

-- what is written for each end of a session, and the store that it leaves
abbrev pub IsSession : Session → SessionEnd → Type 0
IsSession s Closed = (at : ℕ) × AllReplies s at closed × IsAtEnd s.source.after
IsSession s (Unread at) = AllReplies s at unread
IsSession s (Cut at) = AllReplies s at cut
IsSession s (Spent at) = AllReplies s at spent
IsSession s ReadFailed = RepliesToRead s
IsSession s WriteFailed = FrontOfReplies s
IsSession s DiskFailed = (text : List ℕ) × OneFailure s.hour s.source.before s.store.before s.store.after text × AppendsFront s.sink.before s.sink.after (text ++ failed_reply)
IsSession s Damaged = (text : List ℕ) × (more : List ℕ) × OneMore s.hour s.source.before s.store.before s.store.after true text more × AppendsFront s.sink.before s.sink.after (text ++ more)
IsSession s NoMemory = FirstReplies s

-- the counts of faults, which rise only where that is why the session ends. Where a disk failed or a blob is damaged, the sink
-- may have failed too as that was written. Nothing is said of a source for which there was no memory
abbrev pub CountsAs : Session → SessionEnd → Type 0
CountsAs s ReadFailed = Rises s.source × MeetsNoFault s.sink
CountsAs s WriteFailed = MeetsNoFault s.source × Rises s.sink
CountsAs s DiskFailed = MeetsNoFault s.source × Rises s.store
CountsAs s Damaged = MeetsNoFault s.source
CountsAs s NoMemory = MeetsNoFault s.sink
CountsAs s other = MeetsNoFault s.source × MeetsNoFault s.sink

-- ---- what a crash leaves

-- the devices tell what they hold, and each image now opens to the state of the book, with each blob to its end
abbrev pub OpensNow : {D : Type 0} → Bool → (D → Meaning) → BookView D → Type 0
OpensNow tells meaning book = IsTrue tells × EachImage (book_line meaning book) (λ im. OpensWhole (limits_of book) im book.cache)

-- an image opens to the store after the first items of the input, bytes included; what is sound stays sound
pub record OpensWithin (told : Option ℕ) (input : Bytes) (start : OpenStore) (limits : Limits) (im : Images) : Type 0 where
  pub items : List Item
  pub text : List ℕ
  pub state : OpenStore
  pub answered : AnsweredFront told input start items text state
  pub opens : OpensWhole limits im state.cache
  pub sound : IsSound start.cache → IsSound state.cache

-- where the disks failed, an image after the session opens to the store before the last item or to the one after it
abbrev pub Stops : Session → Timeline Images → Limits → SessionEnd → Type 0
Stops s line limits DiskFailed =
    (text : List ℕ) × (one : OneFailure s.hour s.source.before s.store.before s.store.after text)
    × EachImage line (λ im. OpensWhole limits im one.between.cache ⊎ OpensWhole limits im one.failure.final.cache)
Stops s line limits other = Unit {0}
