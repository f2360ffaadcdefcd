-- What one turn of a session reads and writes.
use Rattle.std.specs.Prelude.{◌≡◌, ◌⊎◌, ℕ, Bool, true, false, List, [], Option, IfSome}
use Rattle.std.specs.Io.KnownBytes.{Keeps, Appends, IsAtEnd}
use Rattle.ddc_link.specs.Writes.{AppendsFront}
use Rattle.ddc_disk.specs.Disk.{Meaning}
use Rattle.ddc_book.specs.View.{BookView}
use Rattle.ddc_protocol.specs.Requests.{Item, IsUnread, IsCut}
use Rattle.ddc_protocol.specs.Replies.{unread_reply}
use Rattle.ddc_http.specs.Reader.{Ahead, bytes_of_ahead, TakesRequest, LosesPart}
use Rattle.ddc_http.specs.Stream.{ahead_of, place_of}
use Rattle.ddc_http.specs.declared.stream.RequestReader.{RequestReader}
use Rattle.ddc_service.specs.declared.session.SessionEnd.TheVariants.{Closed, Unread, Cut, Spent, ReadFailed, WriteFailed, DiskFailed, Damaged, NoMemory}
use Rattle.ddc_service.specs.declared.session.Turn.{Turn}
use Rattle.ddc_service.specs.declared.session.Turn.TheVariants.{Answered, Over}
use Rattle.ddc_service.specs.Effects.{Effect, Bytes, Rises, MeetsNoFault}
use Rattle.ddc_service.specs.Replies.{OpenStore, IsReplyAt, FailsAt, failed_reply}
use Rattle.ddc_service.specs.Session.{store_of}
use Rattle.ddc_service.specs.inside.Writes.{SinkCounts, Goes}

-- what stands ahead of a reader before a turn and after it, and the places
pub record Reading : Type 0 where
  pub old : Ahead
  pub new : Ahead
  pub place : ℕ
  pub place_after : ℕ

abbrev pub reading : {S : Type 0} → (S → Bytes) → RequestReader S → RequestReader S → Reading
reading left old new = record { old = ahead_of left old; new = ahead_of left new; place = place_of old; place_after = place_of new }

-- a turn took this item
abbrev pub TookItem : Reading → Item → Type 0
TookItem r item = TakesRequest (bytes_of_ahead r.old) (bytes_of_ahead r.new) r.place r.place_after item

-- an item was taken, and its reply is this text
abbrev pub TookAndReplied : Option ℕ → Reading → Bool → Bool → OpenStore → OpenStore → List ℕ → Type 0
TookAndReplied told r damaged close store next text = (item : Item) × TookItem r item × IsReplyAt told damaged close store item text next

-- one turn
abbrev pub TurnAs : Option ℕ → Reading → Bool → Effect Bytes → OpenStore → OpenStore → Turn → Type 0
TurnAs told r close sink store next Answered = (text : List ℕ) × TookAndReplied told r false close store next text × Appends sink.before sink.after text
TurnAs told r close sink store next (Over Closed) = IfSome (bytes_of_ahead r.old) (λ bytes. bytes ≡ []) × IsAtEnd r.new.left × Keeps sink.before sink.after × (next ≡ store)
TurnAs told r close sink store next (Over (Unread at)) = IfSome (bytes_of_ahead r.old) IsUnread × (at ≡ r.place) × Appends sink.before sink.after unread_reply × (next ≡ store)
TurnAs told r close sink store next (Over (Cut at)) = IfSome (bytes_of_ahead r.old) IsCut × (at ≡ r.place) × Keeps sink.before sink.after × (next ≡ store)
TurnAs told r close sink store next (Over (Spent at)) = ⊥
TurnAs told r close sink store next (Over ReadFailed) = LosesPart (bytes_of_ahead r.old) r.new.left × Keeps sink.before sink.after × (next ≡ store)
TurnAs told r close sink store next (Over WriteFailed) =
    ((damaged : Bool) × (text : List ℕ) × TookAndReplied told r damaged close store next text × AppendsFront sink.before sink.after text)
    ⊎ (IfSome (bytes_of_ahead r.old) IsUnread × AppendsFront sink.before sink.after unread_reply × (next ≡ store))
TurnAs told r close sink store next (Over DiskFailed) = (item : Item) × TookItem r item × FailsAt told store item next × AppendsFront sink.before sink.after failed_reply
TurnAs told r close sink store next (Over Damaged) = (text : List ℕ) × TookAndReplied told r true close store next text × AppendsFront sink.before sink.after text
TurnAs told r close sink store next (Over NoMemory) = Keeps sink.before sink.after × ((next ≡ store) ⊎ ((text : List ℕ) × TookAndReplied told r false close store next text))

-- how the devices go on: not at all, to the state after the turn, or where they failed, to the one that the item leads to
abbrev pub TurnGoes : {D : Type 0} → Bool → (D → Meaning) → Option ℕ → Reading → BookView D → BookView D → Turn → Type 0
TurnGoes tells meaning told r book next (Over DiskFailed) =
    (item : Item) × TookItem r item × (failure : FailsAt told (store_of book) item (store_of next)) × Goes tells meaning book failure.final.cache next
TurnGoes tells meaning told r book next other = (next ≡ book) ⊎ Goes tells meaning book next.cache next

-- the counts of faults of the source and of the sink
abbrev pub TurnCounts : Effect Bytes → Effect Bytes → Turn → Type 0
TurnCounts source sink (Over ReadFailed) = Rises source × MeetsNoFault sink
TurnCounts source sink turn = MeetsNoFault source × SinkCounts sink turn
