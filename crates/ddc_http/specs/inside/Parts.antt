-- What the parts of the reader find and take.
use Rattle.std.specs.Prelude.{◌==◌, ◌≡◌, ℕ, ◌≤◌, ◌<◌, Bool, true, false, List, [], ◌++◌, length, take, drop, Option, Some, None, IfSome, Result, Ok, Err, ⊤}
use Rattle.std.specs.Io.KnownBytes.{Consumes, Keeps, IsAtEnd}
use Rattle.httparse.specs.Grammar.{RequestHead, IsRequestHead, print_request, HasNoRequest}
use Rattle.httparse.specs.Spans.{RequestOverflows}
use Rattle.cb_fields.specs.Fault.{FaultAt}
use Rattle.ddc_protocol.specs.declared.request_form.RequestForm.{RequestForm}
use Rattle.ddc_protocol.specs.HeadForms.{form_of_head}
use Rattle.ddc_protocol.specs.Requests.{IsHead, HasNoHead, NeverHasHead, body_length, mismatch, not_object, Asks, IsUnread, IsCut, HasNoRequestText}
use Rattle.ddc_http.specs.declared.head.Found.{Found}
use Rattle.ddc_http.specs.declared.head.Found.TheVariants.{More, Never, Head}
use Rattle.ddc_http.specs.declared.request.Request.{Request}
use Rattle.ddc_http.specs.declared.request.HttpFault.{HttpFault}
use Rattle.ddc_http.specs.declared.request.HttpFault.TheVariants.{Unread, Cut, HashMismatch, NotAnObject, ReadFailed, NoMemory}
use Rattle.ddc_http.specs.Reader.{Ahead, bytes_of_ahead, asked_item, LosesPart, TakesPieces}

-- the bytes begin with a head of this length, which asks for this
pub record HeadAt (bytes : List ℕ) (len : ℕ) (found : Option RequestForm) : Type 0 where
  pub head : RequestHead
  pub is_head : IsHead head
  pub spelled : bytes ≡ print_request head ++ drop len bytes
  pub long : len ≡ length (print_request head)
  pub within : len ≤ length bytes
  pub asks : found ≡ form_of_head head

-- the same of a window, whose length bounds the head's
pub record HeadOf (window : List ℕ) (len : ℕ) (found : Option RequestForm) : Type 0 where
  pub head : RequestHead
  pub valid : IsRequestHead head
  pub few : length head.fields ≤ 64
  pub spelled : window ≡ print_request head ++ drop len window
  pub long : len ≡ length (print_request head)
  pub within : len ≤ length window
  pub asks : found ≡ form_of_head head

-- what the search for a head says of a window of at most 16,384 bytes
abbrev pub FindsHeadIn : List ℕ → Found → Type 0
FindsHeadIn window More = HasNoRequest window
FindsHeadIn window Never = RequestOverflows 64 window
FindsHeadIn window (Head len asks) = HeadOf window len asks

-- and of all the bytes
abbrev pub FindsHead : List ℕ → Found → Type 0
FindsHead bytes More = HasNoHead bytes × (length bytes < 16384)
FindsHead bytes Never = NeverHasHead bytes
FindsHead bytes (Head len asks) = HeadAt bytes len asks

abbrev pub is_line_feed : ℕ → Bool
is_line_feed byte = byte == 10

-- more pieces: the bytes ahead stay, and more of them are held; where no head can stand there yet, the source is at
-- its end or has failed
abbrev pub FillsAs : Ahead → Ahead → Result Bool HttpFault → Type 0
FillsAs old new (Ok true) = Keeps (bytes_of_ahead old) (bytes_of_ahead new)
FillsAs old new (Ok false) = Keeps (bytes_of_ahead old) (bytes_of_ahead new) × IsAtEnd new.left × HasNoHead new.held
FillsAs old new (Err ReadFailed) = Keeps (bytes_of_ahead old) (bytes_of_ahead new) × HasNoRequestText new.held
FillsAs old new (Err NoMemory) = ⊤
FillsAs old new (Err other) = ⊥

-- the same where all that was taken is held now
abbrev pub HoldsPieces : List ℕ → List ℕ → Option (List ℕ) → Option (List ℕ) → Type 0
HoldsPieces held now before after =
    (front : List ℕ) × (last : List ℕ) × (now ≡ held ++ (front ++ last)) × Consumes before after (front ++ last) × (length last ≤ 16384) × HasNoRequestText (held ++ front)

-- what the filling takes, by its answer
abbrev pub FillsBy : Ahead → Ahead → Result Bool HttpFault → Type 0
FillsBy old new (Ok true) = HoldsPieces old.held new.held old.left new.left
FillsBy old new other = TakesPieces old.held old.left new.left

-- the head at the front of what is held, or why there is none
abbrev pub HeadsAs : Ahead → Ahead → Result (Option (ℕ × RequestForm)) HttpFault → Type 0
HeadsAs old new (Ok (Some found)) = Keeps (bytes_of_ahead old) (bytes_of_ahead new) × HeadAt new.held found.0 (Some found.1)
HeadsAs old new (Ok None) = IfSome (bytes_of_ahead old) (λ bytes. bytes ≡ []) × IsAtEnd new.left
HeadsAs old new (Err Unread) = IfSome (bytes_of_ahead old) IsUnread
HeadsAs old new (Err Cut) = IfSome (bytes_of_ahead old) IsCut
HeadsAs old new (Err ReadFailed) = LosesPart (bytes_of_ahead old) new.left
HeadsAs old new (Err NoMemory) = ⊤
HeadsAs old new (Err other) = ⊥

-- the bytes begin with a head of this length, after which a body of so many bytes stands
pub record BodyAt (bytes : List ℕ) (len size : ℕ) : Type 0 where
  pub form : RequestForm
  pub head_at : HeadAt bytes len (Some form)
  pub states : size ≡ body_length form

-- the whole body after the head, or why it isn't there
abbrev pub BodyAs : Ahead → Ahead → ℕ → ℕ → Result (List ℕ) HttpFault → Type 0
BodyAs old new len size (Ok body) = Consumes (bytes_of_ahead old) (bytes_of_ahead new) (take len old.held ++ body) × (length body ≡ size)
BodyAs old new len size (Err Cut) = IfSome (bytes_of_ahead old) IsCut
BodyAs old new len size (Err ReadFailed) = LosesPart (bytes_of_ahead old) new.left
BodyAs old new len size (Err NoMemory) = ⊤
BodyAs old new len size (Err other) = ⊥

-- what a request of this form asks with this body, or the fault that its body is
abbrev pub AskedAs : RequestForm → List ℕ → Result (Option Request) HttpFault → Type 0
AskedAs form body (Ok (Some request)) = Asks body form (asked_item request)
AskedAs form body (Err (HashMismatch named found)) = Asks body form (mismatch named found)
AskedAs form body (Err (NotAnObject at)) = Asks body form (not_object at)
AskedAs form body (Err NoMemory) = ⊤
AskedAs form body other = ⊥

-- the fault names the place at which a body that is no object breaks the rules
abbrev pub BreaksAs : List ℕ → HttpFault → Type 0
BreaksAs body (NotAnObject at) = FaultAt body at
BreaksAs body NoMemory = ⊤
BreaksAs body other = ⊥
