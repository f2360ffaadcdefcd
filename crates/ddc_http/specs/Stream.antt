-- What a reader of a stream shows.
use Rattle.std.specs.Prelude.{◌≡◌, ℕ, Bool, true, false, List, Option, Some, Result, Ok, Err}
use Rattle.ddc_http.specs.declared.request.Request.{Request}
use Rattle.ddc_http.specs.declared.request.HttpFault.{HttpFault}
use Rattle.ddc_http.specs.declared.request.HttpFault.TheVariants.{HashMismatch, NotAnObject}
use Rattle.ddc_http.specs.declared.stream.RequestReader.{RequestReader}
use Rattle.ddc_http.specs.Reader.{Ahead, stream_ahead}

-- the source as it is now
abbrev pub source_of : {S : Type 0} → RequestReader S → S
source_of reader = reader.source.now

-- the bytes that were taken from the source and belong to no request yet
abbrev pub held_of : {S : Type 0} → RequestReader S → List ℕ
held_of reader = reader.held.items

-- what stands ahead of it, by what a source tells of the bytes that it has left
abbrev pub ahead_of : {S : Type 0} → (S → Option (List ℕ)) → RequestReader S → Ahead
ahead_of left reader = stream_ahead (held_of reader) (left (source_of reader))

-- how many bytes stand before the present request
abbrev pub place_of : {S : Type 0} → RequestReader S → ℕ
place_of reader = reader.place

abbrev pub has_ended : {S : Type 0} → RequestReader S → Bool
has_ended reader = reader.ended

-- the reader goes on after a request, after a body of another hash, and after one that is no object
abbrev pub EndedAs : Result (Option Request) HttpFault → Bool → Type 0
EndedAs (Ok (Some request)) ended = ended ≡ false
EndedAs (Err (HashMismatch named found)) ended = ended ≡ false
EndedAs (Err (NotAnObject at)) ended = ended ≡ false
EndedAs other ended = ended ≡ true
