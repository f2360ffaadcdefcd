-- What a request with a body asks.
use Rattle.std.proofs.Common.{◌≡◌, ℕ, true, false, List, Err, sym, subst}
use Rattle.ddc_names.specs.declared.hash.IoHash.{IoHash}
use Rattle.ddc_names.specs.declared.reference.RefName.{RefName}
use Rattle.tree_hash.specs.TreeHash.{io}
use Rattle.ddc_model.specs.Content.{Content, IsContent}
use Rattle.ddc_protocol.specs.declared.request_form.RequestForm.TheVariants.{PutBlob, PutRef}
use Rattle.ddc_protocol.specs.Fields.{same_text}
use Rattle.ddc_protocol.specs.Requests.{Asks, put_blob, mismatch, stores, mismatches, breaks}
use Rattle.ddc_http.specs.declared.request.HttpFault.{HttpFault}
use Rattle.ddc_http.specs.declared.request.HttpFault.TheVariants.{NotAnObject, NoMemory}
use Rattle.ddc_http.specs.inside.Parts.{AskedAs, BreaksAs}

-- a body of another hash
pub mismatched : (space body : List ℕ) (hash found : IoHash) (size : ℕ) → found.0 ≡ io body → same_text found.0 hash.0 ≡ false → Asks body (PutBlob space hash size) (mismatch hash found)
mismatched space body hash found size is other =
    let P : List ℕ → Type 0 = λ f. Asks body (PutBlob space hash size) (mismatch hash (record { 0 = f })) in
    let Q : List ℕ → Type 0 = λ f. same_text f hash.0 ≡ false in
    subst P (sym is) (mismatches (subst Q is other))

-- and of the same
pub matched : (space body : List ℕ) (hash found : IoHash) (size : ℕ) (content : Content) → found.0 ≡ io body → same_text found.0 hash.0 ≡ true → content.bytes ≡ body → IsContent content
    → Asks body (PutBlob space hash size) (put_blob space content)
matched space body hash found size content is same bytes read =
    let Q : List ℕ → Type 0 = λ f. same_text f hash.0 ≡ true in
    stores content bytes read (subst Q is same)

-- a body that is no object
pub broken : (name : RefName) (body : List ℕ) (size : ℕ) (fault : HttpFault) → BreaksAs body fault → AskedAs (PutRef name size) body (Err fault)
broken name body size (NotAnObject at) h = breaks h
broken name body size NoMemory h = tt
broken name body size other h = absurd h
