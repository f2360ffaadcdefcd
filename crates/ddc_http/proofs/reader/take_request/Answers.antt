use Rattle.std.proofs.Common.{◌≡◌, ◌≤◌, ◌+◌, ℕ, List, length, Some, refl, subst}
use Rattle.ddc_protocol.specs.declared.request_form.RequestForm.{RequestForm}
use Rattle.ddc_protocol.specs.declared.request_form.RequestForm.TheVariants.{PutBlob, GetBlob, PutRef, GetRef, Finalise}
use Rattle.ddc_protocol.specs.Requests.{body_length, fetches, reads, finalises}
use Rattle.ddc_http.specs.declared.request.Ask.TheVariants as ask
use Rattle.ddc_http.specs.Reader.{HasRequestText, stream_ahead}
use Rattle.ddc_http.specs.inside.Parts.{HeadAt, AskedAs}
use Rattle.ddc_http.proofs.Taken.{whole_held, body_asked, head_asked, faults-asked}
use Rattle.ddc_http.proofs.reader.take_request.Goals as goal

head_of : (held : List ℕ) (len : ℕ) (form is : RequestForm) → form ≡ is → HeadAt held len (Some form) → HeadAt held len (Some is)
head_of held len form is e h = let P : RequestForm → Type 0 = λ f. HeadAt held len (Some f) in subst P e h

-- a whole request that is held has its body there
body_held : (held : List ℕ) (len : ℕ) (form is : RequestForm) → form ≡ is → HeadAt held len (Some form) → HasRequestText held → len + body_length is ≤ length held
body_held held len form is e h has = whole_held held len (body_length is) (record { form = is; head_at = head_of held len form is e h; states = refl }) has

pub returns-in-Err-clause-ready : goal.returns-in-Err-clause-ready
returns-in-Err-clause-ready g c = λ has. c.take_body.ensures.ready (body_held c.args.held.now.items c.args.len c.args.form (PutBlob c.in-PutBlob.space c.in-PutBlob.named c.in-PutBlob.size) c.in-PutBlob.is c.requires.head has)

pub returns-in-Ok-clause-ready : goal.returns-in-Ok-clause-ready
returns-in-Ok-clause-ready g c = λ has. c.take_body.ensures.ready (body_held c.args.held.now.items c.args.len c.args.form (PutBlob c.in-PutBlob.space c.in-PutBlob.named c.in-PutBlob.size) c.in-PutBlob.is c.requires.head has)

pub returns-in-Ok-clause-gives : goal.returns-in-Ok-clause-gives
returns-in-Ok-clause-gives g c =
    let held = c.args.held.now.items in
    let old = stream_ahead held (g.S.Source.left c.args.source.now) in
    let new = stream_ahead c.take_body.new.held.items (g.S.Source.left c.take_body.new.source) in
    let body = c.in-Ok.body in
    let (taken, whole) = c.in-Ok.ensures.gives in
    let P : ℕ → Type 0 = λ n. AskedAs (PutBlob c.in-PutBlob.space c.in-PutBlob.named n) body c.blob_request.result in
    body_asked old new (PutBlob c.in-PutBlob.space c.in-PutBlob.named c.in-PutBlob.size) body c.args.len c.args.place.now c.place_after.result c.blob_request.result
    (head_of held c.args.len c.args.form (PutBlob c.in-PutBlob.space c.in-PutBlob.named c.in-PutBlob.size) c.in-PutBlob.is c.requires.head) taken whole c.place_after.ensures (subst P whole c.blob_request.ensures)

pub returns-in-Ok-clause-faults : goal.returns-in-Ok-clause-faults
returns-in-Ok-clause-faults g c =
    faults-asked (g.S.Source.faults c.args.source.now) (g.S.Source.faults c.take_body.new.source) (PutBlob c.in-PutBlob.space c.in-PutBlob.named (length c.in-Ok.body)) c.in-Ok.body c.blob_request.result c.in-Ok.ensures.faults
    c.blob_request.ensures

pub returns-in-Err-take_body-clause-ready : goal.returns-in-Err-take_body-clause-ready
returns-in-Err-take_body-clause-ready g c = λ has. c.take_body-in-PutRef.ensures.ready (body_held c.args.held.now.items c.args.len c.args.form (PutRef c.in-PutRef.name c.in-PutRef.size) c.in-PutRef.is c.requires.head has)

pub returns-in-Ok-take_body-clause-ready : goal.returns-in-Ok-take_body-clause-ready
returns-in-Ok-take_body-clause-ready g c = λ has. c.take_body-in-PutRef.ensures.ready (body_held c.args.held.now.items c.args.len c.args.form (PutRef c.in-PutRef.name c.in-PutRef.size) c.in-PutRef.is c.requires.head has)

pub returns-in-Ok-take_body-clause-gives : goal.returns-in-Ok-take_body-clause-gives
returns-in-Ok-take_body-clause-gives g c =
    let held = c.args.held.now.items in
    let old = stream_ahead held (g.S.Source.left c.args.source.now) in
    let new = stream_ahead c.take_body-in-PutRef.new.held.items (g.S.Source.left c.take_body-in-PutRef.new.source) in
    let body = c.in-Ok-take_body.body in
    let (taken, whole) = c.in-Ok-take_body.ensures.gives in
    let P : ℕ → Type 0 = λ n. AskedAs (PutRef c.in-PutRef.name n) body c.object_request.result in
    body_asked old new (PutRef c.in-PutRef.name c.in-PutRef.size) body c.args.len c.args.place.now c.place_after-in-Ok-take_body.result c.object_request.result
    (head_of held c.args.len c.args.form (PutRef c.in-PutRef.name c.in-PutRef.size) c.in-PutRef.is c.requires.head) taken whole c.place_after-in-Ok-take_body.ensures (subst P whole c.object_request.ensures)

pub returns-in-Ok-take_body-clause-faults : goal.returns-in-Ok-take_body-clause-faults
returns-in-Ok-take_body-clause-faults g c =
    faults-asked (g.S.Source.faults c.args.source.now) (g.S.Source.faults c.take_body-in-PutRef.new.source) (PutRef c.in-PutRef.name (length c.in-Ok-take_body.body)) c.in-Ok-take_body.body c.object_request.result c.in-Ok-take_body.ensures.faults
    c.object_request.ensures

pub returns-in-GetBlob-clause-gives : goal.returns-in-GetBlob-clause-gives
returns-in-GetBlob-clause-gives g c =
    let held = c.args.held.now.items in
    head_asked (g.S.Source.left c.args.source.now) held c.pass_head.new.held.items (GetBlob c.in-GetBlob.space c.in-GetBlob.hash) c.args.len c.args.place.now c.pass_head.new.place (record { ask = ask.GetBlob c.in-GetBlob.space c.in-GetBlob.hash })
    (head_of held c.args.len c.args.form (GetBlob c.in-GetBlob.space c.in-GetBlob.hash) c.in-GetBlob.is c.requires.head) c.pass_head.ensures.bytes refl c.pass_head.ensures.place fetches

pub returns-in-GetRef-clause-gives : goal.returns-in-GetRef-clause-gives
returns-in-GetRef-clause-gives g c =
    let held = c.args.held.now.items in
    head_asked (g.S.Source.left c.args.source.now) held c.pass_head-in-GetRef.new.held.items (GetRef c.in-GetRef.name) c.args.len c.args.place.now c.pass_head-in-GetRef.new.place (record { ask = ask.GetRef c.in-GetRef.name })
    (head_of held c.args.len c.args.form (GetRef c.in-GetRef.name) c.in-GetRef.is c.requires.head) c.pass_head-in-GetRef.ensures.bytes refl c.pass_head-in-GetRef.ensures.place reads

pub returns-in-Finalise-clause-gives : goal.returns-in-Finalise-clause-gives
returns-in-Finalise-clause-gives g c =
    let held = c.args.held.now.items in
    head_asked (g.S.Source.left c.args.source.now) held c.pass_head-in-Finalise.new.held.items (Finalise c.in-Finalise.name c.in-Finalise.hash) c.args.len c.args.place.now c.pass_head-in-Finalise.new.place (record { ask = ask.Finalise c.in-Finalise.name c.in-Finalise.hash })
    (head_of held c.args.len c.args.form (Finalise c.in-Finalise.name c.in-Finalise.hash) c.in-Finalise.is c.requires.head) c.pass_head-in-Finalise.ensures.bytes refl c.pass_head-in-Finalise.ensures.place finalises
