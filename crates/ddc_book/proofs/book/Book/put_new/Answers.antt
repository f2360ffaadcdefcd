use Rattle.std.proofs.Common.{◌≡◌, ap, sym, ◌∙◌, subst, None, Some, ℕ, List, length}
use Rattle.ddc_model.specs.declared.entry.Entry.{Entry}
use Rattle.ddc_model.specs.declared.entry.Entry.TheVariants.{Put}
use Rattle.ddc_model.specs.declared.entry.Stored.{Stored}
use Rattle.ddc_model.specs.Content.{content_hash}
use Rattle.ddc_model.specs.Counts.{fresh_of}
use Rattle.ddc_model.specs.Commands.{changed, hour_of, needs_none, PutAs}
use Rattle.ddc_model.specs.History.{no_room, past_of}
use Rattle.ddc_book.specs.View.{BookView}
use Rattle.ddc_book.specs.Calls.{CommandGives, GoesOn}
use Rattle.ddc_book.specs.inside.Making.{full_by, Brings, StartsLow, IsFit, IsServing}
use Rattle.ddc_book.proofs.Aside.{gives_from, goes_from, goes_aside, serves_aside}
use Rattle.ddc_book.proofs.Giving.{refuses, gives, InRoom}
use Rattle.ddc_book.proofs.Uploads.{not_there}
use Rattle.ddc_book.proofs.Putting.{fresh_new, put_is_full, new_put}
use Rattle.ddc_book.proofs.Fitting.{starts_low, put_fit}
use Rattle.ddc_book.proofs.book.Book.put_new.Goals as goal

pub returns-in_default-clause-goes_on : goal.returns-in_default-clause-goes_on
returns-in_default-clause-goes_on g c = c.requires.serves.still.goes c.args.object.bytes

pub returns-in-Some-clause-gives : goal.returns-in-Some-clause-gives
returns-in-Some-clause-gives g c =
    let old = c.args.self.now in
    let s = old.cache.index in
    let name = c.args.name.now in
    let object = c.args.object in
    let absent = not_there s name.space (content_hash object.bytes) c.requires.absent in
    refuses g.D.Disk.meaning old old object.bytes (PutAs s name object c.args.hour) c.requires.serves.unbroken c.requires.serves.still.stays c.in-Some.fault c.in-Some.ensures.refusal
    (put_is_full s name object c.args.hour c.requires.known (Some c.in-Ok.fresh) (ap Some c.in-Ok.ensures.stored ∙ fresh_new s name object c.args.hour absent) c.in-Some.fault
    (ap (full_by s 0 (Some c.in-Ok.fresh)) (sym c.added_refs.ensures) ∙ sym c.in-Some.ensures.fault))

pub returns-in-Some-clause-goes_on : goal.returns-in-Some-clause-goes_on
returns-in-Some-clause-goes_on g c = c.requires.serves.still.goes c.args.object.bytes

pub returns-in_default-missing_with-clause-goes_on : goal.returns-in_default-missing_with-clause-goes_on
returns-in_default-missing_with-clause-goes_on g c =
    let old = c.args.self.now in
    subst (λ (b : BookView g.row.D.Denot). GoesOn g.D.Disk.tells g.D.Disk.meaning old c.args.object.bytes b) (sym c.missing_with.ensures.same)
    (goes_aside g.D.Disk.meaning old c.missing_with.new.self.reads g.D.Disk.tells c.requires.serves.still c.args.object.bytes)

pub returns-in_default-put_entry-clause-goes_on : goal.returns-in_default-put_entry-clause-goes_on
returns-in_default-put_entry-clause-goes_on g c =
    let old = c.args.self.now in
    subst (λ (b : BookView g.row.D.Denot). GoesOn g.D.Disk.tells g.D.Disk.meaning old c.args.object.bytes b) (sym c.missing_with.ensures.same)
    (goes_aside g.D.Disk.meaning old c.missing_with.new.self.reads g.D.Disk.tells c.requires.serves.still c.args.object.bytes)

pub make-requires-clause-serves : goal.make-requires-clause-serves
make-requires-clause-serves g c =
    subst (λ (b : BookView g.row.D.Denot). IsServing g.D.Disk.tells g.D.Disk.meaning b) (sym c.missing_with.ensures.same)
    (serves_aside g.D.Disk.meaning c.args.self.now c.missing_with.new.self.reads g.D.Disk.tells c.requires.serves)

pub make-requires-clause-fit : goal.make-requires-clause-fit
make-requires-clause-fit g c =
    let old = c.args.self.now in
    let s = old.cache.index in
    let name = c.args.name.now in
    let object = c.args.object in
    let mid = c.missing_with.new.self in
    let same = c.missing_with.ensures.same in
    let absent = not_there s name.space (content_hash object.bytes) c.requires.absent in
    let entry = c.in-Ok-put_entry.entry in
    let is : entry ≡ Put name c.hash_of-root.result (Some c.in-Ok.fresh) (needs_none c.in-Ok-missing_with.missing) (hour_of s c.args.hour) =
    c.in-Ok-put_entry.ensures ∙ ap (λ (b : BookView g.row.D.Denot). Put name c.hash_of-root.result (Some c.in-Ok.fresh) (needs_none c.in-Ok-missing_with.missing) (hour_of b.cache.index c.args.hour)) same in
    let makes = new_put old.cache name object c.args.hour c.requires.known absent c.in-Ok.fresh c.in-Ok.ensures.stored c.added_refs.result c.added_refs.ensures c.in_default-full.ensures.fault
    c.in-Ok-missing_with.missing c.hash_of-root.result c.hash_of-root.ensures.hash c.links.result.now c.links.ensures.links c.in-Ok-missing_with.ensures.needs entry is in
    let brings : Brings (fresh_of entry) (Some c.into_whole.result) = subst (λ (e : Entry). Brings (fresh_of e) (Some c.into_whole.result)) (sym is)
    (ap (λ (blob : Stored). blob.len) c.in-Ok.ensures.stored ∙ ap (λ (l : List ℕ). length l) (sym c.into_whole.ensures)) in
    let starts : StartsLow (fresh_of entry) = subst (λ (e : Entry). StartsLow (fresh_of e)) (sym is) (starts_low s object c.in-Ok.fresh c.in-Ok.ensures.stored) in
    subst (λ (b : BookView g.row.D.Denot). no_room b.cache.index (past_of b.steps) entry ≡ None → IsFit b.cache entry (Some c.into_whole.result)) (sym same)
    (put_fit old.cache c.requires.serves.whole (past_of old.steps) name object c.args.hour c.hash_of-root.ensures.read c.requires.short c.in-Ok-missing_with.missing entry (Some c.into_whole.result) brings starts
    (ap (λ (l : List ℕ). changed old.cache l (Some entry)) (sym c.into_whole.ensures)) makes)

pub returns-clause-gives : goal.returns-clause-gives
returns-clause-gives g c =
    let old = c.args.self.now in
    let s = old.cache.index in
    let name = c.args.name.now in
    let object = c.args.object in
    let mid = c.missing_with.new.self in
    let same = c.missing_with.ensures.same in
    let absent = not_there s name.space (content_hash object.bytes) c.requires.absent in
    let entry = c.in-Ok-put_entry.entry in
    let is : entry ≡ Put name c.hash_of-root.result (Some c.in-Ok.fresh) (needs_none c.in-Ok-missing_with.missing) (hour_of s c.args.hour) =
    c.in-Ok-put_entry.ensures ∙ ap (λ (b : BookView g.row.D.Denot). Put name c.hash_of-root.result (Some c.in-Ok.fresh) (needs_none c.in-Ok-missing_with.missing) (hour_of b.cache.index c.args.hour)) same in
    let makes = new_put old.cache name object c.args.hour c.requires.known absent c.in-Ok.fresh c.in-Ok.ensures.stored c.added_refs.result c.added_refs.ensures c.in_default-full.ensures.fault
    c.in-Ok-missing_with.missing c.hash_of-root.result c.hash_of-root.ensures.hash c.links.result.now c.links.ensures.links c.in-Ok-missing_with.ensures.needs entry is in
    let value = c.in-Ok-missing_with.missing in
    gives g.D.Disk.meaning old c.make.new.self c.into_whole.result entry value (PutAs s name object c.args.hour) makes
    object.bytes (ap (λ (l : List ℕ). changed old.cache l (Some entry)) c.into_whole.ensures) c.make.result
    (gives_from g.D.Disk.meaning old mid.reads c.into_whole.result c.make.new.self (InRoom old entry value) c.make.result
    (subst (λ (b : BookView g.row.D.Denot). CommandGives g.D.Disk.meaning b c.into_whole.result c.make.new.self (InRoom b entry value) c.make.result) same c.make.ensures.gives))

pub returns-clause-goes_on : goal.returns-clause-goes_on
returns-clause-goes_on g c =
    let old = c.args.self.now in
    let mid = c.missing_with.new.self in
    subst (λ (l : List ℕ). GoesOn g.D.Disk.tells g.D.Disk.meaning old l c.make.new.self) c.into_whole.ensures
    (goes_from g.D.Disk.meaning old mid.reads g.D.Disk.tells c.into_whole.result c.make.new.self
    (subst (λ (b : BookView g.row.D.Denot). GoesOn g.D.Disk.tells g.D.Disk.meaning b c.into_whole.result c.make.new.self) c.missing_with.ensures.same c.make.ensures.goes_on))
