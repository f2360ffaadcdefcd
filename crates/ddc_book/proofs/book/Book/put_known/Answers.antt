use Rattle.std.proofs.Common.{◌≡◌, ap, sym, ◌∙◌, subst, [], None}
use Rattle.ddc_model.specs.declared.rows.Blob.{Blob}
use Rattle.ddc_model.specs.declared.entry.Entry.{Entry}
use Rattle.ddc_model.specs.declared.entry.Entry.TheVariants.{Put}
use Rattle.ddc_model.specs.State.{blob_at}
use Rattle.ddc_model.specs.Content.{content_hash}
use Rattle.ddc_model.specs.Counts.{fresh_of}
use Rattle.ddc_model.specs.Commands.{hour_of, needs_none, PutAs}
use Rattle.ddc_model.specs.History.{no_room, past_of}
use Rattle.ddc_book.specs.View.{BookView}
use Rattle.ddc_book.specs.Calls.{CommandGives, GoesOn}
use Rattle.ddc_book.specs.inside.Making.{full_by, Brings, StartsLow, IsFit, IsServing}
use Rattle.ddc_book.proofs.Aside.{gives_from, goes_from, goes_aside, serves_aside}
use Rattle.ddc_book.proofs.Giving.{refuses, gives, goes_alike, InRoom}
use Rattle.ddc_book.proofs.Absent.{mapped}
use Rattle.ddc_book.proofs.Putting.{fresh_known, put_is_full, known_put, known_alike}
use Rattle.ddc_book.proofs.Fitting.{put_fit}
use Rattle.ddc_book.proofs.book.Book.put_known.Goals as goal

pub returns-in-Some-clause-gives : goal.returns-in-Some-clause-gives
returns-in-Some-clause-gives g c =
    let old = c.args.self.now in
    let s = old.cache.index in
    let name = c.args.name.now in
    let object = c.args.object.now in
    let there = mapped (λ (blob : Blob). blob.row.at) (blob_at s name.space (content_hash object.bytes)) ∙ c.requires.there in
    refuses g.D.Disk.meaning old old object.bytes (PutAs s name object c.args.hour) c.requires.serves.unbroken c.requires.serves.still.stays c.in-Some.fault c.in-Some.ensures.refusal
    (put_is_full s name object c.args.hour c.requires.known None (fresh_known s name object c.args.hour there) c.in-Some.fault (ap (full_by s 0 None) (sym c.added_refs.ensures) ∙ sym c.in-Some.ensures.fault))

pub returns-in-Some-clause-goes_on : goal.returns-in-Some-clause-goes_on
returns-in-Some-clause-goes_on g c = c.requires.serves.still.goes c.args.object.now.bytes

pub returns-in_default-missing-clause-goes_on : goal.returns-in_default-missing-clause-goes_on
returns-in_default-missing-clause-goes_on g c =
    let old = c.args.self.now in
    subst (λ (b : BookView g.row.D.Denot). GoesOn g.D.Disk.tells g.D.Disk.meaning old c.args.object.now.bytes b) (sym c.missing.ensures.same)
    (goes_aside g.D.Disk.meaning old c.missing.new.self.reads g.D.Disk.tells c.requires.serves.still c.args.object.now.bytes)

pub returns-in_default-put_entry-clause-goes_on : goal.returns-in_default-put_entry-clause-goes_on
returns-in_default-put_entry-clause-goes_on g c =
    let old = c.args.self.now in
    subst (λ (b : BookView g.row.D.Denot). GoesOn g.D.Disk.tells g.D.Disk.meaning old c.args.object.now.bytes b) (sym c.missing.ensures.same)
    (goes_aside g.D.Disk.meaning old c.missing.new.self.reads g.D.Disk.tells c.requires.serves.still c.args.object.now.bytes)

pub make-requires-clause-serves : goal.make-requires-clause-serves
make-requires-clause-serves g c =
    subst (λ (b : BookView g.row.D.Denot). IsServing g.D.Disk.tells g.D.Disk.meaning b) (sym c.missing.ensures.same)
    (serves_aside g.D.Disk.meaning c.args.self.now c.missing.new.self.reads g.D.Disk.tells c.requires.serves)

pub make-requires-clause-fit : goal.make-requires-clause-fit
make-requires-clause-fit g c =
    let old = c.args.self.now in
    let s = old.cache.index in
    let name = c.args.name.now in
    let object = c.args.object.now in
    let mid = c.missing.new.self in
    let same = c.missing.ensures.same in
    let there = mapped (λ (blob : Blob). blob.row.at) (blob_at s name.space (content_hash object.bytes)) ∙ c.requires.there in
    let entry = c.in-Ok-put_entry.entry in
    let is : entry ≡ Put name c.hash_of-root.result None (needs_none c.in-Ok.missing) (hour_of s c.args.hour) =
    c.in-Ok-put_entry.ensures ∙ ap (λ (b : BookView g.row.D.Denot). Put name c.hash_of-root.result None (needs_none c.in-Ok.missing) (hour_of b.cache.index c.args.hour)) same in
    let makes = known_put old.cache name object c.args.hour c.requires.known there c.added_refs.result c.added_refs.ensures c.in_default.ensures.fault
    c.in-Ok.missing c.hash_of-root.result c.hash_of-root.ensures.hash c.in-Ok.ensures.needs entry is in
    let brings : Brings (fresh_of entry) None = subst (λ (e : Entry). Brings (fresh_of e) None) (sym is) tt in
    let starts : StartsLow (fresh_of entry) = subst (λ (e : Entry). StartsLow (fresh_of e)) (sym is) tt in
    subst (λ (b : BookView g.row.D.Denot). no_room b.cache.index (past_of b.steps) entry ≡ None → IsFit b.cache entry None) (sym same)
    (put_fit old.cache c.requires.serves.whole (past_of old.steps) name object c.args.hour c.hash_of-root.ensures.read c.requires.short c.in-Ok.missing entry None brings starts
    (known_alike old.cache object.bytes [] name c.hash_of-root.result _ _ entry is) makes)

pub returns-clause-gives : goal.returns-clause-gives
returns-clause-gives g c =
    let old = c.args.self.now in
    let s = old.cache.index in
    let name = c.args.name.now in
    let object = c.args.object.now in
    let mid = c.missing.new.self in
    let same = c.missing.ensures.same in
    let there = mapped (λ (blob : Blob). blob.row.at) (blob_at s name.space (content_hash object.bytes)) ∙ c.requires.there in
    let entry = c.in-Ok-put_entry.entry in
    let is : entry ≡ Put name c.hash_of-root.result None (needs_none c.in-Ok.missing) (hour_of s c.args.hour) =
    c.in-Ok-put_entry.ensures ∙ ap (λ (b : BookView g.row.D.Denot). Put name c.hash_of-root.result None (needs_none c.in-Ok.missing) (hour_of b.cache.index c.args.hour)) same in
    let makes = known_put old.cache name object c.args.hour c.requires.known there c.added_refs.result c.added_refs.ensures c.in_default.ensures.fault
    c.in-Ok.missing c.hash_of-root.result c.hash_of-root.ensures.hash c.in-Ok.ensures.needs entry is in
    let value = c.in-Ok.missing in
    gives g.D.Disk.meaning old c.make.new.self [] entry value (PutAs s name object c.args.hour) makes
    object.bytes (known_alike old.cache [] object.bytes name c.hash_of-root.result _ _ entry is) c.make.result
    (gives_from g.D.Disk.meaning old mid.reads [] c.make.new.self (InRoom old entry value) c.make.result
    (subst (λ (b : BookView g.row.D.Denot). CommandGives g.D.Disk.meaning b [] c.make.new.self (InRoom b entry value) c.make.result) same c.make.ensures.gives))

pub returns-clause-goes_on : goal.returns-clause-goes_on
returns-clause-goes_on g c =
    let old = c.args.self.now in
    let s = old.cache.index in
    let name = c.args.name.now in
    let object = c.args.object.now in
    let mid = c.missing.new.self in
    let same = c.missing.ensures.same in
    let there = mapped (λ (blob : Blob). blob.row.at) (blob_at s name.space (content_hash object.bytes)) ∙ c.requires.there in
    let entry = c.in-Ok-put_entry.entry in
    let is : entry ≡ Put name c.hash_of-root.result None (needs_none c.in-Ok.missing) (hour_of s c.args.hour) =
    c.in-Ok-put_entry.ensures ∙ ap (λ (b : BookView g.row.D.Denot). Put name c.hash_of-root.result None (needs_none c.in-Ok.missing) (hour_of b.cache.index c.args.hour)) same in
    let makes = known_put old.cache name object c.args.hour c.requires.known there c.added_refs.result c.added_refs.ensures c.in_default.ensures.fault
    c.in-Ok.missing c.hash_of-root.result c.hash_of-root.ensures.hash c.in-Ok.ensures.needs entry is in
    let value = c.in-Ok.missing in
    goes_alike g.D.Disk.meaning old c.make.new.self [] entry value (PutAs s name object c.args.hour) makes
    object.bytes (known_alike old.cache [] object.bytes name c.hash_of-root.result _ _ entry is) g.D.Disk.tells c.make.result
    (gives_from g.D.Disk.meaning old mid.reads [] c.make.new.self (InRoom old entry value) c.make.result
    (subst (λ (b : BookView g.row.D.Denot). CommandGives g.D.Disk.meaning b [] c.make.new.self (InRoom b entry value) c.make.result) same c.make.ensures.gives))
    (goes_from g.D.Disk.meaning old mid.reads g.D.Disk.tells [] c.make.new.self
    (subst (λ (b : BookView g.row.D.Denot). GoesOn g.D.Disk.tells g.D.Disk.meaning b [] c.make.new.self) same c.make.ensures.goes_on))
