use Rattle.std.proofs.Common.{◌≡◌, ℕ, List, sym, ◌∙◌, subst, [], Ok, Err, Some, None, Option, Result}
use Rattle.ddc_model.specs.declared.entry.Entry.{Entry}
use Rattle.ddc_model.specs.declared.fault.StoreFault.{StoreFault}
use Rattle.ddc_model.specs.Sound.{Cache}
use Rattle.ddc_model.specs.Commands.{GetAs}
use Rattle.ddc_model.specs.History.{past_of}
use Rattle.ddc_model.specs.Reads.{HeldAs, ServesAs}
use Rattle.ddc_book.specs.declared.reads.Held.{Held}
use Rattle.ddc_book.specs.Calls.{got}
use Rattle.ddc_book.specs.inside.Making.{touch_with_room, IsFit}
use Rattle.ddc_book.proofs.Giving.{refused, committed, not_committed}
use Rattle.ddc_book.proofs.Reading.{err_gives, ok_is, ok_stays, ok_gives, served_object, gets, held_refused, held_damaged, held_served, room_of}
use Rattle.ddc_book.proofs.Then.{goes_then, commits_then, reader_gives}
use Rattle.ddc_book.proofs.Fitting.{touch_fit}
use Rattle.ddc_book.proofs.book.Book.get_ref.Goals as goal

pub returns-in-Err-clause-gives : goal.returns-in-Err-clause-gives
returns-in-Err-clause-gives g c =
    let old = c.args.self.now in
    let cache = old.cache in
    let name = c.args.name.now in
    let serves = c.in_default.ensures.serves (sym c.in_default.ensures.count) in
    let past = past_of old.steps in
    let Answers : Result Held StoreFault → Option Entry → Type 0 = λ answer made. HeldAs cache past name c.args.hour (got answer) made in
    reader_gives g.D.Disk.meaning old old Answers c.in-Err.fault
    (refused g.D.Disk.meaning old old [] Answers serves.unbroken serves.still.stays c.in-Err.fault c.in-Err.ensures.refusal (held_refused cache serves.whole name past c.args.hour c.in-Err.fault (sym c.in-Err.ensures.hash)))

pub returns-in-Err-clause-goes_on : goal.returns-in-Err-clause-goes_on
returns-in-Err-clause-goes_on g c = c.in_default.ensures.still.goes []

pub returns-in-Err-read_blob-clause-gives : goal.returns-in-Err-read_blob-clause-gives
returns-in-Err-read_blob-clause-gives g c =
    let old = c.args.self.now in
    let mid = c.read_blob.new.self in
    let cache = old.cache in
    let name = c.args.name.now in
    let hash = c.in-Ok.hash in
    let serves = c.in_default.ensures.serves (sym c.in_default.ensures.count) in
    let past = past_of old.steps in
    let Answers : Result Held StoreFault → Option Entry → Type 0 = λ answer made. HeldAs cache past name c.args.hour (got answer) made in
    let P : Result (List ℕ) StoreFault → Type 0 = λ answer. ServesAs cache name.space hash answer in
    let is = sym c.in-Ok.ensures.hash in
    err_gives g.D.Disk.meaning old mid P Answers (λ fault served. held_damaged cache serves.whole name past c.args.hour hash is fault served) c.in-Err-read_blob.fault c.in-Err-read_blob.ensures.gives

pub commit-requires-clause-fit : goal.commit-requires-clause-fit
commit-requires-clause-fit g c =
    let old = c.args.self.now in
    let mid = c.read_blob.new.self in
    let cache = old.cache in
    let name = c.args.name.now in
    let hash = c.in-Ok.hash in
    let serves = c.in_default.ensures.serves (sym c.in_default.ensures.count) in
    let past = past_of old.steps in
    let Answers : Result Held StoreFault → Option Entry → Type 0 = λ answer made. HeldAs cache past name c.args.hour (got answer) made in
    let P : Result (List ℕ) StoreFault → Type 0 = λ answer. ServesAs cache name.space hash answer in
    let is = sym c.in-Ok.ensures.hash in
    let bytes = c.in-Ok-read_blob.bytes in
    let stays = ok_stays g.D.Disk.meaning old mid P bytes c.in-Ok-read_blob.ensures.gives in
    let served = ok_is g.D.Disk.meaning old mid P bytes c.in-Ok-read_blob.ensures.gives in
    let held : Held = record { hash = hash; bytes = bytes } in
    let entry = c.in-Some-touch.entry in
    let touched : Some entry ≡ touch_with_room cache.index past name c.args.hour = sym c.in-Some-touch.is ∙ c.in-Ok-touch.ensures ∙ (λ i. touch_with_room (stays.cache i).index (past_of (stays.steps i)) name c.args.hour) in
    let found = served_object cache serves.whole name hash is (Ok bytes) served in
    let touch = (room_of cache serves.whole name past c.args.hour entry touched).1 in
    subst (λ (k : Cache). IsFit k entry None) (sym stays.cache)
    (touch_fit cache serves.whole name hash c.args.hour found.0 entry
    (subst (λ (made : Option Entry). GetAs cache name c.args.hour (Ok (hash, found.0)) made) (sym touch) (gets cache serves.whole name c.args.hour hash is found.0 found.1)))

pub returns-in-None-clause-gives : goal.returns-in-None-clause-gives
returns-in-None-clause-gives g c =
    let old = c.args.self.now in
    let mid = c.read_blob.new.self in
    let cache = old.cache in
    let name = c.args.name.now in
    let hash = c.in-Ok.hash in
    let serves = c.in_default.ensures.serves (sym c.in_default.ensures.count) in
    let past = past_of old.steps in
    let Answers : Result Held StoreFault → Option Entry → Type 0 = λ answer made. HeldAs cache past name c.args.hour (got answer) made in
    let P : Result (List ℕ) StoreFault → Type 0 = λ answer. ServesAs cache name.space hash answer in
    let is = sym c.in-Ok.ensures.hash in
    let bytes = c.in-Ok-read_blob.bytes in
    let stays = ok_stays g.D.Disk.meaning old mid P bytes c.in-Ok-read_blob.ensures.gives in
    let served = ok_is g.D.Disk.meaning old mid P bytes c.in-Ok-read_blob.ensures.gives in
    let held : Held = record { hash = hash; bytes = bytes } in
    let touched : None ≡ touch_with_room cache.index past name c.args.hour = sym c.in-None.is ∙ c.in-Ok-touch.ensures ∙ (λ i. touch_with_room (stays.cache i).index (past_of (stays.steps i)) name c.args.hour) in
    ok_gives g.D.Disk.meaning old mid P bytes c.in-Ok-read_blob.ensures.gives held Answers (held_served cache serves.whole name past c.args.hour hash is bytes served None touched)

pub returns-in-Ok-commit-clause-gives : goal.returns-in-Ok-commit-clause-gives
returns-in-Ok-commit-clause-gives g c =
    let old = c.args.self.now in
    let mid = c.read_blob.new.self in
    let cache = old.cache in
    let name = c.args.name.now in
    let hash = c.in-Ok.hash in
    let serves = c.in_default.ensures.serves (sym c.in_default.ensures.count) in
    let past = past_of old.steps in
    let Answers : Result Held StoreFault → Option Entry → Type 0 = λ answer made. HeldAs cache past name c.args.hour (got answer) made in
    let P : Result (List ℕ) StoreFault → Type 0 = λ answer. ServesAs cache name.space hash answer in
    let is = sym c.in-Ok.ensures.hash in
    let bytes = c.in-Ok-read_blob.bytes in
    let stays = ok_stays g.D.Disk.meaning old mid P bytes c.in-Ok-read_blob.ensures.gives in
    let served = ok_is g.D.Disk.meaning old mid P bytes c.in-Ok-read_blob.ensures.gives in
    let held : Held = record { hash = hash; bytes = bytes } in
    let entry = c.in-Some-touch.entry in
    let touched : Some entry ≡ touch_with_room cache.index past name c.args.hour = sym c.in-Some-touch.is ∙ c.in-Ok-touch.ensures ∙ (λ i. touch_with_room (stays.cache i).index (past_of (stays.steps i)) name c.args.hour) in
    committed g.D.Disk.meaning old c.commit.new.self [] entry held Answers (held_served cache serves.whole name past c.args.hour hash is bytes served (Some entry) touched)
    (commits_then g.D.Disk.meaning old mid c.commit.new.self stays c.in-Ok-read_blob.ensures.same entry [] (Ok tt) c.in-Ok-commit.ensures.gives)

pub returns-in-Ok-commit-clause-goes_on : goal.returns-in-Ok-commit-clause-goes_on
returns-in-Ok-commit-clause-goes_on g c =
    let old = c.args.self.now in
    let mid = c.read_blob.new.self in
    let cache = old.cache in
    let name = c.args.name.now in
    let hash = c.in-Ok.hash in
    let serves = c.in_default.ensures.serves (sym c.in_default.ensures.count) in
    let past = past_of old.steps in
    let Answers : Result Held StoreFault → Option Entry → Type 0 = λ answer made. HeldAs cache past name c.args.hour (got answer) made in
    let P : Result (List ℕ) StoreFault → Type 0 = λ answer. ServesAs cache name.space hash answer in
    let is = sym c.in-Ok.ensures.hash in
    let bytes = c.in-Ok-read_blob.bytes in
    let stays = ok_stays g.D.Disk.meaning old mid P bytes c.in-Ok-read_blob.ensures.gives in
    let served = ok_is g.D.Disk.meaning old mid P bytes c.in-Ok-read_blob.ensures.gives in
    let held : Held = record { hash = hash; bytes = bytes } in
    goes_then g.D.Disk.tells g.D.Disk.meaning old mid c.commit.new.self stays c.read_blob.ensures.goes_on c.commit.ensures.goes_on serves.unbroken

pub returns-in-Err-commit-clause-gives : goal.returns-in-Err-commit-clause-gives
returns-in-Err-commit-clause-gives g c =
    let old = c.args.self.now in
    let mid = c.read_blob.new.self in
    let cache = old.cache in
    let name = c.args.name.now in
    let hash = c.in-Ok.hash in
    let serves = c.in_default.ensures.serves (sym c.in_default.ensures.count) in
    let past = past_of old.steps in
    let Answers : Result Held StoreFault → Option Entry → Type 0 = λ answer made. HeldAs cache past name c.args.hour (got answer) made in
    let P : Result (List ℕ) StoreFault → Type 0 = λ answer. ServesAs cache name.space hash answer in
    let is = sym c.in-Ok.ensures.hash in
    let bytes = c.in-Ok-read_blob.bytes in
    let stays = ok_stays g.D.Disk.meaning old mid P bytes c.in-Ok-read_blob.ensures.gives in
    let served = ok_is g.D.Disk.meaning old mid P bytes c.in-Ok-read_blob.ensures.gives in
    let held : Held = record { hash = hash; bytes = bytes } in
    let entry = c.in-Some-touch.entry in
    let touched : Some entry ≡ touch_with_room cache.index past name c.args.hour = sym c.in-Some-touch.is ∙ c.in-Ok-touch.ensures ∙ (λ i. touch_with_room (stays.cache i).index (past_of (stays.steps i)) name c.args.hour) in
    reader_gives g.D.Disk.meaning old c.commit.new.self Answers c.in-Err-commit.fault
    (not_committed g.D.Disk.meaning old c.commit.new.self [] entry held Answers (held_served cache serves.whole name past c.args.hour hash is bytes served (Some entry) touched) c.in-Err-commit.fault
    (commits_then g.D.Disk.meaning old mid c.commit.new.self stays c.in-Ok-read_blob.ensures.same entry [] (Err c.in-Err-commit.fault) c.in-Err-commit.ensures.gives))

pub returns-in-Err-commit-clause-goes_on : goal.returns-in-Err-commit-clause-goes_on
returns-in-Err-commit-clause-goes_on g c =
    let old = c.args.self.now in
    let mid = c.read_blob.new.self in
    let cache = old.cache in
    let name = c.args.name.now in
    let hash = c.in-Ok.hash in
    let serves = c.in_default.ensures.serves (sym c.in_default.ensures.count) in
    let past = past_of old.steps in
    let Answers : Result Held StoreFault → Option Entry → Type 0 = λ answer made. HeldAs cache past name c.args.hour (got answer) made in
    let P : Result (List ℕ) StoreFault → Type 0 = λ answer. ServesAs cache name.space hash answer in
    let is = sym c.in-Ok.ensures.hash in
    let bytes = c.in-Ok-read_blob.bytes in
    let stays = ok_stays g.D.Disk.meaning old mid P bytes c.in-Ok-read_blob.ensures.gives in
    let served = ok_is g.D.Disk.meaning old mid P bytes c.in-Ok-read_blob.ensures.gives in
    let held : Held = record { hash = hash; bytes = bytes } in
    goes_then g.D.Disk.tells g.D.Disk.meaning old mid c.commit.new.self stays c.read_blob.ensures.goes_on c.commit.ensures.goes_on serves.unbroken
