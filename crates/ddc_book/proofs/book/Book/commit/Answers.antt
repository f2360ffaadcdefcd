use Rattle.std.proofs.Common.{◌≡◌, ◌∙◌, ◌++◌, ◌∷◌, [], ap, sym, subst, List, length, append_assoc, ◌≤◌, ◌^◌}
use Rattle.std.specs.Prelude.{true, None}
use Rattle.ddc_model.specs.declared.rows.Extent.{Extent}
use Rattle.ddc_model.specs.declared.entry.Step.{Step}
use Rattle.ddc_model.specs.declared.entry.Step.TheVariants.{Change, Broke}
use Rattle.ddc_model.specs.History.{broken_by}
use Rattle.blob_store.specs.Bytes.{LieIn}
use Rattle.ddc_book.specs.View.{BookView}
use Rattle.ddc_book.specs.inside.Making.{bytes_or_none}
use Rattle.ddc_book.proofs.Steps.{broken_more}
use Rattle.ddc_book.proofs.Stored.{seen}
use Rattle.ddc_book.proofs.Written.{fresh_lies_in}
use Rattle.ddc_book.proofs.Committing.{legal_short, unmade_stays, unmade_goes, done_book, done_goes, done_commits, failed_book, failed_goes, failed_commits}
use Rattle.ddc_book.proofs.book.Book.commit.Goals as goal

pub returns-in_default-clause-gives : goal.returns-in_default-clause-gives
returns-in_default-clause-gives g c =
    let b = c.self.inside in
    (c.requires.unbroken, unmade_stays g.D.Disk.tells g.D.Disk.meaning g.met.D.Disk.rests b.devices b.index.state b.history b.opened b.index.reads b.pair c.self.invariant c.args.self.now c.self.view_is c.requires.unbroken c.args.self.now (sym c.self.view_is) [])

pub returns-in_default-clause-goes_on : goal.returns-in_default-clause-goes_on
returns-in_default-clause-goes_on g c =
    let b = c.self.inside in
    unmade_goes g.D.Disk.tells g.D.Disk.meaning g.met.D.Disk.rests b.devices b.index.state b.history b.opened b.index.reads b.pair c.self.invariant c.args.self.now c.self.view_is c.requires.unbroken c.args.self.now (sym c.self.view_is) (bytes_or_none c.args.blob)

pub place-place-requires : goal.place-place-requires
place-place-requires g c = legal_short c.args.self.now.cache.index c.args.entry c.requires.fit.legal

pub returns-in_default-make-clause-gives : goal.returns-in_default-make-clause-gives
returns-in_default-make-clause-gives g c =
    let b = c.self.inside in
    let err = c.in_default-make.ensures.err in (
      c.requires.unbroken,
      unmade_stays g.D.Disk.tells g.D.Disk.meaning g.met.D.Disk.rests b.devices b.index.state b.history b.opened b.index.reads b.pair c.self.invariant c.args.self.now c.self.view_is c.requires.unbroken
          (seen g.D.Disk.tells g.D.Disk.meaning b.devices c.make.new.index.state c.make.new.self b.opened c.make.new.index.reads) (λ i. seen g.D.Disk.tells g.D.Disk.meaning b.devices (err.0 i).state (err.1 i) b.opened (err.0 i).reads) [],
    )

pub returns-in_default-make-clause-goes_on : goal.returns-in_default-make-clause-goes_on
returns-in_default-make-clause-goes_on g c =
    let b = c.self.inside in
    let err = c.in_default-make.ensures.err in
    unmade_goes g.D.Disk.tells g.D.Disk.meaning g.met.D.Disk.rests b.devices b.index.state b.history b.opened b.index.reads b.pair c.self.invariant c.args.self.now c.self.view_is c.requires.unbroken
    (seen g.D.Disk.tells g.D.Disk.meaning b.devices c.make.new.index.state c.make.new.self b.opened c.make.new.index.reads) (λ i. seen g.D.Disk.tells g.D.Disk.meaning b.devices (err.0 i).state (err.1 i) b.opened (err.0 i).reads) (bytes_or_none c.args.blob)

pub write_all-requires : goal.write_all-requires
write_all-requires g c =
    let fit = c.requires.fit in
    let low : c.args.self.now.cache.index.limits.units ≤ 2 ^ 51 = subst (λ (v : BookView g.row.D.Denot). v.cache.index.limits.units ≤ 2 ^ 51) c.self.view_is c.self.invariant.low in
    subst (λ (place : Extent). LieIn place 0 (length (bytes_or_none c.args.blob))) (sym c.place-place.ensures) (fresh_lies_in c.args.self.now.cache.index c.args.entry c.args.blob low fit.legal fit.brings)

pub invariant_of-self-in-Ok-write_all : goal.invariant_of-self-in-Ok-write_all
invariant_of-self-in-Ok-write_all g c =
    let b = c.self.inside in
    done_book g.D.Disk.tells g.D.Disk.meaning g.met.D.Disk.rests b.devices b.index.state b.history b.opened b.index.reads b.pair c.self.invariant c.args.self.now c.self.view_is c.requires.unbroken
    c.args.entry c.args.blob c.requires.fit c.in-Ok.item c.in-Ok.ensures.spellable c.in-Ok.ensures.body c.place-place.result c.place-place.ensures c.write_all.new.devices c.write_all.new.pair c.write_all.ensures.cause.later c.write_all.ensures.past c.write_all.ensures.any_moment c.make.new.index.state c.in-Ok-make.ensures.index c.make.new.self c.make.new.index.reads c.in-Ok-make.ensures.steps c.in-Ok-write_all.ensures.same_version (λ bodies file _. c.in-Ok-write_all.ensures.ready bodies file)

pub returns-in-Ok-write_all-clause-gives : goal.returns-in-Ok-write_all-clause-gives
returns-in-Ok-write_all-clause-gives g c =
    let b = c.self.inside in
    done_commits g.D.Disk.tells g.D.Disk.meaning g.met.D.Disk.rests b.devices b.index.state b.history b.opened b.index.reads b.pair c.self.invariant c.args.self.now c.self.view_is c.requires.unbroken
    c.args.entry c.args.blob c.requires.fit c.in-Ok.item c.in-Ok.ensures.spellable c.in-Ok.ensures.body c.place-place.result c.place-place.ensures c.write_all.new.devices c.write_all.new.pair c.write_all.ensures.cause.later c.write_all.ensures.past c.write_all.ensures.any_moment c.make.new.index.state c.in-Ok-make.ensures.index c.make.new.self c.make.new.index.reads c.in-Ok-make.ensures.steps c.in-Ok-write_all.ensures.same_version (λ bodies file _. c.in-Ok-write_all.ensures.ready bodies file)

pub returns-in-Ok-write_all-clause-goes_on : goal.returns-in-Ok-write_all-clause-goes_on
returns-in-Ok-write_all-clause-goes_on g c =
    let b = c.self.inside in
    done_goes g.D.Disk.tells g.D.Disk.meaning g.met.D.Disk.rests b.devices b.index.state b.history b.opened b.index.reads b.pair c.self.invariant c.args.self.now c.self.view_is c.requires.unbroken
    c.args.entry c.args.blob c.requires.fit c.in-Ok.item c.in-Ok.ensures.spellable c.in-Ok.ensures.body c.place-place.result c.place-place.ensures c.write_all.new.devices c.write_all.new.pair c.write_all.ensures.cause.later c.write_all.ensures.past c.write_all.ensures.any_moment c.make.new.index.state c.in-Ok-make.ensures.index c.make.new.self c.make.new.index.reads c.in-Ok-make.ensures.steps c.in-Ok-write_all.ensures.same_version (λ bodies file _. c.in-Ok-write_all.ensures.ready bodies file)

pub note_broken-requires : goal.note_broken-requires
note_broken-requires g c =
    let b = c.self.inside in
    let unbroken : broken_by b.history ≡ None = ap (λ (v : BookView g.row.D.Denot). broken_by v.steps) c.self.view_is ∙ c.requires.unbroken in
    ap broken_by c.in-Ok-make.ensures.steps ∙ broken_more b.history (Change c.args.entry ∷ []) unbroken

pub invariant_of-self-in-Err : goal.invariant_of-self-in-Err
invariant_of-self-in-Err g c =
    let b = c.self.inside in
    let steps : c.note_broken.new.self ≡ b.history ++ Change c.args.entry ∷ Broke true c.faults-before.result c.faults.result ∷ [] =
    c.note_broken.ensures ∙ ap (λ (l : List Step). l ++ Broke true c.faults-before.result c.faults.result ∷ []) c.in-Ok-make.ensures.steps ∙ append_assoc b.history (Change c.args.entry ∷ []) (Broke true c.faults-before.result c.faults.result ∷ []) in
    failed_book g.D.Disk.tells g.D.Disk.meaning g.met.D.Disk.rests b.devices b.index.state b.history b.opened b.index.reads b.pair c.self.invariant c.args.self.now c.self.view_is c.requires.unbroken
    c.args.entry c.args.blob c.requires.fit c.in-Ok.item c.in-Ok.ensures.spellable c.in-Ok.ensures.body c.place-place.result c.place-place.ensures c.write_all.new.devices c.write_all.new.pair c.write_all.ensures.cause.later c.write_all.ensures.past c.write_all.ensures.any_moment c.make.new.index.state c.in-Ok-make.ensures.index c.note_broken.new.self c.make.new.index.reads c.faults-before.result c.faults.result steps c.faults-before.ensures c.faults.ensures c.in-Err.ensures.cause.failed

pub returns-clause-gives : goal.returns-clause-gives
returns-clause-gives g c =
    let b = c.self.inside in
    let steps : c.note_broken.new.self ≡ b.history ++ Change c.args.entry ∷ Broke true c.faults-before.result c.faults.result ∷ [] =
    c.note_broken.ensures ∙ ap (λ (l : List Step). l ++ Broke true c.faults-before.result c.faults.result ∷ []) c.in-Ok-make.ensures.steps ∙ append_assoc b.history (Change c.args.entry ∷ []) (Broke true c.faults-before.result c.faults.result ∷ []) in
    failed_commits g.D.Disk.tells g.D.Disk.meaning g.met.D.Disk.rests b.devices b.index.state b.history b.opened b.index.reads b.pair c.self.invariant c.args.self.now c.self.view_is c.requires.unbroken
    c.args.entry c.args.blob c.requires.fit c.in-Ok.item c.in-Ok.ensures.spellable c.in-Ok.ensures.body c.place-place.result c.place-place.ensures c.write_all.new.devices c.write_all.new.pair c.write_all.ensures.cause.later c.write_all.ensures.past c.write_all.ensures.any_moment c.make.new.index.state c.in-Ok-make.ensures.index c.note_broken.new.self c.make.new.index.reads c.faults-before.result c.faults.result steps c.faults-before.ensures c.faults.ensures c.in-Err.ensures.cause.failed

pub returns-clause-goes_on : goal.returns-clause-goes_on
returns-clause-goes_on g c =
    let b = c.self.inside in
    let steps : c.note_broken.new.self ≡ b.history ++ Change c.args.entry ∷ Broke true c.faults-before.result c.faults.result ∷ [] =
    c.note_broken.ensures ∙ ap (λ (l : List Step). l ++ Broke true c.faults-before.result c.faults.result ∷ []) c.in-Ok-make.ensures.steps ∙ append_assoc b.history (Change c.args.entry ∷ []) (Broke true c.faults-before.result c.faults.result ∷ []) in
    failed_goes g.D.Disk.tells g.D.Disk.meaning g.met.D.Disk.rests b.devices b.index.state b.history b.opened b.index.reads b.pair c.self.invariant c.args.self.now c.self.view_is c.requires.unbroken
    c.args.entry c.args.blob c.requires.fit c.in-Ok.item c.in-Ok.ensures.spellable c.in-Ok.ensures.body c.place-place.result c.place-place.ensures c.write_all.new.devices c.write_all.new.pair c.write_all.ensures.cause.later c.write_all.ensures.past c.write_all.ensures.any_moment c.make.new.index.state c.in-Ok-make.ensures.index c.note_broken.new.self c.make.new.index.reads c.faults-before.result c.faults.result steps c.faults-before.ensures c.faults.ensures c.in-Err.ensures.cause.failed
