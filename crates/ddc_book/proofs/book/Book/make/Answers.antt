use Rattle.std.proofs.Common.{sym}
use Rattle.ddc_book.specs.inside.Making.{bytes_or_none}
use Rattle.ddc_book.proofs.Giving.{room_refused, room_failed}
use Rattle.ddc_book.proofs.book.Book.make.Goals as goal

pub returns-in-Some-clause-gives : goal.returns-in-Some-clause-gives
returns-in-Some-clause-gives g c = room_refused c.args.self.now c.args.entry c.args.answer g.D.Disk.meaning (bytes_or_none c.args.blob) c.requires.serves.unbroken c.requires.serves.still.stays c.in-Some.fault c.in-Some.ensures.refusal (sym c.in-Some.ensures.fault)

pub returns-in-Some-clause-goes_on : goal.returns-in-Some-clause-goes_on
returns-in-Some-clause-goes_on g c = c.requires.serves.still.goes (bytes_or_none c.args.blob)

pub commit-requires-clause-fit : goal.commit-requires-clause-fit
commit-requires-clause-fit g c = c.requires.fit (sym c.in_default.ensures.fault)

pub returns-in-Err-clause-gives : goal.returns-in-Err-clause-gives
returns-in-Err-clause-gives g c = room_failed g.D.Disk.meaning c.args.self.now c.commit.new.self (bytes_or_none c.args.blob) c.args.entry c.args.answer (sym c.in_default.ensures.fault) c.in-Err.fault c.in-Err.ensures.gives
