use Rattle.ddc_book.proofs.Absent.{IsSought}
use Rattle.ddc_book.proofs.reads.absent.Given as goal

abbrev pub invariant-loop-hash : goal.invariant-loop-hash
invariant-loop-hash l = IsSought l.index.state l.space l.hashes l.hash-index l.found
