use Rattle.std.proofs.Common.{[]}
use Rattle.ddc_book.proofs.book.Book.read_blob.Goals as goal

pub returns-then-not-has_space-clause-goes_on : goal.returns-then-not-has_space-clause-goes_on
returns-then-not-has_space-clause-goes_on g c = c.in_default.ensures.still.goes []

pub returns-in_default-blob-clause-goes_on : goal.returns-in_default-blob-clause-goes_on
returns-in_default-blob-clause-goes_on g c = c.in_default.ensures.still.goes []
