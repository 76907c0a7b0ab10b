-- The reader that is left has the place after the field that was read.
use borrow.Author.Rules.{rules}
use Rattle.reader.specs.Serve.{stepped}
use Rattle.reader.proofs.Reader.read_number.Goals as goal

pub returns : goal.returns
unfolding stepped
returns c = search rules
