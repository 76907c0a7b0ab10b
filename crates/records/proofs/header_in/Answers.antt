-- `header_in` meets its contract: `take_numbers` takes the words, and `header_with` the header that they hold. Assumes nothing.
use Rattle.records.proofs.Held.{header_held}
use Rattle.records.proofs.header_in.Goals as goal

pub returns : goal.returns
returns c = header_held _ _ c.header_with.ensures c.take_numbers.ensures
