-- An entry is by definition the four bytes from 4 j on.
use Rattle.sectors.specs.Sectors.{entry_in}
use Rattle.sectors.proofs.entry.Goals as goal

pub returns : goal.returns
unfolding entry_in
returns c = c.read.ensures
