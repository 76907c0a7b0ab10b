-- What `read` reads.
use Rattle.records.specs.Records.{length_in}
use Rattle.records.proofs.length_in.Goals as goal

pub returns : goal.returns
unfolding length_in
returns c = c.read.ensures
