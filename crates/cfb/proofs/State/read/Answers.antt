-- What was read is handed on, and nothing else was lent to be written.
use Rattle.cfb.proofs.Answering.{reads_rest}
use Rattle.cfb.proofs.State.read.Goals as goal

pub returns : goal.returns
returns c = reads_rest _ c.read_listed.ensures
