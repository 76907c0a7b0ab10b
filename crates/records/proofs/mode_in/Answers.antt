-- The mode of the byte's number.
use Rattle.std.proofs.Common.{rules}
use Rattle.records.specs.Records.{mode_in}
use Rattle.records.proofs.mode_in.Goals as goal

pub returns : goal.returns
unfolding mode_in
returns c = search rules
