-- The byte itself.
use Rattle.std.proofs.Common.{rules}
use Rattle.records.specs.Records.{number_in}
use Rattle.records.proofs.number_in.Goals as goal

pub returns : goal.returns
unfolding number_in
returns c = search rules
