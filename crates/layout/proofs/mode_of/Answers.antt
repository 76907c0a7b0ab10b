-- The match is the definition's test.
use Rattle.std.proofs.Common.{rules}
use Rattle.layout.specs.Layout.{mode_of}
use Rattle.layout.proofs.mode_of.Goals as goal

pub returns-in-0 : goal.returns-in-0
unfolding mode_of
returns-in-0 c = search rules

pub returns-in_default : goal.returns-in_default
unfolding mode_of
returns-in_default c = search rules
