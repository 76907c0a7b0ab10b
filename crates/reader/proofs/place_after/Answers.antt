-- The test is the definition's.
use Rattle.std.proofs.Common.{rules}
use Rattle.reader.specs.Serve.{place_after}
use Rattle.reader.proofs.place_after.Goals as goal

pub returns-then-place-le-ENTRIES : goal.returns-then-place-le-ENTRIES
unfolding place_after
returns-then-place-le-ENTRIES c = search rules

pub returns-else-place-le-ENTRIES : goal.returns-else-place-le-ENTRIES
unfolding place_after
returns-else-place-le-ENTRIES c = search rules
