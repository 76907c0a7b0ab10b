use native.Mathlib.Omega.{arith}
use mathlib.Core.Path.{◌∙◌}
use Rattle.room.proofs.Needing.{ceil_div}
use Rattle.room.proofs.sectors_for.Goals as goal

pub returns : goal.returns
returns c = c.div_ceil.ensures ∙ ceil_div _ _ (omega (arith, c.requires.0))
