-- The part that is lent is as long as out, so the copy is that part of the sector.
use Rattle.std.proofs.Common.{arith}
use Rattle.std.proofs.lemmas.Grind.{common_steps}
use mathlib.Core.Path.{◌∙◌}
use Rattle.lists.specs.Lists.{part}
use Rattle.lists.proofs.Splice.{splice_whole}
use Rattle.sectors.specs.Sectors.{sector_of}
use Rattle.chain.proofs.read_at.Goals as goal

pub returns : goal.returns
unfolding sector_of part
returns c = c.copy.ensures ∙ splice_whole _ _ (grind (arith, common_steps)) ∙ grind (arith, common_steps)
