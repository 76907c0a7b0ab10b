-- Both quotients are the one whose multiple is the least that reaches a.
use mathlib.Core.Path.{◌∙◌}
use Rattle.fat.proofs.Listing.{ceil_is}
use Rattle.fat.proofs.listed.ceil.Goals as goal

pub returns : goal.returns
returns c = c.div_ceil.ensures ∙ ceil_is _ _ c.requires.0
