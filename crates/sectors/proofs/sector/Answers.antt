-- The part that is lent is sector id, between where it begins and where it ends.
use mathlib.Core.Path.{◌∙◌, ap}
use lib.ListN.{length}
use Rattle.sectors.proofs.Laws.{spanned_sector, length_sector}
use Rattle.sectors.proofs.sector.Goals as goal

pub returns-clause-value : goal.returns-clause-value
returns-clause-value c = spanned_sector _ _ _ _ _ c.span.ensures

pub returns-clause-len : goal.returns-clause-len
returns-clause-len c = ap length (spanned_sector _ _ _ _ _ c.span.ensures) ∙ length_sector _ _ _ c.requires.s_in_bounds
