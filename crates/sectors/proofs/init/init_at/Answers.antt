-- The part that is lent is sector id, and it comes back as a new sector, as long as it was.
use Rattle.sectors.proofs.New.{init_part}
use Rattle.sectors.proofs.init.init_at.Goals as goal

pub returns : goal.returns
returns c = init_part _ _ _ _ _ _ _ c.requires.s_value.0 c.requires.s_value.1 c.requires.s_in_bounds c.span.ensures c.init_sector.ensures
