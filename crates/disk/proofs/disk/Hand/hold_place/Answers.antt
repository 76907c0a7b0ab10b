-- Where a DIFAT sector has the place nothing changes; else as many as there are places hold exactly those before it.
use Rattle.std.proofs.Common.{rules}
use Rattle.disk.proofs.Growing.{hold_not, hold_one, hold_done}
use Rattle.disk.proofs.disk.Hand.hold_place.Goals as goal

pub append_difat_sector-requires-clause-fits_one : goal.append_difat_sector-requires-clause-fits_one
append_difat_sector-requires-clause-fits_one c = hold_one _ _ _ _ _ c.requires.1 c.needs_difat.ensures c.if-needs_difat.true

pub returns-then-needs_difat : goal.returns-then-needs_difat
returns-then-needs_difat c = rw (hold_done _ _ _ _ c.needs_difat.ensures c.if-needs_difat.true) c.append_difat_sector.ensures

pub returns-else-needs_difat : goal.returns-else-needs_difat
returns-else-needs_difat c = rw (hold_not _ _ _ _ c.needs_difat.ensures c.if-needs_difat.false) (search rules)
