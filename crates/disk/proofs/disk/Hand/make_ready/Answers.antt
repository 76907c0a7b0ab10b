-- The FAT is full where the sectors are a multiple of a sector's entries.
use Rattle.std.proofs.Common.{rules}
use Rattle.disk.specs.Held.{disk_in}
use Rattle.disk.proofs.Fitting.{new_full, ready_full, ready_part}
use Rattle.disk.proofs.disk.Hand.make_ready.Goals as goal

pub append_fat_sector-requires : goal.append_fat_sector-requires
append_fat_sector-requires c = new_full _ _ _ c.requires c.if-self-eq0.true

pub returns-then-self-eq0 : goal.returns-then-self-eq0
returns-then-self-eq0 c = rw (ready_full c.args.self.now.len (disk_in c.args.self.now) c.if-self-eq0.true) c.append_fat_sector.ensures

pub returns-else-self-eq0 : goal.returns-else-self-eq0
returns-else-self-eq0 c = rw (ready_part c.args.self.now.len (disk_in c.args.self.now) c.if-self-eq0.false) (search rules)
