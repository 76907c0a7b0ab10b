-- The entry stands in the FAT sector that the table names.
use mathlib.Core.Path.{refl}
use Rattle.disk.specs.Disk.{entry_place}
use Rattle.disk.proofs.disk.set_fat.Goals as goal

pub returns : goal.returns
unfolding entry_place
returns c = (c.put_at.ensures, refl)
