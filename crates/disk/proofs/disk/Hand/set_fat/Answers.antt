-- The parts are set, and all else stays.
use Rattle.std.proofs.Common.{rules}
use Rattle.disk.specs.Held.{disk_in}
use Rattle.disk.proofs.Growing.{entry_set}
use Rattle.disk.proofs.disk.Hand.set_fat.Goals as goal

pub returns : goal.returns
returns c = search (rules, entry_set c.args.self.now.len c.args.i c.args.v (disk_in c.args.self.now) _ _ c.set_fat.ensures)
