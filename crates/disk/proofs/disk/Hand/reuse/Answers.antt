-- The entry is set, then the bytes are made zero.
use Rattle.std.proofs.Common.{rules}
use Rattle.disk.proofs.Growing.{reused_of}
use Rattle.disk.proofs.disk.Hand.reuse.Goals as goal

pub returns : goal.returns
returns c = search (rules, reused_of _ _ _ _ _ c.set_fat.ensures.disk (rw c.set_fat.ensures.same.len at c.init_at.ensures))
