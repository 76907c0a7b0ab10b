-- Each kind of edit tells of its own bytes.
use Rattle.cfb.proofs.Ending.{bytes_write, bytes_resize}
use Rattle.cfb.proofs.changes.bytes_of.Goals as goal

pub returns-in-Write : goal.returns-in-Write
returns-in-Write c = bytes_write _ _ _ c.in-Write.is

pub returns-in-Resize : goal.returns-in-Resize
returns-in-Resize c = bytes_resize _ _ _ c.in-Resize.is
