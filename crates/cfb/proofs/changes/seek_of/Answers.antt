-- A write begins at its offset, a resize at the chain's start.
use Rattle.cfb.proofs.Judging.{seek_write, seek_resize}
use Rattle.cfb.proofs.changes.seek_of.Goals as goal

pub returns-in-Write : goal.returns-in-Write
returns-in-Write c = seek_write _ _ c.in-Write.is

pub returns-in-Resize : goal.returns-in-Resize
returns-in-Resize c = seek_resize _ _ c.in-Resize.is
