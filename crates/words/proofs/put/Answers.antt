-- The first N of the four bytes that std makes of v are copied over the part that is lent.
use Rattle.words.proofs.Laws.{put_four}
use Rattle.words.proofs.put.Goals as goal

pub returns : goal.returns
returns g c = put_four _ _ _ _ _ _ c.requires.width c.to_le_bytes.ensures c.copy_from_slice.ensures.after
