-- `main` is safe, and what it hands over to be written is the listing of what was read: the text stands at the front of its buffer. Assumes nothing.
use mathlib.Core.Path.{sym}
use lib.Seq.{length-take-le}
use Rattle.listing.proofs.Opened.{put_front}
use Rattle.list.proofs.main.Goals as goal

pub slice_bounds-text-end : goal.slice_bounds-text-end
slice_bounds-text-end c = (put_front c.list_text-len.ensures).0

pub slice_bounds-write_listing-end : goal.slice_bounds-write_listing-end
slice_bounds-write_listing-end c = sym (length-take-le _ _ (put_front c.list_text-len.ensures).0)

pub write_listing-requires : goal.write_listing-requires
write_listing-requires c = (put_front c.list_text-len.ensures).1
