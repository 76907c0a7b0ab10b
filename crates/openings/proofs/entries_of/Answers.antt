-- `entries_of` meets its contract: FREE everywhere, and the entries copied over the front. Assumes nothing.
use mathlib.Core.Path.{◌∙◌, ap}
use lib.ListN.{replicate}
use Rattle.lists.specs.Lists.{part, splice}
use Rattle.lists.proofs.Splice.{put_mid_splice}
use Rattle.openings.specs.Openings.{entries_in}
use Rattle.openings.proofs.entries_of.Goals as goal

pub returns : goal.returns
unfolding entries_in part
returns c = put_mid_splice _ _ _ _ c.copy_from_slice.ensures.len ∙ ap (splice (replicate 512 255) 0) c.copy_from_slice.ensures.after
