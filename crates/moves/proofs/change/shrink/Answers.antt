-- A chain that has as many ids as it has to have is left; else it is cut, its tail is freed, and the list is zeroed behind the ids that stay.
use Rattle.std.proofs.Common.{rules}
use Rattle.hand.proofs.Freeing.{frees_own}
use Rattle.moves.specs.Change.{shrink}
use Rattle.moves.proofs.Shrinking.{shrink_cut, shrink_frees}
use Rattle.moves.proofs.change.shrink.Goals as goal

pub returns-then-count-m : goal.returns-then-count-m
unfolding shrink
returns-then-count-m c = search rules

pub link_last-requires : goal.link_last-requires
link_last-requires c = shrink_cut _ _ _ _ c.requires

pub free_run-requires : goal.free_run-requires
free_run-requires c =
    let cut = c.link_last.ensures in
    (_, frees_own _ _ _ _ _ _ (rw (cut.same.len, cut.same.image_long, cut.hand) (shrink_frees _ _ _ _ c.requires)))

pub returns : goal.returns
unfolding shrink
returns c = search rules
