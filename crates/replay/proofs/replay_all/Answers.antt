-- The list begins empty; a record that agrees is counted, and one that differs too. Assumes nothing.
use Rattle.std.proofs.Common.{refl, ap, arith}
use Rattle.std.specs.Prelude.{Some}
use Rattle.replay.specs.Agrees.{Replays}
use Rattle.replay.proofs.replay_all.Goals as goal
use Rattle.replay.proofs.replay_all.Goals.{then-not-same, else-not-same}

pub loop-place-init : goal.loop-place-init
loop-place-init g c = record { place = refl; few = omega arith; counted = Replays.none }

pub loop-place-preserved : goal.loop-place-preserved
loop-place-preserved g c =
    let before = c.loop-place.invariant in
    elim c.if-not-same.branch [
      | then-not-same w ↦ record { place = refl; few = omega arith; counted = rw (before.place, w.differ-is) (Replays.differs before.counted) }
      | else-not-same w ↦ record {
        place = refl;
        few = omega arith;
        counted = rw (before.place, w.differ-is) (Replays.same _ (c.in-Some.ensures.same (ap Some w.if-not-same.false)) before.counted);
      }
    ]
