use Prim.Native.Nat.{ℕ}
use mathlib.Core.Path.{sym, ap}
use lib.Dec.{leb}
use Rattle.room.proofs.Needing.{counts_begun, counts_on, counts_over, counts_past}
use Rattle.room.proofs.has_room.Goals as goal

pub returns-then-room-n : goal.returns-then-room-n
returns-then-room-n c = let g = c.requires in counts_past _ _ _ _ g.2 c.if-room-n.true

pub loop-init : goal.loop-init
loop-init c = counts_begun _ _ _

pub loop-preserved : goal.loop-preserved
loop-preserved c = counts_on _ _ _ _ _ _ c.loop.invariant c.loop-test.true c.one_more-count.ensures

pub returns : goal.returns
returns c = ap (λ (k : ℕ). leb k c.args.room) (sym (counts_over _ _ _ _ _ c.loop.invariant c.loop-test.false))
