-- The bytes are taken from the last one back, each below those that follow it. At most three follow, so that one more has room.
use Prim.Native.Nat.{◌+◌, ◌-◌, ◌<◌}
use native.Mathlib.Omega.{arith}
use Rattle.words.proofs.Laws.{le_short, le_last, le_before}
use Rattle.words.proofs.read.Goals as goal
use Rattle.words.proofs.read.Goals.{In-loop-i}

pub loop-i-init : goal.loop-i-init
loop-i-init g c = le_last _ _ _

room : (g : _) (c : In-loop-i g) → c.loop-i.v < 16777216
room g c = le_short (g.row.N - c.loop-i.i) c.args.s.now (c.args.at + c.loop-i.i) _ (λ k. omega (arith, c.type_inv.s k)) (omega arith) c.loop-i.invariant

pub overflow_mul-v : goal.overflow_mul-v
overflow_mul-v g c = omega (arith, room g c)

pub overflow_add-v : goal.overflow_add-v
overflow_add-v g c = omega (arith, room g ((goal.at.overflow_add-v g c).In-loop-i), c.from.ensures, c.type_inv.s (c.args.at + (c.loop-i.i - 1)))

pub loop-i-preserved : goal.loop-i-preserved
loop-i-preserved g c = le_before _ _ _ _ _ _ c.loop-i-test.true c.loop-i.auto.i c.from.ensures c.loop-i.invariant
