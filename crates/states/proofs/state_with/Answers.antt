use mathlib.Core.Path.{◌≡◌, sym}
use native.Mathlib.Omega.{arith}
use lib.ListN.{length, replicate}
use Rattle.lists.proofs.Splice.{splice_nil}
use Rattle.layout.proofs.Placing.{placed_more, placed_all}
use Rattle.states.proofs.state_with.Goals as goal

pub loop-i-init : goal.loop-i-init
loop-i-init c = sym (splice_nil (replicate 121 0) 4)

pub loop-i-preserved : goal.loop-i-preserved
loop-i-preserved c =
    let header = c.args.header in
    let whole : length header ≡ 117 = c.well_formed.0.1.0.1 in
    rw c.from.ensures (placed_more (replicate 121 0) 4 header c.loop-i.i c.loop-i.invariant (omega arith) (omega arith))

pub returns : goal.returns
returns c =
    let header = c.args.header in
    let whole : length header ≡ 117 = c.well_formed.0.1.0.1 in
    placed_all 4 117 header c.loop-i.i c.loop-i.invariant whole (omega arith)
