use mathlib.Core.Path.{refl}
use lib.ListN.{length-set}
use Rattle.fat.proofs.Differing.{below_given}
use Rattle.judge.proofs.Marking.{set_turn, set_end}
use Rattle.judge.proofs.marks.set_all.Goals as goal

pub bounds-fat-id : goal.bounds-fat-id
bounds-fat-id c = below_given _ _ c.args.ids.now c.loop-id.id-index _ c.requires c.loop-id-test.true refl c.loop-id.invariant.1

pub loop-id-preserved : goal.loop-id-preserved
loop-id-preserved c = let l = c.loop-id in
    (set_turn _ l.fat _ _ l.id-index _ c.loop-id-test.true refl l.invariant.0, simp length-set l.invariant.1)

pub returns : goal.returns
returns c = let l = c.loop-id in
    set_end _ l.fat _ _ l.id-index c.loop-id-test.false l.invariant.0
