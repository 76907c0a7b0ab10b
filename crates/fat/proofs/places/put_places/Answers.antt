use mathlib.Core.Path.{◌≡◌, refl}
use native.Mathlib.Omega.{arith}
use lib.ListN.{length, length-set}
use Rattle.fat.proofs.Differing.{below_given, placed_none, placed_more}
use Rattle.fat.proofs.places.put_places.Goals as goal

pub loop-j-init : goal.loop-j-init
loop-j-init c = (placed_none c.args.list.now c.args.scratch.now, refl)

pub bounds-scratch-id : goal.bounds-scratch-id
bounds-scratch-id c = below_given _ _ c.args.list.now c.loop-j.j _ c.requires.list_value c.loop-j-test.true refl c.loop-j.invariant.1

pub loop-j-preserved : goal.loop-j-preserved
loop-j-preserved c = let l = c.loop-j in
    let list = c.args.list.now in
    (placed_more list l.scratch l.j _ refl (below_given _ _ list l.j _ c.requires.list_value c.loop-j-test.true refl l.invariant.1) l.invariant.0, simp length-set l.invariant.1)

pub returns : goal.returns
returns c = let l = c.loop-j in
    let e : l.j ≡ length c.args.list.now = omega arith in
    rw e at l.invariant.0
