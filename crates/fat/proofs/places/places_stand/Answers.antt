use mathlib.Core.Path.{◌≡◌, refl}
use native.Mathlib.Omega.{arith}
use borrow.Author.Tests.{eq-eqb, ne_eqb}
use lib.ListN.{length}
use Rattle.lists.specs.Lists.{every}
use Rattle.lists.proofs.Cases.{every_yes, every_no}
use Rattle.fat.proofs.Differing.{below_at, stands_at}
use Rattle.fat.proofs.places.places_stand.Goals as goal
use Rattle.fat.proofs.places.places_stand.Goals.{then-scratch-id, else-scratch-id}

pub loop-j-init : goal.loop-j-init
unfolding every
loop-j-init c = refl

pub bounds-scratch-id : goal.bounds-scratch-id
bounds-scratch-id c = below_at _ _ c.requires _ c.loop-j-test.true

pub loop-j-preserved : goal.loop-j-preserved
loop-j-preserved c =
    let stands = stands_at c.args.list.now c.args.scratch.now in
    elim c.if-scratch-id.branch [
      | then-scratch-id w ↦ every_no stands c.loop-j.j _ (ne_eqb _ _ w.if-scratch-id.true) w.stand-is
      | else-scratch-id w ↦ every_yes stands c.loop-j.j _ _ (eq-eqb _ _ w.if-scratch-id.false) c.loop-j.invariant w.stand-is
    ]

pub returns : goal.returns
returns c = let l = c.loop-j in
    let e : l.j ≡ length c.args.list.now = omega arith in
    rw e at l.invariant
