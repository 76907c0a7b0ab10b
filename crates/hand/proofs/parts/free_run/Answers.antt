use native.Mathlib.Omega.{arith}
use Rattle.hand.proofs.Freeing.{freed_none, freed_all, turn_point, turn_place, turn_small, turn_on}
use Rattle.hand.proofs.parts.free_run.Goals as goal

pub loop-j-init : goal.loop-j-init
loop-j-init c = freed_none _ _ _ _ _ _ _ _ _ _

pub point-requires : goal.point-requires
point-requires c =
    let given = turn_point c.requires.1 c.loop-j.invariant c.loop-j-test.true in
    record { s_value = given.0; i_in_bounds = given.1.0; s_in_bounds = given.1.1 }

pub overflow_add-frees : goal.overflow_add-frees
overflow_add-frees c = omega (arith, turn_small c.requires.1 c.loop-j.invariant c.loop-j-test.true)

pub offset_bounds-frees-free : goal.offset_bounds-frees-free
offset_bounds-frees-free c = omega (arith, turn_small c.requires.1 c.loop-j.invariant c.loop-j-test.true)

pub bounds-frees-free : goal.bounds-frees-free
bounds-frees-free c = turn_place c.requires.1 c.loop-j.invariant c.loop-j-test.true

pub loop-j-preserved : goal.loop-j-preserved
loop-j-preserved c = turn_on c.requires.1 c.loop-j.invariant c.loop-j-test.true _ _ _ c.point.ensures

pub returns : goal.returns
returns c = freed_all _ c.loop-j.invariant c.requires.1.listed (omega arith)
