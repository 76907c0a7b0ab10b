-- The parts are freed by any list of DIFAT sectors that fits, and the lent one stays.
use Rattle.std.proofs.Common.{rules}
use native.Mathlib.Omega.{arith}
use Rattle.hand.specs.Hand.{with_difats}
use Rattle.hand.proofs.free_run.Goals as goal

pub free_run-requires : goal.free_run-requires
unfolding with_difats
free_run-requires c = c.requires

pub overflow_add-hand : goal.overflow_add-hand
unfolding with_difats
overflow_add-hand c =
    let given = c.requires.1 in
    omega (arith, given.room, given.fits.disk.inside, given.fits.disk.few)

pub returns : goal.returns
returns c = record { same = search rules; hand = c.free_run.ensures _ }
