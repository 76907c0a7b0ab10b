-- The numbers are those that the change tells, and the header is read anew.
use Prim.Native.Nat.{◌+◌}
use native.Mathlib.Omega.{arith}
use Rattle.sectors.proofs.Laws.{scaled}
use Rattle.cfb.specs.Calls.{state_len}
use Rattle.cfb.proofs.Ending.{used_own, done_as}
use Rattle.cfb.proofs.Fitted.{length_least}
use Rattle.cfb.proofs.changes.done_with.Goals as goal

pub overflow_add-s : goal.overflow_add-s
overflow_add-s c =
    omega (arith, c.requires.1, scaled (c.args.sectors + 1) (state_len c.args.s) (omega (arith, length_least c.args.s.header.version)))

pub overflow_mul-s : goal.overflow_mul-s
overflow_mul-s c = omega (arith, used_own c.args.sectors _ c.len_of.ensures c.requires.1)

pub returns : goal.returns
returns c = done_as c.args.s _ _ _ _ _ _ _ _ _ _ c.first_of.ensures c.bytes_of.ensures c.len_of.ensures c.content-s.ensures
