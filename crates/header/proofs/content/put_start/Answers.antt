-- Each of the eight stores begins where the one before it ends, so together they are one run of bytes from 0 on.
use mathlib.Core.Path.{refl}
use Rattle.header.proofs.Writing.{start_stored}
use native.Mathlib.Omega.{arith}
use Rattle.header.proofs.content.put_start.Goals as goal

pub put_number-requires : goal.put_number-requires
put_number-requires c = record { in_bounds = omega arith; place_value = refl }

pub put_number-requires-2 : goal.put_number-requires-2
put_number-requires-2 c = record { in_bounds = omega arith; place_value = refl }

pub put_number-requires-3 : goal.put_number-requires-3
put_number-requires-3 c = record { in_bounds = omega arith; place_value = refl }

pub put_number-requires-4 : goal.put_number-requires-4
put_number-requires-4 c = record { in_bounds = omega arith; place_value = refl }

pub put_number-requires-5 : goal.put_number-requires-5
put_number-requires-5 c = record { in_bounds = omega arith; place_value = refl }

pub returns : goal.returns
returns c =
    start_stored c.args.version c.number.result c.sector_shift.result _ _ _ _ _ _ _ _ _ c.requires
    c.number.ensures c.sector_shift.ensures
    c.put_signature.ensures c.put_zeros.ensures c.put_number.ensures c.put_number-2.ensures
    c.put_number-3.ensures c.put_number-4.ensures c.put_number-5.ensures c.put_zeros-2.ensures
