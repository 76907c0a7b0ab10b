-- Each of the nine stores begins where the one before it ends, so together they are one run of bytes.
use mathlib.Core.Path.{refl}
use Rattle.header.proofs.Writing.{numbers_stored}
use native.Mathlib.Omega.{arith}
use Rattle.header.proofs.content.put_numbers.Goals as goal

pub put_number-requires : goal.put_number-requires
put_number-requires c = record { in_bounds = omega arith; place_value = refl }

pub put_number-requires-2 : goal.put_number-requires-2
put_number-requires-2 c = record { in_bounds = omega arith; place_value = refl }

pub put_number-requires-3 : goal.put_number-requires-3
put_number-requires-3 c = record { in_bounds = omega arith; place_value = refl }

pub put_number-requires-4 : goal.put_number-requires-4
put_number-requires-4 c = record { in_bounds = omega arith; place_value = refl }

pub put_number-requires-5 : goal.put_number-requires-5
put_number-requires-5 c = record { in_bounds = omega arith; place_value = refl }

pub put_number-requires-6 : goal.put_number-requires-6
put_number-requires-6 c = record { in_bounds = omega arith; place_value = refl }

pub put_number-requires-7 : goal.put_number-requires-7
put_number-requires-7 c = record { in_bounds = omega arith; place_value = refl }

pub put_number-requires-8 : goal.put_number-requires-8
put_number-requires-8 c = record { in_bounds = omega arith; place_value = refl }

pub put_number-requires-9 : goal.put_number-requires-9
put_number-requires-9 c = record { in_bounds = omega arith; place_value = refl }

pub returns : goal.returns
returns c =
    numbers_stored c.args.h _ _ _ _ _ _ _ _ _ _ c.requires
    c.put_number.ensures c.put_number-2.ensures c.put_number-3.ensures c.put_number-4.ensures c.put_number-5.ensures
    c.put_number-6.ensures c.put_number-7.ensures c.put_number-8.ensures c.put_number-9.ensures
