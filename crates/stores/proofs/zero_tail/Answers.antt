-- Where a sector begins nothing is zeroed; elsewhere the offset's sector is listed, and the zeros stand in it.
use native.Mathlib.Omega.{arith}
use mathlib.Core.Path.{sym}
use Rattle.chain.proofs.Standing.{stands_inside, stands_byte}
use Rattle.stores.proofs.Zeroed.{zero_begins, zero_run, zero_stands}
use Rattle.stores.proofs.zero_tail.Goals as goal

pub bounds-ids-offset : goal.bounds-ids-offset
bounds-ids-offset c = (zero_stands c.requires c.if-x-ne0.true).place

pub zero_at-requires : goal.zero_at-requires
zero_at-requires c = let b = zero_stands c.requires c.if-x-ne0.true in
    record { s_in_bounds = stands_inside b; s_nonzero = (b.lies.some, omega (arith, stands_byte b)) }

pub returns-then-x-ne0 : goal.returns-then-x-ne0
returns-then-x-ne0 c = zero_run _ _ _ _ c.requires c.if-x-ne0.true _ c.zero_at.ensures

pub returns-else-x-ne0 : goal.returns-else-x-ne0
returns-else-x-ne0 c = sym (zero_begins _ _ _ _ c.requires c.if-x-ne0.false)
