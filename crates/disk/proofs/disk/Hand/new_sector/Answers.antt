-- What is ready has room for the sector's entry and its bytes.
use Rattle.std.proofs.Common.{rules, arith, ap}
use Rattle.disk.specs.Disk.{Disk}
use Rattle.disk.proofs.Fitting.{ready_room}
use Rattle.disk.proofs.Growing.{new_entry, new_bytes, new_made}
use Rattle.disk.proofs.disk.Hand.new_sector.Goals as goal

pub set_fat-requires-clause-i_in_bounds : goal.set_fat-requires-clause-i_in_bounds
set_fat-requires-clause-i_in_bounds c = rw c.make_ready.ensures.same.len (new_entry _ _ _ _ c.requires c.make_ready.ensures.disk).0

pub set_fat-requires-clause-s_in_bounds : goal.set_fat-requires-clause-s_in_bounds
set_fat-requires-clause-s_in_bounds c = rw c.make_ready.ensures.same.len (new_entry _ _ _ _ c.requires c.make_ready.ensures.disk).1

pub init_at-requires-clause-s_in_bounds : goal.init_at-requires-clause-s_in_bounds
init_at-requires-clause-s_in_bounds c =
    rw (c.set_fat.ensures.same.len, c.make_ready.ensures.same.len) (new_bytes _ _ _ _ c.requires c.make_ready.ensures.disk _ c.set_fat.ensures.same.image_long)

pub overflow_add-self : goal.overflow_add-self
overflow_add-self c = omega (arith, ready_room _ _ _ c.requires, c.requires.fits.few, ap (λ (d : Disk). d.sectors) c.make_ready.ensures.disk)

pub overflow_cast-result : goal.overflow_cast-result
overflow_cast-result c = omega (arith, ready_room _ _ _ c.requires, c.requires.fits.few, ap (λ (d : Disk). d.sectors) c.make_ready.ensures.disk)

pub returns-clause-disk : goal.returns-clause-disk
returns-clause-disk c =
    let entry = rw c.make_ready.ensures.same.len at c.set_fat.ensures.disk in
    let zeros = rw (c.set_fat.ensures.same.len, c.make_ready.ensures.same.len) at c.init_at.ensures in
    search (rules, new_made _ _ _ _ _ c.make_ready.ensures.disk entry zeros)
