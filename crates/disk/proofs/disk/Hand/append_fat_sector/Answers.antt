-- The sector's own entry stands in it; once it is marked there is room for its place, and the stores are the definition's.
use Rattle.std.proofs.Common.{rules, arith, ap}
use Rattle.disk.specs.Disk.{Disk, set_fat}
use Rattle.disk.proofs.Growing.{full_new, full_listed, full_entry, fat_marked_lem, fat_place, fat_appended}
use Rattle.disk.proofs.disk.Hand.append_fat_sector.Goals as goal

pub init_at-requires-clause-s_in_bounds : goal.init_at-requires-clause-s_in_bounds
init_at-requires-clause-s_in_bounds c = full_new _ _ _ c.requires

pub bounds-self-k : goal.bounds-self-k
bounds-self-k c = full_listed _ _ _ c.requires

pub set_fat-requires-clause-i_in_bounds : goal.set_fat-requires-clause-i_in_bounds
set_fat-requires-clause-i_in_bounds c = (full_entry _ _ _ c.requires _ c.init_at.auto.image).0

pub set_fat-requires-clause-s_in_bounds : goal.set_fat-requires-clause-s_in_bounds
set_fat-requires-clause-s_in_bounds c = (full_entry _ _ _ c.requires _ c.init_at.auto.image).1

pub overflow_add-self : goal.overflow_add-self
unfolding set_fat
overflow_add-self c = omega (arith, c.requires.fits.inside, c.requires.fits.few, ap (λ (d : Disk). d.sectors) c.set_fat.ensures.disk)

pub list_place-requires : goal.list_place-requires
list_place-requires c = rw c.set_fat.ensures.same.len (fat_place _ _ _ c.requires (fat_marked_lem _ _ _ _ c.init_at.ensures c.set_fat.ensures.disk))

pub returns : goal.returns
returns c =
    let marked = fat_marked_lem _ _ _ _ c.init_at.ensures c.set_fat.ensures.disk in
    let listed = rw c.set_fat.ensures.same.len at c.list_place.ensures.disk in
    search (rules, fat_appended _ _ _ _ _ _ _ _ _ marked listed c.put_number.ensures)
