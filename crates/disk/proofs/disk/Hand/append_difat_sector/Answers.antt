-- Each store lies within the image, which keeps its length, and the stores one after another are the definition's.
use Rattle.std.proofs.Common.{rules, arith, ap, ◌∙◌}
use Rattle.disk.specs.Disk.{Disk, set_fat, store}
use Rattle.disk.proofs.Growing.{one_link, difat_appended}
use Rattle.disk.proofs.disk.Hand.append_difat_sector.Goals as goal

pub link_difat-requires-clause-j_in_bounds : goal.link_difat-requires-clause-j_in_bounds
link_difat-requires-clause-j_in_bounds c =
    rw c.set_fat.ensures.same.len (one_link _ _ _ _ _ _ c.requires.fits_one c.set_fat.ensures.disk (c.set_fat.ensures.same.image_long ∙ c.init_at.auto.image))

pub overflow_add-self : goal.overflow_add-self
unfolding set_fat store
overflow_add-self c =
    omega (arith, c.requires.fits_one.room, c.requires.fits_one.fits.few, ap (λ (d : Disk). d.sectors) c.set_fat.ensures.disk, ap (λ (d : Disk). d.sectors) c.link_difat.ensures.disk)

pub returns : goal.returns
returns c =
    let linked = rw c.set_fat.ensures.same.len at c.link_difat.ensures.disk in
    search (rules, difat_appended _ _ _ _ _ _ _ c.init_at.ensures c.set_fat.ensures.disk linked c.put_number.ensures)
