-- `same_image` meets its contract: the image that is opened is the record's. Assumes nothing.
use native.Mathlib.Omega.{arith}
use Rattle.openings.specs.Openings.{place_in}
use Rattle.openings.proofs.Opened.{image_agrees}
use Rattle.openings.proofs.same_image.Goals as goal

pub put_sectors-requires : goal.put_sectors-requires
unfolding place_in
put_sectors-requires c = (c.from-place.ensures, omega arith)

pub returns : goal.returns
unfolding place_in
returns c =
    λ e. image_agrees _ c.length_in-n.ensures c.if-n-gt24.false c.from-place.ensures c.if-place-gt23.false c.put_sectors.ensures (c.opened_as.ensures e)
