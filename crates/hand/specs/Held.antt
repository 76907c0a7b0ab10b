-- What is in hand of an open image, as the record that the moves are defined on. Assumes nothing.
use Rattle.std.specs.Prelude.{◌≡◌}
use Rattle.disk.specs.Held.{disk_in, SameHand}
use Rattle.disk.specs.declared.disk.Hand as lent
use Rattle.hand.specs.Hand.{Hand}

-- the disk, the free list and the marks that are in hand
abbrev pub hand_in : lent.Hand → Hand
hand_in h = record { disk = disk_in h; frees = h.tables.now.frees.now; free = h.free; marks = h.tables.now.marks.now }

-- what is in hand becomes h, in the same lent memory
pub record HandBecomes (a b : lent.Hand) (h : Hand) : Type 0 where
  pub same : SameHand a b
  pub hand : hand_in b ≡ h
