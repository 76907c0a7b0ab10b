-- What the code of the moves asks for: every number that it goes by lies within what is lent. Assumes nothing.
use Rattle.std.specs.Prelude.{ℕ, ◌+◌, ◌-◌, ◌*◌, ◌/◌, ◌≤◌, ◌<◌, ◌≡◌, List, length, get_or}
use Rattle.sectors.specs.Sectors.{start_of, per_sector}
use Rattle.disk.specs.Disk.{Disk, one_more, count_after}
use Rattle.disk.specs.Fits.{FitsWhole}
use Rattle.hand.specs.Hand.{Hand, Chain}

-- what is in hand, with room for R sectors: marks and a free list as long, whose sectors are among those of the image
pub record FitsHand (S R : ℕ) (h : Hand) : Type 0 where
  pub disk : FitsWhole S R h.disk
  pub frees_long : R ≤ length h.frees
  pub marks_long : R ≤ length h.marks
  pub free_few : h.free ≤ h.disk.sectors
  pub frees_below : (p : ℕ) → p < h.free → get_or h.frees p 0 < h.disk.sectors

-- a sector can be taken: one is free, or there is room for one more
pub record FitsStock (S R : ℕ) (d : Disk) (frees : List ℕ) (free : ℕ) : Type 0 where
  pub disk : FitsWhole S R d
  pub frees_long : free ≤ length frees
  pub frees_below : (p : ℕ) → p < free → get_or frees p 0 < d.sectors
  pub room : free ≡ 0 → one_more S d.sectors ≤ R

-- c sectors from place i of a list on can be freed
pub record FitsFrees (S R i c : ℕ) (ids : List ℕ) (h : Hand) : Type 0 where
  pub fits : FitsHand S R h
  pub listed : i + c ≤ length ids
  pub within : (j : ℕ) → j < i + c → get_or ids j 0 < h.disk.sectors
  pub room : h.free + c ≤ h.disk.sectors

-- the last of count ids, if any, is a sector whose entry can be set
pub record FitsLast (S n image fat : ℕ) (fats : List ℕ) (marks : ℕ) (ids : List ℕ) (count : ℕ) : Type 0 where
  pub entries : S ≡ 4 * per_sector S
  pub some : 1 ≤ per_sector S
  pub marks_long : n ≤ marks
  pub listed : count ≤ length ids
  pub last_fat : 0 < count → get_or ids (count - 1) 0 < fat
  pub last_sector : 0 < count → get_or ids (count - 1) 0 / per_sector S < length fats
  pub last_inside : 0 < count → start_of S (get_or fats (get_or ids (count - 1) 0 / per_sector S) 0) + S ≤ image

-- a chain in hand, with room for R ids
pub record FitsChain (S R : ℕ) (c : Chain) : Type 0 where
  pub fits : FitsHand S R c.hand
  pub ids_long : R ≤ length c.ids
  pub within : (j : ℕ) → j < c.count → get_or c.ids j 0 < c.hand.disk.sectors
  pub few : c.count + c.hand.free ≤ c.hand.disk.sectors

-- and m more can be taken: 24 is decided by the sectors that there are then
pub record FitsMore (S R m : ℕ) (c : Chain) : Type 0 where
  pub fits : FitsChain S R c
  pub room : count_after S c.hand.disk.sectors (m - c.hand.free) ≤ R
