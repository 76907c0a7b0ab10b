-- What the code that grows the FAT asks for: every number that it goes by lies within what is lent. Assumes nothing.
use Rattle.std.specs.Prelude.{ℕ, suc, ◌/◌, ◌%◌, ◌≤◌, ◌<◌, ◌≡◌, true, length, get_or}
use Rattle.sectors.specs.Sectors.{per_sector, Holds}
use Rattle.fat.specs.Lists.{most, fat_count, difat_count}
use Rattle.disk.specs.Disk.{Disk, needs_difat, after_fat, one_more}

-- a disk with room for R sectors in the image and in each table: its own sectors are no more, and the k of its FAT and the j of its DIFAT are among them
pub record Fits (S R k j : ℕ) (d : Disk) : Type 0 where
  pub holds : Holds S R (length d.image)
  pub header : 512 ≤ S
  pub short : S ≤ 65536
  pub few : R ≤ most
  pub inside : d.sectors ≤ R
  pub fat_long : R ≤ length d.fat
  pub fats_long : R ≤ length d.fats
  pub difats_long : R ≤ length d.difats
  pub fats_many : k ≤ R
  pub difats_many : j ≤ R
  pub fats_below : (p : ℕ) → p < k → get_or d.fats p 0 < d.sectors
  pub difats_below : (p : ℕ) → p < j → get_or d.difats p 0 < d.sectors

-- with as many sectors of the FAT and the DIFAT as document 01 asks for
abbrev pub FitsWhole : ℕ → ℕ → Disk → Type 0
FitsWhole S R d = Fits S R (fat_count S d.sectors) (difat_count S (fat_count S d.sectors)) d

-- room for one sector more, whose entry stands in the last sector of the FAT, and j sectors of the DIFAT
pub record FitsOne (S R j : ℕ) (d : Disk) : Type 0 where
  pub fits : Fits S R (suc (d.sectors / per_sector S)) j d
  pub room : d.sectors < R

-- room for place p of the DIFAT, where p places have as many DIFAT sectors as they need
pub record FitsPlace (S R p : ℕ) (d : Disk) : Type 0 where
  pub fits : Fits S R (suc (d.sectors / per_sector S)) (difat_count S p) d
  pub place : p < R
  pub room : needs_difat S p ≡ true → d.sectors < R

-- room for a FAT sector more, where the FAT is full
pub record FitsFat (S R : ℕ) (d : Disk) : Type 0 where
  pub fits : FitsWhole S R d
  pub full : d.sectors % per_sector S ≡ 0
  pub room : after_fat S d.sectors ≤ R

-- room for a sector more, and for those of the FAT and the DIFAT that it needs
pub record FitsNew (S R : ℕ) (d : Disk) : Type 0 where
  pub fits : FitsWhole S R d
  pub room : one_more S d.sectors ≤ R
