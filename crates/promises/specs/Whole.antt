-- What holds of the tables of a chain in hand before and after every change. Assumes nothing.
use Rattle.std.specs.Prelude.{ℕ, ◌<◌, ◌≡◌, List, get_or, take}
use Rattle.consts.specs.Consts.{end_of_chain}
use Rattle.judge.specs.Judge.{marks_of}
use Rattle.walk.specs.Steps.{Linked, Unpointed}
use Rattle.points.specs.Frees.{FreesOnce}
use Rattle.sound.specs.Sound.{WellFormed}
use Rattle.hand.specs.Hand.{Hand, Chain}
use Rattle.moves.specs.Change.{ids_of}
use Rattle.disk.specs.Disk.{Disk}
use Rattle.edits.specs.Roles.{fats_held, difats_held}

-- the tables of a disk, cut to their counts
abbrev pub fat_held : Disk → List ℕ
fat_held d = take d.sectors d.fat

abbrev pub fats_list : ℕ → Disk → List ℕ
fats_list S d = take (fats_held S d) d.fats

abbrev pub difats_list : ℕ → Disk → List ℕ
difats_list S d = take (difats_held S d) d.difats

-- document 01, 12 and 14 to 18: the tables are well formed, the marks are those of the FAT, and the free list has its FREE sectors, each once
pub record Formed (S : ℕ) (h : Hand) : Type 0 where
  pub tables : WellFormed S h.disk.sectors (fat_held h.disk) (fats_list S h.disk) (difats_list S h.disk)
  pub marks : take h.disk.sectors h.marks ≡ marks_of h.disk.sectors (fat_held h.disk)
  pub frees : FreesOnce h.disk.sectors (fat_held h.disk) (take h.free h.frees)

-- MS-CFB 2.3: the chain in hand is one of the FAT's, and nothing points at its first sector
pub record Held (c : Chain) : Type 0 where
  pub linked : Linked (fat_held c.hand.disk) (get_or (ids_of c) 0 end_of_chain) (ids_of c)
  pub unpointed : 0 < c.count → Unpointed (fat_held c.hand.disk) (get_or c.ids 0 0)
