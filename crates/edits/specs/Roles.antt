-- No sector has two of these roles: FAT, DIFAT, one of the chain in hand's, FREE (document 01, 12, 14 and 16). Assumes nothing.
use Rattle.std.specs.Prelude.{ℕ, ◌<◌, ◌≡◌, List, ◌≢◌, get_or}
use Rattle.fat.specs.Lists.{fat_count, difat_count}
use Rattle.disk.specs.Disk.{Disk}
use Rattle.hand.specs.Hand.{Chain}
use Rattle.hand.specs.Fits.{FitsChain}
use Rattle.moves.specs.Change.{Apart}

-- document 01, k: how many FAT sectors a disk has
abbrev pub fats_held : ℕ → Disk → ℕ
fats_held S d = fat_count S d.sectors

-- document 01, d: how many DIFAT sectors a disk has
abbrev pub difats_held : ℕ → Disk → ℕ
difats_held S d = difat_count S (fat_count S d.sectors)

-- none of the first k of a list stands there twice
abbrev pub Once : List ℕ → ℕ → Type 0
Once xs k = (i j : ℕ) → i < k → j < k → get_or xs i 0 ≡ get_or xs j 0 → i ≡ j

-- none of the first i of a list is one of the first j of another
abbrev pub Separate : List ℕ → ℕ → List ℕ → ℕ → Type 0
Separate xs i ys j = (p q : ℕ) → p < i → q < j → get_or xs p 0 ≢ get_or ys q 0

-- the sectors that a chain in hand, its free list, the FAT and the DIFAT have
pub record Roles (S R : ℕ) (c : Chain) : Type 0 where
  -- every number lies within what is lent
  pub fits : FitsChain S R c
  -- document 01, 16: no sector is listed twice in the chain, in the free list, or in both
  pub apart : Apart c
  -- document 01, 12: no FAT sector is listed twice
  pub fats_once : Once c.hand.disk.fats (fats_held S c.hand.disk)
  -- document 01, 12: no DIFAT sector is listed twice
  pub difats_once : Once c.hand.disk.difats (difats_held S c.hand.disk)
  -- document 01, 14: a sector is not marked as FAT and as DIFAT
  pub fats_difats : Separate c.hand.disk.fats (fats_held S c.hand.disk) c.hand.disk.difats (difats_held S c.hand.disk)
  -- document 01, 14: a sector of the chain is not marked as FAT,
  pub ids_fats : Separate c.ids c.count c.hand.disk.fats (fats_held S c.hand.disk)
  -- nor as DIFAT
  pub ids_difats : Separate c.ids c.count c.hand.disk.difats (difats_held S c.hand.disk)
  -- document 01, 14: a FREE sector is not marked as FAT,
  pub frees_fats : Separate c.hand.frees c.hand.free c.hand.disk.fats (fats_held S c.hand.disk)
  -- nor as DIFAT
  pub frees_difats : Separate c.hand.frees c.hand.free c.hand.disk.difats (difats_held S c.hand.disk)
