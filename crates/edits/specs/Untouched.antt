-- Which bytes of an image a change leaves alone (document 01, "Calls on a chain"), over the sector's length S. Assumes nothing.
use Rattle.std.specs.Prelude.{ℕ, ◌+◌, ◌*◌, ◌≤◌, ◌<◌, ◌≡◌, List, ◌≢◌, length, get_or}
use Rattle.fields.specs.Fields.{fats_at, difat_at, difats_at, entries_at, offset_of, width_of}
use Rattle.disk.specs.Disk.{Disk}
use Rattle.stores.specs.Stores.{NotIn, Beside}
use Rattle.hand.specs.Hand.{Chain}
use Rattle.edits.specs.Roles.{fats_held, difats_held}

-- byte b of the header is none of those that document 01 names for a change from k FAT sectors to k' and from j DIFAT sectors to j'
pub record Unnamed (k k' j j' b : ℕ) : Type 0 where
  -- header 44, how many FAT sectors there are, is updated where one is added
  pub number_of_fats : k < k' → NotIn (offset_of fats_at) (width_of fats_at) b
  -- header 68 links the first DIFAT sector, where that one is added
  pub first_difat : j ≡ 0 → j < j' → NotIn (offset_of difat_at) (width_of difat_at) b
  -- header 72, how many DIFAT sectors there are, is updated where one is added
  pub number_of_difats : j < j' → NotIn (offset_of difats_at) (width_of difats_at) b
  -- the FAT sector that is added at place p below 109 goes to 76 + 4 p
  pub entry : (p : ℕ) → k ≤ p → p < k' → p < 109 → NotIn (offset_of entries_at + 4 * p) (width_of entries_at) b

-- by the disk before a change and the one after it
abbrev pub UnnamedFrom : ℕ → Disk → Disk → ℕ → Type 0
UnnamedFrom S d e b = Unnamed (fats_held S d) (fats_held S e) (difats_held S d) (difats_held S e) b

-- byte b is in none of the k sectors of the FAT and the j of the DIFAT
pub record Spared (S : ℕ) (fats : List ℕ) (k : ℕ) (difats : List ℕ) (j b : ℕ) : Type 0 where
  pub in_no_fat : (p : ℕ) → p < k → Beside S (get_or fats p 0) b
  pub in_no_difat : (p : ℕ) → p < j → Beside S (get_or difats p 0) b

-- by the lists of a disk
abbrev pub Aside : ℕ → Disk → ℕ → Type 0
Aside S d b = Spared S d.fats (fats_held S d) d.difats (difats_held S d) b

-- and in no sector of the chain
pub record Unlisted (S : ℕ) (c : Chain) (b : ℕ) : Type 0 where
  pub aside : Aside S c.hand.disk b
  pub in_no_id : (p : ℕ) → p < c.count → Beside S (get_or c.ids p 0) b

-- sector i belongs to another: it is neither FAT, DIFAT, one of the chain's nor FREE
pub record Other (S : ℕ) (c : Chain) (i : ℕ) : Type 0 where
  pub inside : i < c.hand.disk.sectors
  pub no_fat : (p : ℕ) → p < fats_held S c.hand.disk → get_or c.hand.disk.fats p 0 ≢ i
  pub no_difat : (p : ℕ) → p < difats_held S c.hand.disk → get_or c.hand.disk.difats p 0 ≢ i
  pub no_id : (p : ℕ) → p < c.count → get_or c.ids p 0 ≢ i
  pub no_free : (p : ℕ) → p < c.hand.free → get_or c.hand.frees p 0 ≢ i

-- a list of such sectors
pub record Others (S : ℕ) (c : Chain) (others : List ℕ) : Type 0 where
  pub each : (j : ℕ) → j < length others → Other S c (get_or others j 0)
