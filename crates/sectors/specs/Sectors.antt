-- Sectors of an image and the entries in them (MS-CFB 2.1, 2.3, 2.5), over the sector's length S. Assumes nothing.
use Rattle.std.specs.Prelude.{ℕ, ◌+◌, ◌*◌, ◌/◌, ◌%◌, ◌≤◌, ◌≡◌, Bool, List, eqb, get_or}
use Rattle.lists.specs.Lists.{part, every}
use Rattle.words.specs.Words.{le}
use Rattle.consts.specs.Consts.{free_sector}

-- MS-CFB 2.1: sector i begins at (i + 1) S, after the header
abbrev pub start_of : ℕ → ℕ → ℕ
start_of S i = (i + 1) * S

-- MS-CFB 2.1: sector i, S bytes from there
unfoldable pub sector_of : ℕ → List ℕ → ℕ → List ℕ
sector_of S img i = part img (start_of S i) S

-- MS-CFB 2.3, 2.5: a FAT or DIFAT sector has S / 4 entries
abbrev pub per_sector : ℕ → ℕ
per_sector S = S / 4

-- MS-CFB 2.3: entry j of a sector
unfoldable pub entry_in : List ℕ → ℕ → ℕ
entry_in sector j = le 4 sector (4 * j)

-- MS-CFB 2.3: entry i of the table whose sectors are ids
unfoldable pub entry_of : ℕ → List ℕ → List ℕ → ℕ → ℕ
unfolding sector_of entry_in
entry_of S img ids i = entry_in (sector_of S img (get_or ids (i / per_sector S) 0)) (i % per_sector S)

-- entry j of a sector is FREE
unfoldable pub free_at : List ℕ → ℕ → Bool
unfolding entry_in
free_at sector j = eqb (entry_in sector j) free_sector

-- c entries of a sector from j on are FREE
unfoldable pub free_from : List ℕ → ℕ → ℕ → Bool
unfolding free_at
free_from sector j c = every c (λ i. free_at sector (j + i))

-- an image of len bytes holds n whole sectors of S bytes behind its header; a sector is its entries, at least two
pub record Holds (S n len : ℕ) : Type 0 where
  pub entries : S ≡ 4 * per_sector S
  pub two : 2 ≤ per_sector S
  pub fits : (n + 1) * S ≤ len
