-- The bytes of a chain and what a read gives of them (document 01, Calls on a chain), over the sector's length S. Assumes nothing.
use Rattle.std.specs.Prelude.{ℕ, ◌+◌, ◌-◌, ◌*◌, ◌≤◌, ◌<◌, min, ◌≡◌, length, get_or}
use mathlib.Core.List.{List, flat_map}
use Rattle.lists.specs.Lists.{splice, part}
use Rattle.sectors.specs.Sectors.{start_of, sector_of}

-- document 01, Calls on a chain: the bytes of the sectors listed, in order
unfoldable pub chain_bytes : ℕ → List ℕ → List ℕ → List ℕ
unfolding flat_map sector_of
chain_bytes S img ids = flat_map (sector_of S img) ids

-- document 01, Read: the smaller of the buffer and what remains; the length of the chain is S times the sectors listed
unfoldable pub read_count : ℕ → List ℕ → ℕ → List ℕ → ℕ
read_count S ids offset buf = min (length buf) (S * length ids - offset)

-- document 01, Read: the buffer then holds so many bytes of the chain from the offset on, and its rest stays
unfoldable pub read_bytes : ℕ → List ℕ → List ℕ → ℕ → List ℕ → List ℕ
unfolding chain_bytes read_count splice part
read_bytes S img ids offset buf = splice buf 0 (part (chain_bytes S img ids) offset (read_count S ids offset buf))

-- document 01, Bytes of a compound file: the sectors listed lie in an image of len bytes, one by one and by their number
pub record Lies (S len : ℕ) (ids : List ℕ) : Type 0 where
  pub some : 0 < S
  pub inside : (j : ℕ) → j < length ids → start_of S (get_or ids j 0) + S ≤ len
  pub all : S * length ids ≤ len

-- a chain that lies in an image is read from an offset that is not past its end
pub record Readable (S len : ℕ) (ids : List ℕ) (offset : ℕ) : Type 0 where
  pub lies : Lies S len ids
  pub seeks : offset ≤ S * length ids

-- what a read leaves: the count, and the buffer
pub record ReadLeft (S : ℕ) (img ids : List ℕ) (offset : ℕ) (before : List ℕ) (r : ℕ) (after : List ℕ) : Type 0 where
  pub count : r ≡ read_count S ids offset before
  pub bytes : after ≡ read_bytes S img ids offset before
