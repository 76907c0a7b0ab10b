-- What is said of a table's entries as steps from sector to sector. Assumes nothing.
use Rattle.std.specs.Prelude.{ℕ, zero, suc, ◌≤◌, ◌<◌, ◌≡◌, List, ◌≢◌, length, get_or}
use Rattle.consts.specs.Consts.{max_regular, end_of_chain}

-- MS-CFB 2.3: where k entries lead from start
unfoldable pub stepped : List ℕ → ℕ → ℕ → ℕ
stepped fat start zero = start
stepped fat start (suc k) = get_or fat (stepped fat start k) 0

-- k steps from start, each taken from a sector of the table
pub record Path (fat : List ℕ) (start k : ℕ) : Type 0 where
  pub within : (j : ℕ) → j < k → stepped fat start j < length fat

-- document 01, 22: some steps, one at least, lead from start back to start
pub record Returns (fat : List ℕ) (start : ℕ) : Type 0 where
  pub steps : ℕ
  pub some : 0 < steps
  pub path : Path fat start steps
  pub back : stepped fat start steps ≡ start

-- document 01, 21: some steps, one at least, lead from start to an entry that is neither END nor a sector of the table
pub record Breaks (fat : List ℕ) (start : ℕ) : Type 0 where
  pub steps : ℕ
  pub some : 0 < steps
  pub path : Path fat start steps
  pub outside : length fat ≤ stepped fat start steps
  pub other : stepped fat start steps ≢ end_of_chain

-- document 01, Walk: sectors of the table, different ones, and no more than it has
pub record Sectors (fat ids : List ℕ) : Type 0 where
  pub most : length ids ≤ length fat
  pub within : (j : ℕ) → j < length ids → get_or ids j 0 < length fat
  pub apart : (i j : ℕ) → i < length ids → j < length ids → get_or ids i 0 ≡ get_or ids j 0 → i ≡ j

-- MS-CFB 2.3: ids are a chain from start: each is a sector of the table, and its entry is the next one, END at the last
pub record Linked (fat : List ℕ) (start : ℕ) (ids : List ℕ) : Type 0 where
  pub first : get_or ids 0 end_of_chain ≡ start
  pub within : (j : ℕ) → j < length ids → get_or ids j 0 < length fat
  pub next : (j : ℕ) → j < length ids → get_or fat (get_or ids j 0) 0 ≡ get_or ids (suc j) end_of_chain

-- document 01, 16: no sector is pointed to twice
pub record Once (fat : List ℕ) : Type 0 where
  pub once : (i j : ℕ) → i < length fat → j < length fat → get_or fat i 0 ≤ max_regular → get_or fat i 0 < length fat
      → get_or fat i 0 ≡ get_or fat j 0 → i ≡ j

-- document 01, 25: no entry is the start
pub record Unpointed (fat : List ℕ) (start : ℕ) : Type 0 where
  pub none : (i : ℕ) → i < length fat → get_or fat i 0 ≢ start
