-- What a sound image is: its bytes say what its tables say, and its tables are well formed. Assumes nothing.
use Rattle.std.specs.Prelude.{ℕ, ◌+◌, ◌-◌, ◌*◌, ◌/◌, ◌%◌, ◌≤◌, ◌<◌, min, ◌≡◌, true, List, ◌⊎◌, ◌≢◌, length, get_or}
use Rattle.lists.specs.Rows.{refusal}
use Rattle.consts.specs.Consts.{max_regular, invalid_sector, difat_sector, fat_sector, end_of_chain, free_sector}
use Rattle.fields.specs.Fields.{ids_in}
use Rattle.header.specs.Versions.{length_of}
use Rattle.header.specs.Read.{header_of}
use Rattle.header.specs.declared.Header.{Header}
use Rattle.sectors.specs.Sectors.{sector_of, per_sector, entry_in, entry_of}
use Rattle.fat.specs.Lists.{sectors_in, fat_count, difat_count, difats_in, fats_in}
use Rattle.alloc.specs.Opening.{table_rows, open_fat}

-- MS-CFB 2.5: the last entry of DIFAT sector i, which is the next sector of the chain
abbrev pub next_of : ℕ → List ℕ → ℕ → ℕ
next_of S img i = entry_in (sector_of S img i) (per_sector S - 1)

-- MS-CFB 2.5: place q of those in the DIFAT sectors, S / 4 - 1 to a sector
abbrev pub place_in : ℕ → List ℕ → List ℕ → ℕ → ℕ
place_in S img difats q = entry_in (sector_of S img (get_or difats (q / (per_sector S - 1)) 0)) (q % (per_sector S - 1))

-- document 01, 12: what follows the last DIFAT sector is END or FREE
abbrev pub Ends : ℕ → Type 0
Ends v = (v ≡ end_of_chain) ⊎ (v ≡ free_sector)

-- the bytes of an image with header h and sectors of S bytes say what the tables say: the first n entries of the FAT, its sectors, the DIFAT's sectors
pub record Encodes (S : ℕ) (img : List ℕ) (h : Header) (n : ℕ) (fat fats difats : List ℕ) : Type 0 where
  -- MS-CFB 2.2, Number of FAT Sectors: as many as are listed
  pub number_of_fats : h.fats ≡ length fats
  -- MS-CFB 2.2, Number of DIFAT Sectors: as many as are listed
  pub number_of_difats : h.difats ≡ length difats
  -- MS-CFB 2.2, DIFAT: the header's list begins with as many ids as there are FAT sectors, and at most 109
  pub list_count : ids_in h.list ≡ min (length fats) 109
  -- MS-CFB 2.2, DIFAT: they are the first FAT sectors
  pub list_places : (p : ℕ) → p < length fats → p < 109 → get_or h.list p 0 ≡ get_or fats p 0
  -- MS-CFB 2.2, First DIFAT Sector Location; document 01, 12: END or FREE where there is none
  pub chain_none : length difats ≡ 0 → Ends h.difat
  -- MS-CFB 2.2, First DIFAT Sector Location: the first one where there are some
  pub chain_first : 0 < length difats → h.difat ≡ get_or difats 0 0
  -- MS-CFB 2.5: a DIFAT sector's last entry is the next one
  pub chain_next : (j : ℕ) → j + 1 < length difats → next_of S img (get_or difats j 0) ≡ get_or difats (j + 1) 0
  -- MS-CFB 2.5; document 01, 12: the last entry of the last one is END or FREE
  pub chain_last : (j : ℕ) → j + 1 ≡ length difats → Ends (next_of S img (get_or difats j 0))
  -- MS-CFB 2.5: the DIFAT sectors have the FAT sectors from the 110th on
  pub places : (q : ℕ) → 109 + q < length fats → place_in S img difats q ≡ get_or fats (109 + q) 0
  -- MS-CFB 2.5; document 01, 12: and FREE in the places after them
  pub places_rest : (q : ℕ) → length fats ≤ 109 + q → q < length difats * (per_sector S - 1) → place_in S img difats q ≡ free_sector
  -- MS-CFB 2.3: the FAT sectors have an entry for each of the n sectors
  pub entries : (i : ℕ) → i < n → entry_of S img fats i ≡ get_or fat i 0
  -- MS-CFB 2.3; document 01, 13: and FREE after them
  pub entries_rest : (i : ℕ) → n ≤ i → i < length fats * per_sector S → entry_of S img fats i ≡ free_sector

-- the tables of n sectors are well formed: numbers alone, no byte in sight
pub record WellFormed (S n : ℕ) (fat fats difats : List ℕ) : Type 0 where
  -- document 01, n: the FAT has an entry for each sector
  pub fat_length : length fat ≡ n
  -- document 01, k and 12: there are as many FAT sectors as n entries need
  pub fats_length : length fats ≡ fat_count S n
  -- document 01, d and 12: there are as many DIFAT sectors as the FAT sectors need
  pub difats_length : length difats ≡ difat_count S (length fats)
  -- document 01, 12: each FAT sector is one of the n
  pub fats_below : (i : ℕ) → i < length fats → get_or fats i 0 < n
  -- document 01, 12: each DIFAT sector is one of the n
  pub difats_below : (i : ℕ) → i < length difats → get_or difats i 0 < n
  -- document 01, 12: no FAT sector is listed twice
  pub fats_differ : (i j : ℕ) → i < length fats → j < length fats → get_or fats i 0 ≡ get_or fats j 0 → i ≡ j
  -- document 01, 12: no DIFAT sector is listed twice
  pub difats_differ : (i j : ℕ) → i < length difats → j < length difats → get_or difats i 0 ≡ get_or difats j 0 → i ≡ j
  -- MS-CFB 2.3; document 01, 14: each FAT sector is marked as one
  pub fats_marked : (i : ℕ) → i < length fats → get_or fat (get_or fats i 0) 0 ≡ fat_sector
  -- MS-CFB 2.3; document 01, 14: each DIFAT sector is marked as one
  pub difats_marked : (i : ℕ) → i < length difats → get_or fat (get_or difats i 0) 0 ≡ difat_sector
  -- MS-CFB 2.3; document 01, 15: a regular entry points at one of the n sectors
  pub points_below : (i : ℕ) → i < n → get_or fat i 0 ≤ max_regular → get_or fat i 0 < n
  -- document 01, 16: no two entries point at the same sector
  pub points_once : (i j : ℕ) → i < n → j < n → get_or fat i 0 ≤ max_regular → get_or fat i 0 ≡ get_or fat j 0 → i ≡ j
  -- MS-CFB 2.1; document 01, 17: no entry is the reserved 0xfffffffb
  pub none_reserved : (i : ℕ) → i < n → get_or fat i 0 ≢ invalid_sector
  -- document 01, 18: no entry points at a FREE sector
  pub none_dangles : (i : ℕ) → i < n → get_or fat i 0 < n → get_or fat (get_or fat i 0) 0 ≢ free_sector

-- both: the bytes say what the tables say, and the tables are well formed
pub record Sound (S : ℕ) (img : List ℕ) (h : Header) (n : ℕ) (fat fats difats : List ℕ) : Type 0 where
  pub encodes : Encodes S img h n fat fats difats
  pub formed : WellFormed S n fat fats difats

-- document 01, 12 to 18: a strict opening refuses nothing of the tables, and these are what it leaves
pub record Accepts (S : ℕ) (img : List ℕ) (h : Header) (n : ℕ) (fat fats difats : List ℕ) : Type 0 where
  pub number : refusal (table_rows true S img h n) ≡ 0
  pub fat_is : fat ≡ open_fat S img h n
  pub fats_are : fats ≡ fats_in S img h n
  pub difats_are : difats ≡ difats_in S img h n

-- an image of so many used bytes is sound where some tables are
pub record SoundImage (img : List ℕ) (used : ℕ) : Type 0 where
  pub fat : List ℕ
  pub fats : List ℕ
  pub difats : List ℕ
  pub sound : Sound (length_of (header_of img).version) img (header_of img) (sectors_in (length_of (header_of img).version) used) fat fats difats
