-- Document 01's causes for refusing an image, as plain statements about its bytes and its numbers. Assumes nothing.
use Rattle.std.specs.Prelude.{ℕ, ◌+◌, ◌-◌, ◌*◌, ◌%◌, ◌≤◌, ◌<◌, min, ◌≡◌, List, ◌≢◌, length, get_or}
use Rattle.consts.specs.Consts.{max_regular, invalid_sector, difat_sector, fat_sector, end_of_chain, free_sector}
use Rattle.fields.specs.Fields.{ids_in}
use Rattle.header.specs.Versions.{length_of}
use Rattle.header.specs.Read.{header_of}
use Rattle.header.specs.Causes.{Cause}
use Rattle.header.specs.declared.Validation.{Validation}
use Rattle.header.specs.declared.Validation.TheVariants.{Strict}
use Rattle.header.specs.declared.Header.{Header}
use Rattle.sectors.specs.Sectors.{per_sector, entry_of}
use Rattle.fat.specs.Lists.{most, sectors_in, room_of, fat_count, difat_count, difat_at, difats_of, place_at, difats_in, fats_in}
use Rattle.alloc.specs.Opening.{raw_fat, judged_fat, open_fat}

-- S of an image: a sector's length, by the version in the header
abbrev pub sector_len : List ℕ → ℕ
sector_len img = length_of (header_of img).version

-- n of an image: the sectors in its used bytes
abbrev pub sector_count : List ℕ → ℕ → ℕ
sector_count img used = sectors_in (sector_len img) used

-- k of an image: the FAT sectors that its sectors ask for
abbrev pub fats_needed : List ℕ → ℕ → ℕ
fats_needed img used = fat_count (sector_len img) (sector_count img used)

-- d of an image: the DIFAT sectors that these ask for
abbrev pub difats_needed : List ℕ → ℕ → ℕ
difats_needed img used = difat_count (sector_len img) (fats_needed img used)

-- the k ids of an image's FAT sectors
abbrev pub fat_ids : List ℕ → ℕ → List ℕ
fat_ids img used = fats_in (sector_len img) img (header_of img) (sector_count img used)

-- the d ids of its DIFAT sectors
abbrev pub difat_ids : List ℕ → ℕ → List ℕ
difat_ids img used = difats_in (sector_len img) img (header_of img) (sector_count img used)

-- its FAT as the bytes have it
abbrev pub fat_read : List ℕ → ℕ → List ℕ
fat_read img used = raw_fat (sector_len img) img (header_of img) (sector_count img used)

-- its FAT with the FAT and DIFAT sectors marked
abbrev pub fat_marked : List ℕ → ℕ → List ℕ
fat_marked img used = judged_fat (sector_len img) img (header_of img) (sector_count img used)

-- its FAT as the opening leaves it
abbrev pub fat_left : List ℕ → ℕ → List ℕ
fat_left img used = open_fat (sector_len img) img (header_of img) (sector_count img used)

-- the DIFAT of an image with header h, place by place: the header's list, and then the entries of d sectors of the DIFAT chain
abbrev pub difat_place : ℕ → List ℕ → Header → ℕ → ℕ → ℕ
difat_place S img h d = place_at S img h.list (difats_of S img h.difat d)

-- row 12: what can be wrong with the lists of an image with header h and n sectors of S bytes, which ask for k FAT sectors and d DIFAT sectors
pub data ListsWrong (S : ℕ) (img : List ℕ) (h : Header) (n k d : ℕ) : Type 0 where
  -- the FAT count in the header is not k
  number_of_fats : h.fats ≢ k → ListsWrong S img h n k d
  -- the DIFAT count is not d
  number_of_difats : h.difats ≢ d → ListsWrong S img h n k d
  -- the header's list has not min(k, 109) ids
  number_of_ids : ids_in h.list ≢ min k 109 → ListsWrong S img h n k d
  -- a sector among the first d of the DIFAT chain is not below n
  chain_outside : (j : ℕ) → j < d → n ≤ difat_at S img h.difat j → ListsWrong S img h n k d
  -- two of them are the same
  chain_twice : (i j : ℕ) → i < j → j < d → difat_at S img h.difat i ≡ difat_at S img h.difat j → ListsWrong S img h n k d
  -- what follows them is neither END nor FREE
  chain_on : difat_at S img h.difat d ≢ end_of_chain → difat_at S img h.difat d ≢ free_sector → ListsWrong S img h n k d
  -- an entry of the DIFAT sectors, behind the k ids, is not FREE
  rest_used : (p : ℕ) → k ≤ p → 109 ≤ p → p < 109 + d * (per_sector S - 1) → difat_place S img h d p ≢ free_sector → ListsWrong S img h n k d
  -- one of the k ids is not below n
  id_outside : (p : ℕ) → p < k → n ≤ difat_place S img h d p → ListsWrong S img h n k d
  -- two of them are the same
  id_twice : (p q : ℕ) → p < q → q < k → difat_place S img h d p ≡ difat_place S img h d q → ListsWrong S img h n k d

-- row 13: an entry at n or beyond, in the k sectors of the FAT, is not FREE
pub record TailUsed (S : ℕ) (img fats : List ℕ) (n k : ℕ) : Type 0 where
  pub place : ℕ
  pub beyond : n ≤ place
  pub within : place < k * per_sector S
  pub used : entry_of S img fats place ≢ free_sector

-- row 14: one of the listed sectors has another entry in the FAT than the mark of its kind
pub record Unmarked (fat ids : List ℕ) (mark : ℕ) : Type 0 where
  pub place : ℕ
  pub within : place < length ids
  pub other : get_or fat (get_or ids place 0) 0 ≢ mark

-- rows 15 to 17: what can be bad about sector i of a FAT of n sectors, under each number
pub data Bad (m : Validation) (n : ℕ) (fat : List ℕ) (i : ℕ) : ℕ → Type 0 where
  -- strict, and its entry is a sector number at or above n
  outside : m ≡ Strict → n ≤ get_or fat i 0 → get_or fat i 0 ≤ max_regular → Bad m n fat i 15
  -- its entry is a sector number below n, and a sector before it points there already
  twice : (j : ℕ) → j < i → get_or fat j 0 ≡ get_or fat i 0 → get_or fat i 0 < n → get_or fat i 0 ≤ max_regular → Bad m n fat i 16
  -- its entry is 0xfffffffb
  reserved : get_or fat i 0 ≡ invalid_sector → Bad m n fat i 17

-- rows 15 to 17, sector by sector upward: the first bad sector, with its number
pub record FirstBad (m : Validation) (n : ℕ) (fat : List ℕ) (number : ℕ) : Type 0 where
  pub sector : ℕ
  pub within : sector < n
  pub bad : Bad m n fat sector number
  pub before : (j other : ℕ) → j < sector → Bad m n fat j other → ⊥

-- row 18: a sector points at one whose entry is FREE
pub record Dangles (n : ℕ) (fat : List ℕ) : Type 0 where
  pub sector : ℕ
  pub within : sector < n
  pub target : ℕ
  pub inside : target < n
  pub points : get_or fat sector 0 ≡ target
  pub free : get_or fat target 0 ≡ free_sector

-- document 01's rows 1 to 18: what stands against opening the first used bytes of img under each number; under any other number, nothing does.
-- The shortest lent table has short elements.
pub data OpenCause (m : Validation) (img : List ℕ) (used short : ℕ) : ℕ → Type 0 where
  -- 1: used below 512
  used_below : used < 512 → OpenCause m img used short 1
  -- 1: used above the lent image
  used_above : length img < used → OpenCause m img used short 1
  -- 2 to 9: the header's own causes; its 1, fewer than 512 bytes, is one of the two above
  header : (k : ℕ) → Cause m img k → OpenCause m img used short k
  -- 10: used is no multiple of S
  odd : used % sector_len img ≢ 0 → OpenCause m img used short 10
  -- 10: n above 16,384
  many : most < sector_count img used → OpenCause m img used short 10
  -- 11: a lent table shorter than R
  room : short < room_of (sector_len img) (length img) → OpenCause m img used short 11
  -- 12: the lists of FAT and DIFAT sectors
  lists : ListsWrong (sector_len img) img (header_of img) (sector_count img used) (fats_needed img used) (difats_needed img used) → OpenCause m img used short 12
  -- 13: a FAT entry at n or beyond is not FREE
  tail : TailUsed (sector_len img) img (fat_ids img used) (sector_count img used) (fats_needed img used) → OpenCause m img used short 13
  -- 14: strict, a DIFAT sector is not marked so in the FAT
  difat_unmarked : m ≡ Strict → Unmarked (fat_read img used) (difat_ids img used) difat_sector → OpenCause m img used short 14
  -- 14: strict, a FAT sector is not marked so in the FAT
  fat_unmarked : m ≡ Strict → Unmarked (fat_read img used) (fat_ids img used) fat_sector → OpenCause m img used short 14
  -- 15: strict, a regular entry at or above n
  outside : FirstBad m (sector_count img used) (fat_marked img used) 15 → OpenCause m img used short 15
  -- 16: a sector pointed to twice
  twice : FirstBad m (sector_count img used) (fat_marked img used) 16 → OpenCause m img used short 16
  -- 17: an entry 0xfffffffb
  reserved : FirstBad m (sector_count img used) (fat_marked img used) 17 → OpenCause m img used short 17
  -- 18: a pointed-to sector whose entry is FREE
  dangles : Dangles (sector_count img used) (fat_left img used) → OpenCause m img used short 18
