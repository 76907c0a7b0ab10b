-- What it is for the library to agree with a record of an image: of its opening, or of a chain of it. Assumes nothing.
use Rattle.std.specs.Prelude.{ℕ, ◌+◌, ◌*◌, ◌≤◌, ◌<◌, ◌≡◌, List, length, get_or, take, replicate}
use Rattle.lists.specs.Lists.{part, splice}
use Rattle.words.specs.Words.{le}
use Rattle.alloc.specs.Opening.{Tables, shortest, open_no}
use Rattle.alloc.specs.Opened.{tables_left}
use Rattle.cfb.specs.Face.{tables_of, state_of}
use Rattle.cfb.specs.Calls.{chain_no, chain_ids, ids_left, told}
use Rattle.cfb.specs.declared.State.{State}
use Rattle.records.specs.Records.{length_in, number_in, mode_in, numbers_in}

-- the sector that holds the FAT entries
unfoldable pub place_in : List ℕ → ℕ
place_in b = get_or b 5 0

-- the bytes of that sector: the 24 entries, and FREE behind them
unfoldable pub entries_in : List ℕ → List ℕ
entries_in b = splice (replicate 512 255) 0 (part b 520 96)

-- a header and 24 sectors: the header's bytes, the entries in their sector, and all others zero
unfoldable pub sector_bytes : List ℕ → List ℕ
unfolding place_in entries_in
sector_bytes b = splice (splice (replicate 12800 0) 0 (part b 8 512)) (512 * (place_in b + 1)) (entries_in b)

-- the image of the record: the header and as many sectors as there are
unfoldable pub image_in : List ℕ → List ℕ
unfolding length_in sector_bytes
image_in b = take (512 * (length_in b + 1)) (sector_bytes b)

-- the lent tables before an opening: 24 elements each, and every byte 0xaa
unfoldable pub lent_tables : Tables
lent_tables =
    record { fat = replicate 24 2863311530; fats = replicate 24 2863311530; difats = replicate 24 2863311530; frees = replicate 24 2863311530; marks = replicate 24 170 }

-- the tables of the record: what the lent ones hold after the opening
unfoldable pub tables_in : List ℕ → Tables
unfolding numbers_in
tables_in b =
    record {
      fat = numbers_in (part b 616 96) 24;
      fats = numbers_in (part b 832 96) 24;
      difats = numbers_in (part b 928 96) 24;
      frees = numbers_in (part b 712 96) 24;
      marks = part b 808 24;
    }

-- the start of the record's chain
unfoldable pub start_in : List ℕ → ℕ
start_in b = le 4 b 616

-- the lent id list before a call
unfoldable pub lent_ids : List ℕ
lent_ids = replicate 24 2863311530

-- an opening's number and counts are the record's, which has no more of the state
pub record CountedAs (b : List ℕ) (no : ℕ) (s : State) : Type 0 where
  pub number : no ≡ number_in b
  pub free : s.free ≡ get_or b 6 0
  pub sectors : s.sectors ≡ get_or b 7 0

-- what is told of a call on a chain and the id list that it leaves are the record's
pub record ToldAs (b said ids : List ℕ) : Type 0 where
  pub number : get_or said 0 0 ≡ number_in b
  pub count : get_or said 1 0 ≡ get_or b 6 0
  pub list : ids ≡ numbers_in (part b 620 96) 24

-- opening the record's chain on a state and tables, with the lent id list, gives what the record has
pub record ChainedAs (b img : List ℕ) (s : State) (t : Tables) : Type 0 where
  pub no : ℕ
  pub ended : no ≡ chain_no s img t (length lent_ids) (start_in b)
  pub given : ToldAs b (told no (length (chain_ids s t (start_in b))) (start_in b) 0) (ids_left no lent_ids (chain_ids s t (start_in b)))

-- the record says what opening an image gave, by its kind: an O record the number, the counts and the tables, a C record that it opens, and a chain of it
pub data Says (b img : List ℕ) (no : ℕ) (s : State) (t : Tables) : Type 0 where
  opens : get_or b 0 0 ≡ 79 → CountedAs b no s → t ≡ tables_in b → Says b img no s t
  chains : get_or b 0 0 ≡ 67 → no ≡ 0 → ChainedAs b img s t → Says b img no s t

-- the record says what opening all bytes of an image gives, with the lent tables
pub record OpenedAs (b img : List ℕ) : Type 0 where
  pub no : ℕ
  pub ended : no ≡ open_no (mode_in b) img (length img) (shortest lent_tables)
  pub given : Says b img no (state_of no (mode_in b) img (length img)) (tables_left no lent_tables (tables_of img (length img)))

-- the record describes an image, and says what opening it gives
pub record ImageAgrees (b : List ℕ) : Type 0 where
  pub few : length_in b ≤ 24
  pub place : place_in b < 24
  pub opened : OpenedAs b (image_in b)
