-- Document 01's causes for refusing a header, as plain statements about its bytes and its numbers. Assumes nothing.
use Rattle.std.specs.Prelude.{ℕ, ◌≤◌, ◌<◌, ◌≡◌, List, ◌⊎◌, ◌≢◌, length, get_or}
use Rattle.lists.specs.Lists.{part}
use Rattle.consts.specs.Consts.{signature, byte_order, mini_shift, mini_cutoff, max_regular, free_sector}
use Rattle.fields.specs.Fields.{major_at, order_at, shift_at, mini_at, dirs_at, cutoff_at, number_at, list_of}
use Rattle.header.specs.declared.Version.TheVariants.{V3}
use Rattle.header.specs.declared.Validation.{Validation}
use Rattle.header.specs.declared.Validation.TheVariants.{Strict}
use Rattle.header.specs.declared.Header.{Header}

-- an entry before the first FREE that is neither a sector number nor FREE; of four bytes, these are 0xfffffffb to 0xfffffffe
pub record SpecialBefore (xs : List ℕ) : Type 0 where
  pub place : ℕ
  pub within : place < length xs
  pub above : max_regular < get_or xs place 0
  pub other : get_or xs place 0 ≢ free_sector
  pub before : (j : ℕ) → j < place → get_or xs j 0 ≢ free_sector

-- an entry that is FREE, and after it one that is not
pub record UsedAfter (xs : List ℕ) : Type 0 where
  pub free : ℕ
  pub is_free : get_or xs free 0 ≡ free_sector
  pub place : ℕ
  pub later : free < place
  pub within : place < length xs
  pub other : get_or xs place 0 ≢ free_sector

-- document 01's words for 9: a special entry before the first FREE, or anything but FREE after it
abbrev pub Broken : List ℕ → Type 0
Broken xs = SpecialBefore xs ⊎ UsedAfter xs

-- the same list from its good side (MS-CFB 2.5): some sector numbers, and every entry from there on FREE
pub record GoodList (xs : List ℕ) : Type 0 where
  pub count : ℕ
  pub within : count ≤ length xs
  pub ids : (i : ℕ) → i < count → get_or xs i 0 ≤ max_regular
  pub free : (i : ℕ) → count ≤ i → i < length xs → get_or xs i 0 ≡ free_sector

-- document 01's rows 1 to 9: what stands against the header in b under each number; under any other number, nothing does
pub data Cause (m : Validation) (b : List ℕ) : ℕ → Type 0 where
  short : length b < 512 → Cause m b 1
  unsigned : part b 0 8 ≢ signature → Cause m b 2
  order : number_at b order_at ≢ byte_order → Cause m b 3
  major : number_at b major_at ≢ 3 → number_at b major_at ≢ 4 → Cause m b 4
  shift_3 : number_at b major_at ≡ 3 → number_at b shift_at ≢ 9 → Cause m b 5
  shift_4 : number_at b major_at ≡ 4 → number_at b shift_at ≢ 12 → Cause m b 5
  mini : number_at b mini_at ≢ mini_shift → Cause m b 6
  dirs : m ≡ Strict → number_at b major_at ≡ 3 → number_at b dirs_at ≢ 0 → Cause m b 7
  cutoff : number_at b cutoff_at ≢ mini_cutoff → Cause m b 8
  list : Broken (list_of b) → Cause m b 9

-- document 01's three rows for the writer, of h into n lent bytes
pub data WriteCause (h : Header) (n : ℕ) : ℕ → Type 0 where
  no_room : n < 512 → WriteCause h n 1
  counted : h.version ≡ V3 → h.dirs ≢ 0 → WriteCause h n 7
  no_list : Broken h.list → WriteCause h n 9
  free_start : h.difat ≡ free_sector → WriteCause h n 9
