-- What the bytes of a header mean (MS-CFB 2.2): the table of its fields, and its list. Assumes nothing.
use Rattle.std.specs.Prelude.{ℕ, suc, ◌+◌, ◌*◌, Bool, true, not, List, [], ◌∷◌, ◌++◌, eqb, leb, ltb, get_or, drop}
use Rattle.lists.specs.Lists.{choose, both, either, tab}
use Rattle.words.specs.Words.{le, digits}
use Rattle.consts.specs.Consts.{max_regular, free_sector}
use Rattle.fields.specs.declared.Field.{Field}

-- a row of the table: where a field begins, and how many bytes it has
abbrev pub field_at : ℕ → ℕ → Field
field_at o w = record { at = o; width = w }

-- MS-CFB 2.2: the fields in their order; the last is the first of the 109 entries
abbrev pub fields : List Field
fields =
    field_at 0 8 ∷ field_at 8 16 ∷ field_at 24 2 ∷ field_at 26 2 ∷ field_at 28 2 ∷ field_at 30 2 ∷ field_at 32 2 ∷ field_at 34 6
    ∷ field_at 40 4 ∷ field_at 44 4 ∷ field_at 48 4 ∷ field_at 52 4 ∷ field_at 56 4 ∷ field_at 60 4 ∷ field_at 64 4 ∷ field_at 68 4 ∷ field_at 72 4 ∷ field_at 76 4 ∷ []

-- the places of the fields in the table
abbrev pub signature_at : ℕ
signature_at = 0

abbrev pub class_at : ℕ
class_at = 1

abbrev pub minor_at : ℕ
minor_at = 2

abbrev pub major_at : ℕ
major_at = 3

abbrev pub order_at : ℕ
order_at = 4

abbrev pub shift_at : ℕ
shift_at = 5

abbrev pub mini_at : ℕ
mini_at = 6

abbrev pub reserved_at : ℕ
reserved_at = 7

abbrev pub dirs_at : ℕ
dirs_at = 8

abbrev pub fats_at : ℕ
fats_at = 9

abbrev pub dir_at : ℕ
dir_at = 10

abbrev pub transaction_at : ℕ
transaction_at = 11

abbrev pub cutoff_at : ℕ
cutoff_at = 12

abbrev pub minifat_at : ℕ
minifat_at = 13

abbrev pub minifats_at : ℕ
minifats_at = 14

abbrev pub difat_at : ℕ
difat_at = 15

abbrev pub difats_at : ℕ
difats_at = 16

abbrev pub entries_at : ℕ
entries_at = 17

-- where field i begins, and how many bytes it has
abbrev pub offset_of : ℕ → ℕ
offset_of i = (get_or fields i (field_at 0 0)).at

abbrev pub width_of : ℕ → ℕ
width_of i = (get_or fields i (field_at 0 0)).width

-- the fields that hold a number: all but the signature and the two runs of reserved bytes
abbrev pub holds_number : ℕ → Bool
holds_number i = both (ltb i 18) (both (leb 2 i) (not (eqb i reserved_at)))

-- MS-CFB 2.2: the number in field i, as wide as the table says
unfoldable pub number_at : List ℕ → ℕ → ℕ
number_at b i = le (width_of i) b (offset_of i)

-- MS-CFB 2.2, DIFAT: entry i of the list
unfoldable pub entry_at : List ℕ → ℕ → ℕ
entry_at b i = le 4 b (offset_of entries_at + 4 * i)

-- MS-CFB 2.2, DIFAT: the list has 109 entries
unfoldable pub list_of : List ℕ → List ℕ
unfolding entry_at
list_of b = tab (entry_at b) 109

-- how many sector numbers a list begins with
unfoldable pub ids_in : List ℕ → ℕ
ids_in [] = 0
ids_in (x ∷ xs) = choose (leb x max_regular) (suc (ids_in xs)) 0

-- every element is FREE
unfoldable pub all_free : List ℕ → Bool
all_free [] = true
all_free (x ∷ xs) = both (eqb x free_sector) (all_free xs)

-- MS-CFB 2.5, document 01's 9: sector numbers, and then FREE to the end
unfoldable pub ids_then_free : List ℕ → Bool
unfolding ids_in all_free
ids_then_free xs = all_free (drop (ids_in xs) xs)

-- a list that no reader could give, or a first DIFAT sector of FREE
unfoldable pub unreadable : List ℕ → ℕ → Bool
unreadable list difat = either (not (ids_then_free list)) (eqb difat free_sector)

-- MS-CFB 2.2, DIFAT: the entries, four bytes each
unfoldable pub list_bytes : List ℕ → List ℕ
list_bytes [] = []
list_bytes (x ∷ xs) = digits 4 x ++ list_bytes xs
