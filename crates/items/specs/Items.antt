-- The numbers that stand for kinds of entries and for items of the short list at the library's edge. Assumes nothing.
use Rattle.std.specs.Prelude.{ℕ, List, [], ◌∷◌, Option, None, Some, eqb, leb}
use Rattle.lists.specs.Lists.{choose, both}
use Rattle.consts.specs.Consts.{free_sector}
use Rattle.texts.specs.Text.{text_of, written}
use Rattle.consts.specs.declared.Kind.{Kind}
use Rattle.consts.specs.declared.Kind.TheVariants.{Regular, Reserved}
use Rattle.consts.specs.declared.Kind.TheVariants as kinds
use Rattle.consts.specs.declared.Sector.{Sector}
use Rattle.consts.specs.declared.Sector.TheVariants.{Free, End, Fat, Difat, Range}
use Rattle.consts.specs.declared.Found.{Found}
use Rattle.texts.specs.declared.Text.{Text}

-- MS-CFB 2.1: the kinds in the order of the entries that have them
abbrev pub kind_number : Kind → ℕ
kind_number Regular = 0
kind_number Reserved = 1
kind_number kinds.Difat = 2
kind_number kinds.Fat = 3
kind_number kinds.End = 4
kind_number kinds.Free = 5

-- the cases of the Rust's `Sector` in their order, from 1 on
abbrev pub sector_number : Sector → ℕ
sector_number (Free n) = 1
sector_number End = 2
sector_number (Fat n) = 3
sector_number (Difat n) = 4
sector_number (Range a b) = 5

-- an item's count, which is 1 for END, or the first number of its range
abbrev pub sector_first : Sector → ℕ
sector_first (Free n) = n
sector_first End = 1
sector_first (Fat n) = n
sector_first (Difat n) = n
sector_first (Range a b) = a

-- the last number of an item's range; an item that is none has 0
abbrev pub sector_last : Sector → ℕ
sector_last (Free n) = 0
sector_last End = 0
sector_last (Fat n) = 0
sector_last (Difat n) = 0
sector_last (Range a b) = b

-- the number of an answer of `prettify`: its item's, or 0 where it has none
abbrev pub item_number : Option Found → ℕ
item_number (Some found) = sector_number found.item
item_number None = 0

-- the three numbers beside it: the item's two, and the place past the item
abbrev pub item_numbers : Option Found → List ℕ
item_numbers (Some found) = sector_first found.item ∷ sector_last found.item ∷ found.past ∷ []
item_numbers None = 0 ∷ 0 ∷ 0 ∷ []

-- a range whose two numbers are entries of 32 bits
unfoldable pub named_range : ℕ → ℕ → Option Sector
named_range a b = choose (both (leb a free_sector) (leb b free_sector)) (Some (Range a b)) None

-- the item that a case's number and two numbers name, if they name one
unfoldable pub named_of : ℕ → ℕ → ℕ → Option Sector
unfolding named_range
named_of kind a b =
    choose (eqb kind 1) (Some (Free a))
    (choose (eqb kind 2) (Some End)
    (choose (eqb kind 3) (Some (Fat a))
    (choose (eqb kind 4) (Some (Difat a))
    (choose (eqb kind 5) (named_range a b) None))))

-- the text of the item that is named, in 32 bytes; where none is, it is empty
abbrev pub named_text : Option Sector → Text
named_text (Some s) = written (text_of s)
named_text None = written []
