-- Nothing is lost at the library's edge: an item comes back from its numbers. Assumes nothing.
use Prim.Native.Nat.{ℕ, ◌≤◌}
use mathlib.Core.Path.{◌≡◌, refl}
use borrow.Author.Tests.{le-leb}
use Rattle.std.specs.Prelude.{Some}
use Rattle.consts.specs.Consts.{free_sector}
use Rattle.consts.specs.declared.Sector.{Sector}
use Rattle.consts.specs.declared.Sector.TheVariants.{Free, End, Fat, Difat, Range}
use Rattle.items.specs.Items.{sector_number, sector_first, sector_last, named_range, named_of}

-- the ends of a range are entries of 32 bits
abbrev pub Entries : Sector → Type 0
Entries (Free n) = Unit {0}
Entries End = Unit {0}
Entries (Fat n) = Unit {0}
Entries (Difat n) = Unit {0}
Entries (Range a b) = (a ≤ free_sector) × (b ≤ free_sector)

-- a range by its numbers
pub range_known : (a b : ℕ) → a ≤ free_sector → b ≤ free_sector → named_range a b ≡ Some (Range a b)
unfolding named_range
range_known a b h k = rw (le-leb a free_sector h, le-leb b free_sector k)

-- every item is the one that its own numbers name
pub item_again : (s : Sector) → Entries s → named_of (sector_number s) (sector_first s) (sector_last s) ≡ Some s
unfolding named_of
item_again (Free n) h = refl
item_again End h = refl
item_again (Fat n) h = refl
item_again (Difat n) h = refl
item_again (Range a b) h = range_known a b h.0 h.1
