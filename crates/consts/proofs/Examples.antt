-- Worked examples of the definitions, each computed. Assumes nothing.
use Prim.Native.Nat.{ℕ}
use mathlib.Core.Path.{◌≡◌, refl}
use mathlib.Core.List.{List, [], ◌∷◌}
use Rattle.std.specs.Prelude.{Some, None}
use Rattle.consts.specs.Pretty.{prettify_of, item_at}
use Rattle.consts.specs.declared.Sector.TheVariants.{Free, End, Fat, Difat, Range}

-- the FAT of the image Q: a FAT sector, a chain of two links, its end, two free sectors
abbrev pub q : List ℕ
q = 0xffff_fffd ∷ 2 ∷ 3 ∷ 0xffff_fffe ∷ 0xffff_ffff ∷ 0xffff_ffff ∷ []

pub q_items : prettify_of q ≡ Fat 1 ∷ Range 2 3 ∷ End ∷ Free 2 ∷ []
unfolding prettify_of
q_items = refl

-- its items at their places, the last of them past the end
pub q_second : item_at q 1 ≡ Some (record { item = Range 2 3; past = 3 })
unfolding item_at
q_second = refl

pub q_past : item_at q 6 ≡ None
unfolding item_at
q_past = refl

-- a range takes 0xfffffffb in, and 0xfffffffc begins an item of its own
pub reserved_joins : prettify_of (0xffff_fffa ∷ 0xffff_fffb ∷ 0xffff_fffc ∷ []) ≡ Range 0xffff_fffa 0xffff_fffb ∷ Difat 1 ∷ []
unfolding prettify_of
reserved_joins = refl

-- two ends are two items, and a number that goes back begins a range of its own
pub ends_apart : prettify_of (0xffff_fffe ∷ 0xffff_fffe ∷ 7 ∷ 6 ∷ []) ≡ End ∷ End ∷ Range 7 7 ∷ Range 6 6 ∷ []
unfolding prettify_of
ends_apart = refl
