-- Worked examples of the texts, each computed. Assumes nothing.
use Prim.Native.Nat.{ℕ, ◌^◌, ◌-◌}
use mathlib.Core.Path.{◌≡◌, refl}
use mathlib.Core.List.{List, [], ◌∷◌, ◌++◌, flat_map}
use Rattle.consts.specs.Pretty.{prettify_of}
use Rattle.texts.specs.Text.{decimal_of, text_of}
use Rattle.consts.specs.declared.Sector.{Sector}
use Rattle.consts.specs.declared.Sector.TheVariants.{Free, Difat, Range}
use Rattle.consts.proofs.Examples.{q}

-- items, one to a line
unfoldable pub lines_of : List Sector → List ℕ
unfolding flat_map text_of
lines_of = flat_map (λ s. text_of s ++ (10 ∷ []))

-- FAT, 2..=3, EOC, 2 FREE
pub q_lines : lines_of (prettify_of q) ≡ 70 ∷ 65 ∷ 84 ∷ 10 ∷ 50 ∷ 46 ∷ 46 ∷ 61 ∷ 51 ∷ 10 ∷ 69 ∷ 79 ∷ 67 ∷ 10 ∷ 50 ∷ 32 ∷ 70 ∷ 82 ∷ 69 ∷ 69 ∷ 10 ∷ []
unfolding lines_of prettify_of
q_lines = refl

-- 0 FREE
pub no_free : text_of (Free 0) ≡ 48 ∷ 32 ∷ 70 ∷ 82 ∷ 69 ∷ 69 ∷ []
unfolding text_of
no_free = refl

-- 2 DIFAT
pub two_difat : text_of (Difat 2) ≡ 50 ∷ 32 ∷ 68 ∷ 73 ∷ 70 ∷ 65 ∷ 84 ∷ []
unfolding text_of
two_difat = refl

-- 7
pub seven : text_of (Range 7 7) ≡ 55 ∷ []
unfolding text_of
seven = refl

-- 18446744073709551615
pub largest : decimal_of (2 ^ 64 - 1)
    ≡ 49 ∷ 56 ∷ 52 ∷ 52 ∷ 54 ∷ 55 ∷ 52 ∷ 52 ∷ 48 ∷ 55 ∷ 51 ∷ 55 ∷ 48 ∷ 57 ∷ 53 ∷ 53 ∷ 49 ∷ 54 ∷ 49 ∷ 53 ∷ []
unfolding decimal_of
largest = refl
