-- A state as 121 words at the library's edge, and the state that 121 words hold. Assumes nothing.
use Rattle.std.specs.Prelude.{ℕ, Bool, true, not, List, [], ◌∷◌, leb, get_or, drop}
use Rattle.lists.specs.Lists.{both}
use Rattle.header.specs.Read.{unknown}
use Rattle.header.specs.declared.Validation.{Validation}
use Rattle.header.specs.declared.Validation.TheVariants.{Permissive, Strict}
use Rattle.cfb.specs.declared.State.{State}
use Rattle.layout.specs.Layout.{mode_of, words_of, header_from}

-- the number of a mode
abbrev pub mode_number : Validation → ℕ
mode_number Permissive = 0
mode_number Strict = 1

-- the words of a state: mode, used length, sectors, FREE ones, header
unfoldable pub state_words : State → List ℕ
unfolding words_of
state_words s = mode_number s.mode ∷ s.used ∷ s.sectors ∷ s.free ∷ words_of s.header

-- each word has at most 32 bits
unfoldable pub fits_in : List ℕ → Bool
fits_in [] = true
fits_in (x ∷ xs) = both (leb x 4294967295) (fits_in xs)

-- the number of a version: 3 or 4
unfoldable pub is_version : ℕ → Bool
unfolding unknown
is_version n = not (unknown n)

-- words that hold a state: a mode of 0 or 1, a version of 3 or 4, and a header's words of 32 bits
unfoldable pub holds : List ℕ → Bool
unfolding is_version fits_in
holds words = both (leb (get_or words 0 0) 1) (both (is_version (get_or words 4 0)) (fits_in (drop 4 words)))

-- the state that they hold
unfoldable pub held_in : List ℕ → State
unfolding mode_of header_from
held_in words =
    record {
      mode = mode_of (get_or words 0 0);
      used = get_or words 1 0;
      sectors = get_or words 2 0;
      free = get_or words 3 0;
      header = header_from (drop 4 words);
    }
