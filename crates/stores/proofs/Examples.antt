-- Stores computed on a small image (document 01, Calls on a chain). Assumes nothing.
use Prim.Native.Nat.{ℕ}
use mathlib.Core.Path.{◌≡◌, refl}
use mathlib.Core.List.{List, [], ◌∷◌}
use Rattle.lists.specs.Lists.{part}
use Rattle.stores.specs.Stores.{write_bytes, zero_tail}

-- a header and three sectors of 4 bytes, each byte its own place
abbrev small : List ℕ
small = 0 ∷ 1 ∷ 2 ∷ 3 ∷ 4 ∷ 5 ∷ 6 ∷ 7 ∷ 8 ∷ 9 ∷ 10 ∷ 11 ∷ 12 ∷ 13 ∷ 14 ∷ 15 ∷ []

-- a write into the chain 2, 0 goes over the end of sector 2 into sector 0
pub write_over_an_end : write_bytes 4 small (2 ∷ 0 ∷ []) 3 (20 ∷ 21 ∷ 22 ∷ [])
    ≡ 0 ∷ 1 ∷ 2 ∷ 3 ∷ 21 ∷ 22 ∷ 6 ∷ 7 ∷ 8 ∷ 9 ∷ 10 ∷ 11 ∷ 12 ∷ 13 ∷ 14 ∷ 20 ∷ []
unfolding write_bytes part
write_over_an_end = refl

-- zeros from offset 5 to the end of its sector, which is sector 0
pub zeros_to_an_end : zero_tail 4 small (2 ∷ 0 ∷ []) 5 ≡ 0 ∷ 1 ∷ 2 ∷ 3 ∷ 4 ∷ 0 ∷ 0 ∷ 0 ∷ 8 ∷ 9 ∷ 10 ∷ 11 ∷ 12 ∷ 13 ∷ 14 ∷ 15 ∷ []
unfolding zero_tail part
zeros_to_an_end = refl

-- none where a sector begins, nor at the chain's end
pub no_zeros_at_a_start : zero_tail 4 small (2 ∷ 0 ∷ []) 4 ≡ small
unfolding zero_tail part
no_zeros_at_a_start = refl

pub no_zeros_at_the_end : zero_tail 4 small (2 ∷ 0 ∷ []) 8 ≡ small
unfolding zero_tail part
no_zeros_at_the_end = refl
