-- The walk computed on the table of image Q (document 01, cases 1 and 8), and on small tables. Assumes nothing.
use Prim.Native.Nat.{ℕ}
use mathlib.Core.Path.{◌≡◌, refl}
use mathlib.Core.List.{List, [], ◌∷◌}
use Rattle.consts.specs.Consts.{fat_sector, end_of_chain, free_sector}
use Rattle.walk.specs.Walk.{lists, refuses, walk_of}

-- image Q: FAT, 2, 3, END, FREE, FREE
abbrev q : List ℕ
q = fat_sector ∷ 2 ∷ 3 ∷ end_of_chain ∷ free_sector ∷ free_sector ∷ []

-- case 1: start 1 lists 1, 2, 3
pub q_from_one : walk_of q 1 ≡ lists (1 ∷ 2 ∷ 3 ∷ [])
unfolding walk_of
q_from_one = refl

-- case 8: start 2 lists 2, 3
pub q_from_two : walk_of q 2 ≡ lists (2 ∷ 3 ∷ [])
unfolding walk_of
q_from_two = refl

-- case 8: sector 4 is FREE
pub q_from_free : walk_of q 4 ≡ refuses 21
unfolding walk_of
q_from_free = refl

-- case 8: there is no sector 6
pub q_from_past : walk_of q 6 ≡ refuses 20
unfolding walk_of
q_from_past = refl

-- END lists nothing
pub q_from_end : walk_of q end_of_chain ≡ lists []
unfolding walk_of
q_from_end = refl

-- a bad entry on the way
pub bad_second : walk_of (1 ∷ free_sector ∷ []) 0 ≡ refuses 21
unfolding walk_of
bad_second = refl

-- a loop of two comes back to its start
pub loop_of_two : walk_of (1 ∷ 0 ∷ []) 1 ≡ refuses 22
unfolding walk_of
loop_of_two = refl

-- the fuel is spent where a walk runs into a loop that its start is not in: sector 1 is pointed to twice there
pub loop_beside : walk_of (1 ∷ 2 ∷ 1 ∷ []) 0 ≡ refuses 0
unfolding walk_of
loop_beside = refl
