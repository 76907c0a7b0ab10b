-- What the functions that test entries, marks and a free list ask for and say. Assumes nothing.
use Rattle.std.specs.Prelude.{ℕ, ◌+◌, ◌≤◌, ◌≡◌, Bool, not, List, eqb, leb, ltb, length, get_or, set}
use Rattle.lists.specs.Lists.{choose, both, either, every, tab, same_list}
use Rattle.consts.specs.Consts.{invalid_sector, free_sector}
use Rattle.judge.specs.Judge.{pointed, marks_of, none_dangles, frees_of}
use Rattle.points.specs.Frees.{occurs, any_order}

-- no entry is reserved, and none points where an earlier one does (document 01, 16 and 17)
unfoldable pub points_once : List ℕ → Bool
unfolding pointed
points_once fat =
    every (length fat) (λ i.
    both (not (eqb (get_or fat i 0) invalid_sector))
    (either (leb (length fat) (get_or fat i 0)) (not (pointed fat i (get_or fat i 0)))))

-- the entries point as they must, and the marks say where (document 01, 16 to 18)
unfoldable pub points_same : List ℕ → List ℕ → Bool
unfolding points_once
points_same fat marks = both (points_once fat) (both (same_list marks (marks_of (length fat) fat)) (none_dangles (length fat) fat))

-- document 01, 16: how many entries point at each sector
unfoldable pub pointers_of : List ℕ → List ℕ
unfolding occurs
pointers_of fat = tab (λ i. occurs i fat) (length fat)

-- one entry more is counted, if it points at a sector
unfoldable pub pointer_counted : ℕ → List ℕ → List ℕ
pointer_counted e counts = choose (ltb e (length counts)) (set counts e (get_or counts e 0 + 1)) counts

-- document 01, 16 to 19: a sector's entry, the count of the entries that point at it, and its mark. The mark is the count, which is at most 1; the entry is not reserved; if it is FREE the count is 0
unfoldable pub sector_right : ℕ → ℕ → ℕ → Bool
sector_right e count mark =
    both (both (eqb count mark) (leb count 1))
    (both (not (eqb e invalid_sector)) (either (not (eqb e free_sector)) (eqb count 0)))

-- every sector is right, by the counts of the entries that point at them
abbrev pub sectors_right : List ℕ → List ℕ → List ℕ → Bool
sectors_right fat counts marks = every (length fat) (λ i. sector_right (get_or fat i 0) (get_or counts i 0) (get_or marks i 0))

-- the free list is the FAT's, in any order (document 01, 19)
unfoldable pub frees_same : List ℕ → List ℕ → Bool
frees_same fat frees = both (eqb (length frees) (length (frees_of (length fat) fat))) (any_order (length fat) fat frees)

-- a scratch with a place for each of n sectors
pub record ScratchLent (n scratch : ℕ) : Type 0 where
  pub few : n ≤ 65536
  pub below : n ≤ scratch

-- a mark for each of n sectors, and a scratch
pub record MarksLent (n scratch marks : ℕ) : Type 0 where
  pub few : n ≤ 65536
  pub below : n ≤ scratch
  pub marked : marks ≡ n

-- a count for each of n sectors
pub record CountsLent (n counts : ℕ) : Type 0 where
  pub few : n ≤ 65536
  pub each : counts ≡ n
