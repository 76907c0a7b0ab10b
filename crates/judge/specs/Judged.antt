-- What the judging of a FAT leaves (document 01, 15 to 17), and the listing of its FREE sectors. Assumes nothing.
use Rattle.std.specs.Prelude.{ℕ, ◌≡◌, Bool, List, ◌++◌, eqb, ltb, leb, length, get_or, set, drop}
use Rattle.lists.specs.Lists.{choose, both}
use Rattle.consts.specs.Consts.{invalid_sector}
use Rattle.lists.specs.Rows.{refusal}
use Rattle.judge.specs.Judge.{regular, forgiven, marked_fat, first_wrong, forgiven_fat, marks_of, frees_of, fat_rows}

-- document 01, 15 to 17: what is wrong with an entry e, where the marks are those of the sectors before
unfoldable pub wrong_by : Bool → ℕ → List ℕ → ℕ → ℕ
unfolding regular
wrong_by strict n marks e =
    choose (regular e)
    (choose (leb n e) (choose strict 15 0) (choose (eqb (get_or marks e 0) 1) 16 0))
    (choose (eqb e invalid_sector) 17 0)

-- document 01: a mark more, where an entry e points at one of n sectors
unfoldable pub marked_by : ℕ → List ℕ → ℕ → List ℕ
unfolding regular
marked_by n marks e = choose (both (regular e) (ltb e n)) (set marks e 1) marks

-- sector i judged
pub record JudgedOne (strict : Bool) (i : ℕ) (fat marks : List ℕ) (r : ℕ) (fat' marks' : List ℕ) : Type 0 where
  pub number : r ≡ wrong_by strict (length fat) marks (get_or fat i 0)
  pub table : r ≡ 0 → fat' ≡ set fat i (forgiven (length fat) (get_or fat i 0))
  pub marked : r ≡ 0 → marks' ≡ marked_by (length fat) marks (get_or fat i 0)

-- every sector judged
pub record Judged (strict : Bool) (fat : List ℕ) (r : ℕ) (fat' marks' : List ℕ) : Type 0 where
  pub number : r ≡ first_wrong strict (length fat) fat 0 (length fat)
  pub table : r ≡ 0 → fat' ≡ forgiven_fat (length fat) fat
  pub marked : r ≡ 0 → marks' ≡ marks_of (length fat) (forgiven_fat (length fat) fat)

-- the FREE sectors listed
pub record Listed (fat frees : List ℕ) (r : ℕ) (frees' : List ℕ) : Type 0 where
  pub number : r ≡ length (frees_of (length fat) fat)
  pub list : frees' ≡ frees_of (length fat) fat ++ drop r frees

-- a FAT as the bytes have it is judged (14 to 18): the number, and, where it is 0, the table and the marks
pub record FatJudged (strict : Bool) (fat difats fats : List ℕ) (r : ℕ) (fat' marks : List ℕ) : Type 0 where
  pub number : r ≡ refusal (fat_rows strict (length fat) fat difats fats)
  pub table : r ≡ 0 → fat' ≡ forgiven_fat (length fat) (marked_fat fat difats fats)
  pub marked : r ≡ 0 → marks ≡ marks_of (length fat) (forgiven_fat (length fat) (marked_fat fat difats fats))
