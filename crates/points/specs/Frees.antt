-- A free list in any order (document 01, 19), as a test that computes and as plain facts. Assumes nothing.
use Rattle.std.specs.Prelude.{ℕ, suc, ◌<◌, ◌≡◌, Bool, List, [], ◌∷◌, eqb, length, get_or}
use Rattle.lists.specs.Lists.{choose, both, every}
use Rattle.consts.specs.Consts.{free_sector}
use Rattle.fat.specs.Lists.{all_below}

-- how often x stands in a list
unfoldable pub occurs : ℕ → List ℕ → ℕ
occurs x [] = 0
occurs x (y ∷ ys) = choose (eqb x y) (suc (occurs x ys)) (occurs x ys)

-- document 01: how often sector i stands in the free list: once where its entry is FREE, else never
unfoldable pub times_free : List ℕ → ℕ → ℕ
times_free fat i = choose (eqb (get_or fat i 0) free_sector) 1 0

-- document 01, 19, "the free list in any order": each of n sectors as often as it must, and no other number
unfoldable pub any_order : ℕ → List ℕ → List ℕ → Bool
unfolding all_below occurs times_free
any_order n fat frees = both (all_below n frees) (every n (λ i. eqb (occurs i frees) (times_free fat i)))

-- document 01: a list holds the FREE sectors below n, each in one place, and no other number
pub record FreesOnce (n : ℕ) (fat frees : List ℕ) : Type 0 where
  pub below : (j : ℕ) → j < length frees → get_or frees j 0 < n
  pub free : (j : ℕ) → j < length frees → get_or fat (get_or frees j 0) 0 ≡ free_sector
  pub once : (i j : ℕ) → i < length frees → j < length frees → get_or frees i 0 ≡ get_or frees j 0 → i ≡ j
  pub all : (i : ℕ) → i < n → get_or fat i 0 ≡ free_sector → (j : ℕ) × (j < length frees) × (get_or frees j 0 ≡ i)
