-- The laws of lists of sectors: numbers below a bound, and numbers that differ. Assumes nothing.
use Prim.Native.Nat.{ℕ, ◌+◌, ◌≤◌, ◌<◌}
use mathlib.Core.Path.{◌≡◌, sym, ◌∙◌, ap}
use mathlib.Core.Bool.{Bool, true, not}
use mathlib.Core.List.{List}
use mathlib.Core.Logic.{◌↔◌, ⊎_elim, ◌≢◌}
use native.Mathlib.Omega.{arith}
use borrow.Author.Tests.{lt-ltb, ltb-true, eq-eqb, eqb-true, eqb-false, not-true}
use lib.Dec.{eqb, ltb}
use lib.ListN.{length, get_or, set}
use lib.Seq.{get_or-set_same, get_or-set_other}
use Rattle.std.proofs.lemmas.Grind.{get_or_default_zero}
use Rattle.lists.specs.Lists.{every}
use Rattle.lists.proofs.Cases.{same_or, below_or, every_at, unlike, every_of, same_test}
use Rattle.fat.specs.Lists.{all_below, different}

-- every number is below n, at each place
pub below_at : (n : ℕ) (xs : List ℕ) → all_below n xs ≡ true → (i : ℕ) → i < length xs → get_or xs i 0 < n
unfolding all_below
below_at n xs t i h = ltb-true (get_or xs i 0) n (every_at (length xs) (λ j. ltb (get_or xs j 0) n) t i h)

pub below_of : (n : ℕ) (xs : List ℕ) → ((i : ℕ) → i < length xs → get_or xs i 0 < n) → all_below n xs ≡ true
unfolding all_below
below_of n xs h = every_of (length xs) (λ j. ltb (get_or xs j 0) n) (λ i l. lt-ltb (get_or xs i 0) n (h i l))

pub below_exactly : (n : ℕ) (xs : List ℕ) → all_below n xs ≡ true ↔ ((i : ℕ) → i < length xs → get_or xs i 0 < n)
below_exactly n xs = (below_at n xs, below_of n xs)

pub below_kept : (n m : ℕ) (xs : List ℕ) → m ≡ n → all_below n xs ≡ true → all_below m xs ≡ true
below_kept n m xs e t = rw e t

-- so at what an iterator over the list has left
pub below_left : (n : ℕ) (xs left : List ℕ) → left ≡ xs → all_below n xs ≡ true → (i d : ℕ) → i < length left → get_or left i d < n
below_left n xs left e t i d h = rw (get_or_default_zero left i d h) (below_at n left (rw e t) i h)

-- an index that a list of such numbers gives
pub below_given : (n m : ℕ) (xs : List ℕ) (i at : ℕ) → all_below n xs ≡ true → i < length xs → at ≡ get_or xs i 0 → m ≡ n → at < m
below_given n m xs i at t h e same = omega (arith, below_at n xs t i h)

-- no number stands twice: the definition looks at each place and at those before it
different_before : (xs : List ℕ) → different xs ≡ true → (i j : ℕ) → i < length xs → j < i → get_or xs i 0 ≡ get_or xs j 0 → ⊥
unfolding different
different_before xs t i j hi hj =
    eqb-false (get_or xs i 0) (get_or xs j 0)
    (not-true _ (every_at i (λ k. not (eqb (get_or xs i 0) (get_or xs k 0)))
    (every_at (length xs) (λ k. every k (λ m. not (eqb (get_or xs k 0) (get_or xs m 0)))) t i hi) j hj))

pub different_at : (xs : List ℕ) → different xs ≡ true → (i j : ℕ) → i < length xs → j < length xs → get_or xs i 0 ≡ get_or xs j 0 → i ≡ j
different_at xs t i j hi hj e =
    ⊎_elim
    (λ (l : i < j). absurd (different_before xs t j i hj l (sym e)))
    (λ (g : j ≤ i). ⊎_elim (λ (l : j < i). absurd (different_before xs t i j hi l e)) (λ (s : i ≤ j). omega arith) (below_or j i))
    (below_or i j)

pub different_of : (xs : List ℕ) → ((i j : ℕ) → i < length xs → j < length xs → get_or xs i 0 ≡ get_or xs j 0 → i ≡ j) → different xs ≡ true
unfolding different
different_of xs h =
    every_of (length xs) (λ i. every i (λ j. not (eqb (get_or xs i 0) (get_or xs j 0))))
    (λ i hi. every_of i (λ j. not (eqb (get_or xs i 0) (get_or xs j 0)))
    (λ j hj. unlike (get_or xs i 0) (get_or xs j 0) (λ e. let s : i ≡ j = h i j hi (omega arith) e in omega arith)))

pub different_exactly : (xs : List ℕ) → different xs ≡ true ↔ ((i j : ℕ) → i < length xs → j < length xs → get_or xs i 0 ≡ get_or xs j 0 → i ≡ j)
different_exactly xs = (different_at xs, different_of xs)

-- the places that are stored: at each number of the list, a place where the list has it
abbrev pub Placed : List ℕ → List ℕ → ℕ → Type 0
Placed xs ps n = (j : ℕ) → j < n → (get_or ps (get_or xs j 0) 0 < n) × (get_or xs (get_or ps (get_or xs j 0) 0) 0 ≡ get_or xs j 0)

-- no place stored yet, and one more
pub placed_none : (xs ps : List ℕ) → Placed xs ps 0
placed_none xs ps j h = absurd (omega arith)

pub placed_more : (xs ps : List ℕ) (j at : ℕ) → at ≡ get_or xs j 0 → at < length ps → Placed xs ps j → Placed xs (set ps at j) (j + 1)
placed_more xs ps j at e h placed k hk =
    ⊎_elim
    (λ (s : get_or xs k 0 ≡ at).
    let g : get_or (set ps at j) (get_or xs k 0) 0 ≡ j = ap (λ (x : ℕ). get_or (set ps at j) x 0) s ∙ get_or-set_same ps at j 0 h in
    (omega arith, ap (λ (x : ℕ). get_or xs x 0) g ∙ sym e ∙ sym s))
    (λ (n : get_or xs k 0 ≢ at).
    let g : get_or (set ps at j) (get_or xs k 0) 0 ≡ get_or ps (get_or xs k 0) 0 = get_or-set_other ps at (get_or xs k 0) j 0 n in
    let l : k < j = earlier k n hk in
    (rw g (lt_suc (placed k l).0), ap (λ (x : ℕ). get_or xs x 0) g ∙ (placed k l).1))
    (same_or (get_or xs k 0) at)
  where
    earlier : (k : ℕ) → get_or xs k 0 ≢ at → k < j + 1 → k < j
    earlier k n hk = ⊎_elim (λ (l : k < j). l) (λ (g : j ≤ k). let s : k ≡ j = omega arith in absurd (n (ap (λ (x : ℕ). get_or xs x 0) s ∙ sym e))) (below_or k j)

    lt_suc : {a : ℕ} → a < j → a < j + 1
    lt_suc l = omega arith

-- the entry of the k-th listed sector
abbrev pub listed_at : List ℕ → List ℕ → ℕ → ℕ
listed_at fat ids k = get_or fat (get_or ids k 0) 0

-- the number at place j of the list has j stored
abbrev pub stands_at : List ℕ → List ℕ → ℕ → Bool
stands_at xs ps j = eqb (listed_at ps xs j) j

stored_own : (xs ps : List ℕ) → every (length xs) (stands_at xs ps) ≡ true → (j : ℕ) → j < length xs → get_or ps (get_or xs j 0) 0 ≡ j
stored_own xs ps t j h = eqb-true _ j (every_at (length xs) (stands_at xs ps) t j h)

-- every place stands exactly where no number stands twice: two equal numbers would have one place
pub places_tell : (xs ps : List ℕ) → Placed xs ps (length xs) → every (length xs) (stands_at xs ps) ≡ different xs
places_tell xs ps placed =
    same_test (every (length xs) (stands_at xs ps)) (different xs)
    (λ t. different_of xs (λ i j hi hj e. sym (stored_own xs ps t i hi) ∙ ap (λ (x : ℕ). get_or ps x 0) e ∙ stored_own xs ps t j hj))
    (λ t. every_of (length xs) (stands_at xs ps) (λ j hj. eq-eqb _ j (different_at xs t (get_or ps (get_or xs j 0) 0) j (placed j hj).0 hj (placed j hj).1)))
