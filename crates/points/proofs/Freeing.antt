-- The laws of a free list in any order: how often a number stands in it, and why as many different FREE sectors as there are must be all. Assumes nothing.
use Prim.Native.Nat.{ℕ, zero, suc, ◌+◌, ◌-◌, ◌≤◌, ◌<◌}
use mathlib.Core.Path.{◌≡◌, refl, sym, ◌∙◌, ap}
use mathlib.Core.Bool.{Bool, true, false}
use mathlib.Core.List.{List, [], ◌∷◌}
use mathlib.Core.Logic.{◌↔◌, ⊎_elim, ◌≢◌}
use native.Mathlib.Omega.{arith}
use native.Mathlib.Nat.{le_trans, add-zero}
use borrow.Author.Tests.{eq-eqb, ne_eqb, eqb-true}
use lib.Dec.{eqb}
use lib.ListN.{length, get_or}
use Rattle.lists.specs.Lists.{choose, both}
use Rattle.lists.proofs.Cases.{same_or, below_or, not_both, both_true, both_left, both_right, both_false_left, same_test, every_at, every_of, true_or}
use Rattle.lists.proofs.Pigeon.{pigeon}
use Rattle.consts.specs.Consts.{free_sector}
use Rattle.fat.specs.Lists.{all_below, different}
use Rattle.fat.proofs.Differing.{below_at, below_of, different_at, different_of}
use Rattle.judge.specs.Judge.{all_marked, frees_of}
use Rattle.judge.proofs.Marking.{marked_at, marked_of}
use Rattle.points.specs.Frees.{occurs, times_free, any_order, FreesOnce}
use Rattle.points.specs.Parts.{frees_same}
use Rattle.points.proofs.Testing.{count_yes, count_no}

-- a number that stands nowhere, somewhere, in one place alone
pub occurs_none : (x : ℕ) (ys : List ℕ) → ((j : ℕ) → j < length ys → get_or ys j 0 ≡ x → ⊥) → occurs x ys ≡ 0
unfolding occurs
occurs_none x [] n = refl
occurs_none x (y ∷ ys) n = rw (ne_eqb x y (λ e. n 0 (omega arith) (sym e))) (occurs_none x ys (λ j h. n (suc j) (omega arith)))

pub occurs_some : (x : ℕ) (ys : List ℕ) (j : ℕ) → j < length ys → get_or ys j 0 ≡ x → 1 ≤ occurs x ys
unfolding occurs
occurs_some x [] j h e = absurd (omega arith)
occurs_some x (y ∷ ys) zero h e = rw (eq-eqb x y (sym e)) (omega arith)
occurs_some x (y ∷ ys) (suc j) h e = at (eqb x y) (occurs_some x ys j (omega arith) e)
  where
    at : (t : Bool) → 1 ≤ occurs x ys → 1 ≤ choose t (suc (occurs x ys)) (occurs x ys)
    at true l = omega arith
    at false l = l

pub occurs_place : (x : ℕ) (ys : List ℕ) → 1 ≤ occurs x ys → (j : ℕ) × (j < length ys) × (get_or ys j 0 ≡ x)
unfolding occurs
occurs_place x [] h = absurd (omega arith)
occurs_place x (y ∷ ys) h =
    let rest : 1 ≤ occurs x ys → (j : ℕ) × (j < length ys) × (get_or ys j 0 ≡ x) = occurs_place x ys in
    ⊎_elim
    (λ (e : x ≡ y). (0, omega arith, sym e))
    (λ (n : x ≢ y). let p = rest (rw (ne_eqb x y n) at h) in (suc p.0, omega (arith, p.1), p.2))
    (same_or x y)

pub occurs_once : (x : ℕ) (ys : List ℕ) → ((i j : ℕ) → i < length ys → j < length ys → get_or ys i 0 ≡ x → get_or ys j 0 ≡ x → i ≡ j) → (j : ℕ) → j < length ys → get_or ys j 0 ≡ x → occurs x ys ≡ 1
unfolding occurs
occurs_once x [] u j h e = absurd (omega arith)
occurs_once x (y ∷ ys) u zero h e =
    rw (eq-eqb x y (sym e)) (ap suc (occurs_none x ys (λ i l f. let z : ◌≡◌ {A = ℕ} 0 (suc i) = u 0 (suc i) (omega arith) (omega arith) e f in omega arith)))
occurs_once x (y ∷ ys) u (suc j) h e =
    rw (ne_eqb x y (λ s. let z : ◌≡◌ {A = ℕ} 0 (suc j) = u 0 (suc j) (omega arith) h (sym s) e in omega arith))
    (occurs_once x ys (λ a b ha hb p q. let z : suc a ≡ suc b = u (suc a) (suc b) (omega arith) (omega arith) p q in omega arith) j (omega arith) e)

occurs_more : (x y : ℕ) (ys : List ℕ) → occurs x ys ≤ occurs x (y ∷ ys)
unfolding occurs
occurs_more x y ys = at (eqb x y)
  where
    at : (t : Bool) → occurs x ys ≤ choose t (suc (occurs x ys)) (occurs x ys)
    at true = omega arith
    at false = omega arith

occurs_twice : (x y : ℕ) (ys : List ℕ) (j : ℕ) → occurs x (y ∷ ys) ≤ 1 → y ≡ x → j < length ys → get_or ys j 0 ≡ x → ⊥
unfolding occurs
occurs_twice x y ys j l e h f = let m : suc (occurs x ys) ≤ 1 = rw (eq-eqb x y (sym e)) at l in omega (arith, occurs_some x ys j h f)

pub occurs_unique : (x : ℕ) (ys : List ℕ) → occurs x ys ≤ 1 → (i j : ℕ) → i < length ys → j < length ys → get_or ys i 0 ≡ x → get_or ys j 0 ≡ x → i ≡ j
occurs_unique x [] l i j hi hj p q = absurd (omega arith)
occurs_unique x (y ∷ ys) l zero zero hi hj p q = refl
occurs_unique x (y ∷ ys) l zero (suc j) hi hj p q = absurd (occurs_twice x y ys j l p (omega arith) q)
occurs_unique x (y ∷ ys) l (suc i) zero hi hj p q = absurd (occurs_twice x y ys i l q (omega arith) p)
occurs_unique x (y ∷ ys) l (suc i) (suc j) hi hj p q = ap suc (occurs_unique x ys (le_trans (occurs_more x y ys) l) i j (omega arith) (omega arith) p q)

-- a FREE sector must stand once, another never
times_yes : (fat : List ℕ) (i : ℕ) → get_or fat i 0 ≡ free_sector → times_free fat i ≡ 1
unfolding times_free
times_yes fat i e = rw (eq-eqb (get_or fat i 0) free_sector e)

times_no : (fat : List ℕ) (i : ℕ) → get_or fat i 0 ≢ free_sector → times_free fat i ≡ 0
unfolding times_free
times_no fat i n = rw (ne_eqb (get_or fat i 0) free_sector n)

times_few : (fat : List ℕ) (i : ℕ) → times_free fat i ≤ 1
times_few fat i = ⊎_elim (λ (e : get_or fat i 0 ≡ free_sector). omega (arith, times_yes fat i e)) (λ (n : get_or fat i 0 ≢ free_sector). omega (arith, times_no fat i n)) (same_or (get_or fat i 0) free_sector)

times_free_lem : (fat : List ℕ) (i : ℕ) → 1 ≤ times_free fat i → get_or fat i 0 ≡ free_sector
times_free_lem fat i h = ⊎_elim (λ (e : get_or fat i 0 ≡ free_sector). e) (λ (n : get_or fat i 0 ≢ free_sector). absurd (omega (arith, times_no fat i n))) (same_or (get_or fat i 0) free_sector)

-- a list in any order holds each FREE sector in one place, and no other number
module _ (n : ℕ) (fat frees : List ℕ) where
  order_times : any_order n fat frees ≡ true → (i : ℕ) → i < n → occurs i frees ≡ times_free fat i
  unfolding any_order
  order_times t i h = eqb-true _ _ (every_at n (λ k. eqb (occurs k frees) (times_free fat k)) (both_right (all_below n frees) _ t) i h)

  order_below : any_order n fat frees ≡ true → (j : ℕ) → j < length frees → get_or frees j 0 < n
  unfolding any_order
  order_below t = below_at n frees (both_left _ _ t)

  order_once : any_order n fat frees ≡ true → FreesOnce n fat frees
  order_once t =
      record {
        below = order_below t;
        free = λ j h. times_free_lem fat _ (rw (← order_times t (get_or frees j 0) (order_below t j h)) (occurs_some (get_or frees j 0) frees j h refl));
        once = λ i j hi hj e. occurs_unique (get_or frees j 0) frees (rw (order_times t (get_or frees j 0) (order_below t j hj)) (times_few fat (get_or frees j 0))) i j hi hj e refl;
        all = λ i h e. occurs_place i frees (rw (order_times t i h ∙ times_yes fat i e) (omega arith));
      }

  once_order : FreesOnce n fat frees → any_order n fat frees ≡ true
  unfolding any_order
  once_order f =
      both_true (below_of n frees f.below)
      (every_of n (λ k. eqb (occurs k frees) (times_free fat k)) (λ i h. eq-eqb _ _ (counted i h)))
    where
      counted : (i : ℕ) → i < n → occurs i frees ≡ times_free fat i
      counted i h =
          ⊎_elim
          (λ (e : get_or fat i 0 ≡ free_sector).
          let p = f.all i h e in
          occurs_once i frees (λ a b ha hb u v. f.once a b ha hb (u ∙ sym v)) p.0 p.1 p.2 ∙ sym (times_yes fat i e))
          (λ (d : get_or fat i 0 ≢ free_sector).
          occurs_none i frees (λ j l e. d (ap (λ (k : ℕ). get_or fat k 0) (sym e) ∙ f.free j l)) ∙ sym (times_no fat i d))
          (same_or (get_or fat i 0) free_sector)

  pub order_exactly : any_order n fat frees ≡ true ↔ FreesOnce n fat frees
  order_exactly = (order_once, once_order)

-- the FREE sectors below one: no fewer further up, and one more behind a FREE one
rank_grows : (fat : List ℕ) (a c : ℕ) → length (frees_of a fat) ≤ length (frees_of (a + c) fat)
rank_grows fat a zero = rw add-zero (omega arith)
rank_grows fat a (suc c) =
    let before : length (frees_of a fat) ≤ length (frees_of (a + c) fat) = rank_grows fat a c in
    let next : a + suc c ≡ a + c + 1 = omega arith in
    rw next (⊎_elim
    (λ (e : get_or fat (a + c) 0 ≡ free_sector). omega (arith, before, count_yes fat (a + c) _ _ e refl refl))
    (λ (d : get_or fat (a + c) 0 ≢ free_sector). omega (arith, before, count_no fat (a + c) _ _ d refl refl))
    (same_or (get_or fat (a + c) 0) free_sector))

rank_less : (fat : List ℕ) (i n : ℕ) → i < n → get_or fat i 0 ≡ free_sector → length (frees_of i fat) < length (frees_of n fat)
rank_less fat i n h e =
    let more : i + 1 + (n - (i + 1)) ≡ n = omega arith in
    let grown : length (frees_of (i + 1) fat) ≤ length (frees_of n fat) = rw more at (rank_grows fat (i + 1) (n - (i + 1))) in
    omega (arith, grown, count_yes fat i _ _ e refl refl)

-- as many different FREE sectors below n as there are: each FREE sector is among them, or it and they would be too many
all_listed : (n : ℕ) (fat xs : List ℕ) → length xs ≡ length (frees_of n fat) → ((j : ℕ) → j < length xs → get_or xs j 0 < n) → ((j : ℕ) → j < length xs → get_or fat (get_or xs j 0) 0 ≡ free_sector)
    → ((i j : ℕ) → i < length xs → j < length xs → get_or xs i 0 ≡ get_or xs j 0 → i ≡ j) → (i : ℕ) → i < n → get_or fat i 0 ≡ free_sector → (j : ℕ) × (j < length xs) × (get_or xs j 0 ≡ i)
all_listed n fat xs count low free once i h f =
    ⊎_elim
    (λ (some : 0 < occurs i xs). occurs_place i xs some)
    (λ (none : occurs i xs ≤ 0). absurd (omega (arith, pigeon (length xs) (suc (length xs)) (λ j. rank (get_or (i ∷ xs) j 0)) (λ j l. rw count (rank_less fat _ n (below j l) (is_free j l))) (apart none))))
    (below_or 0 (occurs i xs))
  where
    rank : ℕ → ℕ
    rank x = length (frees_of x fat)

    below : (j : ℕ) → j < suc (length xs) → get_or (i ∷ xs) j 0 < n
    below zero l = h
    below (suc j) l = low j (omega arith)

    is_free : (j : ℕ) → j < suc (length xs) → get_or fat (get_or (i ∷ xs) j 0) 0 ≡ free_sector
    is_free zero l = f
    is_free (suc j) l = free j (omega arith)

    same : (a b : ℕ) → get_or fat a 0 ≡ free_sector → get_or fat b 0 ≡ free_sector → rank a ≡ rank b → a ≡ b
    same a b fa fb e =
        ⊎_elim
        (λ (l : a < b). absurd (omega (arith, rank_less fat a b l fa)))
        (λ (g : b ≤ a). ⊎_elim (λ (l : b < a). absurd (omega (arith, rank_less fat b a l fb))) (λ (k : a ≤ b). omega arith) (below_or b a))
        (below_or a b)

    other : occurs i xs ≤ 0 → (j : ℕ) → j < length xs → get_or xs j 0 ≡ i → ⊥
    other none j l e = omega (arith, occurs_some i xs j l e)

    differ : occurs i xs ≤ 0 → (a b : ℕ) → a < suc (length xs) → b < suc (length xs) → get_or (i ∷ xs) a 0 ≡ get_or (i ∷ xs) b 0 → a ≡ b
    differ none zero zero la lb e = refl
    differ none zero (suc b) la lb e = absurd (other none b (omega arith) (sym e))
    differ none (suc a) zero la lb e = absurd (other none a (omega arith) e)
    differ none (suc a) (suc b) la lb e = ap suc (once a b (omega arith) (omega arith) e)

    apart : occurs i xs ≤ 0 → (a b : ℕ) → a < suc (length xs) → b < suc (length xs) → rank (get_or (i ∷ xs) a 0) ≡ rank (get_or (i ∷ xs) b 0) → a ≡ b
    apart none a b la lb e = differ none a b la lb (same _ _ (is_free a la) (is_free b lb) e)

-- a free list that is tested in turn: its number, its range, its entries, and its repeats
module _ (fat frees : List ℕ) where
  pub frees_number : (length frees ≡ length (frees_of (length fat) fat) → ⊥) → false ≡ frees_same fat frees
  unfolding frees_same
  frees_number n = sym (both_false_left _ _ (ne_eqb _ _ n))

  module _ (count : length frees ≡ length (frees_of (length fat) fat)) where
    by_order : frees_same fat frees ≡ any_order (length fat) fat frees
    unfolding frees_same
    by_order = ap (λ (b : Bool). both b (any_order (length fat) fat frees)) (eq-eqb _ _ count)

    refuted : (FreesOnce (length fat) fat frees → ⊥) → false ≡ frees_same fat frees
    refuted n = sym (by_order ∙ ⊎_elim (λ (t : any_order (length fat) fat frees ≡ true). absurd (n (order_once (length fat) fat frees t))) (λ (f : any_order (length fat) fat frees ≡ false). f) (true_or _))

    pub frees_range : all_below (length fat) frees ≡ false → false ≡ frees_same fat frees
    frees_range b = refuted (λ f. not_both (below_of (length fat) frees f.below) b)

    pub frees_entries : all_marked fat frees free_sector ≡ false → false ≡ frees_same fat frees
    frees_entries b = refuted (λ f. not_both (marked_of fat frees free_sector f.free) b)

    pub frees_different : (r : Bool) → all_below (length fat) frees ≡ true → all_marked fat frees free_sector ≡ true → r ≡ different frees → r ≡ frees_same fat frees
    frees_different r low marked e =
        e ∙ sym (by_order ∙ sym (same_test (different frees) (any_order (length fat) fat frees)
        (λ t. once_order (length fat) fat frees
        record {
          below = below_at (length fat) frees low;
          free = marked_at fat frees free_sector marked;
          once = different_at frees t;
          all = all_listed (length fat) fat frees count (below_at (length fat) frees low) (marked_at fat frees free_sector marked) (different_at frees t);
        })
        (λ t. different_of frees (order_once (length fat) fat frees t).once)))
