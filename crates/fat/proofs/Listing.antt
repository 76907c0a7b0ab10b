-- The laws of the lists as a whole (document 01, 12). Assumes nothing.
use Prim.Native.Nat.{ℕ, ◌+◌, ◌-◌, ◌*◌, ◌^◌, ◌/◌, ◌%◌, ◌≤◌, ◌<◌, min}
use mathlib.Core.Path.{◌≡◌, refl, sym, ◌∙◌, ap}
use mathlib.Core.Bool.{Bool, true, false}
use mathlib.Core.List.{List}
use mathlib.Core.Logic.{⊎_elim}
use native.Mathlib.Nat.{div-mul-le_self, lt-div-mul-add, mul-le-mul_right, add-mul, one-mul}
use native.Mathlib.Omega.{arith}
use lib.ListN.{length}
use Rattle.std.proofs.lemmas.Grind.{div_ceil_times}
use Rattle.lists.specs.Lists.{both}
use Rattle.lists.proofs.Cases.{below_or, both_left, both_right, both_false_left, both_false_right, not_both}
use Rattle.header.specs.declared.Header.{Header}
use Rattle.fat.specs.Lists.{ceil, fat_count, difat_count, counts_right, difat_at, difats_of, fats_of, all_below, different, ends, chain_right, rest_free, ids_right, fats_right, difats_in, fats_in, lists_right}
use Rattle.fat.specs.Loaded.{ChainListed, Places, PlacesListed, Loads, ListsLoaded, Counted}
use Rattle.sectors.specs.Sectors.{per_sector}
use Rattle.sectors.proofs.Laws.{scaled}
use Rattle.fat.proofs.Differing.{below_at, below_of}

-- what is below n is below more
pub below_more : (n m : ℕ) (xs : List ℕ) → n ≤ m → all_below n xs ≡ true → all_below m xs ≡ true
below_more n m xs h t = below_of m xs (λ i l. omega (arith, below_at n xs t i l))

-- a refused loading says nothing of the list
pub loads_not : (test r : Bool) (xs after : List ℕ) → r ≡ false → test ≡ false → Loads test xs r after
loads_not test r xs after n e = record { right = n ∙ sym e; list = λ t. absurd (not_both t n) }

-- the DIFAT chain: not listed, or listed and then different or not
module _ (S : ℕ) (img : List ℕ) (n first d : ℕ) where
  pub chain_not : (r : Bool) (now : List ℕ) → ChainListed S img n first d r now → r ≡ false → Loads (chain_right S img first n d) (difats_of S img first d) r now
  unfolding chain_right
  chain_not r now c e = loads_not _ r _ now e (split (all_below n (difats_of S img first d)) (different (difats_of S img first d)) (ends (difat_at S img first d)) (sym c.right ∙ e))
    where
      split : (a b e : Bool) → both a e ≡ false → both a (both b e) ≡ false
      split true b e h = both_false_right b e h
      split false b e h = refl

  pub chain_below : (r : Bool) (now : List ℕ) → ChainListed S img n first d r now → r ≡ true → all_below n now ≡ true
  chain_below r now c e = ap (all_below n) (c.listed e) ∙ both_left _ _ (sym c.right ∙ e)

  pub chain_loads : (r q : Bool) (now : List ℕ) → ChainListed S img n first d r now → r ≡ true → q ≡ different now → Loads (chain_right S img first n d) (difats_of S img first d) q now
  unfolding chain_right
  chain_loads r q now c e f =
      let all : both (all_below n (difats_of S img first d)) (ends (difat_at S img first d)) ≡ true = sym c.right ∙ e in
      let below : all_below n (difats_of S img first d) ≡ true = both_left _ _ all in
      let ended : ends (difat_at S img first d) ≡ true = both_right (all_below n (difats_of S img first d)) _ all in
      record {
        right = f ∙ ap different (c.listed e) ∙ sym (rw (below, ended) (last (different (difats_of S img first d))));
        list = λ t. c.listed e;
      }
    where
      last : (b : Bool) → both b true ≡ b
      last true = refl
      last false = refl

-- the FAT's list: not listed, not followed by FREE, or both and then different or not
module _ (S : ℕ) (img : List ℕ) (n : ℕ) (list difats : List ℕ) (k : ℕ) where
  pub fats_not : (r : Bool) (now : List ℕ) → PlacesListed S img n list difats k r now → r ≡ false → Loads (fats_right S img n list difats k) (fats_of S img list difats k) r now
  unfolding fats_right ids_right
  fats_not r now c e =
      loads_not _ r _ now e (both_false_right (rest_free S img list difats k (length difats)) _ (both_false_left _ (different (fats_of S img list difats k)) (sym c.right ∙ e)))

  pub fats_more : (q : Bool) (now : List ℕ) → q ≡ rest_free S img list difats k (length difats) → q ≡ false → Loads (fats_right S img n list difats k) (fats_of S img list difats k) q now
  unfolding fats_right
  fats_more q now f e = loads_not _ q _ now e (both_false_left _ (ids_right n (fats_of S img list difats k)) (sym f ∙ e))

  pub fats_below : (r : Bool) (now : List ℕ) → PlacesListed S img n list difats k r now → r ≡ true → all_below n now ≡ true
  fats_below r now c e = ap (all_below n) (c.listed e) ∙ sym c.right ∙ e

  pub fats_load : (r q : Bool) (now : List ℕ) → PlacesListed S img n list difats k r now → r ≡ true → rest_free S img list difats k (length difats) ≡ true → q ≡ different now
      → Loads (fats_right S img n list difats k) (fats_of S img list difats k) q now
  unfolding fats_right ids_right
  fats_load r q now c e f g =
      record { right = g ∙ ap different (c.listed e) ∙ sym (rw (f, sym c.right ∙ e)); list = λ t. c.listed e }

-- the counts of lists that n sectors ask for are small, and their places reach as far as they must
pub ceil_enough : (a b : ℕ) → 1 ≤ b → (a ≤ ceil a b * b) × (ceil a b * b < a + b)
unfolding ceil
ceil_enough a b h =
    let low : (a + (b - 1)) / b * b ≤ a + (b - 1) = div-mul-le_self (a + (b - 1)) b in
    let high : a + (b - 1) < (a + (b - 1)) / b * b + b = lt-div-mul-add {a = a + (b - 1)} {b = b} h in
    (omega arith, omega arith)

-- so std's quotient is this one
pub ceil_is : (a b : ℕ) → 1 ≤ b → a / b + min 1 (a % b) ≡ ceil a b
ceil_is a b h = one (a / b + min 1 (a % b)) (ceil a b) (div_ceil_times a b h) (ceil_enough a b h)
  where
    low : (q r : ℕ) → q < r → q * b + b ≤ r * b
    low q r l = let more : (q + 1) * b ≤ r * b = mul-le-mul_right b (omega arith) in omega (arith, add-mul q 1 b, one-mul b)

    one : (q r : ℕ) → (a ≤ q * b) × (q * b < a + b) → (a ≤ r * b) × (r * b < a + b) → q ≡ r
    one q r s t =
        ⊎_elim
        (λ (l : q < r). absurd (omega (arith, low q r l, s.0, t.1)))
        (λ (g : r ≤ q). ⊎_elim (λ (l : r < q). absurd (omega (arith, low r q l, s.1, t.0))) (λ (k : q ≤ r). omega arith) (below_or r q))
        (below_or q r)

pub ceil_few : (a b : ℕ) → 1 ≤ b → ceil a b ≤ a
ceil_few a b h =
    ⊎_elim
    (λ (l : ceil a b < a + 1). omega arith)
    (λ (g : a + 1 ≤ ceil a b).
    absurd (omega (arith, mul-le-mul_right b g, add-mul a 1 b, one-mul b, scaled a b h, (ceil_enough a b h).1)))
    (below_or (ceil a b) (a + 1))

module _ (S n len k d : ℕ) (c : Counted S n len k d) where
  pub fats_few : k ≤ n
  unfolding fat_count
  fats_few = rw c.fats (ceil_few n (per_sector S) (omega (arith, c.holds.two)))

  pub difats_few : d ≤ n
  unfolding difat_count
  difats_few = omega (arith, c.difats, ceil_few (k - 109) (per_sector S - 1) (omega (arith, c.holds.two)), fats_few)

  pub places_reach : k ≤ 109 + d * (per_sector S - 1)
  unfolding difat_count
  places_reach = rw c.difats (omega (arith, (ceil_enough (k - 109) (per_sector S - 1) (omega (arith, c.holds.two))).0))

  pub places_few : d * (per_sector S - 1) < 2 ^ 32
  unfolding difat_count
  places_few = rw c.difats (omega (arith, (ceil_enough (k - 109) (per_sector S - 1) (omega (arith, c.holds.two))).1, fats_few, c.few, c.short))

-- all of it, from the three looks at lists of the counts that n sectors ask for
module _ (S : ℕ) (img : List ℕ) (h : Header) (n k d : ℕ) (ek : k ≡ fat_count S n) (ed : d ≡ difat_count S k) where
  pub by_counts : lists_right S img h n ≡ both (counts_right h k d) (both (chain_right S img h.difat n d) (fats_right S img n h.list (difats_of S img h.difat d) k))
  unfolding lists_right difats_in
  by_counts = rw (ed, ek)

  not_right : (r : Bool) (fats difats : List ℕ) → r ≡ false → lists_right S img h n ≡ false → ListsLoaded S img h n r fats difats
  not_right r fats difats f e = record { right = f ∙ sym e; difats_hold = λ t. absurd (not_both t f); fats_hold = λ t. absurd (not_both t f) }

  pub lists_not_counts : (r : Bool) (fats difats : List ℕ) → r ≡ counts_right h k d → r ≡ false → ListsLoaded S img h n r fats difats
  lists_not_counts r fats difats c e = not_right r fats difats e (by_counts ∙ both_false_left _ _ (sym c ∙ e))

  pub lists_not_chain : (r : Bool) (fats difats : List ℕ) → Loads (chain_right S img h.difat n d) (difats_of S img h.difat d) r difats → r ≡ false → ListsLoaded S img h n r fats difats
  lists_not_chain r fats difats l e =
      not_right r fats difats e (by_counts ∙ both_false_right (counts_right h k d) _ (both_false_left _ (fats_right S img n h.list (difats_of S img h.difat d) k) (sym l.right ∙ e)))

  pub lists_load : (fats difats : List ℕ) (r q : Bool) → counts_right h k d ≡ true → Loads (chain_right S img h.difat n d) (difats_of S img h.difat d) r difats → r ≡ true
      → Loads (fats_right S img n h.list difats k) (fats_of S img h.list difats k) q fats → ListsLoaded S img h n q fats difats
  unfolding difats_in fats_in
  lists_load fats difats r q e l t m =
      let here : difats ≡ difats_of S img h.difat d = l.list t in
      let chain : chain_right S img h.difat n d ≡ true = sym l.right ∙ t in
      record {
        right = m.right ∙ ap (λ (x : List ℕ). fats_right S img n h.list x k) here ∙ sym (by_counts ∙ rw (e, chain));
        difats_hold = λ z. here ∙ ap (difats_of S img h.difat) (ed ∙ ap (difat_count S) ek);
        fats_hold = λ z. m.list z
            ∙ ap (λ (x : List ℕ). fats_of S img h.list x k) here
            ∙ ap (λ (x : ℕ). fats_of S img h.list (difats_of S img h.difat x) k) (ed ∙ ap (difat_count S) ek)
            ∙ ap (fats_of S img h.list (difats_of S img h.difat (difat_count S (fat_count S n)))) ek;
      }

-- the DIFAT sectors that were loaded are below n, and so the places can be read
pub places_ready : (S : ℕ) (img : List ℕ) (n first len k d : ℕ) (list difats : List ℕ) (r : Bool) → Counted S n len k d → length list ≡ 109 → length difats ≡ d
    → Loads (chain_right S img first n d) (difats_of S img first d) r difats → r ≡ true → Places S n len list difats k
unfolding chain_right
places_ready S img n first len k d list difats r c w e l t =
    record {
      holds = c.holds;
      whole = w;
      below = ap (all_below n) (l.list t) ∙ both_left _ _ (sym l.right ∙ t);
      there = rw e (places_reach S n len k d c);
      small = rw e (places_few S n len k d c);
    }
