-- The laws of the lists and of the FAT that an image's bytes hold. Assumes nothing.
use Prim.Native.Nat.{ℕ, ◌+◌, ◌-◌, ◌*◌, ◌/◌, ◌%◌, ◌≤◌, ◌<◌, min}
use mathlib.Core.Path.{◌≡◌, refl, sym, ◌∙◌, ap}
use mathlib.Core.Bool.{Bool, true, false}
use mathlib.Core.List.{List, ◌++◌}
use native.Mathlib.Omega.{arith}
use native.Mathlib.Nat.{div-lt_iff_lt-mul, mul-le-mul_right, add-mul, one-mul, zero-mul, mod-lt}
use native.Mathlib.Numerals.{add-one}
use borrow.Author.Tests.{lt-ltb, le-ltb}
use lib.Dec.{eqb, ltb}
use borrow.Rule.Slice.PartMut.{put_mid}
use lib.ListN.{length, get_or, set, take, drop}
use Rattle.lists.specs.Lists.{every, tab}
use Rattle.lists.proofs.Cases.{both_false_left, not_both, every_yes, every_ext, every_false}
use Rattle.lists.proofs.Tab.{length_tab, get_or_tab, filled_none, filled_more, filled_all, length_filled, filled_run}
use Rattle.sectors.specs.Sectors.{sector_of, per_sector, entry_in, entry_of, free_at, free_from}
use Rattle.sectors.proofs.Laws.{entry_in_sector}
use Rattle.consts.specs.Consts.{free_sector}
use Rattle.fat.specs.Lists.{difat_at, difats_of, place_at, fats_of, fat_of, all_below, ends, tail_free}
use Rattle.fat.specs.Loaded.{ChainListed, PlacesListed, Places}

-- a list that is a table of values is below n where the values are
pub below_tab : (n : ℕ) (f : ℕ → ℕ) (d : ℕ) → all_below n (tab f d) ≡ every d (λ i. ltb (f i) n)
unfolding all_below
below_tab n f d =
    ap (λ (k : ℕ). every k (λ i. ltb (get_or (tab f d) i 0) n)) (length_tab f d)
    ∙ every_ext d (λ i. ltb (get_or (tab f d) i 0) n) (λ i. ltb (f i) n) (λ i l. rw (get_or_tab f d i 0 l))

-- a list that is filled from the front with values below n, j of them so far
pub record Filling (f : ℕ → ℕ) (n j : ℕ) (before now : List ℕ) : Type 0 where
  pub below : every j (λ i. ltb (f i) n) ≡ true
  pub list : now ≡ tab f j ++ drop j before

pub filling_none : (f : ℕ → ℕ) (n : ℕ) (before : List ℕ) → Filling f n 0 before before
unfolding every
filling_none f n before = record { below = refl; list = filled_none f before }

pub filling_more : (f : ℕ → ℕ) (n j : ℕ) (before now : List ℕ) (v : ℕ) → Filling f n j before now → j < length before → v ≡ f j → v < n → Filling f n (j + 1) before (set now j v)
filling_more f n j before now v s h e low =
    record {
      below = sym (every_yes (λ i. ltb (f i) n) j true true (lt-ltb (f j) n (rw e at low)) (sym s.below) refl);
      list = ap (λ (l : List ℕ). set l j v) s.list ∙ filled_more f before j v h e;
    }

-- it ends with every value below n, or at a value that is not
pub filling_all : (f : ℕ → ℕ) (n j : ℕ) (before now : List ℕ) → Filling f n j before now → length before ≡ j → (all_below n (tab f (length before)) ≡ true) × (now ≡ tab f (length before))
filling_all f n j before now s e =
    (below_tab n f (length before) ∙ ap (λ (k : ℕ). every k (λ i. ltb (f i) n)) e ∙ s.below, filled_all f before now j e s.list)

pub filling_stops : (f : ℕ → ℕ) (n j d : ℕ) → j < d → n ≤ f j → all_below n (tab f d) ≡ false
filling_stops f n j d h high = below_tab n f d ∙ every_false d (λ i. ltb (f i) n) j h (le-ltb (f j) n high)

-- the DIFAT chain is listed, or stops
pub chain_stops : (S : ℕ) (img : List ℕ) (n first d j : ℕ) (difats : List ℕ) → j < d → n ≤ difat_at S img first j → ChainListed S img n first d false difats
unfolding difats_of
chain_stops S img n first d j difats h high =
    record {
      right = sym (both_false_left _ (ends (difat_at S img first d)) (filling_stops (difat_at S img first) n j d h high));
      listed = λ e. absurd (not_both e refl);
    }

pub chain_ends : (S : ℕ) (img : List ℕ) (n first j id : ℕ) (before now : List ℕ) (r : Bool) → Filling (difat_at S img first) n j before now → length before ≡ j → id ≡ difat_at S img first j
    → r ≡ ends id → ChainListed S img n first (length before) r now
unfolding difats_of
chain_ends S img n first j id before now r s e here h =
    let all = filling_all (difat_at S img first) n j before now s e in
    record {
      right = h ∙ ap ends here ∙ ap (λ (k : ℕ). ends (difat_at S img first k)) (sym e) ∙ sym (rw all.0);
      listed = λ t. all.1;
    }

-- the chain's first sector, and the next
pub chain_first : (S : ℕ) (img : List ℕ) (first : ℕ) → first ≡ difat_at S img first 0
unfolding difat_at
chain_first S img first = refl

pub chain_next : (S : ℕ) (img : List ℕ) (first j id v : ℕ) → id ≡ difat_at S img first j → v ≡ entry_in (sector_of S img id) (per_sector S - 1) → v ≡ difat_at S img first (j + 1)
unfolding difat_at
chain_next S img first j id v e h = h ∙ rw (add-one j, e)

-- a place in the header, and one in a DIFAT sector
pub place_low : (S : ℕ) (img list difats : List ℕ) (p : ℕ) → p < 109 → get_or list p 0 ≡ place_at S img list difats p
unfolding place_at
place_low S img list difats p h = sym (rw (lt-ltb p 109 h))

pub place_high : (S : ℕ) (img list difats : List ℕ) (p v : ℕ) → 109 ≤ p → v ≡ entry_in (sector_of S img (get_or difats ((p - 109) / (per_sector S - 1)) 0)) ((p - 109) % (per_sector S - 1))
    → v ≡ place_at S img list difats p
unfolding place_at
place_high S img list difats p v h e = e ∙ sym (rw (le-ltb p 109 h))

-- the DIFAT sector that holds a place
pub place_index : (p d e : ℕ) → 1 ≤ e → p < 109 + d * e → 109 ≤ p → (p - 109) / e < d
place_index p d e pos h l = (div-lt_iff_lt-mul {k = e} {x = p - 109} {y = d} pos).1 (omega arith)

-- and its entry there lies within the sector
pub place_slot : (S p : ℕ) → S ≡ 4 * per_sector S → 2 ≤ per_sector S → 4 * ((p - 109) % (per_sector S - 1)) + 4 ≤ S
place_slot S p e two = omega (arith, mod-lt (p - 109) {m = per_sector S - 1} (omega arith))

-- the places are listed, or stop at one that is not below n
pub places_stop : (S : ℕ) (img : List ℕ) (n : ℕ) (list difats : List ℕ) (k j : ℕ) (fats : List ℕ) → j < k → n ≤ place_at S img list difats j → PlacesListed S img n list difats k false fats
unfolding fats_of
places_stop S img n list difats k j fats h high =
    record { right = sym (filling_stops (place_at S img list difats) n j k h high); listed = λ e. absurd (not_both e refl) }

pub places_end : (S : ℕ) (img : List ℕ) (n : ℕ) (list difats : List ℕ) (j : ℕ) (before now : List ℕ) → Filling (place_at S img list difats) n j before now → length before ≡ j
    → PlacesListed S img n list difats (length before) true now
unfolding fats_of
places_end S img n list difats j before now s e =
    let all = filling_all (place_at S img list difats) n j before now s e in
    record { right = sym all.0; listed = λ t. all.1 }

-- fewer places can be read where more can
pub fewer_places : (S n len : ℕ) (list difats : List ℕ) (k j : ℕ) → Places S n len list difats k → j ≤ 109 + length difats * (per_sector S - 1) → Places S n len list difats j
fewer_places S n len list difats k j p h = record { holds = p.holds; whole = p.whole; below = p.below; there = h; small = p.small }

-- where sector p of the FAT begins among the m entries
pub sector_begins : (p k e m : ℕ) → p < k → k * e < m + e → p * e < m
sector_begins p k e m h l = let q : (p + 1) * e ≤ k * e = mul-le-mul_right e (omega arith) in omega (arith, add-mul p 1 e, one-mul e)

-- the FAT is loaded sector by sector, p sectors so far
pub record Loaded (S : ℕ) (img fats : List ℕ) (p : ℕ) (before now : List ℕ) : Type 0 where
  pub list : now ≡ tab (entry_of S img fats) (min (p * per_sector S) (length before)) ++ drop (min (p * per_sector S) (length before)) before
  pub same : length now ≡ length before

pub loaded_none : (S : ℕ) (img fats before : List ℕ) → Loaded S img fats 0 before before
loaded_none S img fats before =
    let z : min (0 * per_sector S) (length before) ≡ 0 = omega (arith, zero-mul (per_sector S)) in
    record { list = rw z (filled_none (entry_of S img fats) before); same = refl }

pub loaded_more : (S : ℕ) (img fats : List ℕ) (p b : ℕ) (before now run : List ℕ) → Loaded S img fats p before now → p * per_sector S < length before
    → b ≡ min (p * per_sector S + per_sector S) (length before)
    → run ≡ tab (entry_in (sector_of S img (get_or fats p 0))) (length (take (b - p * per_sector S) (drop (p * per_sector S) now)))
    → Loaded S img fats (p + 1) before (put_mid (p * per_sector S) (b - p * per_sector S) now run)
loaded_more S img fats p b before now run s h e r =
    let a : min (p * per_sector S) (length before) ≡ p * per_sector S = omega arith in
    let next : min ((p + 1) * per_sector S) (length before) ≡ b = omega (arith, add-mul p 1 (per_sector S), one-mul (per_sector S)) in
    let all = filled_run (entry_of S img fats) (entry_in (sector_of S img (get_or fats p 0))) before now run (p * per_sector S) b (omega arith) (omega arith) (rw a at s.list) r
    (λ j l. sym (entry_in_sector S img fats p j (omega arith))) in
    record {
      list = rw next all;
      same = ap length all ∙ length_filled (entry_of S img fats) before b (omega arith);
    }

pub loaded_all : (S : ℕ) (img fats : List ℕ) (p : ℕ) (before now : List ℕ) → Loaded S img fats p before now → length before ≤ p * per_sector S → now ≡ fat_of S img fats (length before)
unfolding fat_of
loaded_all S img fats p before now s h =
    let m : min (p * per_sector S) (length before) ≡ length before = omega arith in
    filled_all (entry_of S img fats) before now (length before) refl (rw m at s.list)

-- the entries from n on lie in the last sector
pub tail_none : (S : ℕ) (img fats : List ℕ) (n : ℕ) → length fats ≡ 0 → true ≡ tail_free S img fats n
unfolding tail_free every
tail_none S img fats n e = let z : length fats * per_sector S - n ≡ 0 = omega (arith, ap (λ (k : ℕ). k * per_sector S) e, zero-mul (per_sector S)) in sym (rw z)

pub tail_last : (S : ℕ) (img fats : List ℕ) (n k : ℕ) → length fats ≡ k + 1 → k * per_sector S ≤ n → n ≤ length fats * per_sector S
    → free_from (sector_of S img (get_or fats k 0)) (n - k * per_sector S) (k * per_sector S + per_sector S - n) ≡ tail_free S img fats n
unfolding free_from free_at tail_free
tail_last S img fats n k e low high =
    let whole : length fats * per_sector S ≡ k * per_sector S + per_sector S =
    ap (λ (q : ℕ). q * per_sector S) e ∙ add-mul k 1 (per_sector S) ∙ ap (λ (q : ℕ). k * per_sector S + q) (one-mul (per_sector S)) in
    ap (λ (c : ℕ). every (c - n) (λ i. eqb (entry_in (sector_of S img (get_or fats k 0)) (n - k * per_sector S + i)) free_sector)) (sym whole)
    ∙ every_ext (length fats * per_sector S - n) _ _
    (λ i l.
    let p : n + i ≡ k * per_sector S + (n - k * per_sector S + i) = omega arith in
    ap (λ (v : ℕ). eqb v free_sector) (sym (ap (entry_of S img fats) p ∙ entry_in_sector S img fats k (n - k * per_sector S + i) (omega arith))))

-- the last of k sectors reaches as far as all of them
pub sector_reaches : (k e m : ℕ) → 1 ≤ k → m ≤ k * e → m ≤ (k - 1) * e + e
sector_reaches k e m h l =
    let q : (k - 1 + 1) * e ≡ k * e = ap (λ (x : ℕ). x * e) (omega arith) in
    omega (arith, add-mul (k - 1) 1 e, one-mul e)
