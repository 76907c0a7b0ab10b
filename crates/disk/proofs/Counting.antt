-- The laws of counts that are rounded up: of the FAT's sectors and the DIFAT's (document 01, k and d). Assumes nothing.
use Prim.Native.Nat.{ℕ, suc, ◌+◌, ◌-◌, ◌*◌, ◌/◌, ◌%◌, ◌≤◌, ◌<◌}
use mathlib.Core.Path.{◌≡◌, sym, ◌∙◌, ap}
use mathlib.Core.Bool.{true, false}
use mathlib.Core.Logic.{⊎_elim, ◌≢◌}
use native.Mathlib.Omega.{arith}
use native.Mathlib.Nat.{mul_comm, suc-mul, add-mul, one-mul, mul-le-mul_right, div-mul-le_self, lt-div-mul-add, div-add-mod, div-eq_of_lt-le, div-lt_iff_lt-mul}
use borrow.Author.Tests.{le-leb, lt-leb, leb-true, eq-eqb, ne_eqb}
use lib.Dec.{leb}
use Rattle.lists.specs.Lists.{both}
use Rattle.lists.proofs.Cases.{below_or, true_or, both_right, both_true, not_both}
use Rattle.sectors.specs.Sectors.{per_sector}
use Rattle.fat.specs.Lists.{ceil, fat_count, difat_count}
use Rattle.fat.proofs.Listing.{ceil_enough, ceil_few}
use Rattle.disk.specs.Disk.{needs_difat, after_fat, one_more}

-- of two quotients, one too small to be past the other
above : (b x y a : ℕ) → x * b < a + b → a ≤ y * b → x ≤ y
above b x y a l h =
    ⊎_elim
    (λ (k : x < y + 1). omega arith)
    (λ (g : y + 1 ≤ x). absurd (omega (arith, l, h, mul-le-mul_right b g, add-mul y 1 b, one-mul b)))
    (below_or x (y + 1))

-- a quotient that is rounded up, by what is known of the number
module _ (b : ℕ) (some : 1 ≤ b) where
  ceil_is : (a q : ℕ) → a ≤ q * b → q * b < a + b → ceil a b ≡ q
  ceil_is a q low high =
      let e = ceil_enough a b some in
      let x : ceil a b ≤ q = above b (ceil a b) q a e.1 low in
      let y : q ≤ ceil a b = above b q (ceil a b) a high e.0 in
      omega arith

  pub ceil_suc : (a : ℕ) → ceil (suc a) b ≡ suc (a / b)
  ceil_suc a =
      ceil_is (suc a) (suc (a / b))
      (omega (arith, suc-mul (a / b) b, lt-div-mul-add {a = a} {b = b} some))
      (omega (arith, suc-mul (a / b) b, div-mul-le_self a b, some))

  least : (a : ℕ) → a / b ≤ ceil a b
  least a = above b (a / b) (ceil a b) a (omega (arith, div-mul-le_self a b, some)) (ceil_enough a b some).0

  pub ceil_full : (a : ℕ) → ceil a b ≤ a / b → ceil a b ≡ a / b
  ceil_full a h = omega (arith, h, least a)

  pub ceil_part : (a : ℕ) → a / b < ceil a b → ceil a b ≡ suc (a / b)
  ceil_part a h =
      let x : ceil a b ≤ suc (a / b) = above b (ceil a b) (suc (a / b)) a (ceil_enough a b some).1 (omega (arith, suc-mul (a / b) b, lt-div-mul-add {a = a} {b = b} some)) in
      omega arith

  whole : (a : ℕ) → a / b * b + a % b ≡ a
  whole a = ap (λ (m : ℕ). m + a % b) (mul_comm (a / b) b) ∙ div-add-mod a b

  pub ceil_even : (a : ℕ) → a % b ≡ 0 → ceil a b ≡ a / b
  ceil_even a e = ceil_is a (a / b) (omega (arith, whole a, e)) (omega (arith, whole a, e, some))

  pub ceil_odd : (a : ℕ) → a % b ≢ 0 → a / b < ceil a b
  ceil_odd a n =
      ⊎_elim
      (λ (l : a / b < ceil a b). l)
      (λ (g : ceil a b ≤ a / b). absurd (n (omega (arith, mul-le-mul_right b g, (ceil_enough a b some).0, whole a))))
      (below_or (a / b) (ceil a b))

  pub div_near : (a c : ℕ) → a % b ≡ 0 → c < b → (a + c) / b ≡ a / b
  div_near a c e l = div-eq_of_lt-le {k = a / b} b {m = a + c} (omega (arith, whole a, e)) (omega (arith, whole a, e, l, add-mul (a / b) 1 b, one-mul b))

-- the FAT's sectors: where one more is for data, and where an entry stands
pub fat_suc : (S n : ℕ) → 1 ≤ per_sector S → fat_count S (suc n) ≡ suc (n / per_sector S)
unfolding fat_count
fat_suc S n some = ceil_suc (per_sector S) some n

pub fat_full : (S n : ℕ) → 1 ≤ per_sector S → n % per_sector S ≡ 0 → fat_count S n ≡ n / per_sector S
unfolding fat_count
fat_full S n some e = ceil_even (per_sector S) some n e

pub fat_part : (S n : ℕ) → 1 ≤ per_sector S → n % per_sector S ≢ 0 → fat_count S n ≡ suc (n / per_sector S)
unfolding fat_count
fat_part S n some e = ceil_part (per_sector S) some n (ceil_odd (per_sector S) some n e)

pub fat_has : (S n i : ℕ) → 1 ≤ per_sector S → i < n → i / per_sector S < fat_count S n
unfolding fat_count
fat_has S n i some l = (div-lt_iff_lt-mul {k = per_sector S} {x = i} {y = ceil n (per_sector S)} some).1 (omega (arith, l, (ceil_enough n (per_sector S) some).0))

-- the DIFAT's sectors: none in use, and where a place needs one more or not
pub difat_none : (S p : ℕ) → 2 ≤ per_sector S → p ≤ 109 → difat_count S p ≡ 0
unfolding difat_count
difat_none S p two h =
    let x : ceil (p - 109) (per_sector S - 1) ≤ p - 109 = ceil_few (p - 109) (per_sector S - 1) (omega (arith, two)) in
    omega arith

pub difat_suc : (S p : ℕ) → 2 ≤ per_sector S → 109 ≤ p → difat_count S (suc p) ≡ suc ((p - 109) / (per_sector S - 1))
unfolding difat_count
difat_suc S p two h =
    let e : suc p - 109 ≡ suc (p - 109) = omega arith in
    ap (λ (a : ℕ). ceil a (per_sector S - 1)) e ∙ ceil_suc (per_sector S - 1) (omega (arith, two)) (p - 109)

pub needs_full : (S p : ℕ) → 2 ≤ per_sector S → needs_difat S p ≡ true → difat_count S p ≡ (p - 109) / (per_sector S - 1)
unfolding needs_difat difat_count
needs_full S p two t =
    ceil_full (per_sector S - 1) (omega (arith, two)) (p - 109) (leb-true _ _ (both_right (leb 109 p) _ t))

pub needs_not : (S p : ℕ) → 2 ≤ per_sector S → 109 ≤ p → needs_difat S p ≡ false → difat_count S p ≡ suc ((p - 109) / (per_sector S - 1))
unfolding needs_difat difat_count
needs_not S p two h f =
    ⊎_elim
    (λ (l : (p - 109) / (per_sector S - 1) < ceil (p - 109) (per_sector S - 1)). ceil_part (per_sector S - 1) (omega (arith, two)) (p - 109) l)
    (λ (g : ceil (p - 109) (per_sector S - 1) ≤ (p - 109) / (per_sector S - 1)). absurd (not_both (both_true (le-leb _ _ h) (le-leb _ _ g)) f))
    (below_or ((p - 109) / (per_sector S - 1)) (ceil (p - 109) (per_sector S - 1)))

pub needs_near : (S p : ℕ) → p < 109 → needs_difat S p ≡ false
unfolding needs_difat
needs_near S p l = ap (λ t. both t (leb (difat_count S p) ((p - 109) / (per_sector S - 1)))) (lt-leb 109 p l)

-- what a test of the code gives
pub needs_told : (S p c : ℕ) → 109 ≤ p → c ≡ ceil (p - 109) (per_sector S - 1) → leb c ((p - 109) / (per_sector S - 1)) ≡ needs_difat S p
unfolding needs_difat difat_count
needs_told S p c h e = sym (rw (le-leb 109 p h, e))

-- how many sectors there are after one more, where the FAT is full and where not
pub after_needs : (S n : ℕ) → needs_difat S (n / per_sector S) ≡ true → after_fat S n ≡ n + 2
unfolding after_fat
after_needs S n t = rw t

pub after_not : (S n : ℕ) → needs_difat S (n / per_sector S) ≡ false → after_fat S n ≡ n + 1
unfolding after_fat
after_not S n t = rw t

pub after_few : (S n : ℕ) → (n < after_fat S n) × (after_fat S n ≤ n + 2)
after_few S n =
    ⊎_elim
    (λ (t : needs_difat S (n / per_sector S) ≡ true). rw (after_needs S n t) (omega arith, omega arith))
    (λ (f : needs_difat S (n / per_sector S) ≡ false). rw (after_not S n f) (omega arith, omega arith))
    (true_or (needs_difat S (n / per_sector S)))

pub one_full : (S n : ℕ) → n % per_sector S ≡ 0 → one_more S n ≡ suc (after_fat S n)
unfolding one_more
one_full S n e = rw (eq-eqb _ _ e)

pub one_part : (S n : ℕ) → n % per_sector S ≢ 0 → one_more S n ≡ suc n
unfolding one_more
one_part S n e = rw (ne_eqb _ _ e)
