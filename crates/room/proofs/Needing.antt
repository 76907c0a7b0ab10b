-- How many sectors a change needs: the laws of rounding up, and of the sectors that there are after more are added. Assumes nothing.
use Prim.Native.Nat.{ℕ, suc, ◌+◌, ◌-◌, ◌*◌, ◌/◌, ◌%◌, ◌≤◌, ◌<◌, min}
use mathlib.Core.Path.{◌≡◌, ◌∙◌, sym, ap}
use mathlib.Core.Bool.{Bool, true, false}
use mathlib.Core.Logic.{◌⊎◌, inl, inr, ⊎_elim, ◌≢◌}
use native.Mathlib.Omega.{arith}
use native.Mathlib.Nat.{sub-zero, add-mul, one-mul, mul_comm, mul-le-mul_left, mul-le-mul_right, div-mul-le_self, mul-add-div_right, div-add-mod, mod-lt, add-zero, div-eq_of_lt}
use borrow.Author.Tests.{eq-eqb, ne_eqb, lt-leb}
use lib.Dec.{leb}
use Rattle.std.specs.Int.{div_ceil}
use Rattle.lists.specs.Lists.{choose}
use Rattle.lists.proofs.Cases.{true_or, same_or, below_or}
use Rattle.sectors.specs.Sectors.{per_sector}
use Rattle.fat.specs.Lists.{ceil}
use Rattle.fat.proofs.Listing.{ceil_enough}
use Rattle.room.specs.Needed.{write_more}
use Rattle.disk.proofs.Fitting.{count_grows, count_more, count_none}
use Rattle.disk.specs.Disk.{needs_difat, after_fat, one_more, count_after}

-- a quotient by m or more, m times
pub quotient_times : (a b m : ℕ) → m ≤ b → a / b * m ≤ a
quotient_times a b m h = omega (arith, mul-le-mul_left (a / b) h, div-mul-le_self a b)

-- what is left of whole parts is less than a part
pub left_less : (a b : ℕ) → 1 ≤ b → a - a / b * b < b
left_less a b h = omega (arith, div-add-mod a b, mul_comm b (a / b), mod-lt a h)

-- a number of whole parts is itself rounded up, and any other one more
ceil_parts : (q b r : ℕ) → 1 ≤ b → r < b → (q * b + r) / b ≡ q
ceil_parts q b r h l = mul-add-div_right {m = b} h q r ∙ rw (div-eq_of_lt l, add-zero)

pub ceil_whole : (a b : ℕ) → 1 ≤ b → a % b ≡ 0 → a / b ≡ ceil a b
unfolding ceil
ceil_whole a b h e =
    let whole : a + (b - 1) ≡ a / b * b + (b - 1) = omega (arith, div-add-mod a b, mul_comm b (a / b)) in
    sym (rw whole (ceil_parts (a / b) b (b - 1) h (omega arith)))

pub ceil_part : (a b : ℕ) → 1 ≤ b → a % b ≢ 0 → a / b + 1 ≡ ceil a b
unfolding ceil
ceil_part a b h d =
    let some : 1 ≤ a % b = omega arith in
    let whole : a + (b - 1) ≡ (a / b + 1) * b + (a % b - 1) = omega (arith, div-add-mod a b, mul_comm b (a / b), add-mul (a / b) 1 b, one-mul b) in
    sym (rw whole (ceil_parts (a / b + 1) b (a % b - 1) h (omega (arith, mod-lt a h))))

-- rounding up as the library does it: the whole parts, and one more for what is left
pub ceil_div : (a b : ℕ) → 1 ≤ b → div_ceil a b ≡ ceil a b
ceil_div a b h =
    ⊎_elim
    (λ (e : a % b ≡ 0). rw (e, add-zero) (ceil_whole a b h e))
    (λ (d : a % b ≢ 0). let one : min 1 (a % b) ≡ 1 = omega arith in rw one (ceil_part a b h d))
    (same_or (a % b) 0)

-- what c whole parts hold asks for no more than c, and what is over is rounded up by itself
pub ceil_within : (a b c : ℕ) → 1 ≤ b → a ≤ b * c → ceil a b ≤ c
ceil_within a b c h l =
    ⊎_elim
    (λ (l : ceil a b < c + 1). omega arith)
    (λ (g : c + 1 ≤ ceil a b). absurd (omega (arith, mul-le-mul_right b g, add-mul c 1 b, one-mul b, mul_comm b c, (ceil_enough a b h).1)))
    (below_or (ceil a b) (c + 1))

pub ceil_over : (a b c : ℕ) → 1 ≤ b → ceil (b * c + a) b ≡ c + ceil a b
unfolding ceil
ceil_over a b c h =
    let parts : b * c + a + (b - 1) ≡ c * b + (a + (b - 1)) = omega (arith, mul_comm b c) in
    rw parts (mul-add-div_right {m = b} h c (a + (b - 1)))

-- a write that stays within the chain asks for none, and any for what is over
pub write_within : (S count offset bytes : ℕ) → 1 ≤ S → offset ≤ S * count → bytes ≤ S * count - offset → 0 ≡ write_more S count offset bytes
unfolding write_more
write_within S count offset bytes h o l = omega (arith, ceil_within (offset + bytes) S count h (omega arith))

pub write_over : (S count offset bytes : ℕ) → 1 ≤ S → offset ≤ S * count → ceil (bytes - (S * count - offset)) S ≡ write_more S count offset bytes
unfolding write_more ceil
write_over S count offset bytes h o =
    ⊎_elim
    (λ (l : bytes < S * count - offset + 1).
    let none : bytes - (S * count - offset) ≡ 0 = omega arith in
    rw none (div-eq_of_lt (omega arith) ∙ write_within S count offset bytes h o (omega arith)))
    (λ (g : S * count - offset + 1 ≤ bytes).
    let all : offset + bytes ≡ S * count + (bytes - (S * count - offset)) = omega arith in
    sym (rw all (omega (arith, ceil_over (bytes - (S * count - offset)) S count h))))
    (below_or bytes (S * count - offset + 1))

-- one sector more: one, two or three
pub one_more_data : (S n : ℕ) → n % per_sector S ≢ 0 → n + 1 ≡ one_more S n
unfolding one_more
one_more_data S n d = omega (arith, ap (λ (b : Bool). choose b (suc (after_fat S n)) (suc n)) (ne_eqb (n % per_sector S) 0 d))

pub one_more_fat : (S n : ℕ) → n % per_sector S ≡ 0 → needs_difat S (n / per_sector S) ≡ false → n + 2 ≡ one_more S n
unfolding one_more after_fat
one_more_fat S n e f =
    omega (arith, ap (λ (b : Bool). choose b (suc (after_fat S n)) (suc n)) (eq-eqb (n % per_sector S) 0 e), ap (λ (b : Bool). choose b (n + 2) (n + 1)) f)

pub one_more_difat : (S n : ℕ) → n % per_sector S ≡ 0 → needs_difat S (n / per_sector S) ≡ true → n + 3 ≡ one_more S n
unfolding one_more after_fat
one_more_difat S n e t =
    omega (arith, ap (λ (b : Bool). choose b (suc (after_fat S n)) (suc n)) (eq-eqb (n % per_sector S) 0 e), ap (λ (b : Bool). choose b (n + 2) (n + 1)) t)

pub one_more_between : (S n : ℕ) → (n + 1 ≤ one_more S n) × (one_more S n ≤ n + 3)
one_more_between S n = at (same_or (n % per_sector S) 0) (true_or (needs_difat S (n / per_sector S)))
  where
    at : (n % per_sector S ≡ 0) ⊎ (n % per_sector S ≢ 0) → (needs_difat S (n / per_sector S) ≡ true) ⊎ (needs_difat S (n / per_sector S) ≡ false)
        → (n + 1 ≤ one_more S n) × (one_more S n ≤ n + 3)
    at (inr d) e = (omega (arith, one_more_data S n d), omega (arith, one_more_data S n d))
    at (inl z) (inl t) = (omega (arith, one_more_difat S n z t), omega (arith, one_more_difat S n z t))
    at (inl z) (inr f) = (omega (arith, one_more_fat S n z f), omega (arith, one_more_fat S n z f))

-- where the loop of `has_room` stands: i of the sectors are counted, and what is left from here is the whole
pub record Counts (S n more count i : ℕ) : Type 0 where
  pub bounded : count ≤ n + 3 * i
  pub left : count_after S n more ≡ count_after S count (more - i)

pub counts_begun : (S n more : ℕ) → Counts S n more n 0
counts_begun S n more = record { bounded = omega arith; left = ap (count_after S n) (sym (sub-zero more)) }

pub counts_on : (S n more count i next : ℕ) → Counts S n more count i → i < more → next ≡ one_more S count → Counts S n more next (i + 1)
counts_on S n more count i next g l e =
    record {
      bounded = omega (arith, (one_more_between S count).1, g.bounded);
      left =
          let step : more - i ≡ suc (more - (i + 1)) = omega arith in
          g.left ∙ ap (count_after S count) step ∙ count_more S count (more - (i + 1)) ∙ ap (λ (m : ℕ). count_after S m (more - (i + 1))) (sym e);
    }

pub counts_over : (S n more count i : ℕ) → Counts S n more count i → more ≤ i → count_after S n more ≡ count
counts_over S n more count i g h =
    let none : more - i ≡ 0 = omega arith in
    g.left ∙ ap (count_after S count) none ∙ count_none S count

-- more than there is room for
pub counts_past : (S n more room : ℕ) → n ≤ room → room - n < more → false ≡ leb (count_after S n more) room
counts_past S n more room h l = sym (lt-leb (count_after S n more) room (omega (arith, count_grows S n more)))
