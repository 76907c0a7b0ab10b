-- The decimal digits of a number: what they are, how many, and that they read back as the number. Assumes nothing.
use Prim.Native.Nat.{ℕ, zero, suc, ◌+◌, ◌-◌, ◌*◌, ◌/◌, ◌%◌, ◌^◌, ◌≤◌, ◌<◌}
use mathlib.Core.Path.{◌≡◌, refl, ◌∙◌, sym, ap}
use mathlib.Core.List.{List, [], ◌∷◌, ◌++◌}
use mathlib.Core.Logic.{◌⊎◌, inl, inr, ⊎_elim}
use native.Mathlib.Omega.{arith}
use native.Mathlib.Nat.{pow-suc}
use borrow.Author.Tests.{lt-ltb, le-ltb}
use lib.Dec.{ltb}
use Rattle.lists.specs.Lists.{choose}
use lib.ListN.{length, get_or, length-append, get_or-append}
use lib.Seq.{get_or_at}
use Rattle.lists.proofs.Cases.{below_or}
use Rattle.texts.specs.Text.{digits, decimal_of}

-- a number of one digit, and of more
digits_one : (f n : ℕ) → n < 10 → digits f n ≡ (48 + n) ∷ []
unfolding digits
digits_one zero n h = refl
digits_one (suc f) n h = rw (lt-ltb n 10 h)

digits_more : (f n : ℕ) → 10 ≤ n → digits (suc f) n ≡ digits f (n / 10) ++ ((48 + n % 10) ∷ [])
unfolding digits
digits_more f n h = rw (le-ltb n 10 h)

-- more fuel than enough changes nothing
digits_fuel : (f g n : ℕ) → n ≤ f → n ≤ g → digits f n ≡ digits g n
digits_fuel zero g n hf hg = digits_one zero n (omega arith) ∙ sym (digits_one g n (omega arith))
digits_fuel (suc f) zero n hf hg = digits_one (suc f) n (omega arith) ∙ sym (digits_one zero n (omega arith))
digits_fuel (suc f) (suc g) n hf hg =
    ⊎_elim
    (λ (low : n < 10). digits_one (suc f) n low ∙ sym (digits_one (suc g) n low))
    (λ (high : 10 ≤ n).
    digits_more f n high
    ∙ ap (λ (l : List ℕ). l ++ ((48 + n % 10) ∷ [])) (digits_fuel f g (n / 10) (omega arith) (omega arith))
    ∙ sym (digits_more g n high))
    (below_or n 10)

pub decimal_one : (n : ℕ) → n < 10 → decimal_of n ≡ (48 + n) ∷ []
unfolding decimal_of
decimal_one n h = digits_one n n h

pub decimal_more : (n : ℕ) → 10 ≤ n → decimal_of n ≡ decimal_of (n / 10) ++ ((48 + n % 10) ∷ [])
unfolding decimal_of
decimal_more n h =
    digits_fuel n (suc n) n (omega arith) (omega arith)
    ∙ digits_more n n h
    ∙ ap (λ (l : List ℕ). l ++ ((48 + n % 10) ∷ [])) (digits_fuel n (n / 10) (n / 10) (omega arith) (omega arith))

-- the digits in front of the last one, of which a number of one digit has none
unfoldable pub front_of : ℕ → List ℕ
front_of n = choose (ltb n 10) [] (decimal_of (n / 10))

pub front_one : (n : ℕ) → n < 10 → [] ≡ front_of n
unfolding front_of
front_one n h = rw (lt-ltb n 10 h)

pub front_more : (n : ℕ) → 10 ≤ n → decimal_of (n / 10) ≡ front_of n
unfolding front_of
front_more n h = rw (le-ltb n 10 h)

pub decimal_front : (n : ℕ) → front_of n ++ ((48 + n % 10) ∷ []) ≡ decimal_of n
decimal_front n =
    ⊎_elim
    (λ (low : n < 10). let m : n % 10 ≡ n = omega arith in rw (m, ← front_one n low, decimal_one n low))
    (λ (high : 10 ≤ n). rw (← front_more n high) (sym (decimal_more n high)))
    (below_or n 10)

pub front_length : (n : ℕ) → length (decimal_of n) ≡ length (front_of n) + 1
front_length n = ap length (sym (decimal_front n)) ∙ length-append (front_of n) ((48 + n % 10) ∷ [])

-- the number of digits: one, and one more than of a tenth
pub decimal_length_one : (n : ℕ) → n < 10 → length (decimal_of n) ≡ 1
decimal_length_one n h = ap length (decimal_one n h)

pub decimal_length_more : (n : ℕ) → 10 ≤ n → length (decimal_of n) ≡ length (decimal_of (n / 10)) + 1
decimal_length_more n h = ap length (decimal_more n h) ∙ length-append (decimal_of (n / 10)) ((48 + n % 10) ∷ [])

-- what holds of one digit, and of a number with one digit more, holds of every number
pub by_digits : (P : ℕ → Type 0) → ((n : ℕ) → n < 10 → P n) → ((n : ℕ) → 10 ≤ n → P (n / 10) → P n) → (n : ℕ) → P n
by_digits P one more n = go n n (omega arith)
  where
    go : (f n : ℕ) → n ≤ f → P n
    go zero n h = one n (omega arith)
    go (suc f) n h =
        ⊎_elim (λ (low : n < 10). one n low) (λ (high : 10 ≤ n). more n high (go f (n / 10) (omega arith))) (below_or n 10)

-- a number below 10 ^ (k + 1) has at most k + 1 digits
pub decimal_short : (k n : ℕ) → n < 10 ^ suc k → length (decimal_of n) ≤ suc k
decimal_short zero n h = rw (decimal_one n h) (omega arith)
decimal_short (suc k) n h =
    let p : n < 10 ^ suc k * 10 = rw (pow-suc) at h in
    ⊎_elim
    (λ (low : n < 10). rw (decimal_one n low) (omega arith))
    (λ (high : 10 ≤ n).
    let m : length (decimal_of (n / 10)) ≤ suc k = decimal_short k (n / 10) (omega arith) in
    rw (decimal_more n high, length-append) (omega arith))
    (below_or n 10)

-- a usize has at most 20 digits, a u32 at most 10
pub decimal_of_usize : (n : ℕ) → n < 2 ^ 64 → length (decimal_of n) ≤ 20
decimal_of_usize n h = decimal_short 19 n (omega arith)

pub decimal_of_u32 : (n : ℕ) → n < 2 ^ 32 → length (decimal_of n) ≤ 10
decimal_of_u32 n h = decimal_short 9 n (omega arith)

-- the number that digits read as, after a front that reads as a
unfoldable pub read_on : ℕ → List ℕ → ℕ
read_on a [] = a
read_on a (d ∷ ds) = read_on (a * 10 + (d - 48)) ds

read_snoc : (a : ℕ) (ds : List ℕ) (d : ℕ) → read_on a (ds ++ (d ∷ [])) ≡ read_on a ds * 10 + (d - 48)
unfolding read_on
read_snoc a [] d = refl
read_snoc a (e ∷ ds) d = read_snoc (a * 10 + (e - 48)) ds d

-- the digits of n read as n
pub decimal_reads : (n : ℕ) → read_on 0 (decimal_of n) ≡ n
unfolding read_on
decimal_reads =
    by_digits (λ n. read_on 0 (decimal_of n) ≡ n)
    (λ n h. rw (decimal_one n h) (omega arith))
    (λ n h e. rw (decimal_more n h, read_snoc) (omega arith))

-- each is a digit, there is one at least, and the first is 0 only of 0
pub record Digits (n : ℕ) (ds : List ℕ) : Type 0 where
  pub some : 0 < length ds
  pub each : (i : ℕ) → i < length ds → (48 ≤ get_or ds i 0) × (get_or ds i 0 ≤ 57)
  pub front : 0 < n → 48 < get_or ds 0 0

digit_alone : (n : ℕ) → n < 10 → Digits n ((48 + n) ∷ [])
digit_alone n h = record {
  some = omega arith;
  each = λ i hi. let z : i ≡ 0 = omega arith in rw z (omega arith, omega arith);
  front = λ p. omega arith;
}

digit_more : (n m d : ℕ) (ds : List ℕ) → 0 < m → d < 10 → Digits m ds → Digits n (ds ++ ((48 + d) ∷ []))
digit_more n m d ds pos small k = record {
  some = rw length-append (omega arith);
  each = λ i hi. at i (rw length-append at hi) (below_or i (length ds));
  front = λ p. rw (get_or-append ds ((48 + d) ∷ []) 0 0 k.some) (k.front pos);
}
  where
    at : (i : ℕ) → i < length ds + 1 → (i < length ds) ⊎ (length ds ≤ i) → (48 ≤ get_or (ds ++ ((48 + d) ∷ [])) i 0) × (get_or (ds ++ ((48 + d) ∷ [])) i 0 ≤ 57)
    at i hi (inl low) = rw (get_or-append ds ((48 + d) ∷ []) 0 i low) (k.each i low)
    at i hi (inr high) =
        let e : i ≡ length ds = omega arith in
        let g : get_or (ds ++ ((48 + d) ∷ [])) i 0 ≡ 48 + d = get_or_at ds (48 + d) [] 0 i (sym e) in
        rw g (omega arith, omega arith)

pub decimal_digits : (n : ℕ) → Digits n (decimal_of n)
decimal_digits =
    by_digits (λ n. Digits n (decimal_of n))
    (λ n h. rw (decimal_one n h) (digit_alone n h))
    (λ n h k. rw (decimal_more n h) (digit_more n (n / 10) (n % 10) (decimal_of (n / 10)) (omega arith) (omega arith) k))
