-- The laws of `run_of` and `end_of`, and what the chain over a range counts. Assumes nothing.
use Prim.Native.Nat.{ℕ, zero, suc, ◌+◌, ◌-◌, ◌≤◌, ◌<◌}
use mathlib.Core.Path.{◌≡◌, refl, ◌∙◌, sym}
use mathlib.Core.Bool.{true, false}
use mathlib.Core.List.{List, [], ◌∷◌}
use mathlib.Core.Logic.{⊎_elim, ◌≢◌}
use native.Mathlib.Omega.{arith}
use native.Mathlib.Nat.{add-zero}
use native.Mathlib.Numerals.{add-one}
use borrow.Author.Tests.{eq-eqb, ne_eqb, le-leb, eqb-true, leb-true}
use lib.Dec.{eqb, leb}
use lib.ListN.{length, get_or, drop}
use lib.Seq.{drop-cons}
use Rattle.std.specs.Prelude.{◌==◌}
use Rattle.std.specs.List.{prefix_len, range_with_len, zip}
use Rattle.lists.proofs.Cases.{same_or, true_or, both_true, both_left, both_right}
use Rattle.consts.specs.Consts.{invalid_sector}
use Rattle.consts.specs.Pretty.{goes_on}
use Rattle.consts.specs.Runs.{run_of, end_of}

-- what is left from i on, where i is an index
pub drop_next : (xs : List ℕ) (i : ℕ) → i < length xs → drop i xs ≡ get_or xs i 0 ∷ drop (i + 1) xs
drop_next xs i h = rw (add-one i) (drop-cons xs i 0 h)

-- a run: an entry more, another entry, no entry
pub run_cons : (v x : ℕ) (xs : List ℕ) → x ≡ v → run_of v (x ∷ xs) ≡ run_of v xs + 1
unfolding run_of
run_cons v x xs e = rw (eq-eqb x v e) (omega arith)

pub run_other : (v x : ℕ) (xs : List ℕ) → x ≢ v → run_of v (x ∷ xs) ≡ 0
unfolding run_of
run_other v x xs n = rw (ne_eqb x v n)

-- which number goes on from b
pub goes_on_lem : (b x : ℕ) → b < invalid_sector → x ≡ b + 1 → goes_on b x ≡ true
unfolding goes_on
goes_on_lem b x h e = both_true (le-leb x invalid_sector (omega arith)) (eq-eqb x (b + 1) e)

pub gone_on : (b x : ℕ) → goes_on b x ≡ true → (x ≡ b + 1) × (x ≤ invalid_sector)
unfolding goes_on
gone_on b x t = (
  eqb-true x (b + 1) (both_right (leb x invalid_sector) (eqb x (b + 1)) t),
  leb-true x invalid_sector (both_left (leb x invalid_sector) (eqb x (b + 1)) t),
)

goes_not : (b x : ℕ) → ((x ≡ b + 1) × (x ≤ invalid_sector) → ⊥) → goes_on b x ≡ false
goes_not b x n = ⊎_elim (λ (t : goes_on b x ≡ true). absurd (n (gone_on b x t))) (λ (f : goes_on b x ≡ false). f) (true_or (goes_on b x))

-- a range: a number more, another number, no number
pub end_cons : (b x : ℕ) (xs : List ℕ) → goes_on b x ≡ true → end_of b (x ∷ xs) ≡ end_of (b + 1) xs
unfolding end_of
end_cons b x xs t = rw t

end_none : (b : ℕ) → end_of b [] ≡ b
unfolding end_of
end_none b = refl

pub end_other : (b x : ℕ) (xs : List ℕ) → goes_on b x ≡ false → end_of b (x ∷ xs) ≡ b
unfolding end_of
end_other b x xs f = rw f

-- a range ends at its first number or above, and has no more numbers than there are
pub end_within : (b : ℕ) (xs : List ℕ) → (b ≤ end_of b xs) × (end_of b xs ≤ b + length xs)
unfolding end_of
end_within b [] = (omega arith, omega arith)
end_within b (x ∷ xs) =
    let m : (b + 1 ≤ end_of (b + 1) xs) × (end_of (b + 1) xs ≤ b + 1 + length xs) = end_within (b + 1) xs in
    ⊎_elim
    (λ (t : goes_on b x ≡ true). rw (end_cons b x xs t) (omega arith, omega arith))
    (λ (f : goes_on b x ≡ false). rw (end_other b x xs f) (omega arith, omega arith))
    (true_or (goes_on b x))

-- the numbers after b that the entries at the front are lead to the range's end
counted_on : (n b : ℕ) (xs : List ℕ) → n ≡ invalid_sector - b → b + prefix_len (λ p. p.1 == p.0 + 1) (zip (range_with_len b n) xs) ≡ end_of b xs
counted_on zero b [] e = add-zero b ∙ sym (end_none b)
counted_on (suc n) b [] e = add-zero b ∙ sym (end_none b)
counted_on zero b (x ∷ xs) e = add-zero b ∙ sym (end_other b x xs (goes_not b x (λ g. omega arith)))
counted_on (suc n) b (x ∷ xs) e =
    ⊎_elim
    (λ (t : x ≡ b + 1). rw (eq-eqb x (b + 1) t, end_cons b x xs (goes_on_lem b x (omega arith) t), ← counted_on n (b + 1) xs (omega arith)) (omega arith))
    (λ (f : x ≢ b + 1). rw (ne_eqb x (b + 1) f, end_other b x xs (goes_not b x (λ g. f g.0))) (omega arith))
    (same_or x (b + 1))

pub end_counted : (b : ℕ) (xs : List ℕ) → b + prefix_len (λ p. p.1 == p.0 + 1) (zip (range_with_len b (invalid_sector - b)) xs) ≡ end_of b xs
end_counted b xs = counted_on (invalid_sector - b) b xs refl
