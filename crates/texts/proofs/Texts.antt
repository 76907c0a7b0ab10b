-- The text of an item: its parts put one after the other, and that it fits. Assumes nothing.
use Prim.Native.Nat.{ℕ, zero, suc, ◌+◌, ◌-◌, ◌^◌, ◌≤◌, ◌<◌}
use mathlib.Core.Path.{◌≡◌, ◌∙◌, sym, ap}
use mathlib.Core.List.{List, [], ◌∷◌, ◌++◌, append_assoc}
use mathlib.Core.Logic.{⊎_elim, ◌≢◌}
use native.Mathlib.Omega.{arith}
use native.Mathlib.Nat.{zero-add, sub-zero, zero-sub, suc-sub-suc}
use borrow.Author.Tests.{eq-eqb, ne_eqb}
use lib.Dec.{eqb}
use lib.ListN.{length, drop, replicate, length-append}
use lib.Seq.{append_snoc}
use Rattle.lists.specs.Lists.{choose, splice}
use Rattle.lists.proofs.Cases.{same_or}
use Rattle.consts.specs.declared.Sector.{Sector}
use Rattle.consts.specs.declared.Sector.TheVariants.{Free, End, Fat, Difat, Range}
use Rattle.texts.specs.declared.Text.{Text}
use Rattle.texts.specs.Text.{decimal_of, count_of, range_of, free, fat, difat, text_of, Put, written}
use Rattle.texts.proofs.Decimal.{decimal_of_usize, decimal_of_u32}

-- what stands in front of a count's word: nothing where the count is one, and else the number and a space
unfoldable pub ahead_of : ℕ → List ℕ
ahead_of n = choose (eqb n 1) [] (decimal_of n ++ (32 ∷ []))

pub ahead_one : (n : ℕ) → n ≡ 1 → [] ≡ ahead_of n
unfolding ahead_of
ahead_one n e = rw (eq-eqb n 1 e)

pub ahead_many : (n : ℕ) → n ≢ 1 → decimal_of n ++ (32 ∷ []) ≡ ahead_of n
unfolding ahead_of
ahead_many n ne = rw (ne_eqb n 1 ne)

pub count_ahead : (n : ℕ) (word : List ℕ) → ahead_of n ++ word ≡ count_of n word
unfolding ahead_of count_of
count_ahead n word =
    ⊎_elim (λ (e : n ≡ 1). rw (eq-eqb n 1 e)) (λ (ne : n ≢ 1). rw (ne_eqb n 1 ne) (append_snoc (decimal_of n) 32 word)) (same_or n 1)

-- the room that a count asks for
pub ahead_length : (n : ℕ) (word : List ℕ) → length (count_of n word) ≡ length (ahead_of n) + length word
ahead_length n word = ap length (sym (count_ahead n word)) ∙ length-append (ahead_of n) word

pub many_length : (n : ℕ) (word : List ℕ) → n ≢ 1 → length (count_of n word) ≡ length (decimal_of n) + (1 + length word)
many_length n word ne =
    omega (arith, ahead_length n word, ap length (ahead_many n ne), length-append (decimal_of n) (32 ∷ []))

-- a range of one number is that number; any other is the first, two dots and an equals sign, and the last
pub range_same : (a b : ℕ) → a ≡ b → decimal_of a ≡ range_of a b
unfolding range_of
range_same a b e = rw (eq-eqb a b e)

pub range_apart : (a b : ℕ) → a ≢ b → decimal_of a ++ (46 ∷ 46 ∷ 61 ∷ []) ++ decimal_of b ≡ range_of a b
unfolding range_of
range_apart a b ne = rw (ne_eqb a b ne) (append_assoc (decimal_of a) (46 ∷ 46 ∷ 61 ∷ []) (decimal_of b))

-- a number with two dots and an equals sign
pub dotted_length : (a : ℕ) → length (decimal_of a ++ (46 ∷ 46 ∷ 61 ∷ [])) ≡ length (decimal_of a) + 3
dotted_length a = length-append (decimal_of a) (46 ∷ 46 ∷ 61 ∷ [])

-- what is left of a list of one number
drop_replicate : (k n v : ℕ) → drop k (replicate n v) ≡ replicate (n - k) v
drop_replicate zero n v = rw sub-zero
drop_replicate (suc k) zero v = rw zero-sub
drop_replicate (suc k) (suc n) v = rw suc-sub-suc (drop_replicate k n v)

-- a text at the front of 32 zeros
pub put_written : {xs : List ℕ} {r : ℕ} {after : List ℕ} → Put (replicate 32 0) 0 xs r after → ◌≡◌ {A = Text} (record { bytes = after; len = r }) (written xs)
unfolding written splice
put_written {xs} {r} {after} p =
    let l : r ≡ length xs = p.place ∙ zero-add (length xs) in
    let d : after ≡ xs ++ replicate (32 - length xs) 0 =
    p.buffer
    ∙ ap (λ (k : ℕ). xs ++ drop k (replicate 32 0)) (zero-add (length xs))
    ∙ ap (λ (t : List ℕ). xs ++ t) (drop_replicate (length xs) 32 0) in
    rw (l, d)

-- the values that an item of the code can hold
abbrev pub Held : Sector → Type 0
Held (Free n) = n < 2 ^ 64
Held End = Unit {0}
Held (Fat n) = n < 2 ^ 64
Held (Difat n) = n < 2 ^ 64
Held (Range a b) = (a < 2 ^ 32) × (b < 2 ^ 32)

-- the length of a count and of a range
pub count_length : (n : ℕ) (word : List ℕ) → n < 2 ^ 64 → length (count_of n word) ≤ 21 + length word
count_length n word small =
    ⊎_elim
    (λ (e : n ≡ 1). omega (arith, ahead_length n word, ap length (ahead_one n e)))
    (λ (ne : n ≢ 1). omega (arith, many_length n word ne, decimal_of_usize n small))
    (same_or n 1)

range_length : (a b : ℕ) → a < 2 ^ 32 → b < 2 ^ 32 → length (range_of a b) ≤ 23
range_length a b small least =
    let few : length (decimal_of a) ≤ 10 = decimal_of_u32 a small in
    let less : length (decimal_of b) ≤ 10 = decimal_of_u32 b least in
    ⊎_elim
    (λ (e : a ≡ b). omega (arith, ap length (range_same a b e)))
    (λ (ne : a ≢ b). omega (arith, ap length (range_apart a b ne), length-append (decimal_of a ++ (46 ∷ 46 ∷ 61 ∷ [])) (decimal_of b), dotted_length a))
    (same_or a b)

-- every text fits 32 bytes, with 6 to spare
pub text_fits : (s : Sector) → Held s → length (text_of s) ≤ 26
unfolding text_of
text_fits (Free n) h = omega (arith, count_length n free h)
text_fits End h = omega arith
text_fits (Fat n) h = omega (arith, count_length n fat h)
text_fits (Difat n) h = omega (arith, count_length n difat h)
text_fits (Range a b) h = omega (arith, range_length a b h.0 h.1)
