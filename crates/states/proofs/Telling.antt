-- The number and the words of an answer are those that it tells. Assumes nothing.
use Prim.Native.Nat.{ℕ}
use mathlib.Core.Path.{◌≡◌, refl, sym, ◌∙◌, ap}
use mathlib.Core.List.{List, [], ◌∷◌, ◌++◌}
use mathlib.Core.Logic.{⊎_elim, ◌≢◌}
use borrow.Author.Tests.{eq-eqb, ne_eqb}
use lib.ListN.{get_or, take, drop}
use Rattle.lists.proofs.Cases.{same_or}
use Rattle.std.specs.Prelude.{Result, Ok, Err}
use Rattle.consts.specs.Refusals.{ends_with}
use Rattle.consts.specs.declared.refusal.Refusal.{Refusal}
use Rattle.cfb.specs.Calls.{told_by, told}
use Rattle.cfb.specs.declared.Done.{Done}
use Rattle.states.specs.Answers.{answer_words, given}

-- the three words of what is told, and zeros where less is
abbrev three : List ℕ → List ℕ
three l = take 3 (drop 1 l ++ (0 ∷ 0 ∷ 0 ∷ []))

-- the words of an answer are those that it tells
words_told : (a : Result Done Refusal) → answer_words a ≡ three (told_by a)
words_told (Ok d) = refl
words_told (Err e) = refl

-- and its number is the first
number_told : (a : Result Done Refusal) → ends_with a ≡ get_or (told_by a) 0 0
number_told (Ok d) = refl
number_told (Err e) = refl

-- number and words of a call that ends with k
told_number : (k ids start bytes : ℕ) → get_or (told k ids start bytes) 0 0 ≡ k
unfolding told
told_number k ids start bytes = ⊎_elim (λ (z : k ≡ 0). rw (eq-eqb k 0 z) (sym z)) (λ (n : k ≢ 0). rw (ne_eqb k 0 n)) (same_or k 0)

told_words : (k ids start bytes : ℕ) → three (told k ids start bytes) ≡ given k ids start bytes
unfolding told given
told_words k ids start bytes = ⊎_elim (λ (z : k ≡ 0). rw (eq-eqb k 0 z)) (λ (n : k ≢ 0). rw (ne_eqb k 0 n)) (same_or k 0)

-- an answer that tells it
pub number_of_lem : (a : Result Done Refusal) (k ids start bytes : ℕ) → told_by a ≡ told k ids start bytes → ends_with a ≡ k
number_of_lem a k ids start bytes e = number_told a ∙ ap (λ (l : List ℕ). get_or l 0 0) e ∙ told_number k ids start bytes

pub words_of_lem : (a : Result Done Refusal) (k ids start bytes : ℕ) → told_by a ≡ told k ids start bytes → answer_words a ≡ given k ids start bytes
words_of_lem a k ids start bytes e = words_told a ∙ ap three e ∙ told_words k ids start bytes

-- 19 has three zeros beside it
pub zeros_given : (ids start bytes : ℕ) → 0 ∷ 0 ∷ 0 ∷ [] ≡ given 19 ids start bytes
unfolding given
zeros_given ids start bytes = refl
