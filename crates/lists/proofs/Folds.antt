-- A fold that keeps a flag over the items of a chain of iterators: whether every item passes a test. Assumes nothing.
use Prim.Native.Nat.{ℕ, zero, suc, ◌+◌}
use mathlib.Core.Path.{◌≡◌, refl, sym, ◌∙◌, ap}
use mathlib.Core.Bool.{Bool, true, false, ◌&&◌}
use mathlib.Core.List.{List, [], ◌∷◌, ◌++◌}
use native.Mathlib.Omega.{arith}
use lib.ListN.{length, get_or}
use denote.Param.Members.{Mut, Called}
use Rattle.std.specs.Prelude.{Option}
use Rattle.std.specs.List.{list_all, range_with_len, zip}
use Rattle.std.specs.Iterator.{FoldsItems}
use Rattle.std.proofs.lemmas.Fn.{fold_same}
use Rattle.std.proofs.lemmas.List.Folds.{list_all-append, list_all-map}
use Rattle.std.proofs.lemmas.Iterator.{YieldsList, items_from_drains}
use Rattle.lists.specs.Lists.{both, every}
use Rattle.lists.proofs.Cases.{and_both, every_ext}

-- a turn and-s the flag with the test of the item
abbrev pub Turns : {A B F : Type 0} → (A → B) → Mut F (Bool × (A × Unit {0})) Bool → (B → Bool) → F → Type 0
Turns {A} {B} {F} v g test f = (flag : Bool) (x : A) (next : Bool) (f' : F) → Called g f (flag, (x, tt)) next f' → (next ≡ (flag && test (v x))) × (f' ≡ f)

-- a test passed by the items of a list and one more
passed_more : {X : Type 0} (test : X → Bool) (xs : List X) (x : X) → (list_all test xs && test x) ≡ list_all test (xs ++ (x ∷ []))
passed_more test xs x = at (list_all test xs) (test x) ∙ sym (list_all-append test xs (x ∷ []))
  where
    at : (a b : Bool) → (a && b) ≡ (a && (b && true))
    at true true = refl
    at true false = refl
    at false b = refl

-- so the fold says whether every item of the chain passes
pub folded : {S A B F : Type 0} {steps : S → Option A → S → Type 0} {v : A → B} {g : Mut F (Bool × (A × Unit {0})) Bool} {f : F} {s : S} {all : List B} {r : Bool} (test : B → Bool)
    → Turns v g test f → YieldsList steps v s all → FoldsItems steps g s f true r → r ≡ list_all test all
folded {v = v} {g = g} {f = f} {r = r} test turns yields ran =
    fold_same g (λ xs b. b ≡ list_all (λ x. test (v x)) xs) f
    (λ xs a x b f' j k. let t = turns a x b f' k in (t.0 ∙ ap (λ (c : Bool). c && test (v x)) j ∙ passed_more (λ x. test (v x)) xs x, t.1))
    ran.0 true r ran.1 refl ran.3
    ∙ sym (list_all-map test v ran.0) ∙ ap (list_all test) (items_from_drains ran.0 (ran.2.1.0, ran.2.1.1, λ _. (ran.2.0, ran.2.1.2)) yields)

-- a test of each number below n, with the first number's out of the row
every_front : (n : ℕ) (f : ℕ → Bool) → every (suc n) f ≡ both (f 0) (every n (λ i. f (suc i)))
unfolding every
every_front zero f = refl
every_front (suc n) f = ap (both (f (suc n))) (every_front n f) ∙ swapped (f (suc n)) (f 0) (every n (λ i. f (suc i)))
  where
    swapped : (a b c : Bool) → both a (both b c) ≡ both b (both a c)
    swapped true true c = refl
    swapped true false c = refl
    swapped false true c = refl
    swapped false false c = refl

further : (k i : ℕ) → k + 1 + i ≡ k + suc i
further k i = omega arith

-- a test of each item of a list, of the items of two, and of a range
pub all_listed : (test : ℕ → Bool) (xs : List ℕ) → list_all test xs ≡ every (length xs) (λ i. test (get_or xs i 0))
unfolding every
all_listed test [] = refl
all_listed test (x ∷ xs) = and_both (test x) (list_all test xs) ∙ ap (both (test x)) (all_listed test xs) ∙ sym (every_front (length xs) (λ i. test (get_or (x ∷ xs) i 0)))

pub all_paired : (test : ℕ × ℕ → Bool) (xs ys : List ℕ) → length xs ≡ length ys → list_all test (zip xs ys) ≡ every (length xs) (λ i. test (get_or xs i 0, get_or ys i 0))
unfolding every
all_paired test [] ys e = refl
all_paired test (x ∷ xs) [] e = absurd (omega arith)
all_paired test (x ∷ xs) (y ∷ ys) e =
    and_both (test (x, y)) (list_all test (zip xs ys)) ∙ ap (both (test (x, y))) (all_paired test xs ys (omega arith))
    ∙ sym (every_front (length xs) (λ i. test (get_or (x ∷ xs) i 0, get_or (y ∷ ys) i 0)))

pub all_ranged : (test : ℕ → Bool) (a n : ℕ) → list_all test (range_with_len a n) ≡ every n (λ i. test (a + i))
unfolding every
all_ranged test a zero = refl
all_ranged test a (suc n) =
    let here : a ≡ a + 0 = omega arith in
    and_both (test a) (list_all test (range_with_len (a + 1) n))
    ∙ ap (both (test a)) (all_ranged test (a + 1) n ∙ every_ext n _ _ (λ i l. ap test (further a i)))
    ∙ ap (λ (p : ℕ). both (test p) (every n (λ i. test (a + suc i)))) here
    ∙ sym (every_front n (λ i. test (a + i)))
