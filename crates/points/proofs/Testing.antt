-- The laws of tests that go through a list number by number: lists compared with a table, FREE entries counted. Assumes nothing.
use Prim.Native.Nat.{ℕ, zero, suc, ◌+◌, ◌≤◌}
use mathlib.Core.Path.{◌≡◌, refl, sym, ◌∙◌, ap}
use mathlib.Core.Bool.{true}
use mathlib.Core.List.{List}
use mathlib.Core.Logic.{⊎_elim, ◌≢◌}
use native.Mathlib.Omega.{arith}
use native.Mathlib.Numerals.{add-one}
use native.Mathlib.Nat.{le_refl}
use borrow.Author.Tests.{eq-eqb, ne_eqb, eqb-true}
use lib.Dec.{eqb}
use lib.ListN.{length, get_or, take, length-append}
use lib.Seq.{take_all}
use Rattle.std.specs.List.{count_by}
use Rattle.std.proofs.lemmas.List.Sums.{count_by_more_yes, count_by_more_no}
use Rattle.lists.specs.Lists.{every, tab, same_list}
use Rattle.lists.proofs.Cases.{same_or, same_test, every_at, every_of}
use Rattle.lists.proofs.Tab.{get_or_tab, is_tab}
use Rattle.lists.proofs.Splice.{same_list_true, same_list_refl}
use Rattle.consts.specs.Consts.{free_sector}
use Rattle.judge.specs.Judge.{frees_of, frees_from}
use Rattle.judge.proofs.Judging.{frees_end_yes, frees_end_no}

-- two equal lists pass the test, and the test of a list and a table goes element by element
pub same_of : (a b : List ℕ) → a ≡ b → same_list a b ≡ true
same_of a b e = ap (same_list a) (sym e) ∙ same_list_refl a

pub same_tab : (xs : List ℕ) (f : ℕ → ℕ) (n : ℕ) → length xs ≡ n → every n (λ i. eqb (get_or xs i 0) (f i)) ≡ same_list xs (tab f n)
same_tab xs f n e =
    same_test (every n (λ i. eqb (get_or xs i 0) (f i))) (same_list xs (tab f n))
    (λ t. same_of xs (tab f n) (is_tab xs f n e (λ i h. eqb-true _ _ (every_at n (λ k. eqb (get_or xs k 0) (f k)) t i h))))
    (λ t. every_of n (λ k. eqb (get_or xs k 0) (f k)) (λ i h. eq-eqb _ _ (ap (λ (l : List ℕ). get_or l i 0) (same_list_true xs (tab f n) t) ∙ get_or_tab f n i 0 h)))

-- one entry more, FREE or not
pub count_yes : (fat : List ℕ) (i count next : ℕ) → get_or fat i 0 ≡ free_sector → count ≡ length (frees_of i fat) → next ≡ count + 1 → next ≡ length (frees_of (i + 1) fat)
count_yes fat i count next e h s = s ∙ sym (rw (frees_end_yes fat i e, length-append) (omega arith))

pub count_no : (fat : List ℕ) (i count next : ℕ) → (get_or fat i 0 ≡ free_sector → ⊥) → count ≡ length (frees_of i fat) → next ≡ count → next ≡ length (frees_of (i + 1) fat)
count_no fat i count next d h s = s ∙ h ∙ sym (rw (frees_end_no fat i d))

-- all FREE entries counted
frees_begun : (fat : List ℕ) → ◌≡◌ {A = ℕ} 0 (length (frees_of 0 fat))
unfolding frees_of frees_from
frees_begun fat = refl

pub frees_counted : (fat : List ℕ) → count_by (λ e. eqb e free_sector) fat ≡ length (frees_of (length fat) fat)
frees_counted fat = ap (count_by (λ e. eqb e free_sector)) (sym (take_all (length fat) fat (le_refl (length fat)))) ∙ front (length fat) (le_refl (length fat))
  where
    front : (i : ℕ) → i ≤ length fat → count_by (λ e. eqb e free_sector) (take i fat) ≡ length (frees_of i fat)
    front zero h = frees_begun fat
    front (suc i) h =
        let rest : count_by (λ e. eqb e free_sector) (take i fat) ≡ length (frees_of i fat) = front i (omega arith) in
        rw (← add-one i)
        (⊎_elim
        (λ (e : get_or fat i 0 ≡ free_sector). count_yes fat i _ _ e rest (count_by_more_yes (λ e. eqb e free_sector) fat i 0 (omega arith) (eq-eqb _ _ e)))
        (λ (d : get_or fat i 0 ≢ free_sector). count_no fat i _ _ d rest (count_by_more_no (λ e. eqb e free_sector) fat i 0 (omega arith) (ne_eqb _ _ d)))
        (same_or (get_or fat i 0) free_sector))
