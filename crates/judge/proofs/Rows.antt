-- The rows 14 to 18, judged in turn. Assumes nothing.
use Prim.Native.Nat.{ℕ, zero, suc}
use mathlib.Core.Path.{◌≡◌, refl, sym, ◌∙◌, ap}
use mathlib.Core.Bool.{Bool, true, false, not}
use mathlib.Core.List.{List, [], ◌∷◌}
use native.Mathlib.Omega.{arith}
use borrow.Author.Tests.{eq-eqb, ne_eqb}
use lib.Dec.{eqb, leb}
use lib.ListN.{length, get_or}
use Rattle.lists.specs.Lists.{choose, both}
use Rattle.lists.specs.Rows.{Row, row, refusal}
use Rattle.lists.proofs.Rows.{pass, passed_none, passed_given}
use Rattle.lists.proofs.Tab.{length_tab}
use Rattle.consts.specs.Consts.{invalid_sector, difat_sector, fat_sector}
use Rattle.judge.specs.Judge.{all_marked, marked_fat, regular, pointed, wrong_at, first_wrong, forgiven_fat, marks_of, none_dangles, fat_rows}
use Rattle.judge.specs.Judged.{Judged, FatJudged}
use Rattle.judge.proofs.Marking.{length_marked_fat}

-- what a sector can be judged as
pub data Number : ℕ → Type 0 where
  is_0 : Number 0
  is_15 : Number 15
  is_16 : Number 16
  is_17 : Number 17

wrong_number : (strict : Bool) (n : ℕ) (fat : List ℕ) (i : ℕ) → Number (wrong_at strict n fat i)
unfolding wrong_at
wrong_number strict n fat i =
    pick (regular (get_or fat i 0)) (pick (leb n (get_or fat i 0)) (pick strict is_15 is_0) (pick (pointed fat i (get_or fat i 0)) is_16 is_0)) (pick (eqb (get_or fat i 0) invalid_sector) is_17 is_0)
  where
    pick : (t : Bool) {a b : ℕ} → Number a → Number b → Number (choose t a b)
    pick true x y = x
    pick false x y = y

pub first_number : (strict : Bool) (n : ℕ) (fat : List ℕ) (i c : ℕ) → Number (first_wrong strict n fat i c)
unfolding first_wrong
first_number strict n fat i zero = is_0
first_number strict n fat i (suc c) =
    let rest : Number (first_wrong strict n fat (suc i) c) = first_number strict n fat (suc i) c in
    pick (eqb (wrong_at strict n fat i) 0) rest (wrong_number strict n fat i)
  where
    pick : (t : Bool) {a b : ℕ} → Number a → Number b → Number (choose t a b)
    pick true x y = x
    pick false x y = y

-- the rows 15 to 17 give that number, or are passed
wrong_rows : (w : ℕ) → Number w → (rs : List Row) → refusal (row 15 (eqb w 15) ∷ row 16 (eqb w 16) ∷ row 17 (eqb w 17) ∷ rs) ≡ choose (eqb w 0) (refusal rs) w
unfolding refusal
wrong_rows _ is_0 rs = refl
wrong_rows _ is_15 rs = refl
wrong_rows _ is_16 rs = refl
wrong_rows _ is_17 rs = refl

-- a FAT judged: no mark, or a bad sector, or a dangling one, or none of these
module _ (strict : Bool) (fat difats fats : List ℕ) where
  pub fat_14 : (fat' marks : List ℕ) → both strict (not (both (all_marked fat difats difat_sector) (all_marked fat fats fat_sector))) ≡ true → FatJudged strict fat difats fats 14 fat' marks
  unfolding fat_rows
  fat_14 fat' marks t =
      record {
        number = passed_given (fat_rows strict (length fat) fat difats fats) 0 (passed_none _) t;
        table = λ z. absurd (omega arith);
        marked = λ z. absurd (omega arith);
      }

  module _ (none : both strict (not (both (all_marked fat difats difat_sector) (all_marked fat fats fat_sector))) ≡ false) where
    pub fat_rest : refusal (fat_rows strict (length fat) fat difats fats)
        ≡ choose (eqb (first_wrong strict (length fat) (marked_fat fat difats fats) 0 (length fat)) 0)
        (refusal (row 18 (not (none_dangles (length fat) (forgiven_fat (length fat) (marked_fat fat difats fats)))) ∷ []))
        (first_wrong strict (length fat) (marked_fat fat difats fats) 0 (length fat))
    unfolding fat_rows
    fat_rest =
        pass 14 _ _ none
        ∙ wrong_rows (first_wrong strict (length fat) (marked_fat fat difats fats) 0 (length fat)) (first_number strict (length fat) (marked_fat fat difats fats) 0 (length fat)) _

    -- what the judging of the marked FAT says, at the FAT's own length
    judged_number : (w : ℕ) (fat' marks : List ℕ) → Judged strict (marked_fat fat difats fats) w fat' marks → w ≡ first_wrong strict (length fat) (marked_fat fat difats fats) 0 (length fat)
    judged_number w fat' marks j = rw (length_marked_fat fat difats fats) at j.number

    judged_table : (w : ℕ) (fat' marks : List ℕ) → Judged strict (marked_fat fat difats fats) w fat' marks → w ≡ 0 → fat' ≡ forgiven_fat (length fat) (marked_fat fat difats fats)
    judged_table w fat' marks j z = rw (length_marked_fat fat difats fats) at (j.table z)

    judged_marks : (w : ℕ) (fat' marks : List ℕ) → Judged strict (marked_fat fat difats fats) w fat' marks → w ≡ 0 → marks ≡ marks_of (length fat) (forgiven_fat (length fat) (marked_fat fat difats fats))
    judged_marks w fat' marks j z = rw (length_marked_fat fat difats fats) at (j.marked z)

    pub fat_wrong : (w : ℕ) (fat' marks : List ℕ) → Judged strict (marked_fat fat difats fats) w fat' marks → (w ≡ 0 → ⊥) → FatJudged strict fat difats fats w fat' marks
    fat_wrong w fat' marks j n =
        let e : w ≡ first_wrong strict (length fat) (marked_fat fat difats fats) 0 (length fat) = judged_number w fat' marks j in
        record {
          number = e ∙ sym (fat_rest ∙ rw (ne_eqb _ 0 (λ z. n (e ∙ z))));
          table = λ z. absurd (n z);
          marked = λ z. absurd (n z);
        }

    -- the judging refuses nothing, and the pointees decide
    module _ (w : ℕ) (fat' marks : List ℕ) (j : Judged strict (marked_fat fat difats fats) w fat' marks) (zero_is : w ≡ 0) where
      last : refusal (fat_rows strict (length fat) fat difats fats) ≡ refusal (row 18 (not (none_dangles (length fat) (forgiven_fat (length fat) (marked_fat fat difats fats)))) ∷ [])
      last = fat_rest ∙ rw (eq-eqb _ 0 (sym (judged_number w fat' marks j) ∙ zero_is))

      same_length : length fat' ≡ length fat
      unfolding forgiven_fat
      same_length = ap length (judged_table w fat' marks j zero_is) ∙ length_tab _ (length fat)

      pub fat_marks : marks ≡ marks_of (length fat') fat'
      fat_marks =
          judged_marks w fat' marks j zero_is ∙ ap (marks_of (length fat)) (sym (judged_table w fat' marks j zero_is))
          ∙ ap (λ (k : ℕ). marks_of k fat') (sym same_length)

      at_fat : none_dangles (length fat') fat' ≡ none_dangles (length fat) (forgiven_fat (length fat) (marked_fat fat difats fats))
      at_fat = ap (λ (k : ℕ). none_dangles k fat') same_length ∙ ap (none_dangles (length fat)) (judged_table w fat' marks j zero_is)

      pub fat_18 : (r : Bool) → r ≡ none_dangles (length fat') fat' → r ≡ false → FatJudged strict fat difats fats 18 fat' marks
      unfolding refusal
      fat_18 r e f = record { number = sym (last ∙ rw (sym (e ∙ at_fat) ∙ f)); table = λ z. absurd (omega arith); marked = λ z. absurd (omega arith) }

      pub fat_0 : (r : Bool) → r ≡ none_dangles (length fat') fat' → r ≡ true → FatJudged strict fat difats fats 0 fat' marks
      unfolding refusal
      fat_0 r e f = record { number = sym (last ∙ rw (sym (e ∙ at_fat) ∙ f)); table = λ z. judged_table w fat' marks j zero_is; marked = λ z. judged_marks w fat' marks j zero_is }

-- what is said of a FAT is said of an equal one
pub judged_same : (strict : Bool) (one other : List ℕ) (w : ℕ) (fat' marks : List ℕ) → one ≡ other → Judged strict one w fat' marks → Judged strict other w fat' marks
judged_same strict one other w fat' marks e j = rw e at j
