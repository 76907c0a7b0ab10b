-- What the test of agreement means: the plain facts, and that it holds of what an opening leaves, the free list in any order. Assumes nothing.
use Prim.Native.Nat.{ℕ, ◌+◌, ◌-◌, ◌≤◌, ◌<◌, min}
use mathlib.Core.Path.{◌≡◌, refl, sym, ◌∙◌, ap}
use mathlib.Core.Bool.{true}
use mathlib.Core.List.{List}
use mathlib.Core.Logic.{◌↔◌, ⊎_elim}
use native.Mathlib.Omega.{arith}
use borrow.Author.Tests.{eq-eqb, eqb-true}
use lib.Dec.{eqb}
use lib.ListN.{length, get_or, take, drop, replicate, length-append, length-drop, length-replicate, get_or-replicate}
use lib.Seq.{ext_get_or, get_or-drop}
use Rattle.lists.specs.Rows.{refusal}
use Rattle.lists.proofs.Cases.{below_or, same_or, both_true, both_left, both_right, every_at, every_of}
use Rattle.lists.proofs.Splice.{same_list_true}
use Rattle.header.specs.Versions.{length_of}
use Rattle.header.specs.Read.{header_of}
use Rattle.header.specs.declared.Header.{Header}
use Rattle.header.specs.declared.Validation.{Validation}
use Rattle.fat.specs.Lists.{sectors_in, fat_count, difats_in, fats_in, all_below}
use Rattle.fat.proofs.Differing.{below_of}
use Rattle.fat.proofs.Listing.{fats_few, difats_few}
use Rattle.judge.specs.Judge.{marks_of, frees_of}
use Rattle.judge.proofs.Judging.{frees_exactly, frees_ascend, frees_few}
use Rattle.alloc.specs.Opening.{Tables, first_rows, open_no, open_tables, open_fat, shortest, left_in, padded}
use Rattle.alloc.specs.Opened.{tables_left, Lent}
use Rattle.alloc.proofs.Opens.{open_first, opens_lent}
use Rattle.alloc.proofs.Filled.{front_padded, length_open_fat, length_marks, length_fats, length_difats}
use Rattle.points.specs.Frees.{occurs, times_free, any_order, FreesOnce}
use Rattle.points.proofs.Freeing.{occurs_some, occurs_place, order_exactly}
use Rattle.points.proofs.Testing.{same_of}
use Rattle.agree.specs.Agree.{same_header, holds, agreement}
use Rattle.agree.specs.Agrees.{Held, Agrees, Permuted}
use Rattle.agree.proofs.Comparing.{header_exactly, padded_rest}
use Rattle.agree.proofs.Lent.{Wholes, wholes_true, wholes_of, lent_counted}

-- zeros past a count, place by place
zeros_past : (xs : List ℕ) (k : ℕ) → drop k xs ≡ replicate (length xs - k) 0 → (j : ℕ) → k ≤ j → j < length xs → get_or xs j 0 ≡ 0
zeros_past xs k e j low high =
    let p : k + (j - k) ≡ j = omega arith in
    ap (λ (q : ℕ). get_or xs q 0) (sym p) ∙ sym (get_or-drop k xs (j - k) 0) ∙ ap (λ (l : List ℕ). get_or l (j - k) 0) e ∙ get_or-replicate (length xs - k) (j - k) 0 0 (omega arith)

past_zeros : (xs : List ℕ) (k : ℕ) → ((j : ℕ) → k ≤ j → j < length xs → get_or xs j 0 ≡ 0) → drop k xs ≡ replicate (length xs - k) 0
past_zeros xs k h =
    ext_get_or 0 (drop k xs) (replicate (length xs - k) 0) (length-drop k xs ∙ sym (length-replicate {A = ℕ} (length xs - k) 0))
    (λ i l.
    let low : i < length xs - k = omega (arith, length-drop k xs) in
    get_or-drop k xs i 0 ∙ h (k + i) (omega arith) (omega arith) ∙ sym (get_or-replicate (length xs - k) i 0 0 low))

-- the tests of whole tables are the plain facts
module _ (S : ℕ) (img : List ℕ) (h : Header) (n free : ℕ) (t : Tables) where
  held_of : Wholes S img h n free t → Held n (open_tables S img h n) free t
  unfolding open_tables holds
  held_of w =
      record {
        fat = same_list_true _ _ w.fat;
        fats = same_list_true _ _ w.fats;
        difats = same_list_true _ _ w.difats;
        marks = same_list_true _ _ w.marks;
        count = w.count;
        frees = (order_exactly n (open_fat S img h n) (take free t.frees)).0 w.order;
        rest = zeros_past t.frees free (same_list_true _ _ w.rest);
      }

  of_held : Held n (open_tables S img h n) free t → Wholes S img h n free t
  unfolding open_tables holds
  of_held q =
      record {
        fat = same_of _ _ q.fat;
        fats = same_of _ _ q.fats;
        difats = same_of _ _ q.difats;
        marks = same_of _ _ q.marks;
        count = q.count;
        order = (order_exactly n (open_fat S img h n) (take free t.frees)).1 q.frees;
        rest = same_of _ _ (past_zeros t.frees free q.rest);
      }

-- document 01, 19: the test holds exactly when the plain facts do
module _ (m : Validation) (img : List ℕ) (used sectors free : ℕ) (h : Header) (t : Tables) where
  abbrev S : ℕ
  S = length_of (header_of img).version

  abbrev n : ℕ
  n = sectors_in S used

  agrees_true : agreement m img used sectors free h t ≡ true → Agrees m img used sectors free h t
  unfolding agreement
  agrees_true q =
      let q1 = both_right (eqb (open_no m img used (shortest t)) 0) _ q in
      let q2 = both_right (same_header h (header_of img)) _ q1 in
      record {
        opens = eqb-true _ _ (both_left (eqb (open_no m img used (shortest t)) 0) _ q);
        header = (header_exactly h (header_of img)).0 (both_left (same_header h (header_of img)) _ q1);
        count = eqb-true _ _ (both_left (eqb sectors n) _ q2);
        tables = held_of S img (header_of img) n free t (wholes_true S img (header_of img) n free t (both_right (eqb sectors n) _ q2));
      }

  true_agrees : Agrees m img used sectors free h t → agreement m img used sectors free h t ≡ true
  unfolding agreement
  true_agrees a =
      both_true (eq-eqb _ _ a.opens)
      (both_true ((header_exactly h (header_of img)).1 a.header)
      (both_true (eq-eqb _ _ a.count) (wholes_of S img (header_of img) n free t (of_held S img (header_of img) n free t a.tables))))

  pub agrees_exactly : agreement m img used sectors free h t ≡ true ↔ Agrees m img used sectors free h t
  agrees_exactly = (agrees_true, true_agrees)

-- a list in another order
permuted_once : (n : ℕ) (fat xs ys : List ℕ) → Permuted xs ys → any_order n fat xs ≡ true → any_order n fat ys ≡ true
unfolding any_order
permuted_once n fat xs ys p t =
    let f = (order_exactly n fat xs).0 t in
    both_true
    (below_of n ys (λ j l.
    let q = occurs_place (get_or ys j 0) xs (rw (p.times (get_or ys j 0)) (occurs_some (get_or ys j 0) ys j l refl)) in
    rw (← q.2) (f.below q.0 q.1)))
    (every_of n (λ i. eqb (occurs i ys) (times_free fat i))
    (λ i l. eq-eqb _ _ (sym (p.times i) ∙ eqb-true _ _ (every_at n (λ k. eqb (occurs k xs) (times_free fat k)) (both_right (all_below n xs) _ t) i l))))

-- document 01, 19, "the free list in any order": agreement stays where the free list is permuted
pub permuted_agrees : (m : Validation) (img : List ℕ) (used sectors free : ℕ) (h : Header) (fat fats difats frees marks other : List ℕ)
    → agreement m img used sectors free h (record { fat = fat; fats = fats; difats = difats; frees = frees; marks = marks }) ≡ true
    → Permuted (take free frees) (take free other) → length other ≡ length frees → drop free other ≡ drop free frees
    → agreement m img used sectors free h (record { fat = fat; fats = fats; difats = difats; frees = other; marks = marks }) ≡ true
unfolding agreement shortest
permuted_agrees m img used sectors free h fat fats difats frees marks other q p l d =
    let S = length_of (header_of img).version in
    let n = sectors_in S used in
    let q1 = both_right (eqb (open_no m img used (min (length fat) (min (length fats) (min (length difats) (min (length frees) (length marks)))))) 0) _ q in
    let q2 = both_right (same_header h (header_of img)) _ q1 in
    let w = wholes_true S img (header_of img) n free (record { fat = fat; fats = fats; difats = difats; frees = frees; marks = marks }) (both_right (eqb sectors n) _ q2) in
    let opens : eqb (open_no m img used (min (length fat) (min (length fats) (min (length difats) (min (length other) (length marks)))))) 0 ≡ true =
    rw l (both_left (eqb (open_no m img used (min (length fat) (min (length fats) (min (length difats) (min (length frees) (length marks)))))) 0) _ q) in
    both_true opens
    (both_true (both_left (same_header h (header_of img)) _ q1)
    (both_true (both_left (eqb sectors n) _ q2)
    (wholes_of S img (header_of img) n free (record { fat = fat; fats = fats; difats = difats; frees = other; marks = marks })
    record {
      fat = w.fat;
      fats = w.fats;
      difats = w.difats;
      marks = w.marks;
      count = w.count;
      order = permuted_once n (open_fat S img (header_of img) n) (take free frees) (take free other) p w.order;
      rest = rw (d, l) w.rest;
    })))

-- the ascending free list holds each FREE sector once
pub ascending_once : (n : ℕ) (fat : List ℕ) → FreesOnce n fat (frees_of n fat)
ascending_once n fat =
    record {
      below = λ j l. ((frees_exactly n fat (get_or (frees_of n fat) j 0)).0 (j, l, refl)).0;
      free = λ j l. ((frees_exactly n fat (get_or (frees_of n fat) j 0)).0 (j, l, refl)).1;
      once = λ i j hi hj e.
          ⊎_elim
          (λ (a : i < j). absurd (omega (arith, frees_ascend n fat i j a hj)))
          (λ (a : j ≤ i). ⊎_elim (λ (b : j < i). absurd (omega (arith, frees_ascend n fat j i b hi))) (λ (b : i ≤ j). omega arith) (below_or j i))
          (below_or i j);
      all = λ i l e. (frees_exactly n fat i).1 (l, e);
    }

-- a table that was filled is as long as it was, and holds what it was filled with
length_padded : (xs : List ℕ) (m : ℕ) → length xs ≤ m → length (padded xs m) ≡ m
unfolding padded
length_padded xs m h = length-append xs (replicate (m - length xs) 0) ∙ omega (arith, length-replicate {A = ℕ} (m - length xs) 0)

padded_own : (xs : List ℕ) (m : ℕ) → length xs ≤ m → padded xs m ≡ padded xs (length (padded xs m))
padded_own xs m h = ap (padded xs) (sym (length_padded xs m h))

-- document 01: agreement holds of what an opening leaves
module _ (m : Validation) (img : List ℕ) (used : ℕ) (t : Tables) (open_is : open_no m img used (shortest t) ≡ 0) where
  abbrev size : ℕ
  size = length_of (header_of img).version

  abbrev count : ℕ
  count = sectors_in size used

  abbrev o : Tables
  o = open_tables size img (header_of img) count

  early : refusal (first_rows m img used (shortest t)) ≡ 0
  early = ⊎_elim (λ (z : refusal (first_rows m img used (shortest t)) ≡ 0). z) (λ d. absurd (d (sym (open_first m img used t d) ∙ open_is))) (same_or (refusal (first_rows m img used (shortest t))) 0)

  lent : Lent size count (length img) t
  lent = opens_lent m img used t early

  fat_fits : length (open_fat size img (header_of img) count) ≤ length t.fat
  fat_fits = omega (arith, length_open_fat size img (header_of img) count, lent.fat_long)

  marks_fit : length (marks_of count (open_fat size img (header_of img) count)) ≤ length t.marks
  marks_fit = omega (arith, length_marks count (open_fat size img (header_of img) count), lent.marks_long)

  frees_fit : length (frees_of count (open_fat size img (header_of img) count)) ≤ length t.frees
  frees_fit = omega (arith, frees_few count (open_fat size img (header_of img) count), lent.frees_long)

  fats_fit : length (fats_in size img (header_of img) count) ≤ length t.fats
  fats_fit = omega (arith, length_fats size img (header_of img) count, lent.fats_long, fats_few size count (length img) (fat_count size count) _ (lent_counted _ _ _ _ _ _ lent refl refl))

  difats_fit : length (difats_in size img (header_of img) count) ≤ length t.difats
  difats_fit = omega (arith, length_difats size img (header_of img) count, lent.difats_long, difats_few size count (length img) (fat_count size count) _ (lent_counted _ _ _ _ _ _ lent refl refl))

  -- the tables that are left
  abbrev left : Tables
  left = record {
    fat = padded (open_fat size img (header_of img) count) (length t.fat);
    fats = padded (fats_in size img (header_of img) count) (length t.fats);
    difats = padded (difats_in size img (header_of img) count) (length t.difats);
    frees = padded (frees_of count (open_fat size img (header_of img) count)) (length t.frees);
    marks = padded (marks_of count (open_fat size img (header_of img) count)) (length t.marks);
  }

  left_is : tables_left 0 t o ≡ left
  unfolding tables_left left_in open_tables padded
  left_is = refl

  as_short : shortest left ≡ shortest t
  unfolding shortest
  as_short =
      rw (
        length_padded (open_fat size img (header_of img) count) (length t.fat) fat_fits,
        length_padded (fats_in size img (header_of img) count) (length t.fats) fats_fit,
        length_padded (difats_in size img (header_of img) count) (length t.difats) difats_fit,
        length_padded (frees_of count (open_fat size img (header_of img) count)) (length t.frees) frees_fit,
        length_padded (marks_of count (open_fat size img (header_of img) count)) (length t.marks) marks_fit,
      )

  held : Held count o (length (frees_of count (open_fat size img (header_of img) count))) left
  unfolding open_tables
  held =
      let fs : List ℕ = frees_of count (open_fat size img (header_of img) count) in
      record {
        fat = padded_own _ _ fat_fits;
        fats = padded_own _ _ fats_fit;
        difats = padded_own _ _ difats_fit;
        marks = padded_own _ _ marks_fit;
        count = refl;
        frees = rw (front_padded fs (padded fs (length t.frees)) (length fs) (length t.frees) refl refl) (ascending_once count (open_fat size img (header_of img) count));
        rest = zeros_past (padded fs (length t.frees)) (length fs) (padded_rest (padded fs (length t.frees)) fs (length fs) refl (padded_own _ _ frees_fit));
      }

  pub opened_agrees : agreement m img used count (length o.frees) (header_of img) (tables_left 0 t o) ≡ true
  unfolding open_tables
  opened_agrees =
      rw left_is
      ((agrees_exactly m img used count (length (frees_of count (open_fat size img (header_of img) count))) (header_of img) left).1
      record { opens = ap (open_no m img used) as_short ∙ open_is; header = refl; count = refl; tables = held })
