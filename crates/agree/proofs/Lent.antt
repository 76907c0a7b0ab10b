-- The laws of whole lent tables: what an image that opens has in front, and zeros behind. Assumes nothing.
use Prim.Native.Nat.{ℕ, ◌-◌, ◌≤◌}
use mathlib.Core.Path.{◌≡◌, sym, ◌∙◌, ap}
use mathlib.Core.Bool.{Bool, true, false}
use mathlib.Core.List.{List}
use native.Mathlib.Omega.{arith}
use borrow.Author.Tests.{eq-eqb, eqb-true}
use lib.Dec.{eqb}
use lib.ListN.{length, take, drop, replicate, length-drop}
use lib.Seq.{length-take-le}
use Rattle.lists.specs.Lists.{both, same_list}
use Rattle.lists.specs.Rows.{refusal}
use Rattle.lists.proofs.Cases.{not_both, both_true, both_left, both_right, same_test}
use Rattle.lists.proofs.Splice.{same_list_true}
use Rattle.header.specs.declared.Header.{Header}
use Rattle.fat.specs.Lists.{fat_count, difat_count, difats_in, fats_in}
use Rattle.fat.specs.Loaded.{Counted}
use Rattle.judge.specs.Judge.{marks_of, frees_of}
use Rattle.alloc.specs.Opening.{Tables, open_fat, open_tables, table_rows}
use Rattle.alloc.specs.Opened.{Lent}
use Rattle.alloc.proofs.Filled.{length_open_fat, length_marks, length_fats, length_difats, counted_same}
use Rattle.points.specs.Frees.{any_order}
use Rattle.points.specs.Parts.{frees_same}
use Rattle.points.proofs.Testing.{same_of}
use Rattle.agree.specs.Agree.{holds, frees_held, tables_held}
use Rattle.agree.specs.Parts.{all_zero, tails_zero, tables_same, TablesLent}
use Rattle.agree.proofs.Comparing.{zeros_are, holds_front}
use Rattle.agree.proofs.Listing.{refutes}
use Rattle.agree.proofs.Accepting.{Fronts, fronts_exactly}

-- the tests of whole tables, one by one
pub record Wholes (S : ℕ) (img : List ℕ) (h : Header) (n free : ℕ) (t : Tables) : Type 0 where
  pub fat : holds t.fat (open_fat S img h n) ≡ true
  pub fats : holds t.fats (fats_in S img h n) ≡ true
  pub difats : holds t.difats (difats_in S img h n) ≡ true
  pub marks : holds t.marks (marks_of n (open_fat S img h n)) ≡ true
  pub count : free ≡ length (frees_of n (open_fat S img h n))
  pub order : any_order n (open_fat S img h n) (take free t.frees) ≡ true
  pub rest : same_list (drop free t.frees) (replicate (length t.frees - free) 0) ≡ true

module _ (S : ℕ) (img : List ℕ) (h : Header) (n free : ℕ) (t : Tables) where
  pub wholes_true : tables_held n (open_tables S img h n) free t ≡ true → Wholes S img h n free t
  unfolding tables_held open_tables frees_held
  wholes_true q =
      let q1 = both_right (holds t.fat (open_fat S img h n)) _ q in
      let q2 = both_right (holds t.fats (fats_in S img h n)) _ q1 in
      let q3 = both_right (holds t.difats (difats_in S img h n)) _ q2 in
      let q4 = both_right (holds t.marks (marks_of n (open_fat S img h n))) _ q3 in
      let q5 = both_right (eqb free (length (frees_of n (open_fat S img h n)))) _ q4 in
      record {
        fat = both_left (holds t.fat (open_fat S img h n)) _ q;
        fats = both_left (holds t.fats (fats_in S img h n)) _ q1;
        difats = both_left (holds t.difats (difats_in S img h n)) _ q2;
        marks = both_left (holds t.marks (marks_of n (open_fat S img h n))) _ q3;
        count = eqb-true _ _ (both_left (eqb free (length (frees_of n (open_fat S img h n)))) _ q4);
        order = both_left (any_order n (open_fat S img h n) (take free t.frees)) _ q5;
        rest = both_right (any_order n (open_fat S img h n) (take free t.frees)) _ q5;
      }

  pub wholes_of : Wholes S img h n free t → tables_held n (open_tables S img h n) free t ≡ true
  unfolding tables_held open_tables frees_held
  wholes_of w = both_true w.fat (both_true w.fats (both_true w.difats (both_true w.marks (both_true (eq-eqb _ _ w.count) (both_true w.order w.rest)))))

-- a front and a rest of a table that holds a list
front_of : (t xs : List ℕ) (k : ℕ) → length xs ≡ k → holds t xs ≡ true → (take k t ≡ xs) × (all_zero (drop k t) ≡ true)
front_of t xs k e q =
    let b : both (same_list (take k t) xs) (all_zero (drop k t)) ≡ true = sym (holds_front t xs k e) ∙ q in
    (same_list_true _ _ (both_left (same_list (take k t) xs) (all_zero (drop k t)) b), both_right (same_list (take k t) xs) (all_zero (drop k t)) b)

of_front : (t xs : List ℕ) (k : ℕ) → length xs ≡ k → take k t ≡ xs → all_zero (drop k t) ≡ true → holds t xs ≡ true
of_front t xs k e f z = holds_front t xs k e ∙ both_true (same_of _ _ f) z

-- whole tables that are tested in turn: their rests, their fronts, the free list
module _ (strict : Bool) (S : ℕ) (img : List ℕ) (h : Header) (n k d free : ℕ) (t : Tables) (ek : k ≡ fat_count S n) (ed : d ≡ difat_count S k) where
  abbrev rows : Bool
  rows = eqb (refusal (table_rows strict S img h n)) 0

  abbrev held : Bool
  held = tables_held n (open_tables S img h n) free t

  k_fats : length (fats_in S img h n) ≡ k
  k_fats = length_fats S img h n ∙ sym ek

  d_difats : length (difats_in S img h n) ≡ d
  d_difats = length_difats S img h n ∙ sym (ed ∙ ap (difat_count S) ek)

  fronts : both rows held ≡ true → Fronts strict S img h n (take n t.fat) (take k t.fats) (take d t.difats) (take n t.marks)
  fronts q =
      let w = wholes_true S img h n free t (both_right rows held q) in
      record {
        rows = eqb-true _ _ (both_left rows held q);
        fat_is = (front_of t.fat _ n (length_open_fat S img h n) w.fat).0;
        fats_are = (front_of t.fats _ k k_fats w.fats).0;
        difats_are = (front_of t.difats _ d d_difats w.difats).0;
        marks_are = (front_of t.marks _ n (length_marks n (open_fat S img h n)) w.marks).0;
      }

  pub whole_tails : tails_zero n k d free t ≡ false → false ≡ both rows held
  unfolding tails_zero
  whole_tails f =
      refutes (both rows held)
      (λ q.
      let w = wholes_true S img h n free t (both_right rows held q) in
      not_both
      (both_true (front_of t.fat _ n (length_open_fat S img h n) w.fat).1
      (both_true (front_of t.fats _ k k_fats w.fats).1
      (both_true (front_of t.difats _ d d_difats w.difats).1
      (both_true (zeros_are (drop free t.frees) (length t.frees - free) (length-drop free t.frees) ∙ w.rest)
      (front_of t.marks _ n (length_marks n (open_fat S img h n)) w.marks).1))))
      f)

  module _ (n' : ℕ) (en : n' ≡ n) where
    pub whole_tables : tables_same strict S img h n' (take n t.fat) (take k t.fats) (take d t.difats) (take n t.marks) ≡ false → false ≡ both rows held
    whole_tables f =
        refutes (both rows held)
        (λ q. not_both ((fronts_exactly strict S img h n (take n t.fat) (take k t.fats) (take d t.difats) (take n t.marks)).1 (fronts q))
        (ap (λ (m : ℕ). tables_same strict S img h m (take n t.fat) (take k t.fats) (take d t.difats) (take n t.marks)) (sym en) ∙ f))

    module _ (enough : free ≤ length t.frees) (zero : tails_zero n k d free t ≡ true)
        (same : tables_same strict S img h n' (take n t.fat) (take k t.fats) (take d t.difats) (take n t.marks) ≡ true) where
      own : Fronts strict S img h n (take n t.fat) (take k t.fats) (take d t.difats) (take n t.marks)
      own =
          (fronts_exactly strict S img h n (take n t.fat) (take k t.fats) (take d t.difats) (take n t.marks)).0
          (ap (λ (m : ℕ). tables_same strict S img h m (take n t.fat) (take k t.fats) (take d t.difats) (take n t.marks)) (sym en) ∙ same)

      -- the free list's test is that of the image's FAT
      by_open : frees_same (take n t.fat) (take free t.frees) ≡ both (eqb free (length (frees_of n (open_fat S img h n)))) (any_order n (open_fat S img h n) (take free t.frees))
      unfolding frees_same
      by_open =
          rw (own.fat_is, length_open_fat S img h n)
          (ap (λ (m : ℕ). both (eqb m (length (frees_of n (open_fat S img h n)))) (any_order n (open_fat S img h n) (take free t.frees))) (length-take-le free t.frees enough))

      gathered : both (eqb free (length (frees_of n (open_fat S img h n)))) (any_order n (open_fat S img h n) (take free t.frees)) ≡ true → Wholes S img h n free t
      unfolding tails_zero
      gathered b =
          let z1 = both_right (all_zero (drop n t.fat)) _ zero in
          let z2 = both_right (all_zero (drop k t.fats)) _ z1 in
          let z3 = both_right (all_zero (drop d t.difats)) _ z2 in
          record {
            fat = of_front t.fat _ n (length_open_fat S img h n) own.fat_is (both_left (all_zero (drop n t.fat)) _ zero);
            fats = of_front t.fats _ k k_fats own.fats_are (both_left (all_zero (drop k t.fats)) _ z1);
            difats = of_front t.difats _ d d_difats own.difats_are (both_left (all_zero (drop d t.difats)) _ z2);
            marks = of_front t.marks _ n (length_marks n (open_fat S img h n)) own.marks_are (both_right (all_zero (drop free t.frees)) _ z3);
            count = eqb-true _ _ (both_left (eqb free (length (frees_of n (open_fat S img h n)))) _ b);
            order = both_right (eqb free (length (frees_of n (open_fat S img h n)))) _ b;
            rest = sym (zeros_are (drop free t.frees) (length t.frees - free) (length-drop free t.frees)) ∙ both_left (all_zero (drop free t.frees)) _ z3;
          }

      pub whole_told : (r : Bool) → r ≡ frees_same (take n t.fat) (take free t.frees) → r ≡ both rows held
      whole_told r e =
          e ∙ by_open ∙ same_test (both (eqb free (length (frees_of n (open_fat S img h n)))) (any_order n (open_fat S img h n) (take free t.frees))) (both rows held)
          (λ b. both_true (eq-eqb _ _ own.rows) (wholes_of S img h n free t (gathered b)))
          (λ q. let w = wholes_true S img h n free t (both_right rows held q) in both_true (eq-eqb _ _ w.count) w.order)

-- the counts of lent tables, and what their fronts ask for
pub lent_counted : (S n len : ℕ) (t : Tables) (k d : ℕ) → Lent S n len t → k ≡ fat_count S n → d ≡ difat_count S k → Counted S n len k d
lent_counted S n len t k d l ek ed = record { holds = l.holds; short = l.short; few = l.few; fats = ek; difats = ed }

pub fronts_lent : (S len n k d scratch n' k' d' m : ℕ) → Counted S n len k d → n ≤ scratch → n' ≡ n → k' ≡ k → d' ≡ d → m ≡ n → TablesLent S len n' k' d' m scratch
fronts_lent S len n k d scratch n' k' d' m c h en ek ed em =
    record { counted = counted_same S n len k d n' k' d' en ek ed c; marked = em ∙ sym en; below = omega arith }
