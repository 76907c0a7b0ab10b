-- The laws of tables that are compared with those of an image that opens (document 01, 12 to 18). Assumes nothing.
use Prim.Native.Nat.{ℕ, ◌≤◌}
use mathlib.Core.Path.{◌≡◌, refl, sym, ◌∙◌, ap}
use mathlib.Core.Bool.{Bool, true, false, not}
use mathlib.Core.List.{List, ◌∷◌}
use mathlib.Core.Logic.{⊎_elim}
use native.Mathlib.Omega.{arith}
use borrow.Author.Tests.{eq-eqb, eqb-true}
use lib.Dec.{eqb}
use lib.ListN.{length}
use Rattle.lists.specs.Lists.{both, same_list}
use Rattle.lists.specs.Rows.{row, refusal}
use Rattle.lists.proofs.Cases.{true_or, not_both, both_true, both_left, both_right, same_test}
use Rattle.lists.proofs.Rows.{stop, pass}
use Rattle.lists.proofs.Splice.{same_list_true}
use Rattle.lists.proofs.Tab.{length_tab}
use Rattle.consts.specs.Consts.{max_regular}
use Rattle.header.specs.declared.Header.{Header}
use Rattle.fat.specs.Lists.{difats_in, fats_in, fat_of, lists_right, tail_free}
use Rattle.fat.specs.Loaded.{ListsLoaded, Covers}
use Rattle.judge.specs.Judge.{marked_fat, forgiven_fat, marks_of, none_dangles, fat_rows}
use Rattle.alloc.specs.Opening.{raw_fat, judged_fat, open_fat, table_rows}
use Rattle.alloc.proofs.Opening.{lists_difats, lists_cover}
use Rattle.points.specs.Parts.{points_once, points_same}
use Rattle.points.proofs.Testing.{same_of}
use Rattle.agree.specs.Parts.{FatLent, TablesLent, lists_same, fat_same, tables_same}
use Rattle.agree.proofs.Listing.{refutes}
use Rattle.agree.proofs.Judging.{Passed, rows_passed, passed_rows, same_fat, fat_forgiven, points_passed, passed_points}

-- the fronts of the tables are those of an image that opens
pub record Fronts (strict : Bool) (S : ℕ) (img : List ℕ) (h : Header) (n : ℕ) (fat fats difats marks : List ℕ) : Type 0 where
  pub rows : refusal (table_rows strict S img h n) ≡ 0
  pub fat_is : fat ≡ open_fat S img h n
  pub fats_are : fats ≡ fats_in S img h n
  pub difats_are : difats ≡ difats_in S img h n
  pub marks_are : marks ≡ marks_of n (open_fat S img h n)

-- the rows 12 to 18, one by one
module _ (strict : Bool) (S : ℕ) (img : List ℕ) (h : Header) (n : ℕ) where
  rows_lists : refusal (table_rows strict S img h n) ≡ 0 → lists_right S img h n ≡ true
  unfolding table_rows
  rows_lists z =
      ⊎_elim
      (λ (t : lists_right S img h n ≡ true). t)
      (λ (f : lists_right S img h n ≡ false). absurd (let q : ◌≡◌ {A = ℕ} 12 0 = sym (stop 12 _ _ (ap not f)) ∙ z in omega arith))
      (true_or _)

  rows_past : lists_right S img h n ≡ true
      → refusal (table_rows strict S img h n) ≡ refusal (row 13 (not (tail_free S img (fats_in S img h n) n)) ∷ fat_rows strict n (raw_fat S img h n) (difats_in S img h n) (fats_in S img h n))
  unfolding table_rows
  rows_past t = pass 12 _ _ (ap not t)

  rows_tail : refusal (table_rows strict S img h n) ≡ 0 → tail_free S img (fats_in S img h n) n ≡ true
  rows_tail z =
      ⊎_elim
      (λ (t : tail_free S img (fats_in S img h n) n ≡ true). t)
      (λ (f : tail_free S img (fats_in S img h n) n ≡ false). absurd (let q : ◌≡◌ {A = ℕ} 13 0 = sym (rows_past (rows_lists z) ∙ stop 13 _ _ (ap not f)) ∙ z in omega arith))
      (true_or _)

  rows_fat : refusal (table_rows strict S img h n) ≡ 0 → refusal (fat_rows strict n (raw_fat S img h n) (difats_in S img h n) (fats_in S img h n)) ≡ 0
  rows_fat z = sym (rows_past (rows_lists z) ∙ pass 13 _ _ (ap not (rows_tail z))) ∙ z

  rows_all : lists_right S img h n ≡ true → tail_free S img (fats_in S img h n) n ≡ true → refusal (fat_rows strict n (raw_fat S img h n) (difats_in S img h n) (fats_in S img h n)) ≡ 0
      → refusal (table_rows strict S img h n) ≡ 0
  rows_all l t z = rows_past l ∙ pass 13 _ _ (ap not t) ∙ z

-- the test of the fronts says so
module _ (strict : Bool) (S : ℕ) (img : List ℕ) (h : Header) (n : ℕ) (fat fats difats marks : List ℕ) where
  fronts_true : tables_same strict S img h n fat fats difats marks ≡ true → Fronts strict S img h n fat fats difats marks
  unfolding tables_same
  fronts_true t =
      let t1 = both_right (eqb (refusal (table_rows strict S img h n)) 0) _ t in
      let t2 = both_right (same_list fat (open_fat S img h n)) _ t1 in
      let t3 = both_right (same_list fats (fats_in S img h n)) _ t2 in
      record {
        rows = eqb-true _ _ (both_left (eqb (refusal (table_rows strict S img h n)) 0) _ t);
        fat_is = same_list_true _ _ (both_left (same_list fat (open_fat S img h n)) _ t1);
        fats_are = same_list_true _ _ (both_left (same_list fats (fats_in S img h n)) _ t2);
        difats_are = same_list_true _ _ (both_left (same_list difats (difats_in S img h n)) _ t3);
        marks_are = same_list_true _ _ (both_right (same_list difats (difats_in S img h n)) _ t3);
      }

  fronts_of : Fronts strict S img h n fat fats difats marks → tables_same strict S img h n fat fats difats marks ≡ true
  unfolding tables_same
  fronts_of f = both_true (eq-eqb _ _ f.rows) (both_true (same_of _ _ f.fat_is) (both_true (same_of _ _ f.fats_are) (both_true (same_of _ _ f.difats_are) (same_of _ _ f.marks_are))))

  pub fronts_exactly : (tables_same strict S img h n fat fats difats marks ≡ true → Fronts strict S img h n fat fats difats marks) × (Fronts strict S img h n fat fats difats marks → tables_same strict S img h n fat fats difats marks ≡ true)
  fronts_exactly = (fronts_true, fronts_of)

  -- a refusal of the lists, of the tail, of the FAT
  pub tables_lists : lists_same S img h n fats difats ≡ false → false ≡ tables_same strict S img h n fat fats difats marks
  unfolding lists_same
  tables_lists g =
      refutes _ (λ t. let f = fronts_true t in not_both (both_true (rows_lists strict S img h n f.rows) (both_true (same_of _ _ f.difats_are) (same_of _ _ f.fats_are))) g)

  pub tables_tail : tail_free S img fats n ≡ false → false ≡ tables_same strict S img h n fat fats difats marks
  tables_tail g = refutes _ (λ t. let f = fronts_true t in not_both (ap (λ (x : List ℕ). tail_free S img x n) f.fats_are ∙ rows_tail strict S img h n f.rows) g)

  module _ (small : n ≤ max_regular) (long : length fat ≡ n) where
    abbrev raw : List ℕ
    raw = fat_of S img fats n

    wide : length raw ≡ n
    unfolding fat_of
    wide = length_tab _ n

    -- what the lists say of the image's FAT and of its rows
    raw_own : fats ≡ fats_in S img h n → raw_fat S img h n ≡ raw
    unfolding raw_fat
    raw_own e = ap (λ (x : List ℕ). fat_of S img x n) (sym e)

    open_own : fats ≡ fats_in S img h n → difats ≡ difats_in S img h n → open_fat S img h n ≡ forgiven_fat n (marked_fat raw difats fats)
    unfolding open_fat judged_fat
    open_own e d = rw (raw_own e, ← e, ← d)

    rows_own : fats ≡ fats_in S img h n → difats ≡ difats_in S img h n → refusal (fat_rows strict n (raw_fat S img h n) (difats_in S img h n) (fats_in S img h n)) ≡ refusal (fat_rows strict n raw difats fats)
    rows_own e d = rw (raw_own e, ← e, ← d)

    passes : Fronts strict S img h n fat fats difats marks → Passed strict n raw difats fats
    passes f = rows_passed strict n raw difats fats wide (sym (rows_own f.fats_are f.difats_are) ∙ rows_fat strict S img h n f.rows)

    pub tables_fat : fat_same strict raw difats fats fat ≡ false → false ≡ tables_same strict S img h n fat fats difats marks
    tables_fat g =
        refutes _ (λ t. let f = fronts_true t in not_both (same_fat strict n raw difats fats fat small wide long (f.fat_is ∙ open_own f.fats_are f.difats_are) (passes f)) g)

    -- and then the entries and the marks decide
    pub tables_told : (r : Bool) → lists_same S img h n fats difats ≡ true → tail_free S img fats n ≡ true → fat_same strict raw difats fats fat ≡ true → r ≡ points_same fat marks
        → r ≡ tables_same strict S img h n fat fats difats marks
    unfolding lists_same points_same
    tables_told r l t s e =
        e ∙ same_test (both (points_once fat) (both (same_list marks (marks_of (length fat) fat)) (none_dangles (length fat) fat))) (tables_same strict S img h n fat fats difats marks)
        (λ q.
        let o : points_once fat ≡ true = both_left (points_once fat) _ q in
        let q' = both_right (points_once fat) (both (same_list marks (marks_of (length fat) fat)) (none_dangles (length fat) fat)) q in
        let m : marks ≡ marks_of (length fat) fat = same_list_true _ _ (both_left (same_list marks (marks_of (length fat) fat)) (none_dangles (length fat) fat) q') in
        let d : none_dangles (length fat) fat ≡ true = both_right (same_list marks (marks_of (length fat) fat)) _ q' in
        fronts_of record {
          rows = rows_all strict S img h n right (ap (λ (x : List ℕ). tail_free S img x n) (sym own_fats) ∙ t)
              (rows_own own_fats own_difats ∙ passed_rows strict n raw difats fats wide (points_passed strict n raw difats fats fat small wide long s o d));
          fat_is = opened;
          fats_are = own_fats;
          difats_are = own_difats;
          marks_are = m ∙ ap (λ (k : ℕ). marks_of k fat) long ∙ ap (marks_of n) opened;
        })
        (λ q.
        let f = fronts_true q in
        let p = passed_points strict n raw difats fats fat small wide long (f.fat_is ∙ open_own f.fats_are f.difats_are) (passes f) in
        both_true p.0 (both_true (same_of marks _ (f.marks_are ∙ ap (marks_of n) (sym f.fat_is) ∙ ap (λ (k : ℕ). marks_of k fat) (sym long))) p.1))
      where
        right : lists_right S img h n ≡ true
        right = both_left (lists_right S img h n) (both (same_list difats (difats_in S img h n)) (same_list fats (fats_in S img h n))) l

        own : both (same_list difats (difats_in S img h n)) (same_list fats (fats_in S img h n)) ≡ true
        own = both_right (lists_right S img h n) (both (same_list difats (difats_in S img h n)) (same_list fats (fats_in S img h n))) l

        own_difats : difats ≡ difats_in S img h n
        own_difats = same_list_true _ _ (both_left (same_list difats (difats_in S img h n)) (same_list fats (fats_in S img h n)) own)

        own_fats : fats ≡ fats_in S img h n
        own_fats = same_list_true _ _ (both_right (same_list difats (difats_in S img h n)) (same_list fats (fats_in S img h n)) own)

        opened : fat ≡ open_fat S img h n
        opened = fat_forgiven strict n raw difats fats fat small wide long s ∙ sym (open_own own_fats own_difats)

-- lists that are right cover the FAT's entries
lists_loaded : (S : ℕ) (img : List ℕ) (h : Header) (n : ℕ) (fats difats : List ℕ) → lists_same S img h n fats difats ≡ true → ListsLoaded S img h n true fats difats
unfolding lists_same
lists_loaded S img h n fats difats l =
    let own : both (same_list difats (difats_in S img h n)) (same_list fats (fats_in S img h n)) ≡ true = both_right (lists_right S img h n) (both (same_list difats (difats_in S img h n)) (same_list fats (fats_in S img h n))) l in
    record {
      right = sym (both_left (lists_right S img h n) (both (same_list difats (difats_in S img h n)) (same_list fats (fats_in S img h n))) l);
      difats_hold = λ t. same_list_true _ _ (both_left (same_list difats (difats_in S img h n)) (same_list fats (fats_in S img h n)) own);
      fats_hold = λ t. same_list_true _ _ (both_right (same_list difats (difats_in S img h n)) (same_list fats (fats_in S img h n)) own);
    }

pub tables_cover : (S : ℕ) (img : List ℕ) (h : Header) (n : ℕ) (fats difats : List ℕ) (len marks scratch : ℕ) → TablesLent S len n (length fats) (length difats) marks scratch
    → lists_same S img h n fats difats ≡ true → Covers S n len fats n
tables_cover S img h n fats difats len marks scratch p l = lists_cover S img h n true fats difats (lists_loaded S img h n fats difats l) refl len (length fats) (length difats) p.counted refl

pub tables_fat_lent : (S : ℕ) (img : List ℕ) (h : Header) (n : ℕ) (fats difats : List ℕ) (len marks scratch room : ℕ) → TablesLent S len n (length fats) (length difats) marks scratch
    → lists_same S img h n fats difats ≡ true → room ≡ n → FatLent S len difats fats n room
tables_fat_lent S img h n fats difats len marks scratch room p l e =
    record {
      covers = tables_cover S img h n fats difats len marks scratch p l;
      below = lists_difats S img h n true fats difats (lists_loaded S img h n fats difats l) refl;
      same = e;
    }
