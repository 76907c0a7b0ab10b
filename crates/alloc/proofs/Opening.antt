-- The rows 12 to 18: lists, tail, and the FAT judged. Assumes nothing.
use Prim.Native.Nat.{ℕ, ◌-◌}
use mathlib.Core.Path.{◌≡◌, refl, sym, ◌∙◌, ap}
use mathlib.Core.Bool.{Bool, true, false, not}
use mathlib.Core.List.{List, ◌∷◌}
use native.Mathlib.Omega.{arith}
use lib.ListN.{length, drop, replicate}
use Rattle.std.specs.Prelude.{Ok, Err}
use Rattle.std.proofs.lemmas.List.{drop-replicate}
use Rattle.lists.proofs.Tab.{length_tab}
use Rattle.consts.specs.Refusals.{number_of}
use Rattle.consts.specs.declared.refusal.Refusal.{Refusal}
use Rattle.consts.specs.declared.refusal.Refusal.TheVariants.{FatLists, FatTail}
use Rattle.consts.proofs.Refusals.{number_not}
use Rattle.lists.specs.Rows.{row, refusal}
use Rattle.lists.proofs.Cases.{both_left, both_right}
use Rattle.lists.proofs.Rows.{stop, pass, passed_none, passed_given}
use Rattle.judge.specs.Judge.{marked_fat, forgiven_fat, marks_of, frees_of, fat_rows}
use Rattle.sectors.specs.Sectors.{per_sector}
use Rattle.header.specs.declared.Header.{Header}
use Rattle.fat.specs.Lists.{fat_count, difat_count, fat_of, all_below, counts_right, chain_right, rest_free, ids_right, fats_right, difats_in, fats_in, lists_right, tail_free}
use Rattle.fat.specs.Loaded.{Counted, Covers, ListsLoaded}
use Rattle.judge.specs.Judged.{FatJudged, Listed}
use Rattle.alloc.specs.Opened.{TablesLoaded}
use Rattle.alloc.specs.Opening.{Tables, raw_fat, judged_fat, open_fat, table_rows, padded}
use Rattle.fat.proofs.Listing.{ceil_enough}

-- lists that are right are below n, and the FAT's sectors cover its n entries
module _ (S : ℕ) (img : List ℕ) (h : Header) (n : ℕ) (r : Bool) (fats difats : List ℕ) (l : ListsLoaded S img h n r fats difats) (t : r ≡ true) where
  all_right : lists_right S img h n ≡ true
  all_right = sym l.right ∙ t

  pub lists_fats : all_below n fats ≡ true
  unfolding lists_right fats_right ids_right fats_in
  lists_fats =
      ap (all_below n) (l.fats_hold t)
      ∙ both_left _ _ (both_right (rest_free S img h.list (difats_in S img h n) (fat_count S n) (length (difats_in S img h n))) _
      (both_right (chain_right S img h.difat n (difat_count S (fat_count S n))) _ (both_right (counts_right h (fat_count S n) (difat_count S (fat_count S n))) _ all_right)))

  pub lists_difats : all_below n difats ≡ true
  unfolding lists_right chain_right difats_in
  lists_difats =
      ap (all_below n) (l.difats_hold t)
      ∙ both_left _ _ (both_left (chain_right S img h.difat n (difat_count S (fat_count S n))) _ (both_right (counts_right h (fat_count S n) (difat_count S (fat_count S n))) _ all_right))

  pub lists_cover : (len k d : ℕ) → Counted S n len k d → length fats ≡ k → Covers S n len fats n
  unfolding fat_count
  lists_cover len k d c e =
      let enough = ceil_enough n (per_sector S) (omega (arith, c.holds.two)) in
      record {
        holds = c.holds;
        below = lists_fats;
        enough = rw (e ∙ c.fats) enough.0;
        last = rw (e ∙ c.fats) enough.1;
        small = omega (arith, c.few);
      }

-- the tables loaded, with m elements lent for the free list: the lists are not right, the tail is not FREE, or the FAT is judged
module _ (strict : Bool) (S : ℕ) (img : List ℕ) (h : Header) (n m : ℕ) where
  refused_tables : (e : Refusal) (t : Tables) → number_of e ≡ refusal (table_rows strict S img h n) → TablesLoaded strict S img h n m (Err e) t
  refused_tables e t k =
      record {
        number = k;
        free = tt;
        fat_holds = λ q. absurd (number_not e q);
        fats_hold = λ q. absurd (number_not e q);
        difats_hold = λ q. absurd (number_not e q);
        frees_hold = λ q. absurd (number_not e q);
        marks_hold = λ q. absurd (number_not e q);
      }

  pub tables_12 : {t : Tables} {fats difats : List ℕ} {r : Bool} → ListsLoaded S img h n r fats difats → r ≡ false → TablesLoaded strict S img h n m (Err FatLists) t
  unfolding table_rows
  tables_12 l f = refused_tables FatLists _ (passed_given (table_rows strict S img h n) 0 (passed_none _) (ap not (sym l.right ∙ f)))

  module _ {fats difats : List ℕ} {r q : Bool} (l : ListsLoaded S img h n r fats difats) (t : r ≡ true) (e : q ≡ tail_free S img fats n) where
    past_12 : refusal (table_rows strict S img h n) ≡ refusal (row 13 (not (tail_free S img fats n)) ∷ fat_rows strict n (fat_of S img fats n) difats fats)
    unfolding table_rows raw_fat
    past_12 = pass 12 _ _ (ap not (sym l.right ∙ t)) ∙ rw (l.fats_hold t, l.difats_hold t)

    pub tables_13 : {o : Tables} → q ≡ false → TablesLoaded strict S img h n m (Err FatTail) o
    tables_13 f = refused_tables FatTail _ (sym (past_12 ∙ stop 13 _ _ (ap not (sym e ∙ f))))

    -- the FAT is loaded and judged
    module _ (f : q ≡ true) {fat : List ℕ} (here : fat ≡ fat_of S img fats n) (long : length fat ≡ n) where
      judged_rows : {w : ℕ} {fat' marks : List ℕ} → FatJudged strict fat difats fats w fat' marks → w ≡ refusal (table_rows strict S img h n)
      judged_rows j =
          j.number
          ∙ ap (λ (k : ℕ). refusal (fat_rows strict k fat difats fats)) long
          ∙ ap (λ (x : List ℕ). refusal (fat_rows strict n x difats fats)) here
          ∙ sym (past_12 ∙ pass 13 _ _ (ap not (sym e ∙ f)))

      judged_opens : forgiven_fat (length fat) (marked_fat fat difats fats) ≡ open_fat S img h n
      unfolding open_fat judged_fat raw_fat
      judged_opens =
          ap (λ (k : ℕ). forgiven_fat k (marked_fat fat difats fats)) long
          ∙ ap (λ (x : List ℕ). forgiven_fat n (marked_fat x difats fats)) here
          ∙ rw (l.fats_hold t, l.difats_hold t)

      pub tables_wrong : {w : Refusal} {fat' marks : List ℕ} {o : Tables} → FatJudged strict fat difats fats (number_of w) fat' marks → TablesLoaded strict S img h n m (Err w) o
      tables_wrong j = refused_tables _ _ (judged_rows j)

      -- the FREE sectors are listed into zeros
      pub tables_judged : {k free : ℕ} {fat' marks zeros frees : List ℕ} → FatJudged strict fat difats fats 0 fat' marks → zeros ≡ replicate k 0 → k ≡ m → Listed fat' zeros free frees
          → TablesLoaded strict S img h n m (Ok free) (record { fat = fat'; fats = fats; difats = difats; frees = frees; marks = marks })
      unfolding padded forgiven_fat
      tables_judged {free = free} {fat'} {zeros = zeros} j ez ek listed =
          let holds : fat' ≡ open_fat S img h n = j.table refl ∙ judged_opens in
          let count : length fat' ≡ n = ap length (j.table refl) ∙ length_tab _ (length fat) ∙ long in
          let list : frees_of (length fat') fat' ≡ frees_of n (open_fat S img h n) = rw (count, holds) in
          let number : free ≡ length (frees_of n (open_fat S img h n)) = listed.number ∙ ap length list in
          let rest : drop free zeros ≡ replicate (m - free) 0 = rw (ez, ek) (drop-replicate free m 0) in
          record {
            number = judged_rows j;
            free = number;
            fat_holds = λ _. holds;
            fats_hold = λ _. l.fats_hold t;
            difats_hold = λ _. l.difats_hold t;
            frees_hold = λ _. listed.list ∙ rw (list, rest, number);
            marks_hold = λ _. j.marked refl ∙ ap (λ (k : ℕ). marks_of k (forgiven_fat (length fat) (marked_fat fat difats fats))) long ∙ ap (marks_of n) judged_opens;
          }
