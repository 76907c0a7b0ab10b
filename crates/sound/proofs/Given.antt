-- Each of the opening's numbers is given exactly when document 01 says. Assumes nothing.
use Prim.Native.Nat.{ℕ, zero, suc, ◌+◌, ◌-◌, ◌*◌, ◌%◌, ◌≤◌, ◌<◌}
use mathlib.Core.Path.{◌≡◌, refl, sym, ◌∙◌, ap}
use mathlib.Core.Bool.{Bool, true, false, not}
use mathlib.Core.List.{List, [], ◌∷◌, ◌++◌}
use mathlib.Core.Logic.{⊎_elim, ◌≢◌, ◌↔◌}
use native.Mathlib.Omega.{arith}
use borrow.Author.Tests.{ltb-true, ltb-false, lt-ltb, le-leb, lt-leb, leb-true, leb-false, eqb-true, eqb-false, eq-eqb, ne_eqb, not-true, not-false}
use lib.Dec.{eqb, leb, ltb}
use lib.ListN.{length, get_or}
use Rattle.lists.specs.Lists.{choose, both, either, every, tab}
use Rattle.lists.specs.Rows.{Row, row, test_of, ascend, by_number, Explained, Judged}
use Rattle.lists.proofs.Cases.{refuted, both_fails, every_fails, one_other, other_one, below_or, same_or, not_both, both_true, both_left, both_right, both_false_left, both_false_right, either_cases, either_right, either_none, every_false, unlike}
use Rattle.lists.proofs.Exactly.{◌▸◌, exactly, accepted, explained_by, explained_append, tested_append, tested_easier}
use Rattle.lists.proofs.Tab.{length_tab, get_or_tab}
use Rattle.consts.specs.Consts.{max_regular, invalid_sector, difat_sector, free_sector}
use Rattle.header.specs.Versions.{is_strict}
use Rattle.header.specs.Read.{header_rows, read_rows, header_of}
use Rattle.header.specs.Causes.{Cause}
use Rattle.header.specs.declared.Validation.{Validation}
use Rattle.header.specs.declared.Header.{Header}
use Rattle.header.proofs.Given.{differ, strict, read_tested, read_told}
use Rattle.sectors.specs.Sectors.{per_sector, entry_of}
use Rattle.fat.specs.Lists.{most, sectors_in, room_of, fat_count, difat_at, difats_of, place_at, fats_of, all_below, different, ends, counts_right, chain_right, rest_free, ids_right, fats_right, difats_in, fats_in, lists_right, tail_free}
use Rattle.judge.specs.Judge.{all_marked, regular, pointed, wrong_at, first_wrong, none_dangles, fat_rows}
use Rattle.alloc.specs.Opening.{raw_fat, judged_fat, open_fat, table_rows, first_rows, open_rows, open_no}
use Rattle.fat.proofs.Differing.{below_at, different_at}
use Rattle.judge.proofs.Judging.{pointer_of, pointed_by}
use Rattle.sound.specs.Causes.{sector_len, sector_count, difat_place, ListsWrong, TailUsed, Unmarked, Bad, FirstBad, Dangles, OpenCause}

module _ (n : ℕ) (f : ℕ → ℕ) (c : ℕ) where
  -- a table with a value that is not below n does not pass as below n
  below_tested : (j : ℕ) → j < c → n ≤ f j → all_below n (tab f c) ≡ false
  below_tested j l g = refuted _ (λ t. omega (arith, below_at n (tab f c) t j (omega (arith, length_tab f c)), get_or_tab f c j 0 l))

  -- and one that does not pass has such a value
  below_told : all_below n (tab f c) ≡ false → (j : ℕ) × (j < c) × (n ≤ f j)
  unfolding all_below
  below_told b =
      let w = every_fails (length (tab f c)) (λ i. ltb (get_or (tab f c) i 0) n) b in
      let l : w.0 < c = omega (arith, w.1, length_tab f c) in
      (w.0, l, omega (arith, ltb-false _ n w.2, get_or_tab f c w.0 0 l))

module _ (f : ℕ → ℕ) (c : ℕ) where
  -- a table with two values that are the same does not pass as different
  different_tested : (i j : ℕ) → i < j → j < c → f i ≡ f j → different (tab f c) ≡ false
  different_tested i j l h e =
      let low : i < c = omega arith in
      let same : get_or (tab f c) i 0 ≡ get_or (tab f c) j 0 = get_or_tab f c i 0 low ∙ e ∙ sym (get_or_tab f c j 0 h) in
      refuted _ (λ t. omega (arith, different_at (tab f c) t i j (omega (arith, length_tab f c)) (omega (arith, length_tab f c)) same))

  -- and one that does not pass has two such values
  different_told : different (tab f c) ≡ false → (i : ℕ) × (j : ℕ) × (i < j) × (j < c) × (f i ≡ f j)
  unfolding different
  different_told b =
      let w = every_fails (length (tab f c)) (λ i. every i (λ j. not (eqb (get_or (tab f c) i 0) (get_or (tab f c) j 0)))) b in
      let v = every_fails w.0 (λ j. not (eqb (get_or (tab f c) w.0 0) (get_or (tab f c) j 0))) w.2 in
      let h : w.0 < c = omega (arith, w.1, length_tab f c) in
      let low : v.0 < c = omega (arith, v.1) in
      (v.0, w.0, v.1, h, sym (get_or_tab f c v.0 0 low) ∙ sym (eqb-true _ _ (not-false _ v.2)) ∙ get_or_tab f c w.0 0 h)

module _ (S : ℕ) (img : List ℕ) (h : Header) (n k d : ℕ) where
  -- the DIFAT sectors
  abbrev difats : List ℕ
  difats = difats_of S img h.difat d

  -- the DIFAT chain, sector by sector
  abbrev chain : ℕ → ℕ
  chain = difat_at S img h.difat

  -- the DIFAT, place by place
  abbrev place : ℕ → ℕ
  place = difat_place S img h d

  -- row 12, of k FAT sectors and d DIFAT sectors
  abbrev right : Bool
  right = both (counts_right h k d) (both (chain_right S img h.difat n d) (fats_right S img n h.list difats k))

  -- with a wrong count it is not passed
  not_counts : counts_right h k d ≡ false → right ≡ false
  not_counts e = both_false_left _ _ e

  -- nor with a wrong DIFAT chain
  not_chain : chain_right S img h.difat n d ≡ false → right ≡ false
  not_chain e = both_false_right (counts_right h k d) _ (both_false_left _ _ e)

  -- nor with a wrong list of FAT sectors
  not_fats : fats_right S img n h.list difats k ≡ false → right ≡ false
  not_fats e = both_false_right (counts_right h k d) _ (both_false_right (chain_right S img h.difat n d) _ e)

  -- the DIFAT sectors are d, and so many are looked at
  rest_length : rest_free S img h.list difats k (length difats) ≡ rest_free S img h.list difats k d
  unfolding difats_of
  rest_length = ap (rest_free S img h.list difats k) (length_tab chain d)

  -- an entry behind the k ids that is not FREE is found, counted from there
  rest_tested : (p : ℕ) → k ≤ p → 109 ≤ p → p < 109 + d * (per_sector S - 1) → place p ≢ free_sector → rest_free S img h.list difats k d ≡ false
  unfolding rest_free
  rest_tested p low past high o =
      let e : 109 + (k - 109) + (p - (109 + (k - 109))) ≡ p = omega arith in
      other_one _ (λ j. place (109 + (k - 109) + j)) free_sector (p - (109 + (k - 109))) (omega arith) (λ z. o (ap place (sym e) ∙ z))

  -- and what is found is such an entry
  rest_told : rest_free S img h.list difats k d ≡ false → ListsWrong S img h n k d
  unfolding rest_free
  rest_told b =
      let w = one_other (d * (per_sector S - 1) - (k - 109)) (λ j. place (109 + (k - 109) + j)) free_sector b in
      ListsWrong.rest_used (109 + (k - 109) + w.0) (omega arith) (omega arith) (omega (arith, w.1)) w.2

  -- whatever is wrong with the lists, row 12 is not passed
  lists_tested : ListsWrong S img h n k d → right ≡ false
  unfolding counts_right chain_right difats_of ends fats_right ids_right fats_of
  lists_tested (ListsWrong.number_of_fats o) = not_counts (both_false_left _ _ (ne_eqb _ _ o))
  lists_tested (ListsWrong.number_of_difats o) = not_counts (both_false_right (eqb h.fats k) _ (both_false_left _ _ (ne_eqb _ _ o)))
  lists_tested (ListsWrong.number_of_ids o) = not_counts (both_false_right (eqb h.fats k) _ (both_false_right (eqb h.difats d) _ (ne_eqb _ _ o)))
  lists_tested (ListsWrong.chain_outside j l g) = not_chain (both_false_left _ _ (below_tested n chain d j l g))
  lists_tested (ListsWrong.chain_twice i j l g e) = not_chain (both_false_right (all_below n difats) _ (both_false_left _ _ (different_tested chain d i j l g e)))
  lists_tested (ListsWrong.chain_on a b) =
      not_chain (both_false_right (all_below n difats) _ (both_false_right (different difats) _ (rw (ne_eqb _ _ a, ne_eqb _ _ b))))
  lists_tested (ListsWrong.rest_used p low past high o) =
      not_fats (both_false_left _ _ (rest_length ∙ rest_tested p low past high o))
  lists_tested (ListsWrong.id_outside p l g) =
      not_fats (both_false_right (rest_free S img h.list difats k (length difats)) _ (both_false_left _ _ (below_tested n place k p l g)))
  lists_tested (ListsWrong.id_twice p q l g e) =
      not_fats (both_false_right (rest_free S img h.list difats k (length difats)) _ (both_false_right (all_below n (fats_of S img h.list difats k)) _ (different_tested place k p q l g e)))

  -- a wrong count is one of three
  counts_told : counts_right h k d ≡ false → ListsWrong S img h n k d
  unfolding counts_right
  counts_told b =
      ⊎_elim (λ e. ListsWrong.number_of_fats (eqb-false _ _ e))
      (λ r. ⊎_elim (λ e. ListsWrong.number_of_difats (eqb-false _ _ e)) (λ e. ListsWrong.number_of_ids (eqb-false _ _ e)) (both_fails _ _ r))
      (both_fails _ _ b)

  -- a wrong DIFAT chain is wrong in one of three ways
  chain_told : chain_right S img h.difat n d ≡ false → ListsWrong S img h n k d
  unfolding chain_right difats_of ends
  chain_told b =
      ⊎_elim (λ e. let w = below_told n chain d e in ListsWrong.chain_outside w.0 w.1 w.2)
      (λ r. ⊎_elim (λ e. let w = different_told chain d e in ListsWrong.chain_twice w.0 w.1 w.2 w.3 w.4)
      (λ e. let o = either_none _ _ e in ListsWrong.chain_on (eqb-false _ _ o.0) (eqb-false _ _ o.1)) (both_fails _ _ r))
      (both_fails _ _ b)

  -- a wrong list of FAT sectors is wrong in one of three ways
  fats_told : fats_right S img n h.list difats k ≡ false → ListsWrong S img h n k d
  unfolding fats_right ids_right fats_of difats_of
  fats_told b =
      ⊎_elim (λ e. rest_told (sym rest_length ∙ e))
      (λ r. ⊎_elim (λ e. let w = below_told n place k e in ListsWrong.id_outside w.0 w.1 w.2)
      (λ e. let w = different_told place k e in ListsWrong.id_twice w.0 w.1 w.2 w.3 w.4) (both_fails _ _ r))
      (both_fails _ _ b)

  -- where row 12 is not passed, something is wrong with the lists
  lists_told : right ≡ false → ListsWrong S img h n k d
  lists_told b = ⊎_elim counts_told (λ r. ⊎_elim chain_told fats_told (both_fails _ _ r)) (both_fails _ _ b)

module _ (S : ℕ) (img fats : List ℕ) (n k : ℕ) (e : length fats ≡ k) where
  -- the entries of k FAT sectors
  entries : length fats * per_sector S ≡ k * per_sector S
  entries = ap (λ (x : ℕ). x * per_sector S) e

  -- row 13: an entry from n on that is not FREE is found, counted from n
  tail_tested : TailUsed S img fats n k → tail_free S img fats n ≡ false
  unfolding tail_free
  tail_tested w =
      let p : n + (w.place - n) ≡ w.place = omega (arith, w.beyond) in
      other_one _ (λ j. entry_of S img fats (n + j)) free_sector (w.place - n) (omega (arith, w.beyond, w.within, entries)) (λ z. w.used (ap (entry_of S img fats) (sym p) ∙ z))

  -- and what is found is such an entry
  tail_told : tail_free S img fats n ≡ false → TailUsed S img fats n k
  unfolding tail_free
  tail_told b =
      let w = one_other (length fats * per_sector S - n) (λ j. entry_of S img fats (n + j)) free_sector b in
      record { place = n + w.0; beyond = omega arith; within = omega (arith, w.1, entries); used = w.2 }

-- row 14: with a listed sector whose entry is another, not all are marked
marked_tested : (fat ids : List ℕ) (v : ℕ) → Unmarked fat ids v → all_marked fat ids v ≡ false
unfolding all_marked
marked_tested fat ids v w = other_one (length ids) (λ j. get_or fat (get_or ids j 0) 0) v w.place w.within w.other

-- and where not all are marked, there is such a sector
marked_told : (fat ids : List ℕ) (v : ℕ) → all_marked fat ids v ≡ false → Unmarked fat ids v
unfolding all_marked
marked_told fat ids v b = let w = one_other (length ids) (λ j. get_or fat (get_or ids j 0) 0) v b in record { place = w.0; within = w.1; other = w.2 }

-- the first of c sectors from i on whose number is not 0, and that number
record First (number : ℕ → ℕ) (i c k : ℕ) : Type 0 where
  sector : ℕ
  from : i ≤ sector
  within : sector < i + c
  here : number sector ≡ k
  before : (j : ℕ) → i ≤ j → j < sector → number j ≡ 0

module _ (m : Validation) (n : ℕ) (fat : List ℕ) where
  -- rows 15 to 17: the number of what is wrong with sector i
  abbrev wrong : ℕ → ℕ
  wrong i = wrong_at (is_strict m) n fat i

  -- a bad sector has its number
  bad_number : (i k : ℕ) → Bad m n fat i k → (wrong i ≡ k) × (k ≢ 0)
  unfolding wrong_at regular
  bad_number i k (Bad.outside s g r) = (rw (s, le-leb _ _ r, le-leb _ _ g), omega arith)
  bad_number i k (Bad.twice j l e low r) = (rw (le-leb _ _ r, lt-leb _ _ low, pointed_by fat i _ j l e), omega arith)
  bad_number i k (Bad.reserved e) = (rw e, omega arith)

  -- a sector that has a number is bad
  number_bad : (i : ℕ) → wrong i ≢ 0 → Bad m n fat i (wrong i)
  unfolding wrong_at regular
  number_bad i z = at (leb e max_regular) (leb n e) (is_strict m) (pointed fat i e) (eqb e invalid_sector) refl refl refl refl refl z
    where
      e : ℕ
      e = get_or fat i 0

      at : (r g s p v : Bool) → leb e max_regular ≡ r → leb n e ≡ g → is_strict m ≡ s → pointed fat i e ≡ p → eqb e invalid_sector ≡ v
          → ◌≢◌ {A = ℕ} (choose r (choose g (choose s 15 0) (choose p 16 0)) (choose v 17 0)) 0 → Bad m n fat i (choose r (choose g (choose s 15 0) (choose p 16 0)) (choose v 17 0))
      at true true true p v er eg es ep ev z = Bad.outside (strict m es) (leb-true n e eg) (leb-true e max_regular er)
      at true true false p v er eg es ep ev z = absurd (z refl)
      at true false s true v er eg es ep ev z = let w = pointer_of fat i e ep in Bad.twice w.0 w.1 w.2 (leb-false n e eg) (leb-true e max_regular er)
      at true false s false v er eg es ep ev z = absurd (z refl)
      at false g s p true er eg es ep ev z = Bad.reserved (eqb-true e invalid_sector ev)
      at false g s p false er eg es ep ev z = absurd (z refl)

  -- of c sectors from i on, the first that has a number decides
  first_given : (c i k : ℕ) → k ≢ 0 → First wrong i c k → first_wrong (is_strict m) n fat i c ≡ k
  unfolding first_wrong
  first_given zero i k z f = absurd (omega (arith, f.from, f.within))
  first_given (suc c) i k z f =
      let rest : First wrong (suc i) c k → first_wrong (is_strict m) n fat (suc i) c ≡ k = first_given c (suc i) k z in
      ⊎_elim
      (λ (l : i < f.sector).
      let later : First wrong (suc i) c k = record { sector = f.sector; from = l; within = omega (arith, f.within); here = f.here; before = λ j g. f.before j (omega arith) } in
      rw (eq-eqb (wrong i) 0 (f.before i (omega arith) l)) (rest later))
      (λ (g : f.sector ≤ i).
      let at : i ≡ f.sector = omega (arith, f.from) in
      let own : wrong i ≡ k = ap wrong at ∙ f.here in
      rw (ne_eqb (wrong i) 0 (λ o. z (sym own ∙ o))) own)
      (below_or i f.sector)

  -- and a number that is given is that of the first
  given_first : (c i k : ℕ) → k ≢ 0 → first_wrong (is_strict m) n fat i c ≡ k → First wrong i c k
  unfolding first_wrong
  given_first zero i k z e = absurd (z (sym e))
  given_first (suc c) i k z e = at (eqb (wrong i) 0) refl e (given_first c (suc i) k z)
    where
      at : (t : Bool) → eqb (wrong i) 0 ≡ t → choose t (first_wrong (is_strict m) n fat (suc i) c) (wrong i) ≡ k
          → (first_wrong (is_strict m) n fat (suc i) c ≡ k → First wrong (suc i) c k) → First wrong i (suc c) k
      at true t e rest =
          let f = rest e in
          record {
            sector = f.sector;
            from = omega (arith, f.from);
            within = omega (arith, f.within);
            here = f.here;
            before = λ j g l. ⊎_elim (λ (h : i < j). f.before j h l) (λ (h : j ≤ i). let same : j ≡ i = omega arith in rw same (eqb-true (wrong i) 0 t)) (below_or i j);
          }
      at false t e rest = record { sector = i; from = omega arith; within = omega arith; here = e; before = λ j g l. absurd (omega arith) }

  -- rows 15 to 17: the number of the first bad sector is given
  first_tested : (k : ℕ) → FirstBad m n fat k → first_wrong (is_strict m) n fat 0 n ≡ k
  first_tested k b =
      let own : (wrong b.sector ≡ k) × (k ≢ 0) = bad_number b.sector k b.bad in
      first_given n 0 k own.1
      (record {
        sector = b.sector;
        from = omega arith;
        within = omega (arith, b.within);
        here = own.0;
        before = λ j g l. ⊎_elim (λ (e : wrong j ≡ 0). e) (λ (o : wrong j ≢ 0). absurd (b.before j (wrong j) l (number_bad j o))) (same_or (wrong j) 0);
      })

  -- and a number that is given is that of the first bad sector
  first_told : (k : ℕ) → k ≢ 0 → first_wrong (is_strict m) n fat 0 n ≡ k → FirstBad m n fat k
  first_told k z e =
      let f = given_first n 0 k z e in
      let own : Bad m n fat f.sector (wrong f.sector) = number_bad f.sector (λ o. z (sym f.here ∙ o)) in
      record {
        sector = f.sector;
        within = omega (arith, f.within);
        bad = rw f.here at own;
        before = λ j other l b. let it = bad_number j other b in it.1 (sym it.0 ∙ f.before j (omega arith) l);
      }

-- row 18: a pointed-to sector that is FREE is found
dangles_tested : (n : ℕ) (fat : List ℕ) → Dangles n fat → none_dangles n fat ≡ false
unfolding none_dangles
dangles_tested n fat w =
    every_false n _ w.target w.inside (rw (both_true (pointed_by fat n w.target w.sector w.within w.points) (eq-eqb _ _ w.free)))

-- and what is found is such a sector
dangles_told : (n : ℕ) (fat : List ℕ) → none_dangles n fat ≡ false → Dangles n fat
unfolding none_dangles
dangles_told n fat b =
    let w = every_fails n (λ i. not (both (pointed fat n i) (eqb (get_or fat i 0) free_sector))) b in
    let t : both (pointed fat n w.0) (eqb (get_or fat w.0 0) free_sector) ≡ true = not-false _ w.2 in
    let by = pointer_of fat n w.0 (both_left _ _ t) in
    record { sector = by.0; within = by.1; target = w.0; inside = w.1; points = by.2; free = eqb-true _ _ (both_right (pointed fat n w.0) _ t) }

module _ (m : Validation) (img : List ℕ) (used short : ℕ) where
  -- an image too short for a header has not the used bytes that a header needs
  too_short : length img < 512 → either (ltb used 512) (ltb (length img) used) ≡ true
  too_short l =
      ⊎_elim (λ (b : used < 512). rw (lt-ltb used 512 b)) (λ (g : 512 ≤ used). either_right (ltb used 512) _ (lt-ltb (length img) used (omega arith))) (below_or used 512)

  -- the causes, S, n, and the header
  abbrev C : ℕ → Type 0
  C = OpenCause m img used short

  abbrev S : ℕ
  S = sector_len img

  abbrev n : ℕ
  n = sector_count img used

  abbrev h : Header
  h = header_of img

  -- rows 10 and 11 as a table of their own
  abbrev size_rows : List Row
  size_rows = row 10 (either (not (eqb (used % S) 0)) (ltb most (sectors_in S used))) ∷ row 11 (ltb short (room_of S (length img))) ∷ []

  -- the FAT sectors are k
  fats_long : length (fats_in S img h n) ≡ fat_count S n
  unfolding fats_in fats_of
  fats_long = length_tab (place_at S img h.list (difats_in S img h n)) (fat_count S n)

  -- the header's own causes
  header_tested : (k : ℕ) → Cause m img k → test_of (open_rows m img used short) k ≡ true
  unfolding open_rows first_rows read_rows
  header_tested k c =
      tested_easier 1 (ltb (length img) 512) (either (ltb used 512) (ltb (length img) used)) (header_rows m img) ((header_rows m img ++ size_rows) ++ table_rows (is_strict m) S img h n) k
      (λ t. too_short (ltb-true _ _ t)) (λ t. tested_append (header_rows m img ++ size_rows) _ k (tested_append (header_rows m img) size_rows k t)) (read_tested m img k c)

  -- each of the opening's causes makes the test of its row hold
  open_tested : (k : ℕ) → OpenCause m img used short k → test_of (open_rows m img used short) k ≡ true
  unfolding test_of open_rows first_rows header_rows table_rows fat_rows lists_right difats_in judged_fat open_fat
  open_tested k (OpenCause.used_below l) = rw (lt-ltb used 512 l)
  open_tested k (OpenCause.used_above l) = either_right (ltb used 512) _ (lt-ltb (length img) used l)
  open_tested k (OpenCause.header j c) = header_tested j c
  open_tested k (OpenCause.odd o) = rw (unlike _ _ o)
  open_tested k (OpenCause.many l) = either_right (not (eqb (used % S) 0)) _ (lt-ltb most n l)
  open_tested k (OpenCause.room l) = lt-ltb short _ l
  open_tested k (OpenCause.lists w) = ap not (lists_tested S img h n _ _ w)
  open_tested k (OpenCause.tail w) = ap not (tail_tested S img _ n _ fats_long w)
  open_tested k (OpenCause.difat_unmarked s w) = rw (s, marked_tested _ _ _ w)
  open_tested k (OpenCause.fat_unmarked s w) = rw s (ap not (both_false_right (all_marked (raw_fat S img h n) (difats_in S img h n) difat_sector) _ (marked_tested _ _ _ w)))
  open_tested k (OpenCause.outside b) = eq-eqb _ 15 (first_tested m n _ 15 b)
  open_tested k (OpenCause.twice b) = eq-eqb _ 16 (first_tested m n _ 16 b)
  open_tested k (OpenCause.reserved b) = eq-eqb _ 17 (first_tested m n _ 17 b)
  open_tested k (OpenCause.dangles w) = ap not (dangles_tested n _ w)

  -- row 1
  used_told : either (ltb used 512) (ltb (length img) used) ≡ true → OpenCause m img used short 1
  used_told t = ⊎_elim (λ l. OpenCause.used_below (ltb-true used 512 l)) (λ l. OpenCause.used_above (ltb-true (length img) used l)) (either_cases (ltb used 512) _ t)

  -- rows 10 and 11
  size_told : Explained C size_rows
  size_told =
      (λ t. ⊎_elim (λ o. OpenCause.odd (differ _ _ o)) (λ l. OpenCause.many (ltb-true most n l)) (either_cases (not (eqb (used % S) 0)) _ t)) ▸ λ f10.
      (λ t. OpenCause.room (ltb-true short _ t)) ▸ λ f11. tt

  -- rows 12 to 18
  tables_told : Explained C (table_rows (is_strict m) S img h n)
  unfolding table_rows fat_rows lists_right difats_in judged_fat open_fat
  tables_told =
      (λ t. OpenCause.lists (lists_told S img h n _ _ (not-true _ t))) ▸ λ f12.
      (λ t. OpenCause.tail (tail_told S img _ n _ fats_long (not-true _ t))) ▸ λ f13.
      (λ t. let s = strict m (both_left (is_strict m) _ t) in
      ⊎_elim (λ b. OpenCause.difat_unmarked s (marked_told _ _ _ b)) (λ b. OpenCause.fat_unmarked s (marked_told _ _ _ b))
      (both_fails (all_marked (raw_fat S img h n) (difats_in S img h n) difat_sector) _ (not-true _ (both_right (is_strict m) _ t)))) ▸ λ f14.
      (λ t. OpenCause.outside (first_told m n _ 15 (omega arith) (eqb-true _ 15 t))) ▸ λ f15.
      (λ t. OpenCause.twice (first_told m n _ 16 (omega arith) (eqb-true _ 16 t))) ▸ λ f16.
      (λ t. OpenCause.reserved (first_told m n _ 17 (omega arith) (eqb-true _ 17 t))) ▸ λ f17.
      (λ t. OpenCause.dangles (dangles_told n _ (not-true _ t))) ▸ λ f18. tt

  -- the header's own rows, once the image is long enough for one
  header_told : ltb (length img) 512 ≡ false → Explained C (header_rows m img)
  unfolding read_rows
  header_told f = explained_by (Cause m img) C (λ k c. OpenCause.header k c) (header_rows m img) ((read_told m img).1 f)

  -- the first of the opening's tests that holds has its cause
  open_told : Explained C (open_rows m img used short)
  unfolding open_rows first_rows
  open_told =
      used_told ▸ λ f1.
      explained_append C (header_rows m img ++ size_rows) (table_rows (is_strict m) S img h n)
      (explained_append C (header_rows m img) size_rows (header_told (refuted _ (λ t. not_both (too_short (ltb-true _ _ t)) f1))) size_told) tables_told

  -- the opening's table judges by the opening's causes
  open_judged : Judged by_number (open_rows m img used short) (OpenCause m img used short)
  unfolding ascend open_rows first_rows header_rows table_rows fat_rows
  open_judged = record { none = refl; ascends = refl; tested = open_tested; told = open_told }

  -- document 01: each number is given exactly when its cause holds and none before it does
  pub open_exactly : (k : ℕ) → 1 ≤ k → (open_no m img used short ≡ k) ↔ (OpenCause m img used short k × ((j : ℕ) → j < k → OpenCause m img used short j → ⊥))
  unfolding open_no
  open_exactly = exactly open_judged

  -- an image opens exactly when nothing stands against it
  pub open_accepts : (open_no m img used short ≡ 0) ↔ ((j : ℕ) → OpenCause m img used short j → ⊥)
  unfolding open_no
  open_accepts = accepted open_judged
