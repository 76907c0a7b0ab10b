-- Each of the reader's and the writer's numbers is given exactly when document 01 says, and what they say is one answer. Assumes nothing.
use Prim.Native.Nat.{ℕ, zero, suc, ◌+◌, ◌-◌, ◌≤◌, ◌<◌, ◌^◌}
use mathlib.Core.Path.{◌≡◌, refl, sym, ◌∙◌, ap}
use mathlib.Core.Bool.{Bool, true, false, not}
use mathlib.Core.List.{List, [], ◌∷◌}
use mathlib.Core.Logic.{◌⊎◌, inl, inr, ⊎_elim, ◌≢◌, ◌↔◌}
use native.Mathlib.Omega.{arith}
use borrow.Author.Tests.{ltb-true, lt-ltb, leb-true, leb-false, eqb-true, eqb-false, eq-eqb, not-true}
use lib.Dec.{eqb, leb}
use lib.ListN.{length, get_or, drop, length-drop}
use lib.Seq.{get_or-drop}
use Rattle.lists.specs.Lists.{choose, both, same_list, Below}
use Rattle.lists.specs.Rows.{test_of, ascend, by_number, Explained, Judged}
use Rattle.lists.proofs.Exactly.{◌▸◌, exactly, accepted}
use Rattle.lists.proofs.Cases.{below_or, same_or, true_or, not_both, both_true, both_left, both_right, either_cases, either_right, unlike}
use Rattle.lists.proofs.Splice.{same_list_refl, same_list_false}
use Rattle.lists.proofs.Tab.{length_tab, get_or_tab}
use Rattle.words.proofs.Laws.{le_below}
use Rattle.consts.specs.Consts.{max_regular, invalid_sector, end_of_chain, free_sector}
use Rattle.fields.specs.Fields.{entry_at, list_of, ids_in, all_free, ids_then_free, unreadable}
use Rattle.header.specs.Versions.{major_of, shift_of, version_of, is_strict}
use Rattle.header.specs.Read.{unknown, counts_dirs, read_rows, read_no, header_of, ReadSays}
use Rattle.header.specs.Write.{write_rows, write_no, WriteSays}
use Rattle.header.specs.Causes.{Broken, GoodList, Cause, WriteCause}
use Rattle.header.specs.declared.Version.{Version}
use Rattle.header.specs.declared.Version.TheVariants.{V3, V4}
use Rattle.header.specs.declared.Validation.{Validation}
use Rattle.header.specs.declared.Validation.TheVariants.{Permissive, Strict}
use Rattle.header.specs.declared.Header.{Header}
use Rattle.consts.specs.declared.refusal.Refusal.{Refusal}
use Rattle.consts.proofs.Refusals.{ends_apart, answers_apart}
use Rattle.std.specs.Prelude.{Result}
use Rattle.fields.proofs.Listed.{ids_within}

-- the ids that a list begins with are sector numbers
ids_low : (xs : List ℕ) (i : ℕ) → i < ids_in xs → get_or xs i 0 ≤ max_regular
unfolding ids_in
ids_low [] i h = absurd (omega arith)
ids_low (x ∷ xs) i h = at (leb x max_regular) refl i h (ids_low xs)
  where
    at : (t : Bool) → leb x max_regular ≡ t → (i : ℕ) → i < choose t (suc (ids_in xs)) 0 → ((j : ℕ) → j < ids_in xs → get_or xs j 0 ≤ max_regular) → get_or (x ∷ xs) i 0 ≤ max_regular
    at true e zero h rest = leb-true x max_regular e
    at true e (suc i) h rest = rest i (omega arith)
    at false e i h rest = absurd (omega arith)

-- the entry after those ids is no sector number
ids_high : (xs : List ℕ) → ids_in xs < length xs → max_regular < get_or xs (ids_in xs) 0
unfolding ids_in
ids_high [] h = absurd (omega arith)
ids_high (x ∷ xs) h = at (leb x max_regular) refl h (ids_high xs)
  where
    at : (t : Bool) → leb x max_regular ≡ t → choose t (suc (ids_in xs)) 0 < suc (length xs) → (ids_in xs < length xs → max_regular < get_or xs (ids_in xs) 0)
        → max_regular < get_or (x ∷ xs) (choose t (suc (ids_in xs)) 0) 0
    at true e h rest = rest (omega arith)
    at false e h rest = leb-false x max_regular e

-- in a list that passes as FREE every entry is
pub free_each : (xs : List ℕ) → all_free xs ≡ true → (i : ℕ) → i < length xs → get_or xs i 0 ≡ free_sector
unfolding all_free
free_each [] t i h = absurd (omega arith)
free_each (x ∷ xs) t zero h = eqb-true x free_sector (both_left (eqb x free_sector) (all_free xs) t)
free_each (x ∷ xs) t (suc i) h = free_each xs (both_right (eqb x free_sector) (all_free xs) t) i (omega arith)

-- in a list that does not, some entry is not
free_not : (xs : List ℕ) → all_free xs ≡ false → (i : ℕ) × (i < length xs) × (get_or xs i 0 ≢ free_sector)
unfolding all_free
free_not [] f = absurd (not_both refl f)
free_not (x ∷ xs) f = at (eqb x free_sector) refl f (free_not xs)
  where
    at : (t : Bool) → eqb x free_sector ≡ t → both t (all_free xs) ≡ false → (all_free xs ≡ false → (i : ℕ) × (i < length xs) × (get_or xs i 0 ≢ free_sector))
        → (i : ℕ) × (i < suc (length xs)) × (get_or (x ∷ xs) i 0 ≢ free_sector)
    at true e f rest = let r = rest f in (suc r.0, omega (arith, r.1), r.2)
    at false e f rest = (0, omega arith, eqb-false x free_sector e)

-- a list that passes the test is sector numbers and then FREE
good : (xs : List ℕ) → ids_then_free xs ≡ true → GoodList xs
unfolding ids_then_free
good xs t =
    record {
      count = ids_in xs;
      within = ids_within xs;
      ids = ids_low xs;
      free = λ i g h.
          let e : ids_in xs + (i - ids_in xs) ≡ i = omega arith in
          ap (λ (k : ℕ). get_or xs k 0) (sym e) ∙ sym (get_or-drop (ids_in xs) xs (i - ids_in xs) 0)
          ∙ free_each (drop (ids_in xs) xs) t (i - ids_in xs) (simp length-drop (omega arith));
    }

-- a list that fails it is broken in one of document 01's two ways
broken : (xs : List ℕ) → ids_then_free xs ≡ false → Broken xs
unfolding ids_then_free
broken xs f = at (free_not (drop (ids_in xs) xs) f)
  where
    at : (i : ℕ) × (i < length (drop (ids_in xs) xs)) × (get_or (drop (ids_in xs) xs) i 0 ≢ free_sector) → Broken xs
    at w =
        let n = ids_in xs in
        let p = n + w.0 in
        let l : p < length xs = omega (arith, length-drop n xs, w.1) in
        let o : get_or xs p 0 ≢ free_sector = rw get_or-drop at w.2 in
        ⊎_elim
        (λ (e : get_or xs n 0 ≡ free_sector).
        let d : p ≢ n = λ z. o (ap (λ (k : ℕ). get_or xs k 0) z ∙ e) in
        inr (record { free = n; is_free = e; place = p; later = omega arith; within = l; other = o }))
        (λ (d : get_or xs n 0 ≢ free_sector).
        inl (record { place = n; within = omega arith; above = ids_high xs (omega arith); other = d; before = λ j h. omega (arith, ids_low xs j h) }))
        (same_or (get_or xs n 0) free_sector)

-- no list is both
never : (xs : List ℕ) → Broken xs → GoodList xs → ⊥
never xs (inl s) g =
    ⊎_elim (λ (l : s.place < g.count). omega (arith, g.ids s.place l)) (λ (r : g.count ≤ s.place). s.other (g.free s.place r s.within)) (below_or s.place g.count)
never xs (inr u) g =
    ⊎_elim (λ (l : u.free < g.count). omega (arith, g.ids u.free l)) (λ (r : g.count ≤ u.free). u.other (g.free u.place (omega arith) u.within)) (below_or u.free g.count)

-- a list is broken exactly when it is not some sector numbers and then FREE to its end
pub list_exactly : (xs : List ℕ) → Broken xs ↔ (GoodList xs → ⊥)
list_exactly xs = (never xs, λ n. ⊎_elim (λ (t : ids_then_free xs ≡ true). absurd (n (good xs t))) (broken xs) (true_or (ids_then_free xs)))

-- every entry of a header's list is a number of four bytes
pub entries_narrow : (b : List ℕ) → Below 256 b → (i : ℕ) → i < length (list_of b) → get_or (list_of b) i 0 < 2 ^ 32
unfolding list_of
entries_narrow b small i h =
    let low : i < 109 = rw length_tab at h in
    rw (get_or_tab (entry_at b) 109 i 0 low) (le_below 4 b _ small)

-- of four bytes, those that are neither a sector number nor FREE are document 01's 0xfffffffb to 0xfffffffe
pub special_range : (e : ℕ) → e < 2 ^ 32 → ((max_regular < e) × (e ≢ free_sector)) ↔ ((invalid_sector ≤ e) × (e ≤ end_of_chain))
special_range e h = (λ p. omega arith, λ p. omega arith)

-- a broken list fails the test
broken_tested : (xs : List ℕ) → Broken xs → not (ids_then_free xs) ≡ true
broken_tested xs w = ⊎_elim (λ (t : ids_then_free xs ≡ true). absurd (never xs w (good xs t))) (λ (f : ids_then_free xs ≡ false). rw f) (true_or (ids_then_free xs))

-- and one that fails is broken
broken_told : (xs : List ℕ) → not (ids_then_free xs) ≡ true → Broken xs
broken_told xs t = broken xs (not-true (ids_then_free xs) t)

-- the test that two numbers differ says so
pub differ : (a b : ℕ) → not (eqb a b) ≡ true → a ≢ b
differ a b t = eqb-false a b (not-true (eqb a b) t)

-- the test that two lists differ says so
differ_lists : (xs ys : List ℕ) → not (same_list xs ys) ≡ true → xs ≢ ys
differ_lists xs ys t e = let same : same_list xs ys ≡ true = rw e (same_list_refl ys) in not_both same (not-true (same_list xs ys) t)

-- an unknown major version is neither 3 nor 4
unknown_told : (n : ℕ) → unknown n ≡ true → (n ≢ 3) × (n ≢ 4)
unfolding unknown
unknown_told n t = (differ n 3 (both_left (not (eqb n 3)) _ t), differ n 4 (both_right (not (eqb n 3)) _ t))

-- a known one is 3 or 4
known : (n : ℕ) → unknown n ≡ false → (n ≡ 3) ⊎ (n ≡ 4)
unfolding unknown
known n f =
    ⊎_elim inl (λ (a : n ≢ 3). ⊎_elim inr (λ (o : n ≢ 4). absurd (not_both (both_true (unlike n 3 a) (unlike n 4 o)) f)) (same_or n 4)) (same_or n 3)

-- a known version with another shift than its own
shift_told : (major shift : ℕ) → unknown major ≡ false → not (eqb shift (shift_of (version_of major))) ≡ true
    → ((major ≡ 3) × (shift ≢ 9)) ⊎ ((major ≡ 4) × (shift ≢ 12))
unfolding version_of
shift_told major shift f t =
    ⊎_elim (λ (e : major ≡ 3). inl (e, differ shift 9 (rw e at t))) (λ (e : major ≡ 4). inr (e, differ shift 12 (rw e at t))) (known major f)

-- strict is the one mode that insists
pub strict : (m : Validation) → is_strict m ≡ true → m ≡ Strict
strict Permissive t = absurd (not_both t refl)
strict Strict t = refl

-- version 3 is the one whose number is 3
version_3 : (v : Version) → major_of v ≡ 3 → v ≡ V3
version_3 V3 e = refl
version_3 V4 e = absurd (omega arith)

-- strict, version 3 and directory sectors counted make the test hold
dirs_tested : (m : Validation) (major dirs : ℕ) → m ≡ Strict → major ≡ 3 → dirs ≢ 0 → counts_dirs m major dirs ≡ true
unfolding counts_dirs
dirs_tested m major dirs s e n = rw (s, e) (unlike dirs 0 n)

-- and where it holds, it is for these
dirs_told : (m : Validation) (major dirs : ℕ) → counts_dirs m major dirs ≡ true → (m ≡ Strict) × (major ≡ 3) × (dirs ≢ 0)
unfolding counts_dirs
dirs_told m major dirs t =
    let r : both (eqb major 3) (not (eqb dirs 0)) ≡ true = both_right (is_strict m) _ t in
    (strict m (both_left (is_strict m) _ t), eqb-true major 3 (both_left (eqb major 3) _ r), differ dirs 0 (both_right (eqb major 3) _ r))

module _ (m : Validation) (b : List ℕ) where
  -- each of the reader's causes makes the test of its row hold
  pub read_tested : (k : ℕ) → Cause m b k → test_of (read_rows m b) k ≡ true
  unfolding test_of read_rows unknown version_of
  read_tested k (Cause.short h) = lt-ltb _ _ h
  read_tested k (Cause.unsigned n) = rw (same_list_false _ _ n)
  read_tested k (Cause.order n) = unlike _ _ n
  read_tested k (Cause.major n o) = both_true (unlike _ _ n) (unlike _ _ o)
  read_tested k (Cause.shift_3 e n) = rw e (unlike _ _ n)
  read_tested k (Cause.shift_4 e n) = rw e (unlike _ _ n)
  read_tested k (Cause.mini n) = unlike _ _ n
  read_tested k (Cause.dirs s e n) = dirs_tested _ _ _ s e n
  read_tested k (Cause.cutoff n) = unlike _ _ n
  read_tested k (Cause.list w) = broken_tested (list_of b) w

  -- the first of the reader's tests that holds has its cause
  pub read_told : Explained (Cause m b) (read_rows m b)
  unfolding read_rows
  read_told =
      (λ t. Cause.short (ltb-true _ _ t)) ▸ λ f1.
      (λ t. Cause.unsigned (differ_lists _ _ t)) ▸ λ f2.
      (λ t. Cause.order (differ _ _ t)) ▸ λ f3.
      (λ t. let n = unknown_told _ t in Cause.major n.0 n.1) ▸ λ f4.
      (λ t. ⊎_elim (λ w. Cause.shift_3 w.0 w.1) (λ w. Cause.shift_4 w.0 w.1) (shift_told _ _ f4 t)) ▸ λ f5.
      (λ t. Cause.mini (differ _ _ t)) ▸ λ f6.
      (λ t. let d = dirs_told m _ _ t in Cause.dirs d.0 d.1 d.2) ▸ λ f7.
      (λ t. Cause.cutoff (differ _ _ t)) ▸ λ f8.
      (λ t. Cause.list (broken_told (list_of b) t)) ▸ λ f9. tt

  -- the reader's table judges by the reader's causes
  read_judged : Judged by_number (read_rows m b) (Cause m b)
  unfolding ascend read_rows
  read_judged = record { none = refl; ascends = refl; tested = read_tested; told = read_told }

  -- document 01: each number is given exactly when its cause holds and none before it does
  pub read_exactly : (k : ℕ) → 1 ≤ k → (read_no m b ≡ k) ↔ (Cause m b k × ((j : ℕ) → j < k → Cause m b j → ⊥))
  unfolding read_no
  read_exactly = exactly read_judged

  -- a header is read exactly when nothing stands against it
  pub read_accepts : (read_no m b ≡ 0) ↔ ((j : ℕ) → Cause m b j → ⊥)
  unfolding read_no
  read_accepts = accepted read_judged

module _ (h : Header) (n : ℕ) where
  -- each of the writer's causes makes the test of its row hold
  write_tested : (k : ℕ) → WriteCause h n k → test_of (write_rows h n) k ≡ true
  unfolding test_of write_rows unreadable
  write_tested k (WriteCause.no_room l) = lt-ltb _ _ l
  write_tested k (WriteCause.counted v d) = dirs_tested Strict _ _ refl (ap major_of v) d
  write_tested k (WriteCause.no_list w) = rw (broken_tested h.list w)
  write_tested k (WriteCause.free_start e) = either_right (not (ids_then_free h.list)) _ (eq-eqb _ _ e)

  -- the first of the writer's tests that holds has its cause
  write_told : Explained (WriteCause h n) (write_rows h n)
  unfolding write_rows unreadable
  write_told =
      (λ t. WriteCause.no_room (ltb-true _ _ t)) ▸ λ f1.
      (λ t. let d = dirs_told Strict _ _ t in WriteCause.counted (version_3 _ d.1) d.2) ▸ λ f2.
      (λ t. ⊎_elim (λ l. WriteCause.no_list (broken_told h.list l)) (λ e. WriteCause.free_start (eqb-true _ _ e)) (either_cases _ _ t)) ▸ λ f3. tt

  -- the writer's table judges by the writer's causes
  write_judged : Judged by_number (write_rows h n) (WriteCause h n)
  unfolding ascend write_rows
  write_judged = record { none = refl; ascends = refl; tested = write_tested; told = write_told }

  -- document 01: the writer's numbers, in the order 1, 7, 9
  pub write_exactly : (k : ℕ) → 1 ≤ k → (write_no h n ≡ k) ↔ (WriteCause h n k × ((j : ℕ) → j < k → WriteCause h n j → ⊥))
  unfolding write_no
  write_exactly = exactly write_judged

  -- a header is written exactly when nothing stands against it
  pub write_accepts : (write_no h n ≡ 0) ↔ ((j : ℕ) → WriteCause h n j → ⊥)
  unfolding write_no
  write_accepts = accepted write_judged

-- any two results that the reader's contract permits are the same
pub read_unique : (b : List ℕ) (m : Validation) (r s : Result Header Refusal) → ReadSays b m r → ReadSays b m s → r ≡ s
read_unique b m r s p q = answers_apart r s (header_of b) (p.number ∙ sym q.number) p.header q.header

-- any two results that the writer's contract permits are the same, answer and buffer
pub write_unique : (h : Header) (b after after' : List ℕ) (r s : Result (Unit {0}) Refusal) → WriteSays h b after r → WriteSays h b after' s → (after ≡ after') × (r ≡ s)
write_unique h b after after' r s p q = (p.buffer ∙ sym q.buffer, ends_apart r s (p.number ∙ sym q.number))
