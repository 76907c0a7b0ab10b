-- The laws of a FAT that is compared with an image's, marked and forgiven (document 01, 14 to 18). Assumes nothing.
use Prim.Native.Nat.{ℕ, zero, suc, ◌+◌, ◌≤◌, ◌<◌}
use mathlib.Core.Path.{◌≡◌, refl, sym, ◌∙◌, ap}
use mathlib.Core.Bool.{Bool, true, false, not}
use mathlib.Core.List.{List, [], ◌∷◌}
use mathlib.Core.Logic.{◌⊎◌, ⊎_elim, ◌≢◌}
use native.Mathlib.Omega.{arith}
use borrow.Author.Tests.{le-leb, lt-leb, eq-eqb, ne_eqb, not-true}
use lib.Dec.{eqb, leb}
use lib.ListN.{length, get_or}
use lib.Seq.{ext_get_or}
use Rattle.lists.specs.Lists.{choose, both, same_list}
use Rattle.lists.specs.Rows.{row, refusal}
use Rattle.lists.proofs.Cases.{same_or, below_or, true_or, not_both, both_true, both_left, both_right, same_test}
use Rattle.lists.proofs.Rows.{stop}
use Rattle.lists.proofs.Tab.{length_tab, get_or_tab}
use Rattle.lists.proofs.Splice.{same_list_true}
use Rattle.consts.specs.Consts.{max_regular, invalid_sector, end_of_chain, difat_sector, fat_sector}
use Rattle.judge.specs.Judge.{all_marked, marked_fat, regular, forgiven, pointed, wrong_at, first_wrong, forgiven_fat, none_dangles, fat_rows}
use Rattle.judge.proofs.Judging.{pointed_by, pointer_of, forgiven_low, forgiven_kind, forgiven_high}
use Rattle.judge.proofs.Rows.{fat_rest}
use Rattle.judge.proofs.Marking.{length_marked_fat, marked_fat_marked}
use Rattle.points.specs.Parts.{points_once}
use Rattle.points.proofs.Pointing.{Once, points_exactly}
use Rattle.points.proofs.Testing.{same_of}
use Rattle.compare.specs.Compare.{strict_same, permissive_same}
use Rattle.agree.specs.Parts.{listed_marked, fat_same}

-- an entry of which nothing is wrong, seen from each side
module _ (strict : Bool) (n : ℕ) (fat : List ℕ) (i : ℕ) (small : n ≤ max_regular) where
  wrong_reserved : wrong_at strict n fat i ≡ 0 → get_or fat i 0 ≢ invalid_sector
  unfolding wrong_at regular
  wrong_reserved z e = let q : ◌≡◌ {A = ℕ} 17 0 = sym (seventeen e) ∙ z in omega arith
    where
      seventeen : get_or fat i 0 ≡ invalid_sector
          → ◌≡◌ {A = ℕ} (choose (regular (get_or fat i 0)) (choose (leb n (get_or fat i 0)) (choose strict 15 0) (choose (pointed fat i (get_or fat i 0)) 16 0)) (choose (eqb (get_or fat i 0) invalid_sector) 17 0)) 17
      seventeen e = rw e

  wrong_twice : wrong_at strict n fat i ≡ 0 → get_or fat i 0 < n → pointed fat i (get_or fat i 0) ≡ false
  unfolding wrong_at regular
  wrong_twice z l =
      ⊎_elim
      (λ (p : pointed fat i (get_or fat i 0) ≡ true).
      let e : wrong_at strict n fat i ≡ 16 = rw (le-leb (get_or fat i 0) max_regular (omega arith), lt-leb n (get_or fat i 0) l, p) in
      absurd (let q : ◌≡◌ {A = ℕ} 16 0 = sym e ∙ z in omega arith))
      (λ (p : pointed fat i (get_or fat i 0) ≡ false). p)
      (true_or _)

  wrong_high : wrong_at strict n fat i ≡ 0 → strict ≡ true → get_or fat i 0 ≤ max_regular → get_or fat i 0 < n
  unfolding wrong_at regular
  wrong_high z s r =
      ⊎_elim
      (λ (l : get_or fat i 0 < n). l)
      (λ (g : n ≤ get_or fat i 0).
      let e : wrong_at strict n fat i ≡ 15 = rw (le-leb (get_or fat i 0) max_regular r, le-leb n (get_or fat i 0) g, s) in
      absurd (let q : ◌≡◌ {A = ℕ} 15 0 = sym e ∙ z in omega arith))
      (below_or (get_or fat i 0) n)

  none_wrong : get_or fat i 0 ≢ invalid_sector → (get_or fat i 0 < n → pointed fat i (get_or fat i 0) ≡ false) → (strict ≡ true → get_or fat i 0 ≤ max_regular → get_or fat i 0 < n) → wrong_at strict n fat i ≡ 0
  unfolding wrong_at regular
  none_wrong d once high =
      ⊎_elim
      (λ (l : get_or fat i 0 < n). rw (le-leb (get_or fat i 0) max_regular (omega arith), lt-leb n (get_or fat i 0) l, once l))
      (λ (g : n ≤ get_or fat i 0).
      ⊎_elim
      (λ (k : max_regular < get_or fat i 0). rw (lt-leb (get_or fat i 0) max_regular k, ne_eqb (get_or fat i 0) invalid_sector d))
      (λ (r : get_or fat i 0 ≤ max_regular). rw (le-leb (get_or fat i 0) max_regular r, le-leb n (get_or fat i 0) g) (lax (λ s. absurd (omega (arith, high s r))) (true_or strict)))
      (below_or max_regular (get_or fat i 0)))
      (below_or (get_or fat i 0) n)
    where
      lax : (strict ≡ true → ⊥) → (strict ≡ true) ⊎ (strict ≡ false) → ◌≡◌ {A = ℕ} (choose strict 15 0) 0
      lax no_strict c = ⊎_elim (λ (s : strict ≡ true). absurd (no_strict s)) (λ (s : strict ≡ false). rw s) c

-- nothing is wrong with a FAT exactly when nothing is wrong with any entry
first_none : (strict : Bool) (n : ℕ) (fat : List ℕ) (i c : ℕ) → ((j : ℕ) → i ≤ j → j < i + c → wrong_at strict n fat j ≡ 0) → first_wrong strict n fat i c ≡ 0
unfolding first_wrong
first_none strict n fat i zero h = refl
first_none strict n fat i (suc c) h = rw (eq-eqb (wrong_at strict n fat i) 0 (h i (omega arith) (omega arith))) (first_none strict n fat (suc i) c (λ j l m. h j (omega arith) (omega arith)))

first_each : (strict : Bool) (n : ℕ) (fat : List ℕ) (i c : ℕ) → first_wrong strict n fat i c ≡ 0 → (j : ℕ) → i ≤ j → j < i + c → wrong_at strict n fat j ≡ 0
unfolding first_wrong
first_each strict n fat i zero z j l m = absurd (omega arith)
first_each strict n fat i (suc c) z j l m =
    let rest : first_wrong strict n fat (suc i) c ≡ 0 → suc i ≤ j → wrong_at strict n fat j ≡ 0 = λ e k. first_each strict n fat (suc i) c e j k (omega arith) in
    ⊎_elim
    (λ (e : wrong_at strict n fat i ≡ 0).
    ⊎_elim (λ (k : i < j). rest (rw (eq-eqb (wrong_at strict n fat i) 0 e) at z) (omega arith)) (λ (k : j ≤ i). let s : j ≡ i = omega arith in rw s e) (below_or i j))
    (λ (d : wrong_at strict n fat i ≢ 0). absurd (d (rw (ne_eqb (wrong_at strict n fat i) 0 d) at z)))
    (same_or (wrong_at strict n fat i) 0)

-- a FAT and what it becomes when it is forgiven
module _ (strict : Bool) (n : ℕ) (fat : List ℕ) (small : n ≤ max_regular) (long : length fat ≡ n) where
  abbrev kept : List ℕ
  kept = forgiven_fat n fat

  at_kept : (i : ℕ) → i < n → get_or kept i 0 ≡ forgiven n (get_or fat i 0)
  unfolding forgiven_fat
  at_kept i h = get_or_tab (λ k. forgiven n (get_or fat k 0)) n i 0 h

  length_kept : length kept ≡ n
  unfolding forgiven_fat
  length_kept = length_tab _ n

  -- a low entry stays, and was there; so does the reserved one
  low_kept : (e : ℕ) → forgiven n e < n → forgiven n e ≡ e
  low_kept e l =
      ⊎_elim
      (λ (k : max_regular < e). forgiven_kind n e k)
      (λ (r : e ≤ max_regular). ⊎_elim (λ (k : e < n). forgiven_low n e k) (λ (g : n ≤ e). absurd (omega (arith, forgiven_high n e r g))) (below_or e n))
      (below_or max_regular e)

  reserved_kept : (e : ℕ) → forgiven n e ≡ invalid_sector → e ≡ invalid_sector
  reserved_kept e q =
      ⊎_elim
      (λ (k : max_regular < e). sym (forgiven_kind n e k) ∙ q)
      (λ (r : e ≤ max_regular).
      ⊎_elim (λ (k : e < n). absurd (omega (arith, forgiven_low n e k))) (λ (g : n ≤ e). absurd (omega (arith, forgiven_high n e r g))) (below_or e n))
      (below_or max_regular e)

  once_of : first_wrong strict n fat 0 n ≡ 0 → Once kept
  once_of z =
      record {
        unreserved = λ i h q. wrong_reserved strict n fat i small (right i (omega (arith, length_kept))) (reserved_kept _ (sym (at_kept i (omega (arith, length_kept))) ∙ q));
        single = λ i j h l low e.
            let hi : i < n = omega (arith, length_kept) in
            let hj : j < n = omega arith in
            let fi : get_or fat i 0 ≡ get_or kept i 0 = was i hi (omega (arith, length_kept)) in
            let fj : get_or fat j 0 ≡ get_or kept j 0 = was j hj (omega (arith, length_kept)) in
            not_both (pointed_by fat i (get_or fat i 0) j l (fj ∙ e ∙ sym fi)) (wrong_twice strict n fat i small (right i hi) (omega (arith, length_kept)));
      }
    where
      right : (i : ℕ) → i < n → wrong_at strict n fat i ≡ 0
      right i h = first_each strict n fat 0 n z i (omega arith) (omega arith)

      was : (i : ℕ) → i < n → get_or kept i 0 < n → get_or fat i 0 ≡ get_or kept i 0
      was i h l = sym (at_kept i h ∙ low_kept _ (rw (at_kept i h) at l))

  stays_of : first_wrong strict n fat 0 n ≡ 0 → strict ≡ true → kept ≡ fat
  stays_of z s =
      ext_get_or 0 kept fat (length_kept ∙ sym long)
      (λ i h.
      let hi : i < n = omega (arith, length_kept) in
      at_kept i hi ∙ ⊎_elim
      (λ (k : max_regular < get_or fat i 0). forgiven_kind n _ k)
      (λ (r : get_or fat i 0 ≤ max_regular). forgiven_low n _ (wrong_high strict n fat i small (first_each strict n fat 0 n z i (omega arith) (omega arith)) s r))
      (below_or max_regular (get_or fat i 0)))

  of_once : Once kept → (strict ≡ true → kept ≡ fat) → first_wrong strict n fat 0 n ≡ 0
  of_once o stays =
      first_none strict n fat 0 n
      (λ i l m.
      let hi : i < n = omega arith in
      none_wrong strict n fat i small
      (λ e. o.unreserved i (omega (arith, length_kept)) (at_kept i hi ∙ ap (forgiven n) e ∙ forgiven_kind n invalid_sector (omega arith)))
      (λ low. ⊎_elim
      (λ (p : pointed fat i (get_or fat i 0) ≡ true).
      let q = pointer_of fat i (get_or fat i 0) p in
      let fi : get_or kept i 0 ≡ get_or fat i 0 = at_kept i hi ∙ forgiven_low n _ low in
      let fj : get_or kept q.0 0 ≡ get_or fat q.0 0 = at_kept q.0 (omega (arith, q.1)) ∙ forgiven_low n _ (omega (arith, q.2)) in
      absurd (o.single i q.0 (omega (arith, length_kept)) q.1 (omega (arith, length_kept)) (fj ∙ q.2 ∙ sym fi)))
      (λ (p : pointed fat i (get_or fat i 0) ≡ false). p)
      (true_or _))
      (λ s r. ⊎_elim
      (λ (k : get_or fat i 0 < n). k)
      (λ (g : n ≤ get_or fat i 0).
      let e : get_or fat i 0 ≡ end_of_chain = sym (ap (λ (x : List ℕ). get_or x i 0) (stays s)) ∙ at_kept i hi ∙ forgiven_high n _ r g in
      absurd (omega arith))
      (below_or (get_or fat i 0) n)))

-- the rows 14 to 18 are passed exactly when the marks are there where they matter, nothing is wrong, and none dangles
module _ (strict : Bool) (raw difats fats : List ℕ) where
  abbrev marked : List ℕ
  marked = marked_fat raw difats fats

  rows_14 : refusal (fat_rows strict (length raw) raw difats fats) ≡ 0 → both strict (not (listed_marked raw difats fats)) ≡ false
  unfolding fat_rows listed_marked
  rows_14 z =
      ⊎_elim
      (λ (t : both strict (not (both (all_marked raw difats difat_sector) (all_marked raw fats fat_sector))) ≡ true).
      absurd (let q : ◌≡◌ {A = ℕ} 14 0 = sym (stop 14 _ _ t) ∙ z in omega arith))
      (λ (f : both strict (not (both (all_marked raw difats difat_sector) (all_marked raw fats fat_sector))) ≡ false). f)
      (true_or _)

  rows_left : both strict (not (listed_marked raw difats fats)) ≡ false
      → refusal (fat_rows strict (length raw) raw difats fats)
      ≡ choose (eqb (first_wrong strict (length raw) marked 0 (length raw)) 0) (refusal (row 18 (not (none_dangles (length raw) (forgiven_fat (length raw) marked))) ∷ [])) (first_wrong strict (length raw) marked 0 (length raw))
  unfolding listed_marked
  rows_left f = fat_rest strict raw difats fats f

  rows_right : refusal (fat_rows strict (length raw) raw difats fats) ≡ 0
      → (both strict (not (listed_marked raw difats fats)) ≡ false) × (first_wrong strict (length raw) marked 0 (length raw) ≡ 0) × (none_dangles (length raw) (forgiven_fat (length raw) marked) ≡ true)
  unfolding refusal
  rows_right z =
      let m = rows_14 z in
      let w : first_wrong strict (length raw) marked 0 (length raw) ≡ 0 =
      ⊎_elim
      (λ (e : first_wrong strict (length raw) marked 0 (length raw) ≡ 0). e)
      (λ (d : first_wrong strict (length raw) marked 0 (length raw) ≢ 0). absurd (d (sym (rows_left m ∙ rw (ne_eqb (first_wrong strict (length raw) marked 0 (length raw)) 0 d)) ∙ z)))
      (same_or _ 0) in
      let d : ◌≡◌ {A = ℕ} (choose (not (none_dangles (length raw) (forgiven_fat (length raw) marked))) 18 0) 0 = sym (rows_left m ∙ rw (eq-eqb (first_wrong strict (length raw) marked 0 (length raw)) 0 w)) ∙ z in
      (m, w, last (none_dangles (length raw) (forgiven_fat (length raw) marked)) d)
    where
      last : (t : Bool) → ◌≡◌ {A = ℕ} (choose (not t) 18 0) 0 → t ≡ true
      last true d = refl
      last false d = absurd (omega arith)

  right_rows : both strict (not (listed_marked raw difats fats)) ≡ false → first_wrong strict (length raw) marked 0 (length raw) ≡ 0 → none_dangles (length raw) (forgiven_fat (length raw) marked) ≡ true
      → refusal (fat_rows strict (length raw) raw difats fats) ≡ 0
  unfolding refusal
  right_rows m w d = rows_left m ∙ rw (eq-eqb (first_wrong strict (length raw) marked 0 (length raw)) 0 w) (ap (λ (t : Bool). choose (not t) 18 0) d)

-- the FAT of the bytes as each mode compares it: permissive marks and forgives it; strict finds its marks there, and nothing to forgive
module _ (raw difats fats fat : List ℕ) where
  strict_tests : fat_same true raw difats fats fat ≡ both (both (all_marked raw difats difat_sector) (all_marked raw fats fat_sector)) (both (same_list fat (marked_fat raw difats fats)) (same_list fat (forgiven_fat (length fat) (marked_fat raw difats fats))))
  unfolding fat_same listed_marked
  strict_tests = twice (both (all_marked raw difats difat_sector) (all_marked raw fats fat_sector)) (same_list fat (marked_fat raw difats fats)) (same_list fat (forgiven_fat (length fat) (marked_fat raw difats fats)))
    where
      twice : (a b c : Bool) → both (not (not a)) (both (not (not b)) c) ≡ both a (both b c)
      twice true true c = refl
      twice true false c = refl
      twice false b c = refl

  same_strict : fat_same true raw difats fats fat ≡ true → strict_same raw difats fats fat ≡ true
  unfolding strict_same
  same_strict t =
      both_true (both_true (same_of fat raw own) (rw (← own ∙ sym marks) at (both_right (same_list fat (marked_fat raw difats fats)) _ rest)))
      (ap (λ (l : List ℕ). both (all_marked l difats difat_sector) (all_marked l fats fat_sector)) own ∙ listed)
    where
      tests : both (both (all_marked raw difats difat_sector) (all_marked raw fats fat_sector)) (both (same_list fat (marked_fat raw difats fats)) (same_list fat (forgiven_fat (length fat) (marked_fat raw difats fats)))) ≡ true
      tests = sym strict_tests ∙ t

      listed : both (all_marked raw difats difat_sector) (all_marked raw fats fat_sector) ≡ true
      listed = both_left _ (both (same_list fat (marked_fat raw difats fats)) (same_list fat (forgiven_fat (length fat) (marked_fat raw difats fats)))) tests

      rest : both (same_list fat (marked_fat raw difats fats)) (same_list fat (forgiven_fat (length fat) (marked_fat raw difats fats))) ≡ true
      rest = both_right (both (all_marked raw difats difat_sector) (all_marked raw fats fat_sector)) _ tests

      marks : marked_fat raw difats fats ≡ raw
      marks = marked_fat_marked raw difats fats listed

      own : fat ≡ raw
      own = same_list_true fat (marked_fat raw difats fats) (both_left _ (same_list fat (forgiven_fat (length fat) (marked_fat raw difats fats))) rest) ∙ marks

-- and the other way, where the FAT is the bytes' own
strict_own : (fat difats fats : List ℕ) → same_list fat (forgiven_fat (length fat) fat) ≡ true → both (all_marked fat difats difat_sector) (all_marked fat fats fat_sector) ≡ true → fat_same true fat difats fats fat ≡ true
strict_own fat difats fats f l =
    let marks : marked_fat fat difats fats ≡ fat = marked_fat_marked fat difats fats l in
    strict_tests fat difats fats fat ∙ both_true l (both_true (same_of fat _ (sym marks)) (ap (λ (m : List ℕ). same_list fat (forgiven_fat (length fat) m)) marks ∙ f))

strict_same_lem : (raw difats fats fat : List ℕ) → strict_same raw difats fats fat ≡ true → fat_same true raw difats fats fat ≡ true
unfolding strict_same
strict_same_lem raw difats fats fat t =
    let listed : both (all_marked fat difats difat_sector) (all_marked fat fats fat_sector) ≡ true = both_right (both (same_list fat raw) (same_list fat (forgiven_fat (length fat) fat))) _ t in
    let kept : both (same_list fat raw) (same_list fat (forgiven_fat (length fat) fat)) ≡ true = both_left _ (both (all_marked fat difats difat_sector) (all_marked fat fats fat_sector)) t in
    let own : fat ≡ raw = same_list_true fat raw (both_left _ (same_list fat (forgiven_fat (length fat) fat)) kept) in
    ap (λ (m : List ℕ). fat_same true m difats fats fat) (sym own) ∙ strict_own fat difats fats (both_right (same_list fat raw) _ kept) listed

pub fat_strict : (strict r : Bool) (raw difats fats fat : List ℕ) → strict ≡ true → r ≡ strict_same raw difats fats fat → r ≡ fat_same strict raw difats fats fat
fat_strict strict r raw difats fats fat e h =
    h ∙ same_test (strict_same raw difats fats fat) (fat_same true raw difats fats fat) (strict_same_lem raw difats fats fat) (same_strict raw difats fats fat)
    ∙ ap (λ (b : Bool). fat_same b raw difats fats fat) (sym e)

pub fat_permissive : (strict r : Bool) (raw difats fats fat : List ℕ) → strict ≡ false → r ≡ permissive_same raw difats fats fat → r ≡ fat_same strict raw difats fats fat
unfolding fat_same
fat_permissive strict r raw difats fats fat e h = h ∙ sym (rw e)

-- the rows 14 to 18, passed
pub record Passed (strict : Bool) (n : ℕ) (raw difats fats : List ℕ) : Type 0 where
  pub unmarked : both strict (not (listed_marked raw difats fats)) ≡ false
  pub right : first_wrong strict n (marked_fat raw difats fats) 0 n ≡ 0
  pub sound : none_dangles n (forgiven_fat n (marked_fat raw difats fats)) ≡ true

pub rows_passed : (strict : Bool) (n : ℕ) (raw difats fats : List ℕ) → length raw ≡ n → refusal (fat_rows strict n raw difats fats) ≡ 0 → Passed strict n raw difats fats
rows_passed strict n raw difats fats e z =
    rw (← e) (let q = rows_right strict raw difats fats (ap (λ (k : ℕ). refusal (fat_rows strict k raw difats fats)) e ∙ z) in record { unmarked = q.0; right = q.1; sound = q.2 })

pub passed_rows : (strict : Bool) (n : ℕ) (raw difats fats : List ℕ) → length raw ≡ n → Passed strict n raw difats fats → refusal (fat_rows strict n raw difats fats) ≡ 0
passed_rows strict n raw difats fats e p =
    let q : Passed strict (length raw) raw difats fats = rw e p in
    ap (λ (k : ℕ). refusal (fat_rows strict k raw difats fats)) (sym e) ∙ right_rows strict raw difats fats q.unmarked q.right q.sound

-- a FAT that is the image's passes the test, and the entries of one that passes decide the rest
module _ (strict : Bool) (n : ℕ) (raw difats fats fat : List ℕ) (small : n ≤ max_regular) (wide : length raw ≡ n) (long : length fat ≡ n) where
  abbrev M : List ℕ
  M = marked_fat raw difats fats

  long_marked : length M ≡ n
  long_marked = length_marked_fat raw difats fats ∙ wide

  pub same_fat : fat ≡ forgiven_fat n M → Passed strict n raw difats fats → fat_same strict raw difats fats fat ≡ true
  unfolding fat_same
  same_fat e p =
      let k : not (both strict (not (same_list fat M))) ≡ true =
      ⊎_elim
      (λ (s : strict ≡ true). rw (s, same_of fat M (e ∙ stays_of strict n M small long_marked p.right s)))
      (λ (s : strict ≡ false). rw s)
      (true_or strict) in
      both_true (ap not p.unmarked) (both_true k (same_of fat _ (e ∙ ap (λ (k : ℕ). forgiven_fat k M) (sym long))))

  pub fat_forgiven : fat_same strict raw difats fats fat ≡ true → fat ≡ forgiven_fat n M
  unfolding fat_same
  fat_forgiven t =
      same_list_true _ _ (both_right (not (both strict (not (same_list fat M)))) _ (both_right (not (both strict (not (listed_marked raw difats fats)))) _ t))
      ∙ ap (λ (k : ℕ). forgiven_fat k M) long

  fat_stays : fat_same strict raw difats fats fat ≡ true → strict ≡ true → fat ≡ M
  unfolding fat_same
  fat_stays t s =
      let k : not (both strict (not (same_list fat M))) ≡ true =
      both_left (not (both strict (not (same_list fat M)))) (same_list fat (forgiven_fat (length fat) M)) (both_right (not (both strict (not (listed_marked raw difats fats)))) _ t) in
      same_list_true _ _ (strictly (same_list fat M) (rw s at k))
    where
      strictly : (b : Bool) → not (both true (not b)) ≡ true → b ≡ true
      strictly true q = refl
      strictly false q = q

  fat_marked_lem : fat_same strict raw difats fats fat ≡ true → both strict (not (listed_marked raw difats fats)) ≡ false
  unfolding fat_same
  fat_marked_lem t = not-true _ (both_left (not (both strict (not (listed_marked raw difats fats)))) (both (not (both strict (not (same_list fat M)))) (same_list fat (forgiven_fat (length fat) M))) t)

  pub points_passed : fat_same strict raw difats fats fat ≡ true → points_once fat ≡ true → none_dangles (length fat) fat ≡ true → Passed strict n raw difats fats
  points_passed t o d =
      let f : fat ≡ forgiven_fat n M = fat_forgiven t in
      record {
        unmarked = fat_marked_lem t;
        right = of_once strict n M small long_marked (rw f at ((points_exactly fat).0 o)) (λ s. sym f ∙ fat_stays t s);
        sound = ap (none_dangles n) (sym f) ∙ ap (λ (k : ℕ). none_dangles k fat) (sym long) ∙ d;
      }

  pub passed_points : fat ≡ forgiven_fat n M → Passed strict n raw difats fats → (points_once fat ≡ true) × (none_dangles (length fat) fat ≡ true)
  passed_points f p = (
    (points_exactly fat).1 (rw f (once_of strict n M small long_marked p.right)),
    ap (λ (k : ℕ). none_dangles k fat) long ∙ ap (none_dangles n) f ∙ p.sound,
  )
