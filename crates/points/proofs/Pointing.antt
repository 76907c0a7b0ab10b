-- The laws of entries that point: how many point at each sector, and what these numbers tell of repeats, of marks and of FREE sectors. Assumes nothing.
use Prim.Native.Nat.{ℕ, zero, suc, ◌+◌, ◌*◌, ◌/◌, ◌≤◌, ◌<◌}
use mathlib.Core.Path.{◌≡◌, refl, sym, ◌∙◌, ap}
use mathlib.Core.Bool.{Bool, true, false, not, ◌&&◌, ◌||◌}
use mathlib.Core.List.{List, [], ◌∷◌}
use mathlib.Core.Logic.{◌↔◌, ⊎_elim, ◌≢◌}
use native.Mathlib.Omega.{arith}
use native.Mathlib.Numerals.{add-one}
use native.Mathlib.Nat.{add-zero}
use borrow.Author.Tests.{eq-eqb, ne_eqb, eqb-true, eqb-false, le-leb, lt-leb, leb-true, lt-ltb, le-ltb, not-true}
use lib.Dec.{eqb, leb}
use lib.ListN.{length, get_or, set, take, drop, replicate, length-set, length-drop, get_or-replicate}
use lib.Seq.{get_or-set_same, get_or-set_other, get_or-take, get_or-drop, length-take-le, take_all}
use Rattle.std.specs.List.{fold}
use Rattle.std.specs.Simd.{first_chunks}
use Rattle.lists.specs.Lists.{choose, both, either, every, same_list, Below}
use Rattle.lists.proofs.Cases.{same_or, below_or, true_or, not_both, both_true, both_left, both_right, same_test, either_cases, either_right, every_at, every_of, alike, unlike}
use Rattle.lists.proofs.Tab.{get_or_tab, is_tab}
use Rattle.consts.specs.Consts.{invalid_sector, free_sector}
use Rattle.judge.specs.Judge.{pointed, marks_of, none_dangles}
use Rattle.judge.proofs.Judging.{pointed_by, pointer_of}
use Rattle.points.specs.Frees.{occurs}
use Rattle.points.specs.Parts.{pointers_of, pointer_counted, sector_right, sectors_right, points_once, points_same}
use Rattle.points.proofs.Folding.{chunk_at}
use Rattle.points.proofs.Testing.{same_tab}
use Rattle.points.proofs.Freeing.{occurs_none, occurs_once, occurs_unique}

-- a number stands in a list's front once more where the next element is it, and no more often than there are elements
occurs_next : (x : ℕ) (ys : List ℕ) (j : ℕ) → j < length ys → occurs x (take (suc j) ys) ≡ choose (eqb x (get_or ys j 0)) (suc (occurs x (take j ys))) (occurs x (take j ys))
unfolding occurs
occurs_next x [] j h = absurd (omega arith)
occurs_next x (y ∷ ys) zero h = refl
occurs_next x (y ∷ ys) (suc j) h = rw (occurs_next x ys j (omega arith)) (either_way (eqb x y) (eqb x (get_or ys j 0)) (occurs x (take j ys)))
  where
    either_way : (a b : Bool) (m : ℕ) → ◌≡◌ {A = ℕ} (choose a (suc (choose b (suc m) m)) (choose b (suc m) m)) (choose b (suc (choose a (suc m) m)) (choose a (suc m) m))
    either_way true true m = refl
    either_way true false m = refl
    either_way false true m = refl
    either_way false false m = refl

occurs_few : (x : ℕ) (ys : List ℕ) (j : ℕ) → j ≤ length ys → occurs x (take j ys) ≤ j
unfolding occurs
occurs_few x ys zero h = omega arith
occurs_few x [] (suc j) h = absurd (omega arith)
occurs_few x (y ∷ ys) (suc j) h = at (eqb x y) (occurs_few x ys j (omega arith))
  where
    at : (t : Bool) → occurs x (take j ys) ≤ j → choose t (suc (occurs x (take j ys))) (occurs x (take j ys)) ≤ suc j
    at true l = omega arith
    at false l = omega arith

-- the entries before place j are counted, by sector; there are few enough that each count fits 32 bits
pub record Counting (fat counts : List ℕ) (j : ℕ) : Type 0 where
  pub few : length fat ≤ 65536
  pub long : length counts ≡ length fat
  pub each : (i : ℕ) → i < length fat → get_or counts i 0 ≡ occurs i (take j fat)

-- the counts of the entries before j: none; all
pub counting_none : (fat counts : List ℕ) (k : ℕ) → length fat ≤ 65536 → counts ≡ replicate k 0 → k ≡ length fat → length counts ≡ length fat → Counting fat counts 0
unfolding occurs
counting_none fat counts k few e s long = record { few = few; long = long; each = λ i h. ap (λ (l : List ℕ). get_or l i 0) e ∙ get_or-replicate k i 0 0 (omega arith) }

pub counting_all : (fat counts : List ℕ) (j : ℕ) → length fat ≤ j → Counting fat counts j → counts ≡ pointers_of fat
unfolding pointers_of
counting_all fat counts j e c = is_tab counts (λ i. occurs i fat) (length fat) c.long (λ i h. c.each i h ∙ ap (occurs i) (take_all j fat e))

-- one entry more is counted: it points at a sector, or at none
pub counted_in : (e : ℕ) (counts : List ℕ) → e < length counts → pointer_counted e counts ≡ set counts e (get_or counts e 0 + 1)
unfolding pointer_counted
counted_in e counts h = rw (lt-ltb e (length counts) h)

pub counted_out : (e : ℕ) (counts : List ℕ) → length counts ≤ e → pointer_counted e counts ≡ counts
unfolding pointer_counted
counted_out e counts h = rw (le-ltb e (length counts) h)

counted_at : (e : ℕ) (counts : List ℕ) (i : ℕ) → i < length counts → get_or (pointer_counted e counts) i 0 ≡ choose (eqb i e) (get_or counts i 0 + 1) (get_or counts i 0)
counted_at e counts i h =
    ⊎_elim
    (λ (l : e < length counts).
    ap (λ (xs : List ℕ). get_or xs i 0) (counted_in e counts l)
    ∙ ⊎_elim
    (λ (s : i ≡ e). ap (λ (x : ℕ). get_or (set counts e (get_or counts e 0 + 1)) x 0) s ∙ get_or-set_same counts e (get_or counts e 0 + 1) 0 l ∙ ap (λ (x : ℕ). get_or counts x 0 + 1) (sym s) ∙ sym (rw (eq-eqb i e s)))
    (λ (d : i ≢ e). get_or-set_other counts e i (get_or counts e 0 + 1) 0 d ∙ sym (rw (ne_eqb i e d)))
    (same_or i e))
    (λ (g : length counts ≤ e). ap (λ (xs : List ℕ). get_or xs i 0) (counted_out e counts g) ∙ sym (rw (ne_eqb i e (λ (s : i ≡ e). omega arith))))
    (below_or e (length counts))

length_counted : (e : ℕ) (counts : List ℕ) → length (pointer_counted e counts) ≡ length counts
length_counted e counts =
    ⊎_elim
    (λ (l : e < length counts). ap length (counted_in e counts l) ∙ length-set counts e (get_or counts e 0 + 1))
    (λ (g : length counts ≤ e). ap length (counted_out e counts g))
    (below_or e (length counts))

pub counting_more : (fat counts next : List ℕ) (j k e : ℕ) → j < length fat → k ≡ j + 1 → e ≡ get_or fat j 0 → next ≡ pointer_counted e counts → Counting fat counts j → Counting fat next k
counting_more fat counts next j k e h m s n c =
    record {
      few = c.few;
      long = ap length n ∙ length_counted e counts ∙ c.long;
      each = λ i l. ap (λ (xs : List ℕ). get_or xs i 0) n ∙ counted_at e counts i (omega (arith, c.long)) ∙ added (eqb i e) _ _ (c.each i l) ∙ sym (ap (λ (x : ℕ). occurs i (take x fat)) (m ∙ add-one j) ∙ occurs_next i fat j h ∙ ap (λ (x : ℕ). choose (eqb i x) (suc (occurs i (take j fat))) (occurs i (take j fat))) (sym s));
    }
  where
    added : (b : Bool) (x y : ℕ) → x ≡ y → choose b (x + 1) x ≡ choose b (suc y) y
    added true x y q = omega arith
    added false x y q = q

-- no count passes the number of entries
pub counting_below : (m : ℕ) (fat counts : List ℕ) (j : ℕ) → j < m → j ≤ length fat → Counting fat counts j → Below m counts
counting_below m fat counts j l h c = record { each = λ i b. omega (arith, c.each i (omega (arith, c.long)), occurs_few i fat j h) }

-- a count grows by one at most
pub counted_below : (k m e : ℕ) (counts next : List ℕ) → k < m → next ≡ pointer_counted e counts → Below k counts → Below m next
counted_below k m e counts next l n b = record { each = λ i h. at i (omega (arith, ap length n, length_counted e counts)) }
  where
    step : (t : Bool) (x : ℕ) → x < k → choose t (x + 1) x < m
    step true x h = omega arith
    step false x h = omega arith

    at : (i : ℕ) → i < length counts → get_or next i 0 < m
    at i h = rw (n, counted_at e counts i h) (step (eqb i e) (get_or counts i 0) (b.each i h))

-- the entries of a list that the FAT goes on with are counted
pub counting_list : (fat es counts : List ℕ) (j : ℕ) → j + length es ≤ length fat → ((k : ℕ) → k < length es → get_or es k 0 ≡ get_or fat (j + k) 0)
    → Counting fat counts j → Counting fat (fold (λ xs e. pointer_counted e xs) counts es) (j + length es)
counting_list fat [] counts j h same c = rw (add-zero j) c
counting_list fat (e ∷ es) counts j h same c =
    let first : e ≡ get_or fat j 0 = rw add-zero at (same 0 (omega arith)) in
    let next : (j + 1) + length es ≡ j + suc (length es) = omega arith in
    rw (← next)
    (counting_list fat es (pointer_counted e counts) (j + 1) (omega arith)
    (λ k l. let at : j + suc k ≡ (j + 1) + k = omega arith in rw at at (same (suc k) (omega arith)))
    (counting_more fat counts (pointer_counted e counts) j (j + 1) e (omega arith) refl first refl c))

-- and so are those of the four at place i
pub counting_fours : (fat counts four : List ℕ) (i : ℕ) → i < length fat / 4 → four ≡ get_or (first_chunks 4 (length fat / 4) fat) i []
    → Counting fat counts (4 * i) → Counting fat (fold (λ xs e. pointer_counted e xs) counts four) (4 * (i + 1))
counting_fours fat counts four i h e c =
    let from : i * 4 ≡ 4 * i = omega arith in
    let is : four ≡ take 4 (drop (4 * i) fat) = e ∙ chunk_at 4 (length fat / 4) i fat h ∙ ap (λ (j : ℕ). take 4 (drop j fat)) from in
    let long : length four ≡ 4 = ap length is ∙ length-take-le 4 (drop (4 * i) fat) (omega (arith, length-drop (4 * i) fat)) in
    let next : 4 * i + length four ≡ 4 * (i + 1) = omega arith in
    rw (← next) (counting_list fat four counts (4 * i) (omega arith) (λ k l. rw is (get_or-take 4 (drop (4 * i) fat) k 0 (omega arith) ∙ get_or-drop (4 * i) fat k 0)) c)

-- no entry is reserved, and no two point at one sector
pub record Once (fat : List ℕ) : Type 0 where
  pub unreserved : (i : ℕ) → i < length fat → get_or fat i 0 ≢ invalid_sector
  pub single : (i j : ℕ) → i < length fat → j < i → get_or fat i 0 < length fat → get_or fat j 0 ≡ get_or fat i 0 → ⊥

module _ (fat : List ℕ) where
  abbrev once_at : ℕ → Bool
  once_at i = both (not (eqb (get_or fat i 0) invalid_sector)) (either (leb (length fat) (get_or fat i 0)) (not (pointed fat i (get_or fat i 0))))

  points_at : points_once fat ≡ true → Once fat
  unfolding points_once
  points_at t =
      record {
        unreserved = λ i h. eqb-false _ _ (not-true _ (both_left _ (either (leb (length fat) (get_or fat i 0)) (not (pointed fat i (get_or fat i 0)))) (every_at (length fat) once_at t i h)));
        single = λ i j h l low e.
            ⊎_elim
            (λ (b : leb (length fat) (get_or fat i 0) ≡ true). not_both b (lt-leb _ _ low))
            (λ (b : not (pointed fat i (get_or fat i 0)) ≡ true). not_both (pointed_by fat i (get_or fat i 0) j l e) (not-true _ b))
            (either_cases _ _ (both_right (not (eqb (get_or fat i 0) invalid_sector)) _ (every_at (length fat) once_at t i h)));
      }

  points_of : Once fat → points_once fat ≡ true
  unfolding points_once
  points_of o =
      every_of (length fat) once_at
      (λ i h. both_true (unlike _ _ (o.unreserved i h))
      (⊎_elim
      (λ (l : get_or fat i 0 < length fat).
      either_right (leb (length fat) (get_or fat i 0)) _
      (⊎_elim (λ (p : pointed fat i (get_or fat i 0) ≡ true). let q = pointer_of fat i (get_or fat i 0) p in absurd (o.single i q.0 h q.1 l q.2)) (λ (p : pointed fat i (get_or fat i 0) ≡ false). ap not p) (true_or _)))
      (λ (g : length fat ≤ get_or fat i 0). ap (λ (b : Bool). either b (not (pointed fat i (get_or fat i 0)))) (le-leb _ _ g))
      (below_or (get_or fat i 0) (length fat))))

  pub points_exactly : points_once fat ≡ true ↔ Once fat
  points_exactly = (points_at, points_of)

-- where no two entries point at one sector, one or none does, as the marks say
module _ (fat : List ℕ) where
  pointers_once : Once fat → (i : ℕ) → i < length fat → occurs i fat ≡ choose (pointed fat (length fat) i) 1 0
  pointers_once o i h =
      ⊎_elim
      (λ (p : pointed fat (length fat) i ≡ true).
      let q = pointer_of fat (length fat) i p in
      occurs_once i fat (alone i h) q.0 q.1 q.2 ∙ sym (rw p))
      (λ (p : pointed fat (length fat) i ≡ false). occurs_none i fat (λ j l e. not_both (pointed_by fat (length fat) i j l e) p) ∙ sym (rw p))
      (true_or _)
    where
      alone : (i : ℕ) → i < length fat → (a b : ℕ) → a < length fat → b < length fat → get_or fat a 0 ≡ i → get_or fat b 0 ≡ i → a ≡ b
      alone i h a b ha hb p q =
          ⊎_elim
          (λ (l : a < b). absurd (o.single b a hb l (rw q h) (p ∙ sym q)))
          (λ (g : b ≤ a).
          ⊎_elim
          (λ (l : b < a). absurd (o.single a b ha l (rw p h) (q ∙ sym p)))
          (λ (k : a ≤ b). omega arith)
          (below_or b a))
          (below_or a b)

  -- and two entries that point at one sector are counted
  counted_once : ((i : ℕ) → i < length fat → get_or fat i 0 ≢ invalid_sector) → ((i : ℕ) → i < length fat → occurs i fat ≤ 1) → Once fat
  counted_once d few =
      record {
        unreserved = d;
        single = λ i j h l low e. let s : i ≡ j = occurs_unique (get_or fat i 0) fat (few (get_or fat i 0) low) i j h (omega arith) refl e in omega arith;
      }

-- the three facts of a sector that is right
module _ (e count mark : ℕ) where
  right_mark : sector_right e count mark ≡ true → (count ≡ mark) × (count ≤ 1)
  unfolding sector_right
  right_mark t =
      let q : both (eqb count mark) (leb count 1) ≡ true = both_left _ (both (not (eqb e invalid_sector)) (either (not (eqb e free_sector)) (eqb count 0))) t in
      (eqb-true _ _ (both_left _ (leb count 1) q), leb-true _ _ (both_right (eqb count mark) _ q))

  right_entry : sector_right e count mark ≡ true → e ≢ invalid_sector
  unfolding sector_right
  right_entry t = eqb-false _ _ (not-true _ (both_left _ (either (not (eqb e free_sector)) (eqb count 0)) (both_right (both (eqb count mark) (leb count 1)) _ t)))

  right_free : sector_right e count mark ≡ true → e ≡ free_sector → count ≡ 0
  unfolding sector_right
  right_free t f =
      ⊎_elim
      (λ (b : not (eqb e free_sector) ≡ true). absurd (not_both b (alike _ _ f)))
      (λ (b : eqb count 0 ≡ true). eqb-true _ _ b)
      (either_cases _ _ (both_right (not (eqb e invalid_sector)) _ (both_right (both (eqb count mark) (leb count 1)) _ t)))

  right_of : count ≡ mark → count ≤ 1 → e ≢ invalid_sector → (e ≡ free_sector → count ≡ 0) → sector_right e count mark ≡ true
  unfolding sector_right
  right_of m l d f =
      both_true (both_true (eq-eqb _ _ m) (le-leb _ _ l))
      (both_true (unlike _ _ d)
      (⊎_elim
      (λ (s : e ≡ free_sector). either_right (not (eqb e free_sector)) _ (eq-eqb _ _ (f s)))
      (λ (s : e ≢ free_sector). ap (λ (b : Bool). either b (eqb count 0)) (unlike _ _ s))
      (same_or e free_sector)))

  -- the tests as the code joins them
  pub right_joined : ((eqb count mark && leb count 1) && (not (eqb e invalid_sector) && (not (eqb e free_sector) || eqb count 0))) ≡ sector_right e count mark
  unfolding sector_right
  right_joined = joined (eqb count mark) (leb count 1) (not (eqb e invalid_sector)) (not (eqb e free_sector)) (eqb count 0)
    where
      joined : (a b c d f : Bool) → ((a && b) && (c && (d || f))) ≡ both (both a b) (both c (either d f))
      joined true true true true f = refl
      joined true true true false f = refl
      joined true true false d f = refl
      joined true false c d f = refl
      joined false b c d f = refl

-- every sector is right exactly when the entries point as they must and the marks say where
module _ (fat marks : List ℕ) (long : length marks ≡ length fat) where
  abbrev right_at : ℕ → Bool
  right_at i = sector_right (get_or fat i 0) (get_or (pointers_of fat) i 0) (get_or marks i 0)

  at_pointers : (i : ℕ) → i < length fat → get_or (pointers_of fat) i 0 ≡ occurs i fat
  unfolding pointers_of
  at_pointers i h = get_or_tab (λ k. occurs k fat) (length fat) i 0 h

  abbrev mark_at : ℕ → Bool
  mark_at i = eqb (get_or marks i 0) (choose (pointed fat (length fat) i) 1 0)

  abbrev firm_at : ℕ → Bool
  firm_at i = not (both (pointed fat (length fat) i) (eqb (get_or fat i 0) free_sector))

  right_all : every (length fat) right_at ≡ true → points_same fat marks ≡ true
  unfolding points_same marks_of none_dangles
  right_all t =
      let o : Once fat = counted_once fat (λ i h. right_entry _ _ _ (at i h)) (λ i h. rw (at_pointers i h) at (right_mark _ _ _ (at i h)).1) in
      both_true ((points_exactly fat).1 o)
      (both_true
      (sym (same_tab marks (λ i. choose (pointed fat (length fat) i) 1 0) (length fat) long)
      ∙ every_of (length fat) mark_at (λ i h. eq-eqb _ _ (sym (right_mark _ _ _ (at i h)).0 ∙ at_pointers i h ∙ pointers_once fat o i h)))
      (every_of (length fat) firm_at (λ i h. ⊎_elim
      (λ (b : both (pointed fat (length fat) i) (eqb (get_or fat i 0) free_sector) ≡ true). absurd (dangling o i h b))
      (λ (b : both (pointed fat (length fat) i) (eqb (get_or fat i 0) free_sector) ≡ false). ap not b)
      (true_or _))))
    where
      at : (i : ℕ) → i < length fat → right_at i ≡ true
      at i h = every_at (length fat) right_at t i h

      dangling : Once fat → (i : ℕ) → i < length fat → both (pointed fat (length fat) i) (eqb (get_or fat i 0) free_sector) ≡ true → ⊥
      dangling o i h b =
          let none : occurs i fat ≡ 0 = sym (at_pointers i h) ∙ right_free _ _ _ (at i h) (eqb-true _ _ (both_right (pointed fat (length fat) i) _ b)) in
          let one : ◌≡◌ {A = ℕ} (occurs i fat) 1 = pointers_once fat o i h ∙ ap (λ (t : Bool). choose t 1 0) (both_left (pointed fat (length fat) i) (eqb (get_or fat i 0) free_sector) b) in
          omega arith

  all_right : points_same fat marks ≡ true → every (length fat) right_at ≡ true
  unfolding points_same marks_of none_dangles
  all_right t = every_of (length fat) right_at (λ i h. right_of _ _ _ (told i h) (few i h) (o.unreserved i h) (firm i h))
    where
      o : Once fat
      o = (points_exactly fat).0 (both_left _ (both (same_list marks (marks_of (length fat) fat)) (none_dangles (length fat) fat)) t)

      rest : both (same_list marks (marks_of (length fat) fat)) (none_dangles (length fat) fat) ≡ true
      rest = both_right (points_once fat) _ t

      count : (i : ℕ) → i < length fat → get_or (pointers_of fat) i 0 ≡ choose (pointed fat (length fat) i) 1 0
      count i h = at_pointers i h ∙ pointers_once fat o i h

      told : (i : ℕ) → i < length fat → get_or (pointers_of fat) i 0 ≡ get_or marks i 0
      told i h =
          count i h ∙ sym (eqb-true _ _ (every_at (length fat) mark_at (same_tab marks (λ k. choose (pointed fat (length fat) k) 1 0) (length fat) long ∙ both_left _ (none_dangles (length fat) fat) rest) i h))

      few : (i : ℕ) → i < length fat → get_or (pointers_of fat) i 0 ≤ 1
      few i h = rw (count i h) (at (pointed fat (length fat) i))
        where
          at : (b : Bool) → choose b 1 0 ≤ 1
          at true = omega arith
          at false = omega arith

      firm : (i : ℕ) → i < length fat → get_or fat i 0 ≡ free_sector → get_or (pointers_of fat) i 0 ≡ 0
      firm i h f =
          count i h ∙ ⊎_elim
          (λ (p : pointed fat (length fat) i ≡ true). absurd (not_both (both_true p (eq-eqb _ _ f)) (not-true _ (every_at (length fat) firm_at (both_right (same_list marks (marks_of (length fat) fat)) _ rest) i h))))
          (λ (p : pointed fat (length fat) i ≡ false). rw p)
          (true_or _)

  pub counts_tell : (r : Bool) (counts : List ℕ) → counts ≡ pointers_of fat → r ≡ sectors_right fat counts marks → r ≡ points_same fat marks
  counts_tell r counts c e =
      e ∙ ap (λ (l : List ℕ). sectors_right fat l marks) c
      ∙ same_test (every (length fat) right_at) (points_same fat marks) right_all all_right
