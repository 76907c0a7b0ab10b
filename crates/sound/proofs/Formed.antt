-- A strict judging (document 01, 14 to 18) refuses nothing of well-formed tables and leaves their FAT as it is, and refuses something of all others. Assumes nothing.
use Prim.Native.Nat.{ℕ, zero, suc, ◌+◌, ◌≤◌, ◌<◌}
use mathlib.Core.Path.{◌≡◌, refl, sym, ◌∙◌, ap}
use mathlib.Core.Bool.{Bool, true, false, not}
use mathlib.Core.List.{List}
use mathlib.Core.Logic.{◌⊎◌, inl, inr, ⊎_elim, ◌≢◌}
use native.Mathlib.Omega.{arith}
use borrow.Author.Tests.{le-leb, lt-leb, leb-false, eq-eqb, ne_eqb, eqb-false, not-true, not-false}
use lib.Dec.{eqb, leb}
use lib.ListN.{length, get_or}
use Rattle.lists.specs.Lists.{choose, both}
use Rattle.lists.specs.Rows.{refusal, distinct, fresh}
use Rattle.lists.proofs.Cases.{below_or, same_or, true_or, not_both, both_true, both_left, both_right, both_false_left, both_false_right, every_at, every_of}
use Rattle.lists.proofs.Rows.{given_none}
use Rattle.lists.proofs.Tab.{is_tab}
use Rattle.consts.specs.Consts.{max_regular, invalid_sector, difat_sector, fat_sector, free_sector}
use Rattle.fat.specs.Lists.{fat_count, difat_count, all_below, different}
use Rattle.judge.specs.Judge.{all_marked, marked_fat, regular, forgiven, pointed, wrong_at, first_wrong, forgiven_fat, none_dangles, fat_rows}
use Rattle.fat.proofs.Differing.{below_at, different_at}
use Rattle.judge.proofs.Marking.{marked_at, marked_of, marked_fat_marked}
use Rattle.judge.proofs.Judging.{pointed_by, pointer_of, forgiven_low, forgiven_kind}
use Rattle.judge.proofs.Rows.{Number, first_number}
use Rattle.sound.specs.Sound.{WellFormed}

-- where no sector is the first that is wrong, none is wrong
passes_told : (strict : Bool) (n : ℕ) (fat : List ℕ) (i c : ℕ) → first_wrong strict n fat i c ≡ 0 → (j : ℕ) → i ≤ j → j < i + c → wrong_at strict n fat j ≡ 0
unfolding first_wrong
passes_told strict n fat i zero e j l h = absurd (omega arith)
passes_told strict n fat i (suc c) e j l h =
    let rest : first_wrong strict n fat (suc i) c ≡ 0 → (j : ℕ) → suc i ≤ j → j < suc i + c → wrong_at strict n fat j ≡ 0 = passes_told strict n fat (suc i) c in
    ⊎_elim
    (λ (z : wrong_at strict n fat i ≡ 0).
    ⊎_elim (λ (s : i ≡ j). rw (← s) z) (λ (d : i ≢ j). rest (sym (rw (eq-eqb (wrong_at strict n fat i) 0 z)) ∙ e) j (omega arith) (omega arith)) (same_or i j))
    (λ (d : wrong_at strict n fat i ≢ 0). absurd (d (sym (rw (ne_eqb (wrong_at strict n fat i) 0 d)) ∙ e)))
    (same_or (wrong_at strict n fat i) 0)

-- and where none is wrong, there is no first
passes_tested : (strict : Bool) (n : ℕ) (fat : List ℕ) (i c : ℕ) → ((j : ℕ) → i ≤ j → j < i + c → wrong_at strict n fat j ≡ 0) → first_wrong strict n fat i c ≡ 0
unfolding first_wrong
passes_tested strict n fat i zero h = refl
passes_tested strict n fat i (suc c) h =
    rw (eq-eqb (wrong_at strict n fat i) 0 (h i (omega arith) (omega arith))) (passes_tested strict n fat (suc i) c (λ j l r. h j (omega arith) (omega arith)))

-- a sector that is right in a strict judging (document 01, 15 to 17)
record RightAt (n : ℕ) (fat : List ℕ) (i : ℕ) : Type 0 where
  pub below : get_or fat i 0 ≤ max_regular → get_or fat i 0 < n
  pub first : get_or fat i 0 ≤ max_regular → (j : ℕ) → j < i → get_or fat j 0 ≢ get_or fat i 0
  pub unreserved : get_or fat i 0 ≢ invalid_sector

-- a sector with which nothing is wrong is right
right_told : (n : ℕ) (fat : List ℕ) (i : ℕ) → wrong_at true n fat i ≡ 0 → RightAt n fat i
unfolding wrong_at regular
right_told n fat i z =
    let e = get_or fat i 0 in
    ⊎_elim
    (λ (g : max_regular < e). record {
      below = λ r. absurd (omega arith);
      first = λ r. absurd (omega arith);
      unreserved = eqb-false e invalid_sector (special (eqb e invalid_sector) (rw (lt-leb e max_regular g) at z));
    })
    (λ (l : e ≤ max_regular).
    let q : (leb n e ≡ false) × (pointed fat i e ≡ false) = points (leb n e) (pointed fat i e) (rw (le-leb e max_regular l) at z) in
    record {
      below = λ r. leb-false n e q.0;
      first = λ r j h s. not_both (pointed_by fat i e j h s) q.1;
      unreserved = omega arith;
    })
    (below_or max_regular e)
  where
    points : (b c : Bool) → ◌≡◌ {A = ℕ} (choose b 15 (choose c 16 0)) 0 → (b ≡ false) × (c ≡ false)
    points true c z = absurd (omega arith)
    points false true z = absurd (omega arith)
    points false false z = (refl, refl)

    special : (d : Bool) → ◌≡◌ {A = ℕ} (choose d 17 0) 0 → d ≡ false
    special true z = absurd (omega arith)
    special false z = refl

-- and nothing is wrong with one that is right
right_tested : (n : ℕ) (fat : List ℕ) (i : ℕ) → RightAt n fat i → wrong_at true n fat i ≡ 0
unfolding wrong_at regular
right_tested n fat i r =
    let e = get_or fat i 0 in
    ⊎_elim
    (λ (g : max_regular < e). rw (lt-leb e max_regular g, ne_eqb e invalid_sector r.unreserved))
    (λ (l : e ≤ max_regular). rw (le-leb e max_regular l, lt-leb n e (r.below l), unpointed (true_or (pointed fat i e)) l))
    (below_or max_regular e)
  where
    unpointed : (pointed fat i (get_or fat i 0) ≡ true) ⊎ (pointed fat i (get_or fat i 0) ≡ false) → get_or fat i 0 ≤ max_regular → pointed fat i (get_or fat i 0) ≡ false
    unpointed (inl t) l = let w = pointer_of fat i (get_or fat i 0) t in absurd (r.first l w.0 w.1 w.2)
    unpointed (inr f) l = f

-- where the test of 18 holds, no entry points at a FREE sector
dangles_told : (n : ℕ) (fat : List ℕ) → none_dangles n fat ≡ true → (i : ℕ) → i < n → get_or fat i 0 < n → get_or fat (get_or fat i 0) 0 ≢ free_sector
unfolding none_dangles
dangles_told n fat t i h l e =
    let p = get_or fat i 0 in
    not_both (both_true (pointed_by fat n p i h refl) (eq-eqb (get_or fat p 0) free_sector e))
    (not-true _ (every_at n (λ k. not (both (pointed fat n k) (eqb (get_or fat k 0) free_sector))) t p l))

-- and where none does, the test holds
dangles_tested : (n : ℕ) (fat : List ℕ) → ((i : ℕ) → i < n → get_or fat i 0 < n → get_or fat (get_or fat i 0) 0 ≢ free_sector) → none_dangles n fat ≡ true
unfolding none_dangles
dangles_tested n fat h =
    every_of n (λ k. not (both (pointed fat n k) (eqb (get_or fat k 0) free_sector)))
    (λ k l. ap not (⊎_elim
    (λ (t : pointed fat n k ≡ true).
    let w = pointer_of fat n k t in
    let s : get_or fat w.0 0 ≡ k = w.2 in
    both_false_right (pointed fat n k) _ (ne_eqb (get_or fat k 0) free_sector (λ e. h w.0 w.1 (omega arith) (ap (λ (x : ℕ). get_or fat x 0) s ∙ e))))
    (λ (f : pointed fat n k ≡ false). both_false_left _ (eqb (get_or fat k 0) free_sector) f)
    (true_or (pointed fat n k))))

-- a sector's number that is none of 15 to 17 is 0
number_zero : (w : ℕ) → Number w → eqb w 15 ≡ false → eqb w 16 ≡ false → eqb w 17 ≡ false → w ≡ 0
number_zero _ Number.is_0 a b c = refl
number_zero _ Number.is_15 a b c = absurd (not_both refl a)
number_zero _ Number.is_16 a b c = absurd (not_both refl b)
number_zero _ Number.is_17 a b c = absurd (not_both refl c)

-- a FAT of n entries whose regular entries are below n has nothing to forgive
unforgiven : (n : ℕ) (fat : List ℕ) → length fat ≡ n → ((i : ℕ) → i < n → get_or fat i 0 ≤ max_regular → get_or fat i 0 < n) → forgiven_fat n fat ≡ fat
unfolding forgiven_fat
unforgiven n fat e h =
    sym (is_tab fat (λ i. forgiven n (get_or fat i 0)) n e
    (λ i l. sym (⊎_elim (forgiven_kind n (get_or fat i 0)) (λ (r : get_or fat i 0 ≤ max_regular). forgiven_low n (get_or fat i 0) (h i l r)) (below_or max_regular (get_or fat i 0)))))

-- what a strict judging that refuses nothing says of a FAT of n entries
record Unrefused (n : ℕ) (fat fats difats : List ℕ) : Type 0 where
  pub marked : both (all_marked fat difats difat_sector) (all_marked fat fats fat_sector) ≡ true
  pub right : (i : ℕ) → i < n → RightAt n fat i
  pub sure : none_dangles n fat ≡ true

-- a strict judging refuses nothing only for these reasons
judged_told : (n : ℕ) (fat fats difats : List ℕ) → length fat ≡ n → refusal (fat_rows true n fat difats fats) ≡ 0 → Unrefused n fat fats difats
unfolding fat_rows distinct fresh
judged_told n fat fats difats e z =
    let none = given_none (fat_rows true n fat difats fats) refl z in
    let marked : both (all_marked fat difats difat_sector) (all_marked fat fats fat_sector) ≡ true = not-false _ (none 0 (omega arith)) in
    let same : marked_fat fat difats fats ≡ fat = marked_fat_marked fat difats fats marked in
    let number : first_wrong true n fat 0 n ≡ 0 =
    ap (λ (f : List ℕ). first_wrong true n f 0 n) (sym same)
    ∙ number_zero _ (first_number true n (marked_fat fat difats fats) 0 n) (none 1 (omega arith)) (none 2 (omega arith)) (none 3 (omega arith)) in
    let right : (i : ℕ) → i < n → RightAt n fat i = λ i l. right_told n fat i (passes_told true n fat 0 n number i (omega arith) (omega arith)) in
    let leaves : forgiven_fat n (marked_fat fat difats fats) ≡ fat = ap (forgiven_fat n) same ∙ unforgiven n fat e (λ i l. (right i l).below) in
    record { marked = marked; right = right; sure = ap (none_dangles n) (sym leaves) ∙ not-false _ (none 4 (omega arith)) }

module _ {S n : ℕ} {fat fats difats : List ℕ} where
  -- tables whose lists are right, and whose FAT the judging does not refuse, are well formed
  pub formed_told : length fat ≡ n → length fats ≡ fat_count S n → length difats ≡ difat_count S (length fats) → all_below n fats ≡ true → all_below n difats ≡ true → different fats ≡ true
      → different difats ≡ true → refusal (fat_rows true n fat difats fats) ≡ 0 → WellFormed S n fat fats difats
  formed_told e ek ed fb db fd dd z =
      let u = judged_told n fat fats difats e z in
      record {
        fat_length = e;
        fats_length = ek;
        difats_length = ed;
        fats_below = below_at n fats fb;
        difats_below = below_at n difats db;
        fats_differ = different_at fats fd;
        difats_differ = different_at difats dd;
        fats_marked = marked_at fat fats fat_sector (both_right (all_marked fat difats difat_sector) _ u.marked);
        difats_marked = marked_at fat difats difat_sector (both_left _ (all_marked fat fats fat_sector) u.marked);
        points_below = λ i l. (u.right i l).below;
        points_once = λ i j hi hj r s.
            ⊎_elim
            (λ (l : i < j). absurd ((u.right j hj).first (rw s at r) i l s))
            (λ (g : j ≤ i). ⊎_elim (λ (l : j < i). absurd ((u.right i hi).first r j l (sym s))) (λ (k : i ≤ j). omega arith) (below_or j i))
            (below_or i j);
        none_reserved = λ i l. (u.right i l).unreserved;
        none_dangles = dangles_told n fat u.sure;
      }

  module _ (f : WellFormed S n fat fats difats) where
    -- the sectors that well-formed tables list are marked
    all_marked_lem : both (all_marked fat difats difat_sector) (all_marked fat fats fat_sector) ≡ true
    all_marked_lem = both_true (marked_of fat difats difat_sector f.difats_marked) (marked_of fat fats fat_sector f.fats_marked)

    -- an opening leaves a well-formed FAT as it is
    pub formed_opens : forgiven_fat n (marked_fat fat difats fats) ≡ fat
    formed_opens = ap (forgiven_fat n) (marked_fat_marked fat difats fats all_marked_lem) ∙ unforgiven n fat f.fat_length f.points_below

    -- none of their sectors is wrong
    formed_passes : first_wrong true n fat 0 n ≡ 0
    formed_passes =
        passes_tested true n fat 0 n
        (λ i g h.
        let l : i < n = omega arith in
        right_tested n fat i (record {
          below = f.points_below i l;
          first = λ r j b s. let k : i ≡ j = f.points_once i j l (omega arith) r (sym s) in omega arith;
          unreserved = f.none_reserved i l;
        }))

    -- and a strict judging refuses nothing of it
    pub formed_judged : refusal (fat_rows true n fat difats fats) ≡ 0
    unfolding fat_rows refusal
    formed_judged =
        rw (all_marked_lem, formed_opens, marked_fat_marked fat difats fats all_marked_lem, formed_passes, dangles_tested n fat f.none_dangles)
