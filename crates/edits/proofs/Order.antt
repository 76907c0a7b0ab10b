-- The laws of the order in which sectors are taken and freed. Assumes nothing.
use Prim.Native.Nat.{ℕ, zero, suc, ◌+◌, ◌-◌, ◌≤◌, ◌<◌}
use mathlib.Core.Path.{◌≡◌, ◌∙◌, sym, ap}
use mathlib.Core.List.{List}
use mathlib.Core.Logic.{◌⊎◌, inl, inr, ⊎_elim, ◌≢◌}
use native.Mathlib.Omega.{arith}
use borrow.Author.Tests.{lt-ltb, le-ltb}
use lib.ListN.{length, get_or}
use lib.Seq.{get_or-set_same, get_or-set_other}
use Rattle.lists.proofs.Cases.{below_or, same_or}
use Rattle.consts.specs.Consts.{end_of_chain}
use Rattle.disk.specs.Disk.{one_more, count_after}
use Rattle.disk.proofs.Fitting.{ready_sectors, count_more, count_none}
use Rattle.hand.specs.Hand.{Hand, Chain, taken_id, take_sector, extend_one, extend, free_run}
use Rattle.hand.specs.Fits.{FitsMore}
use Rattle.moves.specs.Change.{cut, shrink, FitsShrink}
use Rattle.hand.proofs.Taking.{take_none, take_one, id_new, id_last}
use Rattle.hand.proofs.Linking.{one_count, one_free, one_sectors_new, one_sectors_same, one_fits, more_place}
use Rattle.moves.proofs.Extending.{extend_none, extend_more}
use Rattle.moves.proofs.Shrinking.{shrink_none, shrink_some, cut_fits, cut_counts}
use Rattle.moves.proofs.Staying.{linked_frees, one_frees_at, one_ids_at, one_ids_last}
use Rattle.edits.specs.Order.{taken_at}
use Rattle.edits.proofs.Freed.{free_run_stays, free_run_at}

-- one that is FREE, and one that is new
taken_free : (S n : ℕ) (frees : List ℕ) (free i : ℕ) → i < free → taken_at S n frees free i ≡ get_or frees (free - 1 - i) 0
unfolding taken_at
taken_free S n frees free i l = rw (lt-ltb i free l)

taken_new : (S n : ℕ) (frees : List ℕ) (free i : ℕ) → free ≤ i → taken_at S n frees free i ≡ count_after S n (suc (i - free)) - 1
unfolding taken_at
taken_new S n frees free i l = rw (le-ltb i free l)

-- the first that is taken
taken_first : (S : ℕ) (h : Hand) → taken_id S h ≡ taken_at S h.disk.sectors h.frees h.free 0
taken_first S h =
    ⊎_elim
    (λ (e : h.free ≡ 0).
    let z : 0 - h.free ≡ 0 = omega arith in
    let one : count_after S h.disk.sectors (suc (0 - h.free)) ≡ one_more S h.disk.sectors
    = ap (λ (k : ℕ). count_after S h.disk.sectors (suc k)) z ∙ count_more S h.disk.sectors 0 ∙ count_none S (one_more S h.disk.sectors) in
    id_new S h e ∙ omega (arith, ready_sectors S h.disk, one, taken_new S h.disk.sectors h.frees h.free 0 (omega (arith, e))))
    (λ (e : h.free ≢ 0).
    let z : h.free - 1 - 0 ≡ h.free - 1 = omega arith in
    id_last S h e ∙ ap (λ (k : ℕ). get_or h.frees k 0) (sym z) ∙ sym (taken_free S h.disk.sectors h.frees h.free 0 (omega (arith, e))))
    (same_or h.free 0)

-- the next ones are taken from what the first leaves
taken_next : (S : ℕ) (c : Chain) (i : ℕ)
    → taken_at S (extend_one S c).hand.disk.sectors (extend_one S c).hand.frees (extend_one S c).hand.free i ≡ taken_at S c.hand.disk.sectors c.hand.frees c.hand.free (suc i)
taken_next S c i = at (below_or (suc i) c.hand.free) (same_or c.hand.free 0)
  where
    at : (suc i < c.hand.free) ⊎ (c.hand.free ≤ suc i) → (c.hand.free ≡ 0) ⊎ (c.hand.free ≢ 0)
        → taken_at S (extend_one S c).hand.disk.sectors (extend_one S c).hand.frees (extend_one S c).hand.free i ≡ taken_at S c.hand.disk.sectors c.hand.frees c.hand.free (suc i)
    at (inl l) e =
        let place : (extend_one S c).hand.free - 1 - i ≡ c.hand.free - 1 - suc i = omega (arith, one_free S c) in
        taken_free S (extend_one S c).hand.disk.sectors (extend_one S c).hand.frees (extend_one S c).hand.free i (omega (arith, one_free S c, l))
        ∙ ap (λ (k : ℕ). get_or (extend_one S c).hand.frees k 0) place
        ∙ one_frees_at S c (c.hand.free - 1 - suc i) (omega (arith, l))
        ∙ sym (taken_free S c.hand.disk.sectors c.hand.frees c.hand.free (suc i) l)
    at (inr g) (inl e) =
        let past : suc (suc i - c.hand.free) ≡ suc (suc (i - (extend_one S c).hand.free)) = omega (arith, one_free S c, e) in
        taken_new S (extend_one S c).hand.disk.sectors (extend_one S c).hand.frees (extend_one S c).hand.free i (omega (arith, one_free S c, e))
        ∙ ap (λ (n : ℕ). count_after S n (suc (i - (extend_one S c).hand.free)) - 1) (one_sectors_new S c e)
        ∙ ap (λ (n : ℕ). n - 1) (sym (count_more S c.hand.disk.sectors (suc (i - (extend_one S c).hand.free))))
        ∙ ap (λ (k : ℕ). count_after S c.hand.disk.sectors k - 1) (sym past)
        ∙ sym (taken_new S c.hand.disk.sectors c.hand.frees c.hand.free (suc i) g)
    at (inr g) (inr e) =
        let past : i - (extend_one S c).hand.free ≡ suc i - c.hand.free = omega (arith, one_free S c, e) in
        taken_new S (extend_one S c).hand.disk.sectors (extend_one S c).hand.frees (extend_one S c).hand.free i (omega (arith, one_free S c, e, g))
        ∙ ap (λ (n : ℕ). count_after S n (suc (i - (extend_one S c).hand.free)) - 1) (one_sectors_same S c e)
        ∙ ap (λ (k : ℕ). count_after S c.hand.disk.sectors (suc k) - 1) past
        ∙ sym (taken_new S c.hand.disk.sectors c.hand.frees c.hand.free (suc i) g)

-- the ids that a chain has stay where it grows
pub extend_ids_stay : (S : ℕ) (c : Chain) (m j : ℕ) → j < c.count → get_or (extend S c m).ids j 0 ≡ get_or c.ids j 0
extend_ids_stay S c zero j l = rw extend_none
extend_ids_stay S c (suc m) j l = rw extend_more (extend_ids_stay S (extend_one S c) m j (omega (arith, one_count S c, l)) ∙ one_ids_at S c j l)

-- those that are taken follow, in their order
pub extend_taken : (S R m : ℕ) (c : Chain) → FitsMore S R m c → (i : ℕ) → i < m
    → get_or (extend S c m).ids (c.count + i) 0 ≡ taken_at S c.hand.disk.sectors c.hand.frees c.hand.free i
extend_taken S R zero c f i l = absurd (omega arith)
extend_taken S R (suc m) c f zero l =
    let here : c.count + 0 ≡ c.count = omega arith in
    rw (extend_more, here)
    (extend_ids_stay S (extend_one S c) m c.count (omega (arith, one_count S c)) ∙ one_ids_last S c (more_place f) ∙ taken_first S c.hand)
extend_taken S R (suc m) c f (suc i) l =
    let here : c.count + suc i ≡ (extend_one S c).count + i = omega (arith, one_count S c) in
    rw (extend_more, here) (extend_taken S R m (extend_one S c) (one_fits f) i (omega arith) ∙ taken_next S c i)

-- the first places of the free list stay,
pub extend_frees_stay : (S : ℕ) (c : Chain) (m j : ℕ) → j < c.hand.free - m → get_or (extend S c m).hand.frees j 0 ≡ get_or c.hand.frees j 0
extend_frees_stay S c zero j l = rw extend_none
extend_frees_stay S c (suc m) j l = rw extend_more (extend_frees_stay S (extend_one S c) m j (omega (arith, one_free S c, l)) ∙ one_frees_at S c j (omega (arith, l)))

-- a place that is given up is zero then, and one behind the count stays
take_zero : (S : ℕ) (h : Hand) → h.free ≢ 0 → h.free ≤ length h.frees → get_or (take_sector S h).frees (h.free - 1) 0 ≡ 0
take_zero S h e l = rw (take_one S h e) (get_or-set_same h.frees (h.free - 1) 0 0 (omega (arith, e, l)))

take_past : (S : ℕ) (h : Hand) (j : ℕ) → h.free ≤ j → get_or (take_sector S h).frees j 0 ≡ get_or h.frees j 0
take_past S h j l =
    ⊎_elim
    (λ (e : h.free ≡ 0). rw (take_none S h e))
    (λ (e : h.free ≢ 0). rw (take_one S h e) (get_or-set_other h.frees (h.free - 1) j 0 0 (omega (arith, e, l))))
    (same_or h.free 0)

one_frees : (S : ℕ) (c : Chain) → (extend_one S c).hand.frees ≡ (take_sector S c.hand).frees
unfolding extend_one
one_frees S c = linked_frees S (take_sector S c.hand) c.ids c.count (taken_id S c.hand)

pub extend_frees_past : (S : ℕ) (c : Chain) (m j : ℕ) → c.hand.free ≤ j → get_or (extend S c m).hand.frees j 0 ≡ get_or c.hand.frees j 0
extend_frees_past S c zero j l = rw extend_none
extend_frees_past S c (suc m) j l =
    rw extend_more
    (extend_frees_past S (extend_one S c) m j (omega (arith, one_free S c, l)) ∙ ap (λ (xs : List ℕ). get_or xs j 0) (one_frees S c) ∙ take_past S c.hand j l)

pub extend_frees_zero : (S R m : ℕ) (c : Chain) → FitsMore S R m c → (j : ℕ) → c.hand.free - m ≤ j → j < c.hand.free → get_or (extend S c m).hand.frees j 0 ≡ 0
extend_frees_zero S R zero c f j l h = absurd (omega arith)
extend_frees_zero S R (suc m) c f j l h =
    ⊎_elim
    (λ (k : j < (extend_one S c).hand.free). rw extend_more (extend_frees_zero S R m (extend_one S c) (one_fits f) j (omega (arith, one_free S c, l)) k))
    (λ (g : (extend_one S c).hand.free ≤ j).
    let e : j ≡ c.hand.free - 1 = omega (arith, one_free S c, g, h) in
    rw (extend_more, e)
    (extend_frees_past S (extend_one S c) m (c.hand.free - 1) (omega (arith, one_free S c))
    ∙ ap (λ (xs : List ℕ). get_or xs (c.hand.free - 1) 0) (one_frees S c)
    ∙ take_zero S c.hand (omega (arith, h)) (omega (arith, f.fits.fits.free_few, f.fits.fits.disk.inside, f.fits.fits.frees_long))))
    (below_or j (extend_one S c).hand.free)

-- sectors are freed
module _ (S R m : ℕ) (c : Chain) (f : FitsShrink S R m c) where
  cut_frees : (cut S c.hand c.ids m).frees ≡ c.hand.frees
  cut_frees = linked_frees S c.hand c.ids m end_of_chain

  -- those that the free list had stay where they are,
  pub shrink_frees_stay : (j : ℕ) → j < c.hand.free → get_or (shrink S c m).hand.frees j 0 ≡ get_or c.hand.frees j 0
  shrink_frees_stay j l =
      ⊎_elim
      (λ (h : m < c.count).
      rw (shrink_some S c m h)
      (free_run_stays S (cut S c.hand c.ids m) c.ids m (c.count - m) j (omega (arith, (cut_counts S R m c f).1, l))
      ∙ ap (λ (xs : List ℕ). get_or xs j 0) cut_frees))
      (λ (g : c.count ≤ m). rw (shrink_none S c m g))
      (below_or m c.count)

  -- and those that are freed follow, in their order
  pub shrink_freed : (i : ℕ) → i < c.count - m → get_or (shrink S c m).hand.frees (c.hand.free + i) 0 ≡ get_or c.ids (m + i) 0
  shrink_freed i l =
      let h : m < c.count = omega arith in
      let k : c.hand.free ≡ (cut S c.hand c.ids m).free = sym (cut_counts S R m c f).1 in
      let g = cut_fits S R m c f in
      rw (shrink_some S c m h)
      (ap (λ (q : ℕ). get_or (free_run S (cut S c.hand c.ids m) c.ids m (c.count - m)).frees (q + i) 0) k
      ∙ free_run_at S (cut S c.hand c.ids m) c.ids m (c.count - m) i
      (omega (arith, (cut_counts S R m c f).0, (cut_counts S R m c f).1, g.frees_long, f.fits.few, f.within, f.fits.fits.disk.inside)) l)
