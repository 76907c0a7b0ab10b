-- The laws of sectors that are listed once: a chain extended lists none twice. Assumes nothing.
use Prim.Native.Nat.{ℕ, zero, suc, ◌-◌, ◌≤◌, ◌<◌}
use mathlib.Core.Path.{◌≡◌, refl, ◌∙◌, sym, ap}
use mathlib.Core.List.{List}
use mathlib.Core.Logic.{◌⊎◌, inl, inr, ⊎_elim, ◌≢◌}
use native.Mathlib.Omega.{arith}
use lib.ListN.{length, get_or}
use lib.Seq.{get_or-set_same, get_or-set_other}
use Rattle.lists.proofs.Cases.{same_or}
use Rattle.disk.specs.Disk.{Disk, ready}
use Rattle.room.proofs.Needing.{one_more_between}
use Rattle.disk.proofs.Fitting.{ready_sectors}
use Rattle.hand.specs.Hand.{Hand, Chain, point, linked, taken_id, take_sector, extend_one, extend}
use Rattle.hand.specs.Fits.{FitsChain, FitsMore}
use Rattle.moves.specs.Change.{Apart}
use Rattle.hand.proofs.Taking.{take_one, id_new, id_last}
use Rattle.hand.proofs.Linking.{linked_none, linked_last, one_count, one_free, more_place, one_fits}
use Rattle.moves.proofs.Extending.{extend_none, extend_more}

-- a sector that is new is none of those that there are
pub ready_least : (S : ℕ) (d : Disk) → d.sectors ≤ (ready S d).sectors
ready_least S d = omega (arith, ready_sectors S d, (one_more_between S d.sectors).0)

-- pointing and linking leave the free list
pub point_frees : (S : ℕ) (h : Hand) (i v : ℕ) → (point S h i v).frees ≡ h.frees
unfolding point
point_frees S h i v = refl

pub linked_frees : (S : ℕ) (h : Hand) (ids : List ℕ) (count id : ℕ) → (linked S h ids count id).frees ≡ h.frees
linked_frees S h ids count id =
    ⊎_elim
    (λ (e : count ≡ 0). rw (linked_none S h ids count id e))
    (λ (e : count ≢ 0). rw (linked_last S h ids count id e) (point_frees S h (get_or ids (count - 1) 0) id))
    (same_or count 0)

-- the sectors that stay FREE stay where they are listed
pub take_frees_at : (S : ℕ) (h : Hand) (j : ℕ) → j < h.free - 1 → get_or (take_sector S h).frees j 0 ≡ get_or h.frees j 0
take_frees_at S h j l =
    let e : h.free ≢ 0 = omega arith in
    rw (take_one S h e) (get_or-set_other h.frees (h.free - 1) j 0 0 (omega arith))

pub one_frees_at : (S : ℕ) (c : Chain) (j : ℕ) → j < c.hand.free - 1 → get_or (extend_one S c).hand.frees j 0 ≡ get_or c.hand.frees j 0
unfolding extend_one
one_frees_at S c j l = rw (linked_frees S (take_sector S c.hand) c.ids c.count (taken_id S c.hand)) (take_frees_at S c.hand j l)

-- and so do the ids of the chain
pub one_ids_at : (S : ℕ) (c : Chain) (j : ℕ) → j < c.count → get_or (extend_one S c).ids j 0 ≡ get_or c.ids j 0
unfolding extend_one
one_ids_at S c j l = get_or-set_other c.ids c.count j (taken_id S c.hand) 0 (omega arith)

pub one_ids_last : (S : ℕ) (c : Chain) → c.count < length c.ids → get_or (extend_one S c).ids c.count 0 ≡ taken_id S c.hand
unfolding extend_one
one_ids_last S c l = get_or-set_same c.ids c.count (taken_id S c.hand) 0 l

-- the sector that is taken is none of the chain's, and is FREE no more
module _ (S R : ℕ) (c : Chain) (f : FitsChain S R c) (a : Apart c) where
  pub taken_other : (i : ℕ) → i < c.count → get_or c.ids i 0 ≢ taken_id S c.hand
  taken_other i l =
      ⊎_elim
      (λ (e : c.hand.free ≡ 0). λ (q : get_or c.ids i 0 ≡ taken_id S c.hand).
      absurd (omega (arith, q, f.within i l, id_new S c.hand e, ready_least S c.hand.disk)))
      (λ (e : c.hand.free ≢ 0). λ (q : get_or c.ids i 0 ≡ taken_id S c.hand).
      a.ids_frees i (c.hand.free - 1) l (omega (arith, e)) (q ∙ id_last S c.hand e))
      (same_or c.hand.free 0)

  pub taken_gone : (j : ℕ) → j < c.hand.free - 1 → taken_id S c.hand ≢ get_or c.hand.frees j 0
  taken_gone j l q =
      let e : c.hand.free ≢ 0 = omega arith in
      let s : c.hand.free - 1 ≡ j = a.frees_once (c.hand.free - 1) j (omega arith) (omega arith) (sym (id_last S c.hand e) ∙ q) in
      absurd (omega (arith, s))

-- one sector more: none is listed twice then
module _ (S R m : ℕ) (c : Chain) (f : FitsMore S R (suc m) c) (a : Apart c) where
  one_ids_once : (i j : ℕ) → (i ≡ c.count) ⊎ (i ≢ c.count) → (j ≡ c.count) ⊎ (j ≢ c.count) → i < suc c.count → j < suc c.count
      → get_or (extend_one S c).ids i 0 ≡ get_or (extend_one S c).ids j 0 → i ≡ j
  one_ids_once i j (inl p) (inl q) hi hj e = p ∙ sym q
  one_ids_once i j (inl p) (inr q) hi hj e =
      let l : j < c.count = omega arith in
      let t : get_or (extend_one S c).ids i 0 ≡ taken_id S c.hand = ap (λ (k : ℕ). get_or (extend_one S c).ids k 0) p ∙ one_ids_last S c (more_place f) in
      absurd (taken_other S R c f.fits a j l (sym (one_ids_at S c j l) ∙ sym e ∙ t))
  one_ids_once i j (inr p) (inl q) hi hj e =
      let l : i < c.count = omega arith in
      let t : get_or (extend_one S c).ids j 0 ≡ taken_id S c.hand = ap (λ (k : ℕ). get_or (extend_one S c).ids k 0) q ∙ one_ids_last S c (more_place f) in
      absurd (taken_other S R c f.fits a i l (sym (one_ids_at S c i l) ∙ e ∙ t))
  one_ids_once i j (inr p) (inr q) hi hj e =
      let li : i < c.count = omega arith in
      let lj : j < c.count = omega arith in
      a.ids_once i j li lj (sym (one_ids_at S c i li) ∙ e ∙ one_ids_at S c j lj)

  one_ids_frees : (i j : ℕ) → (i ≡ c.count) ⊎ (i ≢ c.count) → i < suc c.count → j < c.hand.free - 1
      → get_or (extend_one S c).ids i 0 ≢ get_or (extend_one S c).hand.frees j 0
  one_ids_frees i j (inl p) hi hj e =
      let t : get_or (extend_one S c).ids i 0 ≡ taken_id S c.hand = ap (λ (k : ℕ). get_or (extend_one S c).ids k 0) p ∙ one_ids_last S c (more_place f) in
      taken_gone S R c f.fits a j hj (sym t ∙ e ∙ one_frees_at S c j hj)
  one_ids_frees i j (inr p) hi hj e =
      let l : i < c.count = omega arith in
      a.ids_frees i j l (omega arith) (sym (one_ids_at S c i l) ∙ e ∙ one_frees_at S c j hj)

  pub one_apart : Apart (extend_one S c)
  one_apart =
      record {
        ids_once = λ i j hi hj e. one_ids_once i j (same_or i c.count) (same_or j c.count) (rw one_count at hi) (rw one_count at hj) e;
        frees_once = λ i j hi hj e.
            let li : i < c.hand.free - 1 = rw one_free at hi in
            let lj : j < c.hand.free - 1 = rw one_free at hj in
            a.frees_once i j (omega arith) (omega arith) (sym (one_frees_at S c i li) ∙ e ∙ one_frees_at S c j lj);
        ids_frees = λ i j hi hj. one_ids_frees i j (same_or i c.count) (rw one_count at hi) (rw one_free at hj);
      }

-- m sectors more
pub extend_apart : (S R m : ℕ) (c : Chain) → FitsMore S R m c → Apart c → Apart (extend S c m)
extend_apart S R zero c f a = rw extend_none a
extend_apart S R (suc m) c f a = rw extend_more (extend_apart S R m (extend_one S c) (one_fits f) (one_apart S R m c f a))
