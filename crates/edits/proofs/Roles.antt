-- A change leaves each sector one role. Assumes nothing.
use Prim.Native.Nat.{ℕ, zero, suc, ◌+◌, ◌-◌, ◌≤◌, ◌<◌}
use mathlib.Core.Path.{◌≡◌, refl, ◌∙◌, sym, ap}
use mathlib.Core.List.{List}
use mathlib.Core.Logic.{◌⊎◌, inl, inr, ⊎_elim, ◌≢◌}
use native.Mathlib.Omega.{arith}
use lib.ListN.{length, get_or}
use Rattle.lists.proofs.Cases.{below_or, same_or}
use Rattle.consts.specs.Consts.{end_of_chain}
use Rattle.fat.specs.Lists.{ceil}
use Rattle.room.specs.Needed.{resize_more, write_more}
use Rattle.hand.specs.Hand.{Chain, taken_id, extend_one, extend}
use Rattle.hand.specs.Fits.{FitsChain, FitsMore}
use Rattle.moves.specs.Change.{cut, shrink, with_image, resized, written, edited, Apart, FitsShrink, FitsResize, FitsWrite, FitsEdit}
use Rattle.moves.specs.declared.change.Edit.{Edit}
use Rattle.moves.specs.declared.change.Edit.TheVariants.{Write, Resize}
use Rattle.hand.proofs.Taking.{id_new, id_last}
use Rattle.hand.proofs.Linking.{one_free, one_fits, more_place}
use Rattle.moves.proofs.Extending.{extend_none, extend_more}
use Rattle.moves.proofs.Shrinking.{shrink_none, shrink_some, shrink_fits, shrink_count, shrink_free, shrink_ids}
use Rattle.moves.proofs.Staying.{ready_least, one_frees_at, one_apart}
use Rattle.moves.proofs.Changing.{resized_more, resized_fewer, resize_shrink, resized_fits, written_fits}
use Rattle.moves.proofs.Editing.{edit_write, edit_resize}
use Rattle.edits.specs.Roles.{Roles, Once, Separate, fats_held, difats_held}
use Rattle.edits.proofs.Listed.{Listed, listed_fewer, listed_more, listed_once, listed_separate}
use Rattle.edits.proofs.Growing.{GrownTo, SameLists, linked_lists, one_grown}
use Rattle.edits.proofs.Freed.{free_run_lists}
use Rattle.edits.proofs.Order.{shrink_frees_stay, shrink_freed}

-- roles go by the lists alone
module _ (S R : ℕ) (c e : Chain) (f : FitsChain S R e) (same : SameLists c.hand.disk e.hand.disk) where
  -- the FAT's and the DIFAT's
  pub lists_fats : Roles S R c → Once e.hand.disk.fats (fats_held S e.hand.disk)
  lists_fats r = rw (same.fats, same.sectors) r.fats_once

  pub lists_difats : Roles S R c → Once e.hand.disk.difats (difats_held S e.hand.disk)
  lists_difats r = rw (same.difats, same.sectors) r.difats_once

  pub lists_both : Roles S R c → Separate e.hand.disk.fats (fats_held S e.hand.disk) e.hand.disk.difats (difats_held S e.hand.disk)
  lists_both r = rw (same.fats, same.difats, same.sectors) r.fats_difats

  -- and every list
  pub roles_same : e.hand.frees ≡ c.hand.frees → e.hand.free ≡ c.hand.free → e.ids ≡ c.ids → e.count ≡ c.count → Roles S R c → Roles S R e
  roles_same frees free ids count r =
      record {
        fits = f;
        apart = record {
          ids_once = rw (ids, count) r.apart.ids_once;
          frees_once = rw (frees, free) r.apart.frees_once;
          ids_frees = rw (ids, count, frees, free) r.apart.ids_frees;
        };
        fats_once = lists_fats r;
        difats_once = lists_difats r;
        fats_difats = lists_both r;
        ids_fats = rw (ids, count, same.fats, same.sectors) r.ids_fats;
        ids_difats = rw (ids, count, same.difats, same.sectors) r.ids_difats;
        frees_fats = rw (frees, free, same.fats, same.sectors) r.frees_fats;
        frees_difats = rw (frees, free, same.difats, same.sectors) r.frees_difats;
      }

-- a sector is taken: the FAT and the DIFAT have what they had and new sectors, the free list loses its end, and the chain may get the sector
module _ (S R : ℕ) (c e : Chain) (id : ℕ) (f : FitsChain S R e) (a : Apart e) (r : Roles S R c) (g : GrownTo S c.hand.disk e.hand.disk id) where
  fats_other : (p : ℕ) → p < fats_held S c.hand.disk → (v : ℕ) → c.hand.disk.sectors ≤ v → get_or c.hand.disk.fats p 0 ≢ v
  fats_other p l v h = omega (arith, r.fits.fits.disk.fats_below p l, h)

  difats_other : (p : ℕ) → p < difats_held S c.hand.disk → (v : ℕ) → c.hand.disk.sectors ≤ v → get_or c.hand.disk.difats p 0 ≢ v
  difats_other p l v h = omega (arith, r.fits.fits.disk.difats_below p l, h)

  ids_other : (p : ℕ) → p < c.count → (v : ℕ) → c.hand.disk.sectors ≤ v → get_or c.ids p 0 ≢ v
  ids_other p l v h = omega (arith, r.fits.within p l, h)

  frees_other : (p : ℕ) → p < c.hand.free → (v : ℕ) → c.hand.disk.sectors ≤ v → get_or c.hand.frees p 0 ≢ v
  frees_other p l v h = omega (arith, r.fits.fits.frees_below p l, h)

  pub roles_taken : Listed c.ids e.ids c.count e.count id → e.hand.free ≤ c.hand.free
      → ((p : ℕ) → p < e.hand.free → get_or e.hand.frees p 0 ≡ get_or c.hand.frees p 0)
      → ((p : ℕ) → p < fats_held S c.hand.disk → get_or c.hand.disk.fats p 0 ≢ id)
      → ((p : ℕ) → p < difats_held S c.hand.disk → get_or c.hand.disk.difats p 0 ≢ id) → Roles S R e
  roles_taken ids fewer frees no_fat no_difat =
      record {
        fits = f;
        apart = a;
        fats_once = listed_once g.fats r.fats_once (λ p l. fats_other p l g.fat g.fat_new);
        difats_once = listed_once g.difats r.difats_once (λ p l. difats_other p l g.difat g.difat_new);
        fats_difats =
            listed_separate g.fats g.difats r.fats_difats (λ p l. fats_other p l g.difat g.difat_new)
            (λ p l. difats_other p l g.fat g.fat_new) g.fat_difat;
        ids_fats =
            listed_separate ids g.fats r.ids_fats (λ p l. ids_other p l g.fat g.fat_new) no_fat (λ s. g.fat_id (sym s));
        ids_difats =
            listed_separate ids g.difats r.ids_difats (λ p l. ids_other p l g.difat g.difat_new) no_difat (λ s. g.difat_id (sym s));
        frees_fats =
            listed_separate (frees_listed (suc g.fat)) g.fats r.frees_fats (λ p l. frees_other p l g.fat g.fat_new)
            (λ p l. fats_other p l (suc g.fat) (omega (arith, g.fat_new))) (omega arith);
        frees_difats =
            listed_separate (frees_listed (suc g.difat)) g.difats r.frees_difats (λ p l. frees_other p l g.difat g.difat_new)
            (λ p l. difats_other p l (suc g.difat) (omega (arith, g.difat_new))) (omega arith);
      }
    where
      frees_listed : (v : ℕ) → Listed c.hand.frees e.hand.frees c.hand.free e.hand.free v
      frees_listed v = listed_fewer c.hand.frees e.hand.frees c.hand.free e.hand.free v fewer frees

-- the sector that is taken, new or FREE, was none of the FAT's and none of the DIFAT's
module _ (S R : ℕ) (c : Chain) (r : Roles S R c) where
  taken_no_fat : (p : ℕ) → p < fats_held S c.hand.disk → get_or c.hand.disk.fats p 0 ≢ taken_id S c.hand
  taken_no_fat p l =
      ⊎_elim
      (λ (e : c.hand.free ≡ 0). omega (arith, id_new S c.hand e, ready_least S c.hand.disk, r.fits.fits.disk.fats_below p l))
      (λ (e : c.hand.free ≢ 0). λ (q : get_or c.hand.disk.fats p 0 ≡ taken_id S c.hand).
      r.frees_fats (c.hand.free - 1) p (omega (arith, e)) l (sym (id_last S c.hand e) ∙ sym q))
      (same_or c.hand.free 0)

  taken_no_difat : (p : ℕ) → p < difats_held S c.hand.disk → get_or c.hand.disk.difats p 0 ≢ taken_id S c.hand
  taken_no_difat p l =
      ⊎_elim
      (λ (e : c.hand.free ≡ 0). omega (arith, id_new S c.hand e, ready_least S c.hand.disk, r.fits.fits.disk.difats_below p l))
      (λ (e : c.hand.free ≢ 0). λ (q : get_or c.hand.disk.difats p 0 ≡ taken_id S c.hand).
      r.frees_difats (c.hand.free - 1) p (omega (arith, e)) l (sym (id_last S c.hand e) ∙ sym q))
      (same_or c.hand.free 0)

-- a sector is taken, linked and listed
pub one_listed : (S : ℕ) (c : Chain) → c.count < length c.ids → Listed c.ids (extend_one S c).ids c.count (extend_one S c).count (taken_id S c.hand)
unfolding extend_one
one_listed S c l = listed_more c.ids _ c.count _ (taken_id S c.hand) refl refl l

pub one_roles : (S R m : ℕ) (c : Chain) → FitsMore S R (suc m) c → Roles S R c → Roles S R (extend_one S c)
one_roles S R m c f r =
    roles_taken S R c (extend_one S c) (taken_id S c.hand) (one_fits f).fits (one_apart S R m c f r.apart) r (one_grown f) (one_listed S c (more_place f))
    (omega (arith, one_free S c)) (λ p l. one_frees_at S c p (omega (arith, one_free S c, l))) (taken_no_fat S R c r) (taken_no_difat S R c r)

-- a chain is extended
pub extend_roles : (S R m : ℕ) (c : Chain) → FitsMore S R m c → Roles S R c → Roles S R (extend S c m)
extend_roles S R zero c f r = rw extend_none r
extend_roles S R (suc m) c f r = rw extend_more (extend_roles S R m (extend_one S c) (one_fits f) (one_roles S R m c f r))

-- a chain is cut, and its tail freed
pub shrink_lists : (S R m : ℕ) (c : Chain) → FitsShrink S R m c → SameLists c.hand.disk (shrink S c m).hand.disk
shrink_lists S R m c f =
    ⊎_elim
    (λ (l : m < c.count).
    let one = linked_lists S c.hand c.ids m end_of_chain in
    let run = free_run_lists S (cut S c.hand c.ids m) c.ids m (c.count - m) in
    rw (shrink_some S c m l)
    (record { sectors = run.sectors ∙ one.sectors; fats = run.fats ∙ one.fats; difats = run.difats ∙ one.difats }))
    (λ (g : c.count ≤ m). rw (shrink_none S c m g) (record { sectors = refl; fats = refl; difats = refl }))
    (below_or m c.count)

module _ (S R m : ℕ) (c : Chain) (f : FitsShrink S R m c) (r : Roles S R c) where
  -- a sector that is FREE then was FREE, or is one of the tail
  abbrev pub Freed : ℕ → Type 0
  Freed q =
      ((q < c.hand.free) × (get_or (shrink S c m).hand.frees q 0 ≡ get_or c.hand.frees q 0))
      ⊎ ((m + (q - c.hand.free) < c.count) × (c.hand.free ≤ q) × (get_or (shrink S c m).hand.frees q 0 ≡ get_or c.ids (m + (q - c.hand.free)) 0))

  pub freed_from : (q : ℕ) → q < (shrink S c m).hand.free → Freed q
  freed_from q l =
      ⊎_elim
      (λ (h : q < c.hand.free). inl (h, shrink_frees_stay S R m c f q h))
      (λ (h : c.hand.free ≤ q).
      let i : q - c.hand.free < c.count - m = omega (arith, l, shrink_free S R m c f) in
      let here : q ≡ c.hand.free + (q - c.hand.free) = omega arith in
      inr (omega (arith, i), h, ap (λ (k : ℕ). get_or (shrink S c m).hand.frees k 0) here ∙ shrink_freed S R m c f (q - c.hand.free) i))
      (below_or q c.hand.free)

  freed_once : (i j : ℕ) → Freed i → Freed j → get_or (shrink S c m).hand.frees i 0 ≡ get_or (shrink S c m).hand.frees j 0 → i ≡ j
  freed_once i j (inl a) (inl b) e = r.apart.frees_once i j a.0 b.0 (sym a.1 ∙ e ∙ b.1)
  freed_once i j (inl a) (inr b) e = absurd (r.apart.ids_frees (m + (j - c.hand.free)) i b.0 a.0 (sym b.2 ∙ sym e ∙ a.1))
  freed_once i j (inr a) (inl b) e = absurd (r.apart.ids_frees (m + (i - c.hand.free)) j a.0 b.0 (sym a.2 ∙ e ∙ b.1))
  freed_once i j (inr a) (inr b) e =
      let s : m + (i - c.hand.free) ≡ m + (j - c.hand.free) = r.apart.ids_once (m + (i - c.hand.free)) (m + (j - c.hand.free)) a.0 b.0 (sym a.2 ∙ e ∙ b.2) in
      omega (arith, s, a.1, b.1)

  kept_freed : (i q : ℕ) → i < m → Freed q → get_or c.ids i 0 ≢ get_or (shrink S c m).hand.frees q 0
  kept_freed i q h (inl a) e = r.apart.ids_frees i q (omega (arith, h, f.within)) a.0 (e ∙ a.1)
  kept_freed i q h (inr a) e =
      let s : i ≡ m + (q - c.hand.free) = r.apart.ids_once i (m + (q - c.hand.free)) (omega (arith, h, f.within)) a.0 (e ∙ a.2) in
      absurd (omega (arith, s, h))

  freed_fats : (q p : ℕ) → Freed q → p < fats_held S c.hand.disk → get_or (shrink S c m).hand.frees q 0 ≢ get_or c.hand.disk.fats p 0
  freed_fats q p (inl a) l e = r.frees_fats q p a.0 l (sym a.1 ∙ e)
  freed_fats q p (inr a) l e = r.ids_fats (m + (q - c.hand.free)) p a.0 l (sym a.2 ∙ e)

  freed_difats : (q p : ℕ) → Freed q → p < difats_held S c.hand.disk → get_or (shrink S c m).hand.frees q 0 ≢ get_or c.hand.disk.difats p 0
  freed_difats q p (inl a) l e = r.frees_difats q p a.0 l (sym a.1 ∙ e)
  freed_difats q p (inr a) l e = r.ids_difats (m + (q - c.hand.free)) p a.0 l (sym a.2 ∙ e)

  kept_below : (i : ℕ) → i < (shrink S c m).count → i < m
  kept_below i l = omega (arith, l, shrink_count S R m c f)

  kept_id : (i : ℕ) → i < (shrink S c m).count → get_or (shrink S c m).ids i 0 ≡ get_or c.ids i 0
  kept_id i l = shrink_ids S R m c f i (kept_below i l)

  pub shrink_roles : Roles S R (shrink S c m)
  shrink_roles =
      let same = shrink_lists S R m c f in
      let within : (i : ℕ) → i < (shrink S c m).count → i < c.count = λ i l. omega (arith, kept_below i l, f.within) in
      record {
        fits = shrink_fits S R m c f;
        apart = record {
          ids_once = λ i j hi hj e. r.apart.ids_once i j (within i hi) (within j hj) (sym (kept_id i hi) ∙ e ∙ kept_id j hj);
          frees_once = λ i j hi hj e. freed_once i j (freed_from i hi) (freed_from j hj) e;
          ids_frees = λ i j hi hj e. kept_freed i j (kept_below i hi) (freed_from j hj) (sym (kept_id i hi) ∙ e);
        };
        fats_once = lists_fats S R c (shrink S c m) (shrink_fits S R m c f) same r;
        difats_once = lists_difats S R c (shrink S c m) (shrink_fits S R m c f) same r;
        fats_difats = lists_both S R c (shrink S c m) (shrink_fits S R m c f) same r;
        ids_fats = rw (same.fats, same.sectors) (λ p q hp hq e. r.ids_fats p q (within p hp) hq (sym (kept_id p hp) ∙ e));
        ids_difats = rw (same.difats, same.sectors) (λ p q hp hq e. r.ids_difats p q (within p hp) hq (sym (kept_id p hp) ∙ e));
        frees_fats = rw (same.fats, same.sectors) (λ p q hp hq e. freed_fats p q (freed_from p hp) hq e);
        frees_difats = rw (same.difats, same.sectors) (λ p q hp hq e. freed_difats p q (freed_from p hp) hq e);
      }

-- the image holds other bytes
pub with_roles : (S R : ℕ) (c : Chain) (img : List ℕ) → FitsChain S R (with_image c img) → Roles S R c → Roles S R (with_image c img)
unfolding with_image
with_roles S R c img f r = roles_same S R c (with_image c img) f (record { sectors = refl; fats = refl; difats = refl }) refl refl refl refl r

-- document 01, Resize
pub resized_roles : (S R len : ℕ) (c : Chain) → FitsResize S R len c → Roles S R c → Roles S R (resized S c len)
resized_roles S R len c f r =
    ⊎_elim
    (λ (l : c.count < ceil len S). rw (resized_more S c len l) (extend_roles S R (resize_more S c.count len) c f.fits r))
    (λ (g : ceil len S ≤ c.count).
    let fits = resized_fits S R len c f in
    rw (resized_fewer S c len g)
    (with_roles S R (shrink S c (ceil len S)) _ (rw (resized_fewer S c len g) at fits) (shrink_roles S R (ceil len S) c (resize_shrink S R len c f (ceil len S) g) r)))
    (below_or c.count (ceil len S))

-- document 01, Write
pub written_roles : (S R offset : ℕ) (buf : List ℕ) (c : Chain) → FitsWrite S R offset (length buf) c → Roles S R c → Roles S R (written S c offset buf)
unfolding written
written_roles S R offset buf c f r =
    with_roles S R (extend S c (write_more S c.count offset (length buf))) _ (written_fits S R offset buf c f)
    (extend_roles S R (write_more S c.count offset (length buf)) c f.fits r)

-- either, by the edit
pub edited_roles : (S R : ℕ) (e : Edit) (buf : List ℕ) (c : Chain) → FitsEdit S R e (length buf) c → Roles S R c → Roles S R (edited S c e buf)
edited_roles S R (Write offset) buf c f r = written_roles S R offset buf c (edit_write S R offset (length buf) c f) r
edited_roles S R (Resize len) buf c f r = resized_roles S R len c (edit_resize S R len (length buf) c f) r
