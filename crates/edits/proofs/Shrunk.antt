-- The bytes of an image after a chain is cut and its tail freed: only the FAT's sectors are stored to. Assumes nothing.
use Prim.Native.Nat.{ℕ, zero, suc, ◌+◌, ◌-◌, ◌*◌, ◌≤◌, ◌<◌}
use mathlib.Core.Path.{◌≡◌, ◌∙◌, sym, ap}
use mathlib.Core.List.{List}
use mathlib.Core.Logic.{⊎_elim}
use native.Mathlib.Omega.{arith}
use lib.ListN.{length, get_or, take}
use lib.Seq.{get_or-take, take-take, length-take-le}
use Rattle.lists.proofs.Cases.{below_or}
use Rattle.consts.specs.Consts.{end_of_chain, free_sector}
use Rattle.sectors.specs.Sectors.{start_of, sector_of}
use Rattle.chain.specs.Bytes.{chain_bytes, Lies}
use Rattle.stores.proofs.Apart.{sector_other}
use Rattle.disk.specs.Disk.{Disk}
use Rattle.disk.proofs.Keeping.{sectors_inside}
use Rattle.hand.specs.Hand.{Hand, Chain, free_sector_of, free_run}
use Rattle.hand.specs.Fits.{FitsHand, FitsFrees}
use Rattle.moves.specs.Change.{cut, shrink, ids_of, FitsShrink}
use Rattle.hand.proofs.Freeing.{free_none, free_more, frees_more}
use Rattle.moves.proofs.Shrinking.{shrink_none, shrink_some, shrink_last, shrink_frees, shrink_count, shrink_ids, shrink_ids_of, shrink_fits, shrink_long, shrink_place}
use Rattle.moves.proofs.Changing.{chain_lies}
use Rattle.edits.specs.Roles.{Roles}
use Rattle.edits.specs.Untouched.{Unlisted, Other}
use Rattle.edits.proofs.Growing.{SameLists, linked_lists}
use Rattle.edits.proofs.Freed.{free_one_lists}
use Rattle.edits.proofs.Taking.{NoFat, point_spares, linked_spares}
use Rattle.edits.proofs.Roles.{shrink_lists, freed_from}
use Rattle.edits.proofs.Joining.{sector_stays, chain_stays, chain_front}

-- the FAT's sectors are the same
same_no_fat : (S : ℕ) (d e : Disk) (b : ℕ) → SameLists d e → NoFat S d b → NoFat S e b
same_no_fat S d e b s n p l = rw s.fats (n p (rw (← s.sectors) l))

-- one sector freed, and a run
free_spares : (S R : ℕ) (h : Hand) (i : ℕ) → FitsHand S R h → i < h.disk.sectors → (b : ℕ) → NoFat S h.disk b → get_or (free_sector_of S h i).disk.image b 0 ≡ get_or h.disk.image b 0
unfolding free_sector_of
free_spares S R h i f l b n = point_spares S R h i free_sector f l b n

free_run_spares : (S R i c : ℕ) (ids : List ℕ) (h : Hand) → FitsFrees S R i c ids h → (b : ℕ) → NoFat S h.disk b → get_or (free_run S h ids i c).disk.image b 0 ≡ get_or h.disk.image b 0
free_run_spares S R i zero ids h f b n = rw free_none
free_run_spares S R i (suc c) ids h f b n =
    rw free_more
    (free_run_spares S R (suc i) c ids (free_sector_of S h (get_or ids i 0)) (frees_more S R i c ids h f) b
    (same_no_fat S h.disk (free_sector_of S h (get_or ids i 0)).disk b (free_one_lists S h (get_or ids i 0)) n)
    ∙ free_spares S R h (get_or ids i 0) f.fits (f.within i (omega arith)) b n)

module _ (S R m : ℕ) (c : Chain) (f : FitsShrink S R m c) where
  -- a chain is cut, and its tail freed
  pub shrunk_spares : (b : ℕ) → NoFat S c.hand.disk b → get_or (shrink S c m).hand.disk.image b 0 ≡ get_or c.hand.disk.image b 0
  shrunk_spares b n =
      ⊎_elim
      (λ (l : m < c.count).
      rw (shrink_some S c m l)
      (free_run_spares S R m (c.count - m) c.ids (cut S c.hand c.ids m) (shrink_frees S R m c f) b
      (same_no_fat S c.hand.disk (cut S c.hand c.ids m).disk b (linked_lists S c.hand c.ids m end_of_chain) n)
      ∙ linked_spares S R c.hand c.ids m end_of_chain f.fits.fits (shrink_last S R m c f) b n))
      (λ (g : c.count ≤ m). rw (shrink_none S c m g))
      (below_or m c.count)

  -- the bytes that are in no listed sector stay
  pub shrunk_unlisted : (b : ℕ) → Unlisted S (shrink S c m) b → get_or (shrink S c m).hand.disk.image b 0 ≡ get_or c.hand.disk.image b 0
  shrunk_unlisted b u =
      let s = shrink_lists S R m c f in
      shrunk_spares b (λ p l. rw (← s.fats) (u.aside.in_no_fat p (rw s.sectors l)))

  module _ (r : Roles S R c) where
    -- every sector of the chain keeps its bytes, those that are freed too
    pub shrunk_sector : (j : ℕ) → j < c.count → sector_of S (shrink S c m).hand.disk.image (get_or c.ids j 0) ≡ sector_of S c.hand.disk.image (get_or c.ids j 0)
    shrunk_sector j l =
        sector_stays S c.hand.disk.image (shrink S c m).hand.disk.image (get_or c.ids j 0) (shrink_long S R m c f).hand.disk.image_same
        (sectors_inside S R _ _ c.hand.disk r.fits.fits.disk (get_or c.ids j 0) (omega (arith, r.fits.within j l, r.fits.fits.disk.inside)))
        (λ x hx. shrunk_spares (start_of S (get_or c.ids j 0) + x)
        (λ p h. sector_other S (get_or c.hand.disk.fats p 0) (get_or c.ids j 0) x (λ e. r.ids_fats j p l h (sym e)) hx))

    -- so the chain that is left has the first bytes of what it had
    pub shrunk_bytes : chain_bytes S (shrink S c m).hand.disk.image (ids_of (shrink S c m)) ≡ take (S * m) (chain_bytes S c.hand.disk.image (ids_of c))
    unfolding ids_of
    shrunk_bytes =
        let g = shrink_fits S R m c f in
        let ids : ids_of (shrink S c m) ≡ take m c.ids = shrink_ids_of S R m c f in
        let fewer : take m c.ids ≡ take m (ids_of c) = sym (take-take m c.count c.ids f.within) in
        let long : length (take m c.ids) ≡ m = length-take-le m c.ids (shrink_place S R m c f) in
        let same : length (shrink S c m).hand.disk.image ≡ length c.hand.disk.image = (shrink_long S R m c f).hand.disk.image_same in
        let lies : Lies S (length c.hand.disk.image) (take m (ids_of c)) = rw (← fewer, ← ids, ← same) (chain_lies S R (shrink S c m) g) in
        ap (chain_bytes S (shrink S c m).hand.disk.image) ids
        ∙ chain_stays S c.hand.disk.image (shrink S c m).hand.disk.image (take m c.ids)
        (λ j l. let low : j < m = rw long at l in
        rw (get_or-take m c.ids j 0 low) (shrunk_sector j (omega (arith, low, f.within))))
        ∙ ap (chain_bytes S c.hand.disk.image) fewer
        ∙ chain_front S c.hand.disk.image (ids_of c) m lies (ap length (sym fewer) ∙ long)

    -- a sector that belongs to another does so then
    pub shrunk_other : (i : ℕ) → Other S c i → Other S (shrink S c m) i
    shrunk_other i o =
        let s = shrink_lists S R m c f in
        record {
          inside = rw s.sectors o.inside;
          no_fat = rw (s.fats, s.sectors) o.no_fat;
          no_difat = rw (s.difats, s.sectors) o.no_difat;
          no_id = λ p l e.
              let low : p < m = omega (arith, l, shrink_count S R m c f) in
              o.no_id p (omega (arith, low, f.within)) (sym (shrink_ids S R m c f p low) ∙ e);
          no_free = λ q l e. ⊎_elim
              (λ (a : (q < c.hand.free) × (get_or (shrink S c m).hand.frees q 0 ≡ get_or c.hand.frees q 0)). o.no_free q a.0 (sym a.1 ∙ e))
              (λ (a : (m + (q - c.hand.free) < c.count) × (c.hand.free ≤ q) × (get_or (shrink S c m).hand.frees q 0 ≡ get_or c.ids (m + (q - c.hand.free)) 0)).
              o.no_id (m + (q - c.hand.free)) a.0 (sym a.2 ∙ e))
              (freed_from S R m c f r q l);
        }
