-- The laws of a sector taken. Assumes nothing.
use Prim.Native.Nat.{ℕ, ◌+◌, ◌-◌, ◌/◌, ◌≤◌, ◌<◌}
use mathlib.Core.Path.{◌≡◌, refl}
use mathlib.Core.List.{List}
use mathlib.Core.Logic.{⊎_elim, ◌≢◌}
use native.Mathlib.Omega.{arith}
use borrow.Author.Tests.{eq-eqb, ne_eqb}
use lib.ListN.{length, get_or, set, length-set}
use lib.Seq.{get_or-set_other}
use Rattle.lists.proofs.Cases.{same_or}
use Rattle.sectors.specs.Sectors.{start_of, per_sector}
use Rattle.sectors.proofs.Laws.{sector_within}
use Rattle.disk.specs.Disk.{Disk, ready, new_sector, one_more, reused}
use Rattle.disk.specs.Fits.{FitsNew}
use Rattle.disk.proofs.Fitting.{reused_fits, reused_long, reused_sectors, new_fits, new_long, ready_sectors, new_sectors, one_more_grows}
use Rattle.hand.specs.Hand.{Hand, taken_id, take_sector}
use Rattle.hand.specs.Fits.{FitsHand, FitsStock}
use Rattle.hand.proofs.Pointing.{HandLong, entry_in_hand}

-- the last of the free list is a sector in hand, and can be used again
pub reuse_inside : (S R : ℕ) (d : Disk) (frees : List ℕ) (free : ℕ) → FitsStock S R d frees free → free ≢ 0
    → (start_of S (get_or d.fats (get_or frees (free - 1) 0 / per_sector S) 0) + S ≤ length d.image) × (start_of S (get_or frees (free - 1) 0) + S ≤ length d.image)
reuse_inside S R d frees free f e =
    let b : get_or frees (free - 1) 0 < d.sectors = f.frees_below (free - 1) (omega (arith, e)) in
    ((entry_in_hand S R d (get_or frees (free - 1) 0) f.disk b).2, sector_within S R (length d.image) (get_or frees (free - 1) 0) f.disk.holds (omega (arith, b, f.disk.inside)))

-- a sector taken, by whether one is FREE
pub take_none : (S : ℕ) (h : Hand) → h.free ≡ 0 → take_sector S h ≡ record { disk = new_sector S h.disk; frees = h.frees; free = h.free; marks = h.marks }
unfolding take_sector
take_none S h e = rw (eq-eqb h.free 0 e)

pub take_one : (S : ℕ) (h : Hand) → h.free ≢ 0
    → take_sector S h
    ≡ record { disk = reused S h.disk (get_or h.frees (h.free - 1) 0); frees = set h.frees (h.free - 1) 0; free = h.free - 1; marks = h.marks }
unfolding take_sector
take_one S h e = rw (ne_eqb h.free 0 e)

pub id_new : (S : ℕ) (h : Hand) → h.free ≡ 0 → taken_id S h ≡ (ready S h.disk).sectors
unfolding taken_id
id_new S h e = rw (eq-eqb h.free 0 e)

pub id_last : (S : ℕ) (h : Hand) → h.free ≢ 0 → taken_id S h ≡ get_or h.frees (h.free - 1) 0
unfolding taken_id
id_last S h e = rw (ne_eqb h.free 0 e)

-- how many are FREE then
pub take_free : (S : ℕ) (h : Hand) → (take_sector S h).free ≡ h.free - 1
take_free S h =
    ⊎_elim
    (λ (e : h.free ≡ 0). rw (take_none S h e) (omega (arith, e)))
    (λ (e : h.free ≢ 0). rw (take_one S h e))
    (same_or h.free 0)

-- how many sectors there are then
pub take_sectors_new : (S : ℕ) (h : Hand) → h.free ≡ 0 → (take_sector S h).disk.sectors ≡ one_more S h.disk.sectors
take_sectors_new S h e = rw (take_none S h e) (new_sectors S h.disk)

pub take_sectors_same : (S : ℕ) (h : Hand) → h.free ≢ 0 → (take_sector S h).disk.sectors ≡ h.disk.sectors
take_sectors_same S h e = rw (take_one S h e) (reused_sectors S h.disk (get_or h.frees (h.free - 1) 0))

pub take_sectors_grow : (S : ℕ) (h : Hand) → h.disk.sectors ≤ (take_sector S h).disk.sectors
take_sectors_grow S h =
    ⊎_elim
    (λ (e : h.free ≡ 0). omega (arith, take_sectors_new S h e, one_more_grows S h.disk.sectors))
    (λ (e : h.free ≢ 0). omega (arith, take_sectors_same S h e))
    (same_or h.free 0)

-- a sector can be taken from a hand that has room
module _ (S R : ℕ) (h : Hand) (f : FitsHand S R h) (room : h.free ≡ 0 → one_more S h.disk.sectors ≤ R) where
  pub stock_of : FitsStock S R h.disk h.frees h.free
  stock_of =
      record { disk = f.disk; frees_long = omega (arith, f.free_few, f.disk.inside, f.frees_long); frees_below = f.frees_below; room = room }

  new_of : h.free ≡ 0 → FitsNew S R h.disk
  new_of e = record { fits = f.disk; room = room e }

  last_of : h.free ≢ 0 → get_or h.frees (h.free - 1) 0 < h.disk.sectors
  last_of e = f.frees_below (h.free - 1) (omega (arith, e))

  -- the sector that is taken is one of them
  pub taken_below : taken_id S h < (take_sector S h).disk.sectors
  taken_below =
      ⊎_elim
      (λ (e : h.free ≡ 0). omega (arith, id_new S h e, take_sectors_new S h e, ready_sectors S h.disk))
      (λ (e : h.free ≢ 0). omega (arith, id_last S h e, take_sectors_same S h e, last_of e))
      (same_or h.free 0)

  -- what the code asks for is left
  pub take_fits : FitsHand S R (take_sector S h)
  take_fits =
      ⊎_elim
      (λ (e : h.free ≡ 0). rw (take_none S h e)
      (record {
        disk = new_fits S R h.disk (new_of e);
        frees_long = f.frees_long;
        marks_long = f.marks_long;
        free_few = omega (arith, e);
        frees_below = λ p b. absurd (omega (arith, e));
      }))
      (λ (e : h.free ≢ 0). rw (take_one S h e)
      (record {
        disk = reused_fits S R h.disk (get_or h.frees (h.free - 1) 0) (last_of e) f.disk;
        frees_long = rw length-set f.frees_long;
        marks_long = f.marks_long;
        free_few = rw reused_sectors (omega (arith, f.free_few));
        frees_below =
            λ p b. rw (reused_sectors, get_or-set_other h.frees (h.free - 1) p 0 0 (omega arith)) (f.frees_below p (omega arith));
      }))
      (same_or h.free 0)

  -- and everything that is lent stays as long
  pub take_long : HandLong h (take_sector S h)
  take_long =
      ⊎_elim
      (λ (e : h.free ≡ 0). rw (take_none S h e) (record { disk = new_long S R h.disk (new_of e); frees_same_lem = refl; marks_same = refl }))
      (λ (e : h.free ≢ 0). rw (take_one S h e)
      (record {
        disk = reused_long S R h.disk (get_or h.frees (h.free - 1) 0) (last_of e) f.disk;
        frees_same_lem = length-set h.frees (h.free - 1) 0;
        marks_same = refl;
      }))
      (same_or h.free 0)
