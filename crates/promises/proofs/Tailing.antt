-- A change leaves the lent tables zero past their counts. Assumes nothing.
use Prim.Native.Nat.{ℕ, zero, suc, ◌-◌, ◌/◌, ◌%◌, ◌≤◌, ◌<◌}
use mathlib.Core.Path.{◌≡◌, refl, ◌∙◌, sym, ap}
use mathlib.Core.Bool.{true, false}
use mathlib.Core.List.{List}
use mathlib.Core.Logic.{⊎_elim, ◌≢◌}
use native.Mathlib.Omega.{arith}
use lib.ListN.{length, get_or, set}
use lib.Seq.{get_or-set_same, get_or-set_other}
use Rattle.lists.proofs.Cases.{below_or, same_or, true_or}
use Rattle.consts.specs.Consts.{difat_sector, fat_sector, end_of_chain, free_sector}
use Rattle.sectors.specs.Sectors.{per_sector}
use Rattle.fat.specs.Lists.{ceil, fat_count, difat_count}
use Rattle.disk.specs.Disk.{Disk, store, set_fat, push_fat, needs_difat, append_fat, after_fat, one_more, ready, new_sector, reused}
use Rattle.disk.specs.Fits.{FitsNew}
use Rattle.room.specs.Needed.{resize_more, write_more}
use Rattle.disk.proofs.Counting.{difat_suc, after_needs, after_not}
use Rattle.disk.proofs.Fitting.{append_sectors, ready_full, ready_part, new_many, new_sectors, count_full, reused_sectors, one_more_grows}
use Rattle.hand.specs.Hand.{Hand, Chain, marked, point, taken_id, take_sector, free_sector_of, free_run, linked, extend_one, extend}
use Rattle.hand.specs.Fits.{FitsHand, FitsFrees, FitsMore}
use Rattle.moves.specs.Change.{shrink, with_image, resized, written, FitsShrink, FitsResize, FitsWrite}
use Rattle.hand.proofs.Pointing.{marked_below, marked_past}
use Rattle.hand.proofs.Taking.{take_none, take_one}
use Rattle.hand.proofs.Freeing.{free_none, free_more, frees_more}
use Rattle.hand.proofs.Linking.{linked_none, linked_last, one_fits, more_room, more_last}
use Rattle.moves.proofs.Extending.{extend_none, extend_more}
use Rattle.moves.proofs.Shrinking.{shrink_none, shrink_some, shrink_last, shrink_frees}
use Rattle.moves.proofs.Changing.{resized_more, resized_fewer, resize_shrink}
use Rattle.edits.specs.Roles.{fats_held, difats_held}
use Rattle.edits.proofs.Growing.{GrownTo, needs_far, append_fats, append_difats_same, append_difats_more, new_fats, new_grown, reused_lists}
use Rattle.promises.specs.Tails.{Tailed}
use Rattle.promises.proofs.Entries.{append_fat_same, append_fat_more, new_fat, reused_fat}

-- a list is zero from a place on
abbrev Zeros : List ℕ → ℕ → Type 0
Zeros xs k = (i : ℕ) → k ≤ i → get_or xs i 0 ≡ 0

-- it stays,
zeros_same : (xs ys : List ℕ) (k m : ℕ) → ys ≡ xs → k ≤ m → Zeros xs k → Zeros ys m
zeros_same xs ys k m e h z i l = ap (λ (zs : List ℕ). get_or zs i 0) e ∙ z i (omega (arith, h, l))

-- a number before that place is set,
zeros_set : (xs ys : List ℕ) (k m j v : ℕ) → ys ≡ set xs j v → j < m → k ≤ m → Zeros xs k → Zeros ys m
zeros_set xs ys k m j v e b h z i l = ap (λ (zs : List ℕ). get_or zs i 0) e ∙ get_or-set_other xs j i v 0 (omega (arith, b, l)) ∙ z i (omega (arith, h, l))

-- or the last one before it is cleared
zeros_cleared : (xs : List ℕ) (k : ℕ) → k < length xs → Zeros xs (suc k) → Zeros (set xs k 0) k
zeros_cleared xs k h z i l =
    ⊎_elim
    (λ (e : i ≡ k). ap (λ (j : ℕ). get_or (set xs k 0) j 0) e ∙ get_or-set_same xs k 0 0 h)
    (λ (d : i ≢ k). get_or-set_other xs k i 0 0 d ∙ z i (omega (arith, l, d)))
    (same_or i k)

-- a mark is set where there is a sector
zeros_marked : (n : ℕ) (marks : List ℕ) (t v : ℕ) → Zeros marks n → Zeros (marked n marks t v) n
zeros_marked n marks t v z =
    ⊎_elim
    (λ (l : t < n). zeros_set marks (marked n marks t v) n n t v (sym (marked_below n marks t v l)) l (omega arith) z)
    (λ (g : n ≤ t). zeros_same marks (marked n marks t v) n n (sym (marked_past n marks t v g)) (omega arith) z)
    (below_or t n)

-- an entry is set
point_tailed : (S : ℕ) (h : Hand) (i v : ℕ) → i < h.disk.sectors → Tailed S h → Tailed S (point S h i v)
unfolding point set_fat
point_tailed S h i v l t = record {
  fat = zeros_set h.disk.fat (set h.disk.fat i v) h.disk.sectors h.disk.sectors i v refl l (omega arith) t.fat;
  fats = t.fats;
  difats = t.difats;
  frees = t.frees;
  marks =
      zeros_marked h.disk.sectors (marked h.disk.sectors h.marks (get_or h.disk.fat i 0) 0) v 1
      (zeros_marked h.disk.sectors h.marks (get_or h.disk.fat i 0) 0 t.marks);
}

linked_tailed : (S : ℕ) (h : Hand) (ids : List ℕ) (count id : ℕ) → (0 < count → get_or ids (count - 1) 0 < h.disk.sectors) → Tailed S h
    → Tailed S (linked S h ids count id)
linked_tailed S h ids count id b t =
    ⊎_elim
    (λ (e : count ≡ 0). rw (linked_none S h ids count id e) t)
    (λ (e : count ≢ 0). rw (linked_last S h ids count id e) (point_tailed S h (get_or ids (count - 1) 0) id (b (omega (arith, e))) t))
    (same_or count 0)

-- a sector is freed, and a run of them
free_tailed : (S : ℕ) (h : Hand) (i : ℕ) → i < h.disk.sectors → Tailed S h → Tailed S (free_sector_of S h i)
unfolding free_sector_of point set_fat
free_tailed S h i l t =
    let p = point_tailed S h i free_sector l t in
    record {
      fat = p.fat;
      fats = t.fats;
      difats = t.difats;
      frees = zeros_set h.frees (set h.frees h.free i) h.free (suc h.free) h.free i refl (omega arith) (omega arith) t.frees;
      marks = p.marks;
    }

run_tailed : (S R i c : ℕ) (ids : List ℕ) (h : Hand) → FitsFrees S R i c ids h → Tailed S h → Tailed S (free_run S h ids i c)
run_tailed S R i zero ids h f t = rw (free_none S h ids i) t
run_tailed S R i (suc c) ids h f t =
    rw (free_more S h ids i c)
    (run_tailed S R (suc i) c ids (free_sector_of S h (get_or ids i 0)) (frees_more S R i c ids h f) (free_tailed S h (get_or ids i 0) (f.within i (omega arith)) t))

-- a new sector's entry is the last, behind those of the FAT sector and the DIFAT sector that come before it
new_last : (S : ℕ) (d : Disk) → (new_sector S d).sectors ≡ suc (ready S d).sectors
unfolding new_sector store push_fat
new_last S d = refl

ready_zeros : (S : ℕ) (d : Disk) → Zeros d.fat d.sectors → Zeros (ready S d).fat (ready S d).sectors
ready_zeros S d z =
    ⊎_elim
    (λ (e : d.sectors % per_sector S ≡ 0).
    let full : ready S d ≡ append_fat S d = ready_full S d e in
    let last : (ready S d).sectors ≡ after_fat S d.sectors = ap (λ (x : Disk). x.sectors) full ∙ append_sectors S d in
    ⊎_elim
    (λ (t : needs_difat S (d.sectors / per_sector S) ≡ true).
    zeros_set (set d.fat d.sectors fat_sector) (ready S d).fat (suc d.sectors) (ready S d).sectors (suc d.sectors) difat_sector
    (ap (λ (x : Disk). x.fat) full ∙ append_fat_more S d t) (omega (arith, last, after_needs S d.sectors t)) (omega (arith, last, after_needs S d.sectors t))
    (zeros_set d.fat (set d.fat d.sectors fat_sector) d.sectors (suc d.sectors) d.sectors fat_sector refl (omega arith) (omega arith) z))
    (λ (t : needs_difat S (d.sectors / per_sector S) ≡ false).
    zeros_set d.fat (ready S d).fat d.sectors (ready S d).sectors d.sectors fat_sector (ap (λ (x : Disk). x.fat) full ∙ append_fat_same S d t)
    (omega (arith, last, after_not S d.sectors t)) (omega (arith, last, after_not S d.sectors t)) z)
    (true_or (needs_difat S (d.sectors / per_sector S))))
    (λ (e : d.sectors % per_sector S ≢ 0).
    let part : ready S d ≡ d = ready_part S d e in
    zeros_same d.fat (ready S d).fat d.sectors (ready S d).sectors (ap (λ (x : Disk). x.fat) part) (omega (arith, ap (λ (x : Disk). x.sectors) part)) z)
    (same_or (d.sectors % per_sector S) 0)

new_zeros : (S : ℕ) (d : Disk) → Zeros d.fat d.sectors → Zeros (new_sector S d).fat (new_sector S d).sectors
new_zeros S d z =
    zeros_set (ready S d).fat (new_sector S d).fat (ready S d).sectors (new_sector S d).sectors (ready S d).sectors end_of_chain (new_fat S d)
    (omega (arith, new_last S d)) (omega (arith, new_last S d)) (ready_zeros S d z)

-- the lists of the FAT and the DIFAT get at most the place behind their last
module _ (S R : ℕ) (d : Disk) (f : FitsNew S R d) where
  grown : GrownTo S d (new_sector S d) (ready S d).sectors
  grown = new_grown S R d f

  many : d.sectors % per_sector S ≡ 0 → fats_held S (new_sector S d) ≡ suc (d.sectors / per_sector S)
  many e = ap (fat_count S) (new_sectors S d) ∙ count_full S R d f e

  new_fats_zeros : Zeros d.fats (fats_held S d) → Zeros (new_sector S d).fats (fats_held S (new_sector S d))
  new_fats_zeros z =
      ⊎_elim
      (λ (e : d.sectors % per_sector S ≡ 0).
      zeros_set d.fats (new_sector S d).fats (fats_held S d) (fats_held S (new_sector S d)) (d.sectors / per_sector S) d.sectors
      ((new_fats S d).0 ∙ ap (λ (x : Disk). x.fats) (ready_full S d e) ∙ append_fats S d) (omega (arith, many e)) grown.fats_more z)
      (λ (e : d.sectors % per_sector S ≢ 0).
      zeros_same d.fats (new_sector S d).fats (fats_held S d) (fats_held S (new_sector S d)) ((new_fats S d).0 ∙ ap (λ (x : Disk). x.fats) (ready_part S d e)) grown.fats_more z)
      (same_or (d.sectors % per_sector S) 0)

  new_difats_zeros : Zeros d.difats (difats_held S d) → Zeros (new_sector S d).difats (difats_held S (new_sector S d))
  new_difats_zeros z =
      ⊎_elim
      (λ (e : d.sectors % per_sector S ≡ 0).
      ⊎_elim
      (λ (t : needs_difat S (d.sectors / per_sector S) ≡ true).
      let held : difats_held S (new_sector S d) ≡ suc ((d.sectors / per_sector S - 109) / (per_sector S - 1))
      = ap (difat_count S) (many e) ∙ difat_suc S (d.sectors / per_sector S) (omega (arith, new_many S R d f)) (needs_far S (d.sectors / per_sector S) t) in
      zeros_set d.difats (new_sector S d).difats (difats_held S d) (difats_held S (new_sector S d)) ((d.sectors / per_sector S - 109) / (per_sector S - 1)) (suc d.sectors)
      ((new_fats S d).1 ∙ ap (λ (x : Disk). x.difats) (ready_full S d e) ∙ append_difats_more S d t) (omega (arith, held)) grown.difats_more z)
      (λ (t : needs_difat S (d.sectors / per_sector S) ≡ false).
      zeros_same d.difats (new_sector S d).difats (difats_held S d) (difats_held S (new_sector S d))
      ((new_fats S d).1 ∙ ap (λ (x : Disk). x.difats) (ready_full S d e) ∙ append_difats_same S d t) grown.difats_more z)
      (true_or (needs_difat S (d.sectors / per_sector S))))
      (λ (e : d.sectors % per_sector S ≢ 0).
      zeros_same d.difats (new_sector S d).difats (difats_held S d) (difats_held S (new_sector S d)) ((new_fats S d).1 ∙ ap (λ (x : Disk). x.difats) (ready_part S d e)) grown.difats_more z)
      (same_or (d.sectors % per_sector S) 0)

-- a sector is taken, new or FREE
take_tailed : (S R : ℕ) (h : Hand) → FitsHand S R h → (h.free ≡ 0 → one_more S h.disk.sectors ≤ R) → Tailed S h → Tailed S (take_sector S h)
take_tailed S R h f room t =
    ⊎_elim
    (λ (e : h.free ≡ 0).
    let new : FitsNew S R h.disk = record { fits = f.disk; room = room e } in
    rw (take_none S h e)
    (record {
      fat = new_zeros S h.disk t.fat;
      fats = new_fats_zeros S R h.disk new t.fats;
      difats = new_difats_zeros S R h.disk new t.difats;
      frees = t.frees;
      marks = zeros_same h.marks h.marks h.disk.sectors (new_sector S h.disk).sectors refl (omega (arith, new_sectors S h.disk, one_more_grows S h.disk.sectors)) t.marks;
    }))
    (λ (e : h.free ≢ 0).
    let id : ℕ = get_or h.frees (h.free - 1) 0 in
    let low : id < h.disk.sectors = f.frees_below (h.free - 1) (omega (arith, e)) in
    let same : (reused S h.disk id).sectors ≡ h.disk.sectors = reused_sectors S h.disk id in
    let next : suc (h.free - 1) ≡ h.free = omega (arith, e) in
    rw (take_one S h e)
    (record {
      fat = zeros_set h.disk.fat (reused S h.disk id).fat h.disk.sectors (reused S h.disk id).sectors id end_of_chain (reused_fat S h.disk id)
          (omega (arith, low, same)) (omega (arith, same)) t.fat;
      fats = zeros_same h.disk.fats (reused S h.disk id).fats (fats_held S h.disk) (fats_held S (reused S h.disk id)) (reused_lists S h.disk id).0
          (omega (arith, ap (fat_count S) same)) t.fats;
      difats = zeros_same h.disk.difats (reused S h.disk id).difats (difats_held S h.disk) (difats_held S (reused S h.disk id)) (reused_lists S h.disk id).1
          (omega (arith, ap (λ (n : ℕ). difat_count S (fat_count S n)) same)) t.difats;
      frees = zeros_cleared h.frees (h.free - 1) (omega (arith, e, f.free_few, f.disk.inside, f.frees_long)) (λ i l. t.frees i (omega (arith, l, next)));
      marks = zeros_same h.marks h.marks h.disk.sectors (reused S h.disk id).sectors refl (omega (arith, same)) t.marks;
    }))
    (same_or h.free 0)

-- one sector more for a chain, and m more
one_tailed : (S R m : ℕ) (c : Chain) → FitsMore S R (suc m) c → Tailed S c.hand → Tailed S (extend_one S c).hand
unfolding extend_one
one_tailed S R m c f t =
    linked_tailed S (take_sector S c.hand) c.ids c.count (taken_id S c.hand) (more_last f) (take_tailed S R c.hand f.fits.fits (more_room f) t)

pub tailed_extended : (S R m : ℕ) (c : Chain) → FitsMore S R m c → Tailed S c.hand → Tailed S (extend S c m).hand
tailed_extended S R zero c f t = rw extend_none t
tailed_extended S R (suc m) c f t = rw extend_more (tailed_extended S R m (extend_one S c) (one_fits f) (one_tailed S R m c f t))

-- a chain is cut, and its tail freed
pub tailed_shrunk : (S R m : ℕ) (c : Chain) → FitsShrink S R m c → Tailed S c.hand → Tailed S (shrink S c m).hand
tailed_shrunk S R m c f t =
    ⊎_elim
    (λ (l : m < c.count).
    rw (shrink_some S c m l)
    (run_tailed S R m (c.count - m) c.ids _ (shrink_frees S R m c f) (linked_tailed S c.hand c.ids m end_of_chain (shrink_last S R m c f) t)))
    (λ (g : c.count ≤ m). rw (shrink_none S c m g) t)
    (below_or m c.count)

-- the bytes do not matter
tailed_with : (S : ℕ) (c : Chain) (img : List ℕ) → Tailed S c.hand → Tailed S (with_image c img).hand
unfolding with_image
tailed_with S c img t = record { fat = t.fat; fats = t.fats; difats = t.difats; frees = t.frees; marks = t.marks }

-- document 01, Resize: past its count each table holds zero then
pub tailed_resized : (S R len : ℕ) (c : Chain) → FitsResize S R len c → Tailed S c.hand → Tailed S (resized S c len).hand
tailed_resized S R len c f t =
    ⊎_elim
    (λ (l : c.count < ceil len S). rw (resized_more S c len l) (tailed_extended S R (resize_more S c.count len) c f.fits t))
    (λ (g : ceil len S ≤ c.count).
    rw (resized_fewer S c len g) (tailed_with S (shrink S c (ceil len S)) _ (tailed_shrunk S R (ceil len S) c (resize_shrink S R len c f (ceil len S) g) t)))
    (below_or c.count (ceil len S))

-- document 01, Write: and so it does then
pub tailed_written : (S R offset : ℕ) (buf : List ℕ) (c : Chain) → FitsWrite S R offset (length buf) c → Tailed S c.hand
    → Tailed S (written S c offset buf).hand
unfolding written
tailed_written S R offset buf c f t =
    tailed_with S (extend S c (write_more S c.count offset (length buf))) _ (tailed_extended S R (write_more S c.count offset (length buf)) c f.fits t)
