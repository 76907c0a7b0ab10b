-- The laws of a sector linked behind a chain's last one, and of a chain with one sector more. Assumes nothing.
use Prim.Native.Nat.{ℕ, suc, ◌+◌, ◌-◌, ◌≤◌, ◌<◌}
use mathlib.Core.Path.{◌≡◌, refl, ◌∙◌, sym, ap}
use mathlib.Core.List.{List}
use mathlib.Core.Logic.{⊎_elim, ◌≢◌}
use native.Mathlib.Omega.{arith}
use borrow.Author.Tests.{eq-eqb, ne_eqb}
use lib.ListN.{length, get_or, take, length-set}
use lib.Seq.{get_or-set_same, get_or-set_other, get_or-take, length-take-le}
use Rattle.lists.proofs.Cases.{same_or}
use Rattle.disk.specs.Disk.{one_more, count_after}
use Rattle.disk.proofs.Fitting.{one_more_grows, count_none, count_more, count_grows}
use Rattle.hand.specs.Hand.{Hand, Chain, point, taken_id, take_sector, linked, extend_one}
use Rattle.hand.specs.Fits.{FitsHand, FitsStock, FitsLast, FitsMore}
use Rattle.hand.proofs.Pointing.{HandLong, long_none, long_then, point_fits, point_inside, point_long, point_counts}
use Rattle.hand.proofs.Taking.{stock_of, take_sectors_new, take_sectors_same, take_sectors_grow, take_free, taken_below, take_fits, take_long}

-- a chain of none, and one with a last sector
pub linked_none : (S : ℕ) (h : Hand) (ids : List ℕ) (count id : ℕ) → count ≡ 0 → linked S h ids count id ≡ h
unfolding linked
linked_none S h ids count id e = rw (eq-eqb count 0 e)

pub linked_last : (S : ℕ) (h : Hand) (ids : List ℕ) (count id : ℕ) → count ≢ 0 → linked S h ids count id ≡ point S h (get_or ids (count - 1) 0) id
unfolding linked
linked_last S h ids count id e = rw (ne_eqb count 0 e)

-- the last of the first count ids, where there is one
pub last_linked : (S : ℕ) (h : Hand) (ids : List ℕ) (count id last : ℕ) → count ≤ length ids → 0 < length (take count ids)
    → last ≡ get_or (take count ids) (length (take count ids) - 1) 0 → point S h last id ≡ linked S h ids count id
last_linked S h ids count id last l some e =
    let k : length (take count ids) ≡ count = length-take-le count ids l in
    let at : last ≡ get_or ids (count - 1) 0 = e ∙ ap (λ (n : ℕ). get_or (take count ids) (n - 1) 0) k ∙ get_or-take count ids (count - 1) 0 (omega (arith, some, k)) in
    rw at (sym (linked_last S h ids count id (omega (arith, some, k))))

-- the last sector of a chain in hand can be made to point elsewhere
pub last_fits : (S R : ℕ) (h : Hand) (ids : List ℕ) (count : ℕ) → FitsHand S R h → count ≤ length ids → (0 < count → get_or ids (count - 1) 0 < h.disk.sectors)
    → FitsLast S h.disk.sectors (length h.disk.image) (length h.disk.fat) h.disk.fats (length h.marks) ids count
last_fits S R h ids count f l b =
    record {
      entries = f.disk.holds.entries;
      some = omega (arith, f.disk.holds.two);
      marks_long = omega (arith, f.disk.inside, f.marks_long);
      listed = l;
      last_fat = λ e. (point_inside S R h (get_or ids (count - 1) 0) f (b e)).1.0.0;
      last_sector = λ e. (point_inside S R h (get_or ids (count - 1) 0) f (b e)).1.0.1;
      last_inside = λ e. (point_inside S R h (get_or ids (count - 1) 0) f (b e)).1.1;
    }

-- linking leaves what the code asks for, how many there are, and every length
module _ (S : ℕ) (h : Hand) (ids : List ℕ) (count id : ℕ) where
  pub linked_fits : (R : ℕ) → (0 < count → get_or ids (count - 1) 0 < h.disk.sectors) → FitsHand S R h → FitsHand S R (linked S h ids count id)
  linked_fits R b f =
      ⊎_elim
      (λ (e : count ≡ 0). rw (linked_none S h ids count id e) f)
      (λ (e : count ≢ 0). rw (linked_last S h ids count id e) (point_fits S R h (get_or ids (count - 1) 0) id f (b (omega (arith, e)))))
      (same_or count 0)

  pub linked_counts : ((linked S h ids count id).disk.sectors ≡ h.disk.sectors) × ((linked S h ids count id).free ≡ h.free)
  linked_counts =
      ⊎_elim
      (λ (e : count ≡ 0). rw (linked_none S h ids count id e) (refl, refl))
      (λ (e : count ≢ 0). rw (linked_last S h ids count id e) (point_counts S h (get_or ids (count - 1) 0) id))
      (same_or count 0)

  pub linked_long : (R : ℕ) → (0 < count → get_or ids (count - 1) 0 < h.disk.sectors) → FitsHand S R h → HandLong h (linked S h ids count id)
  linked_long R b f =
      ⊎_elim
      (λ (e : count ≡ 0). rw (linked_none S h ids count id e) (long_none h))
      (λ (e : count ≢ 0). rw (linked_last S h ids count id e) (point_long S R h (get_or ids (count - 1) 0) id f (b (omega (arith, e)))))
      (same_or count 0)

-- a chain of which everything that is lent is as long as it was
pub record ChainLong (c e : Chain) : Type 0 where
  pub hand : HandLong c.hand e.hand
  pub ids_same : length e.ids ≡ length c.ids

-- how many there are then
pub one_count : (S : ℕ) (c : Chain) → (extend_one S c).count ≡ suc c.count
unfolding extend_one
one_count S c = refl

pub one_sectors : (S : ℕ) (c : Chain) → (extend_one S c).hand.disk.sectors ≡ (take_sector S c.hand).disk.sectors
unfolding extend_one
one_sectors S c = (linked_counts S (take_sector S c.hand) c.ids c.count (taken_id S c.hand)).0

pub one_free : (S : ℕ) (c : Chain) → (extend_one S c).hand.free ≡ c.hand.free - 1
unfolding extend_one
one_free S c = (linked_counts S (take_sector S c.hand) c.ids c.count (taken_id S c.hand)).1 ∙ take_free S c.hand

pub one_sectors_new : (S : ℕ) (c : Chain) → c.hand.free ≡ 0 → (extend_one S c).hand.disk.sectors ≡ one_more S c.hand.disk.sectors
one_sectors_new S c e = one_sectors S c ∙ take_sectors_new S c.hand e

pub one_sectors_same : (S : ℕ) (c : Chain) → c.hand.free ≢ 0 → (extend_one S c).hand.disk.sectors ≡ c.hand.disk.sectors
one_sectors_same S c e = one_sectors S c ∙ take_sectors_same S c.hand e

-- and how many with m more
pub one_counted : (S m : ℕ) (c : Chain)
    → count_after S (extend_one S c).hand.disk.sectors (m - (extend_one S c).hand.free) ≡ count_after S c.hand.disk.sectors (suc m - c.hand.free)
one_counted S m c =
    ⊎_elim
    (λ (e : c.hand.free ≡ 0).
    let left : m - (c.hand.free - 1) ≡ m = omega (arith, e) in
    let all : suc m - c.hand.free ≡ suc m = omega (arith, e) in
    rw (one_sectors_new S c e, one_free, left, all) (sym (count_more S c.hand.disk.sectors m)))
    (λ (e : c.hand.free ≢ 0).
    let left : m - (c.hand.free - 1) ≡ suc m - c.hand.free = omega (arith, e) in
    rw (one_sectors_same S c e, one_free, left))
    (same_or c.hand.free 0)

-- a chain that m + 1 sectors can be taken for
module _ {S R m : ℕ} {c : Chain} (f : FitsMore S R (suc m) c) where
  pub more_room : c.hand.free ≡ 0 → one_more S c.hand.disk.sectors ≤ R
  more_room e =
      let all : suc m - c.hand.free ≡ suc m = omega (arith, e) in
      let r : count_after S c.hand.disk.sectors (suc m) ≤ R = rw all at f.room in
      omega (arith, r, count_more S c.hand.disk.sectors m, count_grows S (one_more S c.hand.disk.sectors) m)

  pub more_one : FitsMore S R 1 c
  more_one =
      record {
        fits = f.fits;
        room = ⊎_elim
            (λ (e : c.hand.free ≡ 0).
            let one : 1 - c.hand.free ≡ suc 0 = omega (arith, e) in
            rw (one, count_more, count_none) (more_room e))
            (λ (e : c.hand.free ≢ 0).
            let none : 1 - c.hand.free ≡ 0 = omega (arith, e) in
            rw (none, count_none) f.fits.fits.disk.inside)
            (same_or c.hand.free 0);
      }

  pub more_stock : FitsStock S R c.hand.disk c.hand.frees c.hand.free
  more_stock = stock_of S R c.hand f.fits.fits more_room

  pub more_taken : FitsHand S R (take_sector S c.hand)
  more_taken = take_fits S R c.hand f.fits.fits more_room

  pub more_place : c.count < length c.ids
  more_place =
      ⊎_elim
      (λ (e : c.hand.free ≡ 0). omega (arith, e, f.fits.few, f.fits.ids_long, more_room e, one_more_grows S c.hand.disk.sectors))
      (λ (e : c.hand.free ≢ 0). omega (arith, e, f.fits.few, f.fits.ids_long, f.fits.fits.disk.inside))
      (same_or c.hand.free 0)

  pub more_last : 0 < c.count → get_or c.ids (c.count - 1) 0 < (take_sector S c.hand).disk.sectors
  more_last e =
      omega (arith, f.fits.within (c.count - 1) (omega (arith, e)), take_sectors_grow S c.hand)

  -- the link that the code asks for
  pub more_link : (taken : Hand) → taken ≡ take_sector S c.hand
      → FitsLast S taken.disk.sectors (length taken.disk.image) (length taken.disk.fat) taken.disk.fats (length taken.marks) c.ids c.count
  more_link taken e = rw e (last_fits S R (take_sector S c.hand) c.ids c.count more_taken (omega (arith, more_place)) more_last)

  -- what the code asks for is left, for m sectors more
  one_hand : FitsHand S R (extend_one S c).hand
  unfolding extend_one
  one_hand = linked_fits S (take_sector S c.hand) c.ids c.count (taken_id S c.hand) R more_last more_taken

  one_within : (j : ℕ) → j < suc c.count → get_or (extend_one S c).ids j 0 < (take_sector S c.hand).disk.sectors
  unfolding extend_one
  one_within j l =
      ⊎_elim
      (λ (e : j ≡ c.count). rw (e, get_or-set_same c.ids c.count (taken_id S c.hand) 0 more_place) (taken_below S R c.hand f.fits.fits more_room))
      (λ (e : j ≢ c.count).
      rw (get_or-set_other c.ids c.count j (taken_id S c.hand) 0 e)
      (omega (arith, f.fits.within j (omega (arith, l, e)), take_sectors_grow S c.hand)))
      (same_or j c.count)

  one_ids : length (extend_one S c).ids ≡ length c.ids
  unfolding extend_one
  one_ids = length-set c.ids c.count (taken_id S c.hand)

  one_few : suc c.count + (c.hand.free - 1) ≤ (extend_one S c).hand.disk.sectors
  one_few =
      ⊎_elim
      (λ (e : c.hand.free ≡ 0). omega (arith, e, f.fits.few, one_sectors_new S c e, one_more_grows S c.hand.disk.sectors))
      (λ (e : c.hand.free ≢ 0). omega (arith, e, f.fits.few, one_sectors_same S c e))
      (same_or c.hand.free 0)

  pub one_fits : FitsMore S R m (extend_one S c)
  one_fits =
      record {
        fits = record {
          fits = one_hand;
          ids_long = rw one_ids f.fits.ids_long;
          within = λ j l. rw one_sectors (one_within j (rw one_count at l));
          few = rw (one_count, one_free) one_few;
        };
        room = rw (one_counted S m c) f.room;
      }

  -- everything that is lent stays as long
  pub one_long : ChainLong c (extend_one S c)
  unfolding extend_one
  one_long =
      record {
        hand = long_then (take_long S R c.hand f.fits.fits more_room)
            (linked_long S (take_sector S c.hand) c.ids c.count (taken_id S c.hand) R more_last more_taken);
        ids_same = length-set c.ids c.count (taken_id S c.hand);
      }
