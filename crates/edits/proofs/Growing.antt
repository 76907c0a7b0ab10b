-- Which sectors the FAT and the DIFAT have after a sector is taken: those that they had, and one more where document 01 asks for it. Assumes nothing.
use Prim.Native.Nat.{ℕ, suc, ◌+◌, ◌-◌, ◌*◌, ◌/◌, ◌%◌, ◌≤◌, ◌<◌}
use mathlib.Core.Path.{◌≡◌, refl, ◌∙◌, sym, ap}
use mathlib.Core.Bool.{true, false}
use mathlib.Core.List.{List}
use mathlib.Core.Logic.{⊎_elim, ◌≢◌}
use native.Mathlib.Omega.{arith}
use native.Mathlib.Nat.{div-le_self, div-mul-le_self, div-add-mod, mul_comm}
use borrow.Author.Tests.{lt-ltb, le-ltb}
use lib.ListN.{get_or, set}
use Rattle.lists.proofs.Cases.{below_or, same_or, true_or, not_both}
use Rattle.sectors.specs.Sectors.{per_sector}
use Rattle.fat.specs.Lists.{ceil, fat_count, difat_count}
use Rattle.fat.proofs.Listing.{ceil_enough}
use Rattle.disk.specs.Disk.{Disk, store, set_fat, push_fat, list_fat, list_difat, append_difat, needs_difat, store_place, hold_place, list_place, append_fat, after_fat, one_more, ready, new_sector, reused}
use Rattle.disk.specs.Fits.{FitsFat, FitsNew}
use Rattle.disk.proofs.Counting.{fat_full, difat_none, difat_suc, needs_full, needs_not, needs_near, after_needs, after_not}
use Rattle.disk.proofs.Fitting.{append_sectors, ready_full, ready_part, new_sectors, new_full, count_full, count_part, full_many, full_place, reused_sectors}
use Rattle.hand.specs.Hand.{Hand, Chain, point, taken_id, take_sector, linked, extend_one}
use Rattle.hand.specs.Fits.{FitsHand, FitsMore}
use Rattle.hand.proofs.Taking.{take_none, take_one, id_new, id_last}
use Rattle.hand.proofs.Linking.{linked_none, linked_last, more_room}
use Rattle.edits.specs.Order.{added_fat, added_difat}
use Rattle.edits.specs.Roles.{fats_held, difats_held}
use Rattle.edits.proofs.Listed.{Listed, listed_same, listed_more}

-- the lists of a disk after a sector is taken, whose id is given: fat and difat, where they are listed, are new, and all three are different
pub record Grown (S : ℕ) (d : Disk) (k j : ℕ) (fats' difats' : List ℕ) (id : ℕ) : Type 0 where
  pub fat : ℕ
  pub difat : ℕ
  pub fats_more : fats_held S d ≤ k
  pub difats_more : difats_held S d ≤ j
  pub fats : Listed d.fats fats' (fats_held S d) k fat
  pub difats : Listed d.difats difats' (difats_held S d) j difat
  pub fat_new : d.sectors ≤ fat
  pub difat_new : d.sectors ≤ difat
  pub fat_difat : fat ≢ difat
  pub fat_id : fat ≢ id
  pub difat_id : difat ≢ id
  pub fat_place : fats_held S d < k → fat ≡ added_fat S (fats_held S d)
  pub difat_place_lem : difats_held S d < j → difat ≡ added_difat S (difats_held S d)
  pub fat_first : fats_held S d < k → fat ≡ d.sectors
  pub difat_second : difats_held S d < j → difat ≡ suc d.sectors

-- the same by equal numbers and lists
grown_at : {S : ℕ} {d : Disk} {k j k' j' : ℕ} {fats difats fats' difats' : List ℕ} {id id' : ℕ} → k' ≡ k → j' ≡ j → fats' ≡ fats → difats' ≡ difats → id' ≡ id
    → Grown S d k j fats difats id → Grown S d k' j' fats' difats' id'
grown_at a b c e f g = rw (a, b, c, e, f) g

-- the lists of a disk, as they are after a sector is taken
abbrev pub GrownTo : ℕ → Disk → Disk → ℕ → Type 0
GrownTo S d e id = Grown S d (fats_held S e) (difats_held S e) e.fats e.difats id

-- nothing is listed: the lists stay
pub grown_none : (S : ℕ) (d : Disk) (k j : ℕ) (fats difats : List ℕ) (id : ℕ) → fats ≡ d.fats → difats ≡ d.difats → k ≡ fats_held S d → j ≡ difats_held S d → id ≤ d.sectors
    → Grown S d k j fats difats id
grown_none S d k j fats difats id f g hk hj h =
    record {
      fat = d.sectors + 1;
      difat = d.sectors + 2;
      fats_more = omega (arith, hk);
      difats_more = omega (arith, hj);
      fats = listed_same d.fats fats (fats_held S d) k (d.sectors + 1) f hk;
      difats = listed_same d.difats difats (difats_held S d) j (d.sectors + 2) g hj;
      fat_new = omega arith;
      difat_new = omega arith;
      fat_difat = omega arith;
      fat_id = omega (arith, h);
      difat_id = omega (arith, h);
      fat_place = λ l. absurd (omega (arith, l, hk));
      difat_place_lem = λ l. absurd (omega (arith, l, hj));
      fat_first = λ l. absurd (omega (arith, l, hk));
      difat_second = λ l. absurd (omega (arith, l, hj));
    }

-- a place of the DIFAT leaves the FAT's list, and the DIFAT's too where no DIFAT sector is needed
pub hold_fats : (S p : ℕ) (d : Disk) → (hold_place S d p).fats ≡ d.fats
unfolding hold_place append_difat store push_fat list_difat
hold_fats S p d = ⊎_elim (λ (t : needs_difat S p ≡ true). rw t refl) (λ (t : needs_difat S p ≡ false). rw t refl) (true_or (needs_difat S p))

place_fats : (S p id : ℕ) (d : Disk) → (list_place S d p id).fats ≡ d.fats
unfolding list_place store_place store
place_fats S p id d =
    ⊎_elim (λ (near : p < 109). rw (lt-ltb p 109 near) refl) (λ (far : 109 ≤ p). rw (le-ltb p 109 far) (hold_fats S p d)) (below_or p 109)

place_difats_same : (S p id : ℕ) (d : Disk) → needs_difat S p ≡ false → (list_place S d p id).difats ≡ d.difats
unfolding list_place store_place store hold_place
place_difats_same S p id d t =
    ⊎_elim (λ (near : p < 109). rw (lt-ltb p 109 near) refl) (λ (far : 109 ≤ p). rw (le-ltb p 109 far, t) refl) (below_or p 109)

-- a place that needs one is 109 or later
pub needs_far : (S p : ℕ) → needs_difat S p ≡ true → 109 ≤ p
needs_far S p t =
    ⊎_elim
    (λ (near : p < 109). absurd (not_both t (needs_near S p near)))
    (λ (far : 109 ≤ p). far)
    (below_or p 109)

-- and the DIFAT sectors that there are hold the places before it
places_full : (S p : ℕ) → 2 ≤ per_sector S → needs_difat S p ≡ true → (p - 109) / (per_sector S - 1) * (per_sector S - 1) ≡ p - 109
unfolding difat_count
places_full S p two t =
    let some : 1 ≤ per_sector S - 1 = omega (arith, two) in
    let e : ceil (p - 109) (per_sector S - 1) * (per_sector S - 1) ≡ (p - 109) / (per_sector S - 1) * (per_sector S - 1) = ap (λ (q : ℕ). q * (per_sector S - 1)) (needs_full S p two t) in
    omega (arith, e, (ceil_enough (p - 109) (per_sector S - 1) some).0, div-mul-le_self (p - 109) (per_sector S - 1))

place_difats_more : (S p id : ℕ) (d : Disk) → needs_difat S p ≡ true → (list_place S d p id).difats ≡ set d.difats ((p - 109) / (per_sector S - 1)) d.sectors
unfolding list_place store_place store hold_place append_difat push_fat list_difat
place_difats_more S p id d t = rw (le-ltb p 109 (needs_far S p t), t) refl

-- the lists after a FAT sector is added
pub append_fats : (S : ℕ) (d : Disk) → (append_fat S d).fats ≡ set d.fats (d.sectors / per_sector S) d.sectors
unfolding append_fat store push_fat list_fat
append_fats S d = place_fats S (d.sectors / per_sector S) d.sectors _

pub append_difats_same : (S : ℕ) (d : Disk) → needs_difat S (d.sectors / per_sector S) ≡ false → (append_fat S d).difats ≡ d.difats
unfolding append_fat store push_fat list_fat
append_difats_same S d t = place_difats_same S (d.sectors / per_sector S) d.sectors _ t

pub append_difats_more : (S : ℕ) (d : Disk) → needs_difat S (d.sectors / per_sector S) ≡ true
    → (append_fat S d).difats ≡ set d.difats ((d.sectors / per_sector S - 109) / (per_sector S - 1)) (suc d.sectors)
unfolding append_fat store push_fat list_fat
append_difats_more S d t = place_difats_more S (d.sectors / per_sector S) d.sectors _ t

-- document 01: sector n becomes a FAT sector, without a DIFAT sector and with one behind it
module _ (S R : ℕ) (d : Disk) (f : FitsFat S R d) where
  count_is : fats_held S d ≡ d.sectors / per_sector S
  count_is = fat_full S d.sectors (omega (arith, full_many S R d f)) f.full

  -- a full FAT: n is E times its sectors
  sector_full : d.sectors ≡ fats_held S d * per_sector S
  sector_full =
      let e : fats_held S d * per_sector S ≡ d.sectors / per_sector S * per_sector S = ap (λ (q : ℕ). q * per_sector S) count_is in
      omega (arith, e, mul_comm (d.sectors / per_sector S) (per_sector S), div-add-mod d.sectors (per_sector S), f.full)

  fats_listed : Listed d.fats (append_fat S d).fats (fats_held S d) (suc (d.sectors / per_sector S)) d.sectors
  fats_listed =
      rw count_is
      (listed_more d.fats (append_fat S d).fats (d.sectors / per_sector S) (suc (d.sectors / per_sector S)) d.sectors (append_fats S d) refl
      (omega (arith, full_place S R d f, f.fits.fats_long)))

  difat_same : needs_difat S (d.sectors / per_sector S) ≡ false → difat_count S (suc (d.sectors / per_sector S)) ≡ difat_count S (d.sectors / per_sector S)
  difat_same t =
      let k = d.sectors / per_sector S in
      let two : 2 ≤ per_sector S = omega (arith, full_many S R d f) in
      ⊎_elim
      (λ (near : d.sectors / per_sector S < 109). difat_none S (suc (d.sectors / per_sector S)) two near ∙ sym (difat_none S (d.sectors / per_sector S) two (omega arith)))
      (λ (far : 109 ≤ d.sectors / per_sector S). difat_suc S (d.sectors / per_sector S) two far ∙ sym (needs_not S (d.sectors / per_sector S) two far t))
      (below_or (d.sectors / per_sector S) 109)

  pub append_grown_fat : needs_difat S (d.sectors / per_sector S) ≡ false
      → Grown S d (suc (d.sectors / per_sector S)) (difat_count S (suc (d.sectors / per_sector S))) (append_fat S d).fats (append_fat S d).difats (d.sectors + 1)
  append_grown_fat t =
      let same : difat_count S (suc (d.sectors / per_sector S)) ≡ difats_held S d = difat_same t ∙ ap (difat_count S) (sym count_is) in
      record {
        fat = d.sectors;
        difat = d.sectors + 2;
        fats_more = omega (arith, count_is);
        difats_more = omega (arith, same);
        fats = fats_listed;
        difats = listed_same d.difats (append_fat S d).difats (difats_held S d) _ (d.sectors + 2) (append_difats_same S d t) same;
        fat_new = omega arith;
        difat_new = omega arith;
        fat_difat = omega arith;
        fat_id = omega arith;
        difat_id = omega arith;
        fat_place = λ l. sector_full;
        difat_place_lem = λ l. absurd (omega (arith, l, same));
        fat_first = λ l. refl;
        difat_second = λ l. absurd (omega (arith, l, same));
      }

  pub append_grown_difat : needs_difat S (d.sectors / per_sector S) ≡ true
      → Grown S d (suc (d.sectors / per_sector S)) (difat_count S (suc (d.sectors / per_sector S))) (append_fat S d).fats (append_fat S d).difats (d.sectors + 2)
  append_grown_difat t =
      let two : 2 ≤ per_sector S = omega (arith, full_many S R d f) in
      let was : difats_held S d ≡ (d.sectors / per_sector S - 109) / (per_sector S - 1) = ap (difat_count S) count_is ∙ needs_full S (d.sectors / per_sector S) two t in
      let is : difat_count S (suc (d.sectors / per_sector S)) ≡ suc (difats_held S d)
      = difat_suc S (d.sectors / per_sector S) two (needs_far S (d.sectors / per_sector S) t) ∙ ap suc (sym was) in
      record {
        fat = d.sectors;
        difat = suc d.sectors;
        fats_more = omega (arith, count_is);
        difats_more = omega (arith, is);
        fats = fats_listed;
        difats =
            listed_more d.difats (append_fat S d).difats (difats_held S d) _ (suc d.sectors)
            (append_difats_more S d t ∙ ap (λ (q : ℕ). set d.difats q (suc d.sectors)) (sym was)) is
            (omega (arith, was, div-le_self (d.sectors / per_sector S - 109) (per_sector S - 1), full_place S R d f, f.fits.difats_long));
        fat_new = omega arith;
        difat_new = omega arith;
        fat_difat = omega arith;
        fat_id = omega arith;
        difat_id = omega arith;
        fat_place = λ l. sector_full;
        difat_place_lem = λ l.
            let at : fats_held S d ≡ 109 + difats_held S d * (per_sector S - 1)
            = omega (arith, count_is, places_full S (d.sectors / per_sector S) two t, ap (λ (q : ℕ). q * (per_sector S - 1)) was, needs_far S (d.sectors / per_sector S) t) in
            omega (arith, sector_full, ap (λ (q : ℕ). q * per_sector S) at);
        fat_first = λ l. refl;
        difat_second = λ l. refl;
      }

-- how many there are when a new sector is taken, by whether the FAT is full
pub new_fats : (S : ℕ) (d : Disk) → ((new_sector S d).fats ≡ (ready S d).fats) × ((new_sector S d).difats ≡ (ready S d).difats)
unfolding new_sector store push_fat
new_fats S d = (refl, refl)

-- document 01: a new sector is taken
module _ (S R : ℕ) (d : Disk) (f : FitsNew S R d) where
  pub new_grown : GrownTo S d (new_sector S d) (ready S d).sectors
  new_grown =
      ⊎_elim
      (λ (e : d.sectors % per_sector S ≡ 0).
      let k : fats_held S (new_sector S d) ≡ suc (d.sectors / per_sector S) = ap (fat_count S) (new_sectors S d) ∙ count_full S R d f e in
      let full : ready S d ≡ append_fat S d = ready_full S d e in
      let fats : (new_sector S d).fats ≡ (append_fat S d).fats = (new_fats S d).0 ∙ ap (λ (x : Disk). x.fats) full in
      let difats : (new_sector S d).difats ≡ (append_fat S d).difats = (new_fats S d).1 ∙ ap (λ (x : Disk). x.difats) full in
      let last : (ready S d).sectors ≡ after_fat S d.sectors = ap (λ (x : Disk). x.sectors) full ∙ append_sectors S d in
      ⊎_elim
      (λ (t : needs_difat S (d.sectors / per_sector S) ≡ true).
      grown_at k (ap (difat_count S) k) fats difats (last ∙ after_needs S d.sectors t) (append_grown_difat S R d (new_full S R d f e) t))
      (λ (t : needs_difat S (d.sectors / per_sector S) ≡ false).
      grown_at k (ap (difat_count S) k) fats difats (last ∙ after_not S d.sectors t) (append_grown_fat S R d (new_full S R d f e) t))
      (true_or (needs_difat S (d.sectors / per_sector S))))
      (λ (e : d.sectors % per_sector S ≢ 0).
      let k : fats_held S (new_sector S d) ≡ fats_held S d = ap (fat_count S) (new_sectors S d) ∙ count_part S R d f e in
      let part : ready S d ≡ d = ready_part S d e in
      grown_none S d _ _ _ _ (ready S d).sectors ((new_fats S d).0 ∙ ap (λ (x : Disk). x.fats) part) ((new_fats S d).1 ∙ ap (λ (x : Disk). x.difats) part) k (ap (difat_count S) k)
      (omega (arith, ap (λ (x : Disk). x.sectors) part)))
      (same_or (d.sectors % per_sector S) 0)

-- document 01: a FREE sector is taken
pub reused_lists : (S : ℕ) (d : Disk) (id : ℕ) → ((reused S d id).fats ≡ d.fats) × ((reused S d id).difats ≡ d.difats)
unfolding reused store set_fat
reused_lists S d id = (refl, refl)

pub reused_grown : (S : ℕ) (d : Disk) (id : ℕ) → id < d.sectors → GrownTo S d (reused S d id) id
reused_grown S d id h =
    let k : fats_held S (reused S d id) ≡ fats_held S d = ap (fat_count S) (reused_sectors S d id) in
    grown_none S d _ _ _ _ id (reused_lists S d id).0 (reused_lists S d id).1 k (ap (difat_count S) k) (omega (arith, h))

-- a sector is taken, either way
take_grown : (S R : ℕ) (h : Hand) → FitsHand S R h → (h.free ≡ 0 → one_more S h.disk.sectors ≤ R)
    → GrownTo S h.disk (take_sector S h).disk (taken_id S h)
take_grown S R h f room =
    ⊎_elim
    (λ (e : h.free ≡ 0). rw (take_none S h e, id_new S h e) (new_grown S R h.disk (record { fits = f.disk; room = room e })))
    (λ (e : h.free ≢ 0). rw (take_one S h e, id_last S h e) (reused_grown S h.disk (get_or h.frees (h.free - 1) 0) (f.frees_below (h.free - 1) (omega (arith, e)))))
    (same_or h.free 0)

-- an entry that is set leaves the lists
pub record SameLists (d e : Disk) : Type 0 where
  pub sectors : e.sectors ≡ d.sectors
  pub fats : e.fats ≡ d.fats
  pub difats : e.difats ≡ d.difats

point_lists : (S : ℕ) (h : Hand) (i v : ℕ) → SameLists h.disk (point S h i v).disk
unfolding point set_fat
point_lists S h i v = record { sectors = refl; fats = refl; difats = refl }

pub linked_lists : (S : ℕ) (h : Hand) (ids : List ℕ) (count id : ℕ) → SameLists h.disk (linked S h ids count id).disk
linked_lists S h ids count id =
    ⊎_elim
    (λ (e : count ≡ 0). rw (linked_none S h ids count id e) (record { sectors = refl; fats = refl; difats = refl }))
    (λ (e : count ≢ 0). rw (linked_last S h ids count id e) (point_lists S h (get_or ids (count - 1) 0) id))
    (same_or count 0)

grown_same : (S : ℕ) (d e e' : Disk) (id : ℕ) → SameLists e e' → GrownTo S d e id → GrownTo S d e' id
grown_same S d e e' id s g = grown_at (ap (fat_count S) s.sectors) (ap (λ (n : ℕ). difat_count S (fat_count S n)) s.sectors) s.fats s.difats refl g

-- a sector is taken for a chain and linked
pub one_grown : {S R m : ℕ} {c : Chain} → FitsMore S R (suc m) c
    → GrownTo S c.hand.disk (extend_one S c).hand.disk (taken_id S c.hand)
unfolding extend_one
one_grown {S} {R} {m} {c} f =
    grown_same S c.hand.disk (take_sector S c.hand).disk _ (taken_id S c.hand) (linked_lists S (take_sector S c.hand) c.ids c.count (taken_id S c.hand))
    (take_grown S R c.hand f.fits.fits (more_room f))
