-- Every change of a chain leaves an image whose bytes say what its tables say (document 01, "Calls on a chain"; MS-CFB 2.2, 2.3, 2.5). Assumes nothing.
use Prim.Native.Nat.{ℕ, zero, suc, ◌+◌, ◌-◌, ◌*◌, ◌/◌, ◌%◌, ◌^◌, ◌≤◌, ◌<◌}
use mathlib.Core.Path.{◌≡◌, refl, ◌∙◌, sym, ap}
use mathlib.Core.Bool.{true, false}
use mathlib.Core.List.{List}
use mathlib.Core.Logic.{⊎_elim, ◌≢◌}
use native.Mathlib.Omega.{arith}
use native.Mathlib.Nat.{suc-mul, div-add-mod', div-le_self, div-lt_iff_lt-mul, lt-div-mul-add}
use native.Mathlib.Numerals.{add-one}
use borrow.Author.Tests.{lt-ltb, le-ltb}
use lib.ListN.{length, get_or, set}
use lib.Seq.{get_or-set_same}
use Rattle.lists.proofs.Cases.{below_or, same_or, true_or}
use Rattle.words.specs.Words.{digits}
use Rattle.consts.specs.Consts.{difat_sector, fat_sector, end_of_chain, free_sector}
use Rattle.sectors.specs.Sectors.{start_of, per_sector}
use Rattle.sectors.specs.declared.init.SectorInit.TheVariants.{Zero, Fat, Difat}
use Rattle.fat.specs.Lists.{ceil, fat_count, difat_count}
use Rattle.fat.proofs.Listing.{ceil_enough}
use Rattle.stores.specs.Stores.{Writable, Outside}
use Rattle.stores.proofs.Apart.{other_outside, header_outside}
use Rattle.stores.proofs.Stored.{write_length, write_apart}
use Rattle.stores.proofs.Zeroed.{zero_length, zero_apart}
use Rattle.disk.specs.Disk.{Disk, store, set_fat, push_fat, list_fat, list_difat, append_difat, needs_difat, store_place, hold_place, list_place, append_fat, one_more, ready, new_sector, reused}
use Rattle.disk.specs.Fits.{FitsFat, FitsNew}
use Rattle.room.specs.Needed.{resize_more, write_more}
use Rattle.disk.proofs.Counting.{fat_full, difat_none, difat_suc, needs_full, needs_not}
use Rattle.disk.proofs.Keeping.{each_many, sectors_inside}
use Rattle.disk.proofs.Fitting.{difat_new, difat_marked, full_many, full_room, full_place, marked_room, ready_full, ready_part, new_full, ready_room, ready_has, count_full, count_part, new_sectors}
use Rattle.hand.specs.Hand.{Hand, Chain, point, taken_id, take_sector, free_sector_of, free_run, linked, extend_one, extend}
use Rattle.hand.specs.Fits.{FitsMore, FitsFrees}
use Rattle.moves.specs.Change.{cut, shrink, with_image, ids_of, resized, written, FitsShrink, FitsResize, FitsWrite}
use Rattle.hand.proofs.Taking.{take_none, take_one, taken_below}
use Rattle.hand.proofs.Linking.{linked_none, linked_last, one_fits, more_room, more_last}
use Rattle.moves.proofs.Extending.{extend_none, extend_more, extend_count}
use Rattle.hand.proofs.Freeing.{free_none, free_more, frees_more}
use Rattle.moves.proofs.Shrinking.{shrink_none, shrink_some, shrink_last, shrink_frees}
use Rattle.moves.proofs.Changing.{chain_listed, chain_id, chain_writable, shrunk_writable, resized_more, resized_fewer, resize_shrink, write_covers}
use Rattle.edits.proofs.Growing.{hold_fats}
use Rattle.edits.specs.Roles.{Roles, fats_held, difats_held}
use Rattle.edits.proofs.Roles.{one_roles, extend_roles, shrink_roles}
use Rattle.promises.specs.Coded.{place_of, Coded}
use Rattle.promises.proofs.Stores.{slot, SameAt, bytes_same, FreshDifat, fresh_same, fresh_fat, fresh_difat}
use Rattle.promises.proofs.Placing.{place_near, place_far}
use Rattle.promises.proofs.Standing.{Stands, stands_at, stands_many, image_stands, init_stands, entry_sector, entry_other, set_stands, push_stands, grow_stands, place_stands, link_stands, fats_counted, difats_counted}

-- document 01: the next sector becomes the j-th DIFAT sector
difat_stands : {S R h g k m j : ℕ} {d : Disk} → Stands S R h g k m j d → d.sectors < k * per_sector S → d.sectors < R → j < R
    → Stands S R h (suc j) k m (suc j) (append_difat S d j)
unfolding append_difat store push_fat list_difat
difat_stands {S} {R} {h} {g} {k} {m} {j} {d} s low room more =
    let no_fat : (q : ℕ) → q < k → get_or d.fats q 0 ≢ d.sectors = λ q l. omega (arith, s.fits.fats_below q l) in
    let no_difat : (q : ℕ) → q < j → get_or d.difats q 0 ≢ d.sectors = λ q l. omega (arith, s.fits.difats_below q l) in
    let some : 1 ≤ per_sector S = omega (arith, stands_many s) in
    let new : Stands S R h g k m j (difat_new S d) = init_stands s d.sectors Difat room no_fat no_difat in
    let marked : Stands S R h g k m j (difat_marked S d) = push_stands new difat_sector low room (omega arith) in
    let fresh : FreshDifat S d.sectors (difat_marked S d).image
    = fresh_same S d.sectors (difat_new S d).image (difat_marked S d).image some
    (λ x l. entry_other new d.sectors difat_sector low d.sectors x l (λ e. no_fat (d.sectors / per_sector S) (entry_sector new d.sectors difat_sector low) (sym e)))
    (fresh_difat S d.sectors d.image s.fits.holds.entries some (sectors_inside S R k j d s.fits d.sectors room)) in
    let listed = link_stands marked d.sectors (omega arith) more no_fat no_difat fresh in
    stands_at refl (sym (add-one j)) refl refl refl (difats_counted listed (j + 1) (omega (arith, more, s.fits.few)))

-- a DIFAT sector added where none holds place p
hold_stands : {S R h k m p : ℕ} {d : Disk} → Stands S R h (difat_count S p) k m (difat_count S p) d → 109 ≤ p → p < R → d.sectors < k * per_sector S → (needs_difat S p ≡ true → d.sectors < R)
    → Stands S R h (difat_count S (suc p)) k m (difat_count S (suc p)) (hold_place S d p)
unfolding hold_place
hold_stands {S} {R} {h} {k} {m} {p} {d} s far small low room =
    let two : 2 ≤ per_sector S = omega (arith, stands_many s) in
    let q : difat_count S (suc p) ≡ suc ((p - 109) / (per_sector S - 1)) = difat_suc S p two far in
    ⊎_elim
    (λ (t : needs_difat S p ≡ true).
    let full : (p - 109) / (per_sector S - 1) ≡ difat_count S p = sym (needs_full S p two t) in
    rw t
    (stands_at refl q refl refl q
    (difat_stands (stands_at refl full refl refl full s) low (room t) (omega (arith, div-le_self (p - 109) (per_sector S - 1), small)))))
    (λ (t : needs_difat S p ≡ false).
    let same : difat_count S (suc p) ≡ difat_count S p = q ∙ sym (needs_not S p two far t) in
    rw t (stands_at refl same refl refl same s))
    (true_or (needs_difat S p))

-- a FAT sector in its place of the DIFAT
list_stands : {S R h k p : ℕ} {d : Disk} → Stands S R h (difat_count S p) k p (difat_count S p) d → (id : ℕ) → id ≡ get_or d.fats p 0 → id < 2 ^ 32 → p < R
    → d.sectors < k * per_sector S → (needs_difat S p ≡ true → d.sectors < R) → Stands S R h (difat_count S (suc p)) k (suc p) (difat_count S (suc p)) (list_place S d p id)
unfolding list_place store_place
list_stands {S} {R} {h} {k} {p} {d} s id is few small low room =
    let two : 2 ≤ per_sector S = omega (arith, stands_many s) in
    let whole : S ≡ 4 * per_sector S = s.fits.holds.entries in
    ⊎_elim
    (λ (near : p < 109).
    let same : difat_count S (suc p) ≡ difat_count S p = difat_none S (suc p) two near ∙ sym (difat_none S p two (omega (arith, near))) in
    let t : Stands S R h (difat_count S p) k (suc p) (difat_count S p) (store d (place_of S d.difats p) (digits 4 id)) = place_stands s id (omega (arith, near)) is few in
    rw (lt-ltb p 109 near) (stands_at refl same refl refl same (rw (place_near S whole (stands_many s) d.difats p near) at t)))
    (λ (far : 109 ≤ p).
    let held = hold_stands s far small low room in
    let reach : p < 109 + difat_count S (suc p) * (per_sector S - 1)
    = omega (
      arith,
      ap (λ (c : ℕ). c * (per_sector S - 1)) (difat_suc S p two far),
      suc-mul ((p - 109) / (per_sector S - 1)) (per_sector S - 1),
      lt-div-mul-add {a = p - 109} {b = per_sector S - 1} (omega (arith, two)),
      far,
    ) in
    let t : Stands S R h (difat_count S (suc p)) k (suc p) (difat_count S (suc p)) (store (hold_place S d p) (place_of S (hold_place S d p).difats p) (digits 4 id))
    = place_stands held id reach (is ∙ ap (λ (xs : List ℕ). get_or xs p 0) (sym (hold_fats S p d))) few in
    rw (le-ltb p 109 far) (rw (place_far S whole (stands_many s) (hold_place S d p).difats p far) at t))
    (below_or p 109)

-- a disk whose header counts the k sectors of its FAT and the j of its DIFAT,
abbrev StandsAs : ℕ → ℕ → ℕ → ℕ → Disk → Type 0
StandsAs S R k j d = Stands S R k j k k j d

-- as many as document 01 asks for
abbrev StandsWhole : ℕ → ℕ → Disk → Type 0
StandsWhole S R d = StandsAs S R (fats_held S d) (difats_held S d) d

whole_of : (S R n : ℕ) (d : Disk) → d.sectors ≡ n → StandsAs S R (fat_count S n) (difat_count S (fat_count S n)) d → StandsWhole S R d
whole_of S R n d e s =
    let k : fats_held S d ≡ fat_count S n = ap (fat_count S) e in
    stands_at k (ap (difat_count S) k) k k (ap (difat_count S) k) s

-- document 01: the next sector becomes a FAT sector
fat_stands : (S R : ℕ) (d : Disk) → FitsFat S R d → StandsWhole S R d
    → StandsAs S R (suc (d.sectors / per_sector S)) (difat_count S (suc (d.sectors / per_sector S))) (append_fat S d)
unfolding append_fat store push_fat list_fat
fat_stands S R d f s =
    let many : 128 ≤ per_sector S = full_many S R d f in
    let whole : S ≡ 4 * per_sector S = s.fits.holds.entries in
    let count : d.sectors / per_sector S ≡ fats_held S d = sym (fat_full S d.sectors (omega (arith, many)) f.full) in
    let even : d.sectors ≡ d.sectors / per_sector S * per_sector S = omega (arith, div-add-mod' d.sectors (per_sector S), f.full) in
    let was : StandsAs S R (d.sectors / per_sector S) (difat_count S (d.sectors / per_sector S)) d
    = stands_at count (ap (difat_count S) count) count count (ap (difat_count S) count) s in
    let room : d.sectors < R = full_room S R d f in
    let place : d.sectors / per_sector S < R = full_place S R d f in
    let new = init_stands was d.sectors Fat room (λ q l. omega (arith, was.fits.fats_below q l)) (λ q l. omega (arith, was.fits.difats_below q l)) in
    let marked = grow_stands new fat_sector refl even (omega arith) room (omega arith)
    (λ x l. fresh_fat S d.sectors x d.image whole (omega (arith, many)) (sectors_inside S R _ _ d s.fits d.sectors room) l) in
    let own : d.sectors ≡ get_or (set d.fats (d.sectors / per_sector S) d.sectors) (d.sectors / per_sector S) 0
    = sym (get_or-set_same d.fats (d.sectors / per_sector S) d.sectors 0 (omega (arith, place, s.fits.fats_long))) in
    let listed = list_stands marked d.sectors own (omega (arith, room, s.fits.few)) place
    (omega (arith, even, suc-mul (d.sectors / per_sector S) (per_sector S), many)) (marked_room S R d f) in
    stands_at (sym (add-one (d.sectors / per_sector S))) refl refl refl refl (fats_counted listed (d.sectors / per_sector S + 1) (omega (arith, place, s.fits.few)))

-- document 01: the next sector becomes a chain's last one
module _ (S R : ℕ) (d : Disk) (f : FitsNew S R d) (s : StandsWhole S R d) where
  ready_stands : StandsAs S R (fat_count S (one_more S d.sectors)) (difat_count S (fat_count S (one_more S d.sectors))) (ready S d)
  ready_stands =
      ⊎_elim
      (λ (e : d.sectors % per_sector S ≡ 0). rw (count_full S R d f e, ready_full S d e) (fat_stands S R d (new_full S R d f e) s))
      (λ (e : d.sectors % per_sector S ≢ 0). rw (count_part S R d f e, ready_part S d e) s)
      (same_or (d.sectors % per_sector S) 0)

  new_stands : StandsWhole S R (new_sector S d)
  unfolding new_sector store push_fat
  new_stands =
      let t = ready_stands in
      let low : (ready S d).sectors < fat_count S (one_more S d.sectors) * per_sector S
      = (div-lt_iff_lt-mul {k = per_sector S} {x = (ready S d).sectors} {y = fat_count S (one_more S d.sectors)} (omega (arith, stands_many t))).0 (ready_has S R d f) in
      whole_of S R (one_more S d.sectors) (new_sector S d) (new_sectors S d)
      (init_stands (push_stands t end_of_chain low (ready_room S R d f) (omega arith)) (ready S d).sectors Zero (ready_room S R d f)
      (λ q l. omega (arith, t.fits.fats_below q l)) (λ q l. omega (arith, t.fits.difats_below q l)))

-- document 01: a FREE sector becomes a chain's last one
reused_stands : (S R : ℕ) (d : Disk) (id : ℕ) → StandsWhole S R d → id < d.sectors → ((q : ℕ) → q < fats_held S d → get_or d.fats q 0 ≢ id)
    → ((q : ℕ) → q < difats_held S d → get_or d.difats q 0 ≢ id) → StandsWhole S R (reused S d id)
unfolding reused store set_fat
reused_stands S R d id s l no_fat no_difat =
    init_stands (set_stands s id end_of_chain l (omega arith)) id Zero (omega (arith, l, s.fits.inside)) no_fat no_difat

-- an entry is set, for a chain's link or for a sector that is freed
point_stands : (S R : ℕ) (h : Hand) (i v : ℕ) → StandsWhole S R h.disk → i < h.disk.sectors → v < 2 ^ 32 → StandsWhole S R (point S h i v).disk
unfolding point set_fat
point_stands S R h i v s l small = set_stands s i v l small

linked_stands : (S R : ℕ) (h : Hand) (ids : List ℕ) (count id : ℕ) → StandsWhole S R h.disk → (0 < count → get_or ids (count - 1) 0 < h.disk.sectors) → id < 2 ^ 32
    → StandsWhole S R (linked S h ids count id).disk
linked_stands S R h ids count id s l small =
    ⊎_elim
    (λ (e : count ≡ 0). rw (linked_none S h ids count id e) s)
    (λ (e : count ≢ 0). rw (linked_last S h ids count id e) (point_stands S R h (get_or ids (count - 1) 0) id s (l (omega (arith, e))) small))
    (same_or count 0)

free_stands : (S R : ℕ) (h : Hand) (i : ℕ) → StandsWhole S R h.disk → i < h.disk.sectors → StandsWhole S R (free_sector_of S h i).disk
unfolding free_sector_of
free_stands S R h i s l = point_stands S R h i free_sector s l (omega arith)

free_run_stands : (S R i c : ℕ) (ids : List ℕ) (h : Hand) → FitsFrees S R i c ids h → StandsWhole S R h.disk → StandsWhole S R (free_run S h ids i c).disk
free_run_stands S R i zero ids h f s = rw free_none s
free_run_stands S R i (suc c) ids h f s =
    rw free_more
    (free_run_stands S R (suc i) c ids (free_sector_of S h (get_or ids i 0)) (frees_more S R i c ids h f) (free_stands S R h (get_or ids i 0) s (f.within i (omega arith))))

-- a chain is cut, and its tail freed
shrunk_stands : (S R m : ℕ) (c : Chain) → FitsShrink S R m c → StandsWhole S R c.hand.disk → StandsWhole S R (shrink S c m).hand.disk
shrunk_stands S R m c f s =
    ⊎_elim
    (λ (l : m < c.count).
    rw (shrink_some S c m l)
    (free_run_stands S R m (c.count - m) c.ids (cut S c.hand c.ids m) (shrink_frees S R m c f)
    (linked_stands S R c.hand c.ids m end_of_chain s (shrink_last S R m c f) (omega arith))))
    (λ (g : c.count ≤ m). rw (shrink_none S c m g) s)
    (below_or m c.count)

-- a sector is taken, new or FREE,
take_stands : (S R m : ℕ) (c : Chain) → FitsMore S R (suc m) c → Roles S R c → StandsWhole S R c.hand.disk → StandsWhole S R (take_sector S c.hand).disk
take_stands S R m c f r s =
    ⊎_elim
    (λ (e : c.hand.free ≡ 0). rw (take_none S c.hand e) (new_stands S R c.hand.disk (record { fits = f.fits.fits.disk; room = more_room f e }) s))
    (λ (e : c.hand.free ≢ 0).
    let last : c.hand.free - 1 < c.hand.free = omega (arith, e) in
    rw (take_one S c.hand e)
    (reused_stands S R c.hand.disk (get_or c.hand.frees (c.hand.free - 1) 0) s (r.fits.fits.frees_below (c.hand.free - 1) last)
    (λ q l x. r.frees_fats (c.hand.free - 1) q last l (sym x)) (λ q l x. r.frees_difats (c.hand.free - 1) q last l (sym x))))
    (same_or c.hand.free 0)

-- linked and listed,
one_stands : (S R m : ℕ) (c : Chain) → FitsMore S R (suc m) c → Roles S R c → StandsWhole S R c.hand.disk → StandsWhole S R (extend_one S c).hand.disk
unfolding extend_one
one_stands S R m c f r s =
    let t = take_stands S R m c f r s in
    linked_stands S R (take_sector S c.hand) c.ids c.count (taken_id S c.hand) t (more_last f)
    (omega (arith, taken_below S R c.hand f.fits.fits (more_room f), t.fits.inside, t.fits.few))

-- and so are m more
extended_stands : (S R m : ℕ) (c : Chain) → FitsMore S R m c → Roles S R c → StandsWhole S R c.hand.disk → StandsWhole S R (extend S c m).hand.disk
extended_stands S R zero c f r s = rw extend_none s
extended_stands S R (suc m) c f r s = rw extend_more (extended_stands S R m (extend_one S c) (one_fits f) (one_roles S R m c f r) (one_stands S R m c f r s))

-- other bytes in the chain's own sectors, which are neither the FAT's nor the DIFAT's
with_stands : (S R : ℕ) (c : Chain) (img : List ℕ) → Roles S R c → length img ≡ length c.hand.disk.image
    → ((b : ℕ) → Outside S (ids_of c) b → get_or img b 0 ≡ get_or c.hand.disk.image b 0) → StandsWhole S R c.hand.disk → StandsWhole S R (with_image c img).hand.disk
unfolding with_image
with_stands S R c img r long same s =
    image_stands s img long
    (λ o l. bytes_same c.hand.disk.image img o (λ x hx. same (o + x) (header_outside S (ids_of c) (o + x) (omega (arith, l, hx, s.fits.header)))))
    (λ q x hq hx. slot_same (get_or c.hand.disk.fats q 0) x hx (λ i l e. r.ids_fats i q l hq e))
    (λ q x hq hx. slot_same (get_or c.hand.disk.difats q 0) x hx (λ i l e. r.ids_difats i q l hq e))
  where
    no_id : (a : ℕ) → ((i : ℕ) → i < c.count → get_or c.ids i 0 ≢ a) → (i : ℕ) → i < length (ids_of c) → get_or (ids_of c) i 0 ≢ a
    no_id a n i l =
        let low : i < c.count = rw (chain_listed S R c r.fits) at l in
        rw (chain_id S R c r.fits i low) (n i low)

    slot_same : (a x : ℕ) → x < per_sector S → ((i : ℕ) → i < c.count → get_or c.ids i 0 ≢ a) → SameAt c.hand.disk.image img (slot S a x)
    slot_same a x hx n =
        bytes_same c.hand.disk.image img (slot S a x)
        (λ y hy.
        let here : slot S a x + y ≡ start_of S a + (4 * x + y) = omega arith in
        rw here (same (start_of S a + (4 * x + y)) (other_outside S (ids_of c) a (4 * x + y) (no_id a n) (omega (arith, s.fits.holds.entries, hx, hy)))))

-- the FAT's sectors hold an entry for each sector, and the DIFAT's a place for each of those
fats_enough : (S n : ℕ) → 1 ≤ per_sector S → n ≤ fat_count S n * per_sector S
unfolding fat_count
fats_enough S n some = (ceil_enough n (per_sector S) some).0

difats_enough : (S k : ℕ) → 2 ≤ per_sector S → k ≤ 109 + difat_count S k * (per_sector S - 1)
unfolding difat_count
difats_enough S k two = omega (arith, (ceil_enough (k - 109) (per_sector S - 1) (omega (arith, two))).0)

-- the bytes say what the tables say: of a chain each of whose sectors has one role, and of what is left
coded_stands : (S R : ℕ) (c : Chain) → Roles S R c → Coded S c.hand.disk → StandsWhole S R c.hand.disk
coded_stands S R c r w =
    let many : 128 ≤ per_sector S = each_many S R _ _ c.hand.disk r.fits.fits.disk in
    record {
      fits = r.fits.fits.disk;
      fats_once = r.fats_once;
      difats_once = r.difats_once;
      fats_difats = r.fats_difats;
      full = fats_enough S c.hand.disk.sectors (omega (arith, many));
      reach = difats_enough S (fats_held S c.hand.disk) (omega (arith, many));
      number_of_fats = w.number_of_fats;
      number_of_difats = w.number_of_difats;
      entries = w.entries;
      places = w.places;
      links = w.links;
    }

stands_coded : (S R : ℕ) (d : Disk) → StandsWhole S R d → Coded S d
stands_coded S R d s = record { number_of_fats = s.number_of_fats; number_of_difats = s.number_of_difats; entries = s.entries; places = s.places; links = s.links }

-- document 01, Resize: the bytes that it leaves say what the tables that it leaves say
pub coded_resized : (S R len : ℕ) (c : Chain) → FitsResize S R len c → Roles S R c → Coded S c.hand.disk → Coded S (resized S c len).hand.disk
coded_resized S R len c f r w =
    let s = coded_stands S R c r w in
    ⊎_elim
    (λ (l : c.count < ceil len S). rw (resized_more S c len l) (stands_coded S R _ (extended_stands S R (resize_more S c.count len) c f.fits r s)))
    (λ (g : ceil len S ≤ c.count).
    let fits : FitsShrink S R (ceil len S) c = resize_shrink S R len c f (ceil len S) g in
    let can = shrunk_writable S R len c fits f.apart in
    rw (resized_fewer S c len g)
    (stands_coded S R _
    (with_stands S R (shrink S c (ceil len S)) _ (shrink_roles S R (ceil len S) c fits r)
    (zero_length S (shrink S c (ceil len S)).hand.disk.image (ids_of (shrink S c (ceil len S))) len can)
    (zero_apart S (shrink S c (ceil len S)).hand.disk.image (ids_of (shrink S c (ceil len S))) len can)
    (shrunk_stands S R (ceil len S) c fits s))))
    (below_or c.count (ceil len S))

-- document 01, Write: likewise
pub coded_written : (S R offset : ℕ) (buf : List ℕ) (c : Chain) → FitsWrite S R offset (length buf) c → Roles S R c → Coded S c.hand.disk
    → Coded S (written S c offset buf).hand.disk
unfolding written
coded_written S R offset buf c f r w =
    stands_coded S R _
    (with_stands S R wide _ roles (write_length S wide.hand.disk.image (ids_of wide) offset buf can)
    (write_apart S wide.hand.disk.image (ids_of wide) offset buf can)
    (extended_stands S R more c f.fits r (coded_stands S R c r w)))
  where
    more : ℕ
    more = write_more S c.count offset (length buf)

    wide : Chain
    wide = extend S c more

    roles : Roles S R wide
    roles = extend_roles S R more c f.fits r

    can : Writable S (length wide.hand.disk.image) (ids_of wide) offset (length buf)
    can = chain_writable S R wide roles.fits roles.apart offset (length buf) (rw (extend_count S c more) (write_covers S R offset (length buf) c f))
