-- What the disk's changes leave: how many sectors there are, and that every number lies within what is lent. Assumes nothing.
use Prim.Native.Nat.{ℕ, zero, suc, ◌+◌, ◌-◌, ◌*◌, ◌/◌, ◌%◌, ◌≤◌, ◌<◌}
use mathlib.Core.Path.{◌≡◌, refl, sym, ◌∙◌, ap, subst}
use mathlib.Core.Bool.{true, false}
use mathlib.Core.Logic.{⊎_elim, ◌≢◌}
use native.Mathlib.Omega.{arith}
use native.Mathlib.Nat.{mod-lt, div-le_self}
use native.Mathlib.Numerals.{add-one}
use borrow.Author.Tests.{lt-ltb, le-ltb, eq-eqb, ne_eqb}
use lib.ListN.{length, get_or}
use Rattle.lists.specs.Lists.{choose}
use Rattle.lists.proofs.Cases.{below_or, same_or, true_or}
use Rattle.words.specs.Words.{digits}
use Rattle.consts.specs.Consts.{difat_sector, fat_sector, end_of_chain}
use Rattle.fields.specs.Fields.{fats_at, difats_at, entries_at, offset_of}
use Rattle.sectors.specs.Sectors.{start_of, per_sector}
use Rattle.sectors.specs.Init.{init_bytes}
use Rattle.sectors.specs.declared.init.SectorInit.TheVariants.{Zero, Fat, Difat}
use Rattle.fat.specs.Lists.{fat_count, difat_count}
use Rattle.disk.specs.Disk.{Disk, store, set_fat, push_fat, list_fat, list_difat, link_place, append_difat, needs_difat, store_place, hold_place, list_place, append_fat, after_fat, one_more, count_after, ready, new_sector, reused}
use Rattle.disk.specs.Fits.{Fits, FitsWhole, FitsFat, FitsNew}
use Rattle.disk.proofs.Counting.{fat_suc, fat_full, fat_part, fat_has, difat_none, difat_suc, needs_full, needs_not, needs_near, div_near, after_needs, after_not, after_few, one_full, one_part}
use Rattle.disk.proofs.Keeping.{SameLong, Kept, kept_then, kept_none, each_many, header_inside, sectors_of_fat, difats_inside, link_inside, number_kept, init_kept, set_kept, push_kept, grow_kept, list_kept}

-- the next sector as a DIFAT sector, step by step: new, marked, linked, listed
abbrev pub difat_new : ℕ → Disk → Disk
difat_new S d = store d (start_of S d.sectors) (init_bytes S Difat)

abbrev pub difat_marked : ℕ → Disk → Disk
difat_marked S d = push_fat S (difat_new S d) difat_sector

abbrev pub difat_linked : ℕ → Disk → ℕ → Disk
difat_linked S d j = store (difat_marked S d) (link_place S d.difats j) (digits 4 d.sectors)

abbrev pub difat_listed : ℕ → Disk → ℕ → Disk
difat_listed S d j = list_difat (difat_linked S d j) j d.sectors

pub difat_kept : (S R k j : ℕ) (d : Disk) → d.sectors / per_sector S < k → d.sectors < R → j < R → Fits S R k j d → Kept S R k (suc j) d (append_difat S d j)
unfolding append_difat store push_fat list_difat
difat_kept S R k j d l room more f =
    kept_then S R k j k (suc j) d (difat_new S d) (append_difat S d j) (init_kept S R k j d f d.sectors Difat room) (λ f1.
    kept_then S R k j k (suc j) (difat_new S d) (difat_marked S d) (append_difat S d j) (push_kept S R k j (difat_new S d) f1 difat_sector l room) (λ f2.
    kept_then S R k j k (suc j) (difat_marked S d) (difat_linked S d j) (append_difat S d j) (number_kept S R k j (difat_marked S d) f2 (link_place S d.difats j) d.sectors (link_inside S R k j (difat_marked S d) f2)) (λ f3.
    kept_then S R k (suc j) k (suc j) (difat_linked S d j) (difat_listed S d j) (append_difat S d j) (list_kept S R k j (difat_linked S d j) f3 d.sectors (omega arith) more) (λ f4.
    number_kept S R k (suc j) (difat_listed S d j) f4 (offset_of difats_at) (j + 1) (omega (arith, header_inside S R k (suc j) (difat_listed S d j) f4, f4.header))))))

-- a DIFAT sector added where none holds place p
pub hold_kept : (S R k p : ℕ) (d : Disk) → 109 ≤ p → p < R → d.sectors / per_sector S < k → (needs_difat S p ≡ true → d.sectors < R)
    → Fits S R k (difat_count S p) d → Kept S R k (difat_count S (suc p)) d (hold_place S d p)
unfolding hold_place
hold_kept S R k p d far small l room f =
    let two : 2 ≤ per_sector S = omega (arith, each_many S R k (difat_count S p) d f) in
    ⊎_elim
    (λ (t : needs_difat S p ≡ true).
    rw (t, difat_suc S p two far)
    (difat_kept S R k ((p - 109) / (per_sector S - 1)) d l (room t) (omega (arith, div-le_self (p - 109) (per_sector S - 1), small)) (rw (needs_full S p two t) at f)))
    (λ (t : needs_difat S p ≡ false). rw (t, difat_suc S p two far) (kept_none S R k _ d (rw (needs_not S p two far t) at f)))
    (true_or (needs_difat S p))

-- where place p stands in the DIFAT sector that has it
pub place_inside : (S R k p : ℕ) (d : Disk) → 109 ≤ p → Fits S R k (difat_count S (suc p)) d
    → start_of S (get_or d.difats ((p - 109) / (per_sector S - 1)) 0) + S ≤ length d.image
place_inside S R k p d far f =
    difats_inside S R k (difat_count S (suc p)) d f ((p - 109) / (per_sector S - 1))
    (omega (arith, difat_suc S p (omega (arith, each_many S R k (difat_count S (suc p)) d f)) far))

pub place_in_sector : (S p : ℕ) → S ≡ 4 * per_sector S → 2 ≤ per_sector S → 4 * ((p - 109) % (per_sector S - 1)) + 4 ≤ S
place_in_sector S p e two = omega (arith, mod-lt (p - 109) {m = per_sector S - 1} (omega (arith, two)), e)

-- a FAT sector in its place of the DIFAT
pub place_kept : (S R k p : ℕ) (d : Disk) (id : ℕ) → p < R → d.sectors / per_sector S < k → (needs_difat S p ≡ true → d.sectors < R)
    → Fits S R k (difat_count S p) d → Kept S R k (difat_count S (suc p)) d (list_place S d p id)
unfolding list_place store_place
place_kept S R k p d id small l room f =
    let two : 2 ≤ per_sector S = omega (arith, each_many S R k (difat_count S p) d f) in
    ⊎_elim
    (λ (near : p < 109).
    rw (lt-ltb p 109 near, difat_none S (suc p) two near)
    (number_kept S R k 0 d (rw (difat_none S p two (omega (arith, near))) at f) (offset_of entries_at + 4 * p) id (omega (arith, header_inside S R k (difat_count S p) d f, f.header, near))))
    (λ (far : 109 ≤ p).
    rw (le-ltb p 109 far)
    (kept_then S R k (difat_count S (suc p)) k (difat_count S (suc p)) d (hold_place S d p) _ (hold_kept S R k p d far small l room f) (λ g.
    number_kept S R k (difat_count S (suc p)) (hold_place S d p) g
    (start_of S (get_or (hold_place S d p).difats ((p - 109) / (per_sector S - 1)) 0) + 4 * ((p - 109) % (per_sector S - 1))) id
    (omega (arith, place_inside S R k p (hold_place S d p) far g, place_in_sector S p f.holds.entries two)))))
    (below_or p 109)

-- the next sector as a FAT sector: new, listed, marked
abbrev pub fat_new : ℕ → Disk → Disk
fat_new S d = store d (start_of S d.sectors) (init_bytes S Fat)

abbrev pub fat_marked : ℕ → Disk → Disk
fat_marked S d = push_fat S (list_fat (fat_new S d) (d.sectors / per_sector S) d.sectors) fat_sector

-- what a full FAT comes to
module _ (S R : ℕ) (d : Disk) (f : FitsFat S R d) where
  pub full_many : 128 ≤ per_sector S
  full_many = each_many S R _ _ d f.fits

  pub full_room : d.sectors < R
  full_room = omega (arith, (after_few S d.sectors).0, f.room)

  pub full_fits : Fits S R (d.sectors / per_sector S) (difat_count S (d.sectors / per_sector S)) d
  full_fits = rw (fat_full S d.sectors (omega (arith, full_many)) f.full) at f.fits

  pub full_place : d.sectors / per_sector S < R
  full_place = omega (arith, div-le_self d.sectors (per_sector S), full_room)

  pub marked_same : suc d.sectors / per_sector S ≡ d.sectors / per_sector S
  marked_same =
      ap (λ (n : ℕ). n / per_sector S) (sym (add-one d.sectors))
      ∙ div_near (per_sector S) (omega (arith, full_many)) d.sectors 1 f.full (omega (arith, full_many))

  pub marked_room : needs_difat S (d.sectors / per_sector S) ≡ true → suc d.sectors < R
  marked_room t = omega (arith, after_needs S d.sectors t, f.room)

  pub marked_kept : Kept S R (suc (d.sectors / per_sector S)) (difat_count S (d.sectors / per_sector S)) d (fat_marked S d)
  unfolding store
  marked_kept =
      kept_then S R _ _ _ _ d (fat_new S d) (fat_marked S d) (init_kept S R _ _ d full_fits d.sectors Fat full_room) (λ g.
      grow_kept S R (d.sectors / per_sector S) _ (fat_new S d) g fat_sector refl full_room)

  pub fat_kept : Kept S R (suc (d.sectors / per_sector S)) (difat_count S (suc (d.sectors / per_sector S))) d (append_fat S d)
  unfolding append_fat store push_fat list_fat
  fat_kept =
      let k = d.sectors / per_sector S in
      kept_then S R (suc k) (difat_count S k) (suc k) (difat_count S (suc k)) d (fat_marked S d) (append_fat S d) marked_kept (λ g.
      kept_then S R (suc k) (difat_count S (suc k)) (suc k) (difat_count S (suc k)) (fat_marked S d) (list_place S (fat_marked S d) k d.sectors) (append_fat S d)
      (place_kept S R (suc k) k (fat_marked S d) d.sectors full_place (omega (arith, marked_same)) marked_room g) (λ h.
      number_kept S R (suc k) (difat_count S (suc k)) (list_place S (fat_marked S d) k d.sectors) h (offset_of fats_at) (k + 1)
      (omega (arith, header_inside S R _ _ (list_place S (fat_marked S d) k d.sectors) h, h.header))))

-- how many sectors there are then
pub hold_sectors : (S p : ℕ) (d : Disk) → (hold_place S d p).sectors ≡ choose (needs_difat S p) (suc d.sectors) d.sectors
unfolding hold_place append_difat store push_fat list_difat
hold_sectors S p d =
    ⊎_elim (λ (t : needs_difat S p ≡ true). rw t refl) (λ (t : needs_difat S p ≡ false). rw t refl) (true_or (needs_difat S p))

pub place_sectors : (S p id : ℕ) (d : Disk) → (list_place S d p id).sectors ≡ choose (needs_difat S p) (suc d.sectors) d.sectors
unfolding list_place store_place store
place_sectors S p id d =
    ⊎_elim
    (λ (near : p < 109). rw (lt-ltb p 109 near, needs_near S p near) refl)
    (λ (far : 109 ≤ p). rw (le-ltb p 109 far) (hold_sectors S p d))
    (below_or p 109)

pub append_sectors : (S : ℕ) (d : Disk) → (append_fat S d).sectors ≡ after_fat S d.sectors
unfolding append_fat store push_fat list_fat
append_sectors S d =
    place_sectors S (d.sectors / per_sector S) d.sectors (fat_marked S d)
    ∙ ⊎_elim
    (λ (t : needs_difat S (d.sectors / per_sector S) ≡ true). rw (t, after_needs S d.sectors t) (omega arith))
    (λ (t : needs_difat S (d.sectors / per_sector S) ≡ false). rw (t, after_not S d.sectors t) (omega arith))
    (true_or (needs_difat S (d.sectors / per_sector S)))

pub ready_full : (S : ℕ) (d : Disk) → d.sectors % per_sector S ≡ 0 → ready S d ≡ append_fat S d
unfolding ready
ready_full S d e = rw (eq-eqb (d.sectors % per_sector S) 0 e)

pub ready_part : (S : ℕ) (d : Disk) → d.sectors % per_sector S ≢ 0 → ready S d ≡ d
unfolding ready
ready_part S d e = rw (ne_eqb (d.sectors % per_sector S) 0 e)

pub ready_sectors : (S : ℕ) (d : Disk) → suc (ready S d).sectors ≡ one_more S d.sectors
ready_sectors S d =
    ⊎_elim
    (λ (e : d.sectors % per_sector S ≡ 0). rw (ready_full S d e, one_full S d.sectors e) (ap suc (append_sectors S d)))
    (λ (e : d.sectors % per_sector S ≢ 0). rw (ready_part S d e, one_part S d.sectors e) refl)
    (same_or (d.sectors % per_sector S) 0)

-- room for a sector more
module _ (S R : ℕ) (d : Disk) (f : FitsNew S R d) where
  pub new_many : 128 ≤ per_sector S
  new_many = each_many S R _ _ d f.fits

  pub new_full : d.sectors % per_sector S ≡ 0 → FitsFat S R d
  new_full e = record { fits = f.fits; full = e; room = omega (arith, one_full S d.sectors e, f.room) }

  pub ready_room : (ready S d).sectors < R
  ready_room = omega (arith, ready_sectors S d, f.room)

  pub ready_has : (ready S d).sectors / per_sector S < fat_count S (one_more S d.sectors)
  ready_has = fat_has S (one_more S d.sectors) (ready S d).sectors (omega (arith, new_many)) (omega (arith, ready_sectors S d))

  pub count_full : d.sectors % per_sector S ≡ 0 → fat_count S (one_more S d.sectors) ≡ suc (d.sectors / per_sector S)
  count_full e =
      let few = after_few S d.sectors in
      let near : d.sectors + (after_fat S d.sectors - d.sectors) ≡ after_fat S d.sectors = omega (arith, few.0) in
      ap (fat_count S) (one_full S d.sectors e)
      ∙ fat_suc S (after_fat S d.sectors) (omega (arith, new_many))
      ∙ ap suc (ap (λ (n : ℕ). n / per_sector S) (sym near)
      ∙ div_near (per_sector S) (omega (arith, new_many)) d.sectors (after_fat S d.sectors - d.sectors) e (omega (arith, few.1, new_many)))

  pub count_part : d.sectors % per_sector S ≢ 0 → fat_count S (one_more S d.sectors) ≡ fat_count S d.sectors
  count_part e =
      let some : 1 ≤ per_sector S = omega (arith, new_many) in
      ap (fat_count S) (one_part S d.sectors e) ∙ fat_suc S d.sectors some ∙ sym (fat_part S d.sectors some e)

  pub ready_kept : Kept S R (fat_count S (one_more S d.sectors)) (difat_count S (fat_count S (one_more S d.sectors))) d (ready S d)
  ready_kept =
      ⊎_elim
      (λ (e : d.sectors % per_sector S ≡ 0). rw (count_full e, ready_full S d e) (fat_kept S R d (new_full e)))
      (λ (e : d.sectors % per_sector S ≢ 0). rw (count_part e, ready_part S d e) (kept_none S R _ _ d f.fits))
      (same_or (d.sectors % per_sector S) 0)

  pub new_kept : Kept S R (fat_count S (one_more S d.sectors)) (difat_count S (fat_count S (one_more S d.sectors))) d (new_sector S d)
  unfolding new_sector
  new_kept =
      kept_then S R _ _ _ _ d (ready S d) (new_sector S d) ready_kept (λ g.
      kept_then S R _ _ _ _ (ready S d) (push_fat S (ready S d) end_of_chain) (new_sector S d) (push_kept S R _ _ (ready S d) g end_of_chain ready_has ready_room) (λ h.
      init_kept S R _ _ (push_fat S (ready S d) end_of_chain) h (ready S d).sectors Zero ready_room))

pub new_sectors : (S : ℕ) (d : Disk) → (new_sector S d).sectors ≡ one_more S d.sectors
unfolding new_sector store push_fat
new_sectors S d = ready_sectors S d

-- the sectors that fit are as many as document 01 asks for
whole_of : (S R n : ℕ) (d : Disk) → d.sectors ≡ n → Fits S R (fat_count S n) (difat_count S (fat_count S n)) d → FitsWhole S R d
whole_of S R n d e f = subst (λ (m : ℕ). Fits S R (fat_count S m) (difat_count S (fat_count S m)) d) (sym e) f

pub new_fits : (S R : ℕ) (d : Disk) → FitsNew S R d → FitsWhole S R (new_sector S d)
new_fits S R d f = whole_of S R (one_more S d.sectors) (new_sector S d) (new_sectors S d) (new_kept S R d f).fits

pub new_long : (S R : ℕ) (d : Disk) → FitsNew S R d → SameLong d (new_sector S d)
new_long S R d f = (new_kept S R d f).long

-- an entry that is set
pub set_fits : (S R k j : ℕ) (d : Disk) (i v : ℕ) → i / per_sector S < k → Fits S R k j d → Fits S R k j (set_fat S d i v)
set_fits S R k j d i v l f = (set_kept S R k j d f i v l).fits

pub set_long : (S R k j : ℕ) (d : Disk) (i v : ℕ) → i / per_sector S < k → Fits S R k j d → SameLong d (set_fat S d i v)
set_long S R k j d i v l f = (set_kept S R k j d f i v l).long

pub entry_sector : (S R : ℕ) (d : Disk) (i : ℕ) → FitsWhole S R d → i < d.sectors → i / per_sector S < fat_count S d.sectors
entry_sector S R d i f l = fat_has S d.sectors i (omega (arith, each_many S R _ _ d f)) l

pub fats_inside : (S R k j : ℕ) (d : Disk) (p : ℕ) → Fits S R k j d → p < k → start_of S (get_or d.fats p 0) + S ≤ length d.image
fats_inside S R k j d p f l = sectors_of_fat S R k j d f p l

-- a FREE sector that is taken
reused_kept : (S R : ℕ) (d : Disk) (id : ℕ) → id < d.sectors → FitsWhole S R d → Kept S R (fat_count S d.sectors) (difat_count S (fat_count S d.sectors)) d (reused S d id)
unfolding reused
reused_kept S R d id l f =
    kept_then S R _ _ _ _ d (set_fat S d id end_of_chain) (reused S d id) (set_kept S R _ _ d f id end_of_chain (entry_sector S R d id f l)) (λ g.
    init_kept S R _ _ (set_fat S d id end_of_chain) g id Zero (omega (arith, l, f.inside)))

pub reused_sectors : (S : ℕ) (d : Disk) (id : ℕ) → (reused S d id).sectors ≡ d.sectors
unfolding reused store set_fat
reused_sectors S d id = refl

pub reused_fits : (S R : ℕ) (d : Disk) (id : ℕ) → id < d.sectors → FitsWhole S R d → FitsWhole S R (reused S d id)
reused_fits S R d id l f = whole_of S R d.sectors (reused S d id) (reused_sectors S d id) (reused_kept S R d id l f).fits

pub reused_long : (S R : ℕ) (d : Disk) (id : ℕ) → id < d.sectors → FitsWhole S R d → SameLong d (reused S d id)
reused_long S R d id l f = (reused_kept S R d id l f).long

-- one sector more, and c more
pub one_more_grows : (S n : ℕ) → n < one_more S n
one_more_grows S n =
    ⊎_elim
    (λ (e : n % per_sector S ≡ 0). rw (one_full S n e) (omega (arith, (after_few S n).0)))
    (λ (e : n % per_sector S ≢ 0). rw (one_part S n e) (omega arith))
    (same_or (n % per_sector S) 0)

pub count_none : (S n : ℕ) → count_after S n 0 ≡ n
unfolding count_after
count_none S n = refl

pub count_more : (S n c : ℕ) → count_after S n (suc c) ≡ count_after S (one_more S n) c
unfolding count_after
count_more S n c = refl

pub count_grows : (S n c : ℕ) → n + c ≤ count_after S n c
unfolding count_after
count_grows S n zero = omega arith
count_grows S n (suc c) = omega (arith, one_more_grows S n, count_grows S (one_more S n) c)
