-- The bytes of an image after a sector is taken: the sector is zero, and what stands outside the header bytes that document 01 names, the FAT, the DIFAT and the sector stays. Assumes nothing.
use Prim.Native.Nat.{ℕ, suc, ◌+◌, ◌-◌, ◌/◌, ◌%◌, ◌≤◌, ◌<◌}
use mathlib.Core.Path.{◌≡◌, refl, ◌∙◌, sym, ap}
use mathlib.Core.Bool.{true, false}
use mathlib.Core.List.{List}
use mathlib.Core.Logic.{⊎_elim, ◌≢◌}
use native.Mathlib.Omega.{arith}
use native.Mathlib.Nat.{div-le_self}
use borrow.Author.Tests.{le-ltb}
use lib.ListN.{length, get_or, set, replicate, length-replicate, get_or-replicate}
use lib.Seq.{get_or-set_same}
use Rattle.stores.specs.Stores.{Beside}
use Rattle.lists.specs.Lists.{splice}
use Rattle.lists.proofs.Cases.{same_or, true_or}
use Rattle.lists.proofs.Splice.{splice_inside}
use Rattle.consts.specs.Consts.{fat_sector, end_of_chain}
use Rattle.fields.specs.Fields.{fats_at, offset_of}
use Rattle.sectors.specs.Sectors.{start_of, per_sector}
use Rattle.sectors.specs.Init.{init_bytes}
use Rattle.sectors.specs.declared.init.SectorInit.TheVariants.{Zero, Fat}
use Rattle.sectors.proofs.New.{init_zero}
use Rattle.fat.specs.Lists.{fat_count, difat_count}
use Rattle.disk.specs.Disk.{Disk, store, set_fat, push_fat, list_fat, needs_difat, store_place, hold_place, list_place, append_fat, one_more, ready, new_sector, reused}
use Rattle.disk.specs.Fits.{FitsWhole, FitsFat, FitsNew}
use Rattle.disk.proofs.Counting.{fat_full, difat_suc}
use Rattle.disk.proofs.Keeping.{header_inside, sectors_inside, push_kept, set_kept}
use Rattle.disk.proofs.Fitting.{fat_new, fat_marked, entry_sector, full_many, full_fits, full_room, full_place, marked_same, marked_room, new_full, ready_full, ready_part, ready_kept, ready_has, ready_room, count_full, count_part, new_sectors, reused_sectors}
use Rattle.hand.specs.Hand.{Hand, Chain, point, taken_id, take_sector, linked, extend_one}
use Rattle.hand.specs.Fits.{FitsHand, FitsMore}
use Rattle.hand.proofs.Taking.{take_none, take_one, id_new, id_last}
use Rattle.hand.proofs.Linking.{linked_none, linked_last, more_room, more_last, more_taken}
use Rattle.edits.specs.Untouched.{UnnamedFrom, Spared, Aside}
use Rattle.edits.specs.Roles.{fats_held, difats_held}
use Rattle.edits.proofs.Listed.{listed_stays}
use Rattle.edits.proofs.Growing.{needs_far, append_fats, append_difats_more, append_grown_fat, append_grown_difat, new_fats, reused_lists, SameLists, linked_lists}
use Rattle.edits.proofs.Named.{unnamed_within}
use Rattle.edits.proofs.Sparing.{Moved, Names, moved_then, moved_none, number_moved, init_moved, set_moved, push_moved, grow_moved, place_moved}

-- the same by equal lists
pub spared_at : {S : ℕ} {fats fats' : List ℕ} {k k' : ℕ} {difats difats' : List ℕ} {j j' b : ℕ} → fats ≡ fats' → k ≡ k' → difats ≡ difats' → j ≡ j' → Spared S fats k difats j b
    → Spared S fats' k' difats' j' b
spared_at p q r s x = rw (← p, ← q, ← r, ← s) x

-- document 01: the next sector becomes a FAT sector
module _ (P : ℕ → Type 0) (S R : ℕ) (d : Disk) (f : FitsFat S R d) where
  abbrev place : ℕ
  place = d.sectors / per_sector S

  module _ (aside : (b : ℕ) → P b → Spared S (append_fat S d).fats (suc place) (append_fat S d).difats (difat_count S (suc place)) b) where
    held_whole : difats_held S d ≡ difat_count S place
    held_whole = ap (difat_count S) (fat_full S d.sectors (omega (arith, full_many S R d f)) f.full)

    -- where it stands in the FAT's list
    listed_self : get_or (set d.fats place d.sectors) place 0 ≡ d.sectors
    listed_self = get_or-set_same d.fats place d.sectors 0 (omega (arith, full_place S R d f, f.fits.fats_long))

    beside_self : (b : ℕ) → P b → Beside S d.sectors b
    beside_self b p =
        let e : get_or (append_fat S d).fats place 0 ≡ d.sectors = ap (λ (xs : List ℕ). get_or xs place 0) (append_fats S d) ∙ listed_self in
        rw (← e) ((aside b p).in_no_fat place (omega arith))

    -- its own entry, and that of the DIFAT sector behind it
    beside_entry : (b : ℕ) → P b → Beside S (get_or (set d.fats place d.sectors) (suc d.sectors / per_sector S) 0) b
    beside_entry b p = rw (marked_same S R d f, listed_self) (beside_self b p)

    beside_difat : needs_difat S place ≡ true → (b : ℕ) → P b → Beside S (suc d.sectors) b
    beside_difat t b p =
        let two : 2 ≤ per_sector S = omega (arith, full_many S R d f) in
        let more : difat_count S (suc place) ≡ suc ((place - 109) / (per_sector S - 1)) = difat_suc S place two (needs_far S place t) in
        let low : (place - 109) / (per_sector S - 1) < length d.difats
        = omega (arith, div-le_self (place - 109) (per_sector S - 1), full_place S R d f, f.fits.difats_long) in
        let e : get_or (append_fat S d).difats ((place - 109) / (per_sector S - 1)) 0 ≡ suc d.sectors
        = ap (λ (xs : List ℕ). get_or xs ((place - 109) / (per_sector S - 1)) 0) (append_difats_more S d t)
        ∙ get_or-set_same d.difats ((place - 109) / (per_sector S - 1)) (suc d.sectors) 0 low in
        rw (← e) ((aside b p).in_no_difat ((place - 109) / (per_sector S - 1)) (omega (arith, more)))

    -- the DIFAT sectors that there were
    beside_difats : (b : ℕ) → P b → (q : ℕ) → q < difat_count S place → Beside S (get_or d.difats q 0) b
    beside_difats b p q l =
        ⊎_elim
        (λ (t : needs_difat S place ≡ true).
        let g = append_grown_difat S R d f t in
        rw (← listed_stays g.difats g.difats_more q (omega (arith, l, held_whole))) ((aside b p).in_no_difat q (omega (arith, l, held_whole, g.difats_more))))
        (λ (t : needs_difat S place ≡ false).
        let g = append_grown_fat S R d f t in
        rw (← listed_stays g.difats g.difats_more q (omega (arith, l, held_whole))) ((aside b p).in_no_difat q (omega (arith, l, held_whole, g.difats_more))))
        (true_or (needs_difat S place))

    -- the one that has its place
    held_difats : 109 ≤ place → (append_fat S d).difats ≡ (hold_place S (fat_marked S d) place).difats
    unfolding append_fat list_place store_place store
    held_difats far = rw (le-ltb place 109 far) refl

    beside_held : 109 ≤ place → (b : ℕ) → P b → Beside S (get_or (hold_place S (fat_marked S d) place).difats ((place - 109) / (per_sector S - 1)) 0) b
    beside_held far b p =
        rw (← held_difats far)
        ((aside b p).in_no_difat ((place - 109) / (per_sector S - 1)) (omega (arith, difat_suc S place (omega (arith, full_many S R d f)) far)))

    marked_moved : Moved P S R (suc place) (difat_count S place) d (fat_marked S d)
    unfolding store
    marked_moved =
        moved_then P S R _ _ _ _ d (fat_new S d) (fat_marked S d) (init_moved P S R _ _ d (full_fits S R d f) d.sectors Fat (full_room S R d f) beside_self) (λ g.
        grow_moved P S R place _ (fat_new S d) g fat_sector refl (full_room S R d f) beside_self)

    pub fat_moved : Names P S place → Moved P S R (suc place) (difat_count S (suc place)) d (append_fat S d)
    unfolding append_fat store push_fat list_fat
    fat_moved fields =
        moved_then P S R (suc place) (difat_count S place) (suc place) (difat_count S (suc place)) d (fat_marked S d) (append_fat S d) marked_moved (λ g.
        moved_then P S R (suc place) (difat_count S (suc place)) (suc place) (difat_count S (suc place)) (fat_marked S d) (list_place S (fat_marked S d) place d.sectors) (append_fat S d)
        (place_moved P S R (suc place) place (fat_marked S d) d.sectors (full_place S R d f) (omega (arith, marked_same S R d f)) (marked_room S R d f) g
        fields beside_difat beside_entry beside_difats beside_held) (λ h.
        number_moved P S R (suc place) (difat_count S (suc place)) (list_place S (fat_marked S d) place d.sectors) h (offset_of fats_at) (place + 1)
        (omega (arith, header_inside S R _ _ (list_place S (fat_marked S d) place d.sectors) h, h.header)) (λ b p. (fields b p).number_of_fats (omega arith))))

-- document 01: a new sector becomes a chain's last one
module _ (P : ℕ → Type 0) (S R : ℕ) (d : Disk) (f : FitsNew S R d) (fields : (b : ℕ) → P b → UnnamedFrom S d (new_sector S d) b)
    (aside : (b : ℕ) → P b → Aside S (new_sector S d) b) (self : (b : ℕ) → P b → Beside S (ready S d).sectors b) where
  ready_moved : Moved P S R (fat_count S (one_more S d.sectors)) (difat_count S (fat_count S (one_more S d.sectors))) d (ready S d)
  ready_moved =
      ⊎_elim
      (λ (e : d.sectors % per_sector S ≡ 0).
      let full : ready S d ≡ append_fat S d = ready_full S d e in
      let was : fats_held S d ≡ d.sectors / per_sector S = fat_full S d.sectors (omega (arith, f.fits.holds.two)) e in
      let k : fats_held S (new_sector S d) ≡ suc (d.sectors / per_sector S) = ap (fat_count S) (new_sectors S d) ∙ count_full S R d f e in
      rw (count_full S R d f e, full)
      (fat_moved P S R d (new_full S R d f e)
      (λ b p. spared_at ((new_fats S d).0 ∙ ap (λ (x : Disk). x.fats) full) k ((new_fats S d).1 ∙ ap (λ (x : Disk). x.difats) full) (ap (difat_count S) k) (aside b p))
      (λ b p. unnamed_within (fields b p) (omega (arith, was)) (omega (arith, k)) (omega (arith, ap (difat_count S) was)) (omega (arith, ap (difat_count S) k)))))
      (λ (e : d.sectors % per_sector S ≢ 0). rw (count_part S R d f e, ready_part S d e) (moved_none P S R _ _ d f.fits))
      (same_or (d.sectors % per_sector S) 0)

  pub new_moved : Moved P S R (fat_count S (one_more S d.sectors)) (difat_count S (fat_count S (one_more S d.sectors))) d (new_sector S d)
  unfolding new_sector
  new_moved =
      moved_then P S R _ _ _ _ d (ready S d) (new_sector S d) ready_moved (λ g.
      moved_then P S R _ _ _ _ (ready S d) (push_fat S (ready S d) end_of_chain) (new_sector S d)
      (push_moved P S R _ _ (ready S d) g end_of_chain (ready_has S R d f) (ready_room S R d f)
      (λ b p. (spared_at (new_fats S d).0 (ap (fat_count S) (new_sectors S d)) refl refl (aside b p)).in_no_fat ((ready S d).sectors / per_sector S) (ready_has S R d f))) (λ h.
      init_moved P S R _ _ (push_fat S (ready S d) end_of_chain) h (ready S d).sectors Zero (ready_room S R d f) self))

-- document 01: a FREE sector becomes a chain's last one
pub reused_moved : (P : ℕ → Type 0) (S R : ℕ) (d : Disk) (id : ℕ) → FitsWhole S R d → id < d.sectors → ((b : ℕ) → P b → Aside S d b) → ((b : ℕ) → P b → Beside S id b)
    → Moved P S R (fats_held S d) (difats_held S d) d (reused S d id)
unfolding reused
reused_moved P S R d id f l aside self =
    moved_then P S R _ _ _ _ d (set_fat S d id end_of_chain) (reused S d id)
    (set_moved P S R _ _ d f id end_of_chain (entry_sector S R d id f l) (λ b p. (aside b p).in_no_fat (id / per_sector S) (entry_sector S R d id f l))) (λ g.
    init_moved P S R _ _ (set_fat S d id end_of_chain) g id Zero (omega (arith, l, f.inside)) self)

-- document 01: a new data sector is zero
zero_stored : (S i x : ℕ) (img : List ℕ) → start_of S i + S ≤ length img → x < S → get_or (splice img (start_of S i) (init_bytes S Zero)) (start_of S i + x) 0 ≡ 0
zero_stored S i x img h l =
    let long : length {A = ℕ} (replicate S 0) ≡ S = length-replicate {A = ℕ} S 0 in
    ap (λ (xs : List ℕ). get_or (splice img (start_of S i) xs) (start_of S i + x) 0) (sym (init_zero S))
    ∙ splice_inside img (start_of S i) (replicate S 0) (omega (arith, long, h)) x (omega (arith, long, l))
    ∙ get_or-replicate S x 0 0 l

pub new_zero : (S R : ℕ) (d : Disk) → FitsNew S R d → (x : ℕ) → x < S → get_or (new_sector S d).image (start_of S (ready S d).sectors + x) 0 ≡ 0
unfolding new_sector store
new_zero S R d f x l =
    let g = (ready_kept S R d f).fits in
    let p = (push_kept S R _ _ (ready S d) g end_of_chain (ready_has S R d f) (ready_room S R d f)).fits in
    zero_stored S (ready S d).sectors x (push_fat S (ready S d) end_of_chain).image (sectors_inside S R _ _ (push_fat S (ready S d) end_of_chain) p (ready S d).sectors (ready_room S R d f)) l

pub reused_zero : (S R : ℕ) (d : Disk) (id : ℕ) → FitsWhole S R d → id < d.sectors → (x : ℕ) → x < S → get_or (reused S d id).image (start_of S id + x) 0 ≡ 0
unfolding reused store
reused_zero S R d id f h x l =
    let g = (set_kept S R _ _ d f id end_of_chain (entry_sector S R d id f h)).fits in
    zero_stored S id x (set_fat S d id end_of_chain).image (sectors_inside S R _ _ (set_fat S d id end_of_chain) g id (omega (arith, h, f.inside))) l

-- a sector is taken, new or FREE
module _ (S R : ℕ) (h : Hand) (f : FitsHand S R h) (room : h.free ≡ 0 → one_more S h.disk.sectors ≤ R) where
  new_of : h.free ≡ 0 → FitsNew S R h.disk
  new_of e = record { fits = f.disk; room = room e }

  last_of : h.free ≢ 0 → get_or h.frees (h.free - 1) 0 < h.disk.sectors
  last_of e = f.frees_below (h.free - 1) (omega (arith, e))

  pub take_spares : (b : ℕ) → UnnamedFrom S h.disk (take_sector S h).disk b → Aside S (take_sector S h).disk b → Beside S (taken_id S h) b
      → get_or (take_sector S h).disk.image b 0 ≡ get_or h.disk.image b 0
  take_spares b n a s =
      ⊎_elim
      (λ (e : h.free ≡ 0).
      let n' : UnnamedFrom S h.disk (new_sector S h.disk) b = rw (take_none S h e) at n in
      let a' : Aside S (new_sector S h.disk) b = rw (take_none S h e) at a in
      let s' : Beside S (ready S h.disk).sectors b = rw (id_new S h e) at s in
      rw (take_none S h e)
      ((new_moved (λ x. UnnamedFrom S h.disk (new_sector S h.disk) x × Aside S (new_sector S h.disk) x × Beside S (ready S h.disk).sectors x) S R h.disk (new_of e)
      (λ x p. p.0) (λ x p. p.1) (λ x p. p.2)).spares b (n', a', s')))
      (λ (e : h.free ≢ 0).
      let id : ℕ = get_or h.frees (h.free - 1) 0 in
      let a' : Aside S (reused S h.disk id) b = rw (take_one S h e) at a in
      let s' : Beside S id b = rw (id_last S h e) at s in
      let k : fats_held S (reused S h.disk id) ≡ fats_held S h.disk = ap (fat_count S) (reused_sectors S h.disk id) in
      let was : Aside S h.disk b = spared_at (reused_lists S h.disk id).0 k (reused_lists S h.disk id).1 (ap (difat_count S) k) a' in
      rw (take_one S h e)
      ((reused_moved (λ x. Aside S h.disk x × Beside S id x) S R h.disk id f.disk (last_of e) (λ x p. p.0) (λ x p. p.1)).spares b (was, s')))
      (same_or h.free 0)

  pub take_zero : (x : ℕ) → x < S → get_or (take_sector S h).disk.image (start_of S (taken_id S h) + x) 0 ≡ 0
  take_zero x l =
      ⊎_elim
      (λ (e : h.free ≡ 0). rw (take_none S h e, id_new S h e) (new_zero S R h.disk (new_of e) x l))
      (λ (e : h.free ≢ 0). rw (take_one S h e, id_last S h e) (reused_zero S R h.disk (get_or h.frees (h.free - 1) 0) f.disk (last_of e) x l))
      (same_or h.free 0)

-- an entry is set: only the FAT's sectors are stored to
abbrev pub NoFat : ℕ → Disk → ℕ → Type 0
NoFat S d b = (p : ℕ) → p < fats_held S d → Beside S (get_or d.fats p 0) b

pub point_spares : (S R : ℕ) (h : Hand) (i v : ℕ) → FitsHand S R h → i < h.disk.sectors → (b : ℕ) → NoFat S h.disk b → get_or (point S h i v).disk.image b 0 ≡ get_or h.disk.image b 0
unfolding point
point_spares S R h i v f l b n =
    let e = entry_sector S R h.disk i f.disk l in
    (set_moved (λ x. NoFat S h.disk x) S R _ _ h.disk f.disk i v e (λ x p. p (i / per_sector S) e)).spares b n

pub linked_spares : (S R : ℕ) (h : Hand) (ids : List ℕ) (count id : ℕ) → FitsHand S R h → (0 < count → get_or ids (count - 1) 0 < h.disk.sectors) → (b : ℕ) → NoFat S h.disk b
    → get_or (linked S h ids count id).disk.image b 0 ≡ get_or h.disk.image b 0
linked_spares S R h ids count id f l b n =
    ⊎_elim
    (λ (e : count ≡ 0). rw (linked_none S h ids count id e))
    (λ (e : count ≢ 0). rw (linked_last S h ids count id e) (point_spares S R h (get_or ids (count - 1) 0) id f (l (omega (arith, e))) b n))
    (same_or count 0)

-- a sector is taken for a chain and linked
module _ {S R m : ℕ} {c : Chain} (f : FitsMore S R (suc m) c) where
  link_lists : SameLists (take_sector S c.hand).disk (extend_one S c).hand.disk
  unfolding extend_one
  link_lists = linked_lists S (take_sector S c.hand) c.ids c.count (taken_id S c.hand)

  taken_no_fat : (b : ℕ) → NoFat S (extend_one S c).hand.disk b → NoFat S (take_sector S c.hand).disk b
  taken_no_fat b n p l = rw (← link_lists.fats) (n p (rw link_lists.sectors l))

  pub one_spares : (b : ℕ) → UnnamedFrom S c.hand.disk (extend_one S c).hand.disk b → Aside S (extend_one S c).hand.disk b → Beside S (taken_id S c.hand) b
      → get_or (extend_one S c).hand.disk.image b 0 ≡ get_or c.hand.disk.image b 0
  unfolding extend_one
  one_spares b n a s =
      let k : fats_held S (extend_one S c).hand.disk ≡ fats_held S (take_sector S c.hand).disk = ap (fat_count S) link_lists.sectors in
      linked_spares S R (take_sector S c.hand) c.ids c.count (taken_id S c.hand) (more_taken f) (more_last f) b (taken_no_fat b a.in_no_fat)
      ∙ take_spares S R c.hand f.fits.fits (more_room f) b
      (unnamed_within n (omega arith) (omega (arith, k)) (omega arith) (omega (arith, ap (difat_count S) k)))
      (spared_at link_lists.fats k link_lists.difats (ap (difat_count S) k) a) s

  pub one_zero : (x : ℕ) → x < S → NoFat S (extend_one S c).hand.disk (start_of S (taken_id S c.hand) + x)
      → get_or (extend_one S c).hand.disk.image (start_of S (taken_id S c.hand) + x) 0 ≡ 0
  unfolding extend_one
  one_zero x l n =
      linked_spares S R (take_sector S c.hand) c.ids c.count (taken_id S c.hand) (more_taken f) (more_last f) _ (taken_no_fat _ n)
      ∙ take_zero S R c.hand f.fits.fits (more_room f) x l
