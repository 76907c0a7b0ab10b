-- What the code that grows the FAT is asked at each call, and what its changes come to, over plain variables. Assumes nothing.
use Prim.Native.Nat.{ℕ, suc, ◌+◌, ◌-◌, ◌*◌, ◌/◌, ◌%◌, ◌≤◌, ◌<◌}
use mathlib.Core.Path.{◌≡◌, sym, ◌∙◌, ap, subst}
use mathlib.Core.Bool.{Bool, true, false}
use mathlib.Core.List.{List}
use native.Mathlib.Omega.{arith}
use native.Mathlib.Numerals.{add-one}
use borrow.Author.Tests.{le-ltb}
use lib.ListN.{length, get_or, set, length-set}
use lib.Seq.{get_or-set_same}
use Rattle.lists.specs.Lists.{splice}
use Rattle.words.specs.Words.{digits}
use Rattle.consts.specs.Consts.{difat_sector, fat_sector, end_of_chain}
use Rattle.fields.specs.Fields.{fats_at, difats_at, offset_of, width_of}
use Rattle.sectors.specs.Sectors.{start_of, per_sector}
use Rattle.sectors.specs.Init.{init_bytes}
use Rattle.sectors.specs.declared.init.SectorInit.TheVariants.{Zero, Fat, Difat}
use Rattle.fat.specs.Lists.{difat_count, room_of}
use Rattle.disk.specs.Disk.{Disk, store, entry_place, set_fat, push_fat, list_fat, list_difat, link_place, append_difat, needs_difat, store_place, hold_place, list_place, append_fat, ready, new_sector, reused}
use Rattle.disk.specs.Fits.{Fits, FitsOne, FitsPlace, FitsFat, FitsNew}
use Rattle.disk.proofs.Counting.{needs_full}
use Rattle.disk.proofs.Keeping.{each_many, sectors_inside, sectors_of_fat, difats_inside}
use Rattle.disk.proofs.Fitting.{hold_kept, place_inside, full_room, full_place, marked_same, marked_room, marked_kept, fat_marked, ready_kept, ready_has, ready_room}

-- what is stored, by its parts
abbrev pub disk : List ℕ → List ℕ → List ℕ → List ℕ → ℕ → Disk
disk image fat fats difats n = record { image = image; fat = fat; fats = fats; difats = difats; sectors = n }

-- what an entry that is set is asked, in an image of len bytes
abbrev Entry : ℕ → ℕ → List ℕ → List ℕ → ℕ → Type 0
Entry S i fat fats len = ((i < length fat) × (i / per_sector S < length fats)) × (start_of S (get_or fats (i / per_sector S) 0) + S ≤ len)

-- an entry that is set, in the table and in the bytes
pub entry_set : (S i v : ℕ) (d : Disk) (after fat' : List ℕ) → (after ≡ splice d.image (entry_place S d.fats i) (digits 4 v)) × (fat' ≡ set d.fat i v)
    → disk after fat' d.fats d.difats d.sectors ≡ set_fat S d i v
unfolding set_fat
entry_set S i v d after fat' e = rw (e.0, e.1)

-- a DIFAT sector: the link to it, once its bytes and its entry are there
pub one_link : (S R j : ℕ) (d e : Disk) (img : List ℕ) → FitsOne S R j d → e ≡ set_fat S (disk img d.fat d.fats d.difats d.sectors) d.sectors difat_sector
    → length e.image ≡ length d.image → (j ≤ length e.difats) × (0 < j → start_of S (get_or e.difats (j - 1) 0) + S ≤ length e.image)
unfolding set_fat
one_link S R j d e img f h long =
    let same : e.difats ≡ d.difats = ap (λ (x : Disk). x.difats) h in
    rw (same, long) (omega (arith, f.fits.difats_many, f.fits.difats_long), λ l. difats_inside S R _ j d f.fits (j - 1) (omega (arith, l)))

pub difat_appended : (S j : ℕ) (d e f : Disk) (img1 img4 : List ℕ) → img1 ≡ splice d.image (start_of S d.sectors) (init_bytes S Difat)
    → e ≡ set_fat S (disk img1 d.fat d.fats d.difats d.sectors) d.sectors difat_sector → f ≡ store e (link_place S e.difats j) (digits 4 d.sectors)
    → img4 ≡ splice f.image (offset_of difats_at) (digits (width_of difats_at) (j + 1)) → disk img4 f.fat f.fats (set f.difats j d.sectors) (f.sectors + 1) ≡ append_difat S d j
unfolding append_difat store push_fat list_difat
difat_appended S j d e f img1 img4 new entry link count = rw (count, link, entry, new, add-one d.sectors)

-- a DIFAT sector where none holds place p
pub hold_not : (S p : ℕ) (d : Disk) (r : Bool) → r ≡ needs_difat S p → r ≡ false → hold_place S d p ≡ d
unfolding hold_place
hold_not S p d r e t = let f : needs_difat S p ≡ false = sym e ∙ t in rw f

pub hold_one : (S R p : ℕ) (d : Disk) (r : Bool) → FitsPlace S R p d → r ≡ needs_difat S p → r ≡ true → FitsOne S R ((p - 109) / (per_sector S - 1)) d
hold_one S R p d r f e t =
    let two : 2 ≤ per_sector S = omega (arith, each_many S R _ _ d f.fits) in
    record { fits = rw (needs_full S p two (sym e ∙ t)) at f.fits; room = f.room (sym e ∙ t) }

pub hold_done : (S p : ℕ) (d : Disk) (r : Bool) → r ≡ needs_difat S p → r ≡ true → hold_place S d p ≡ append_difat S d ((p - 109) / (per_sector S - 1))
unfolding hold_place
hold_done S p d r e t = let f : needs_difat S p ≡ true = sym e ∙ t in rw f

-- place p of the DIFAT, 109 or later: the sector that has it, and what is stored
pub place_held : (S R p : ℕ) (d e : Disk) → 109 ≤ p → FitsPlace S R p d → e ≡ hold_place S d p → start_of S (get_or e.difats ((p - 109) / (per_sector S - 1)) 0) + S ≤ length e.image
place_held S R p d e far f h =
    subst (λ (x : Disk). start_of S (get_or x.difats ((p - 109) / (per_sector S - 1)) 0) + S ≤ length x.image) (sym h)
    (place_inside S R _ p (hold_place S d p) far (hold_kept S R (suc (d.sectors / per_sector S)) p d far f.place (omega arith) f.room f.fits).fits)

pub place_far : (S p id r : ℕ) (d : Disk) (image fat fats difats after : List ℕ) → 109 ≤ p → disk image fat fats difats r ≡ hold_place S d p
    → after ≡ splice image (start_of S (get_or difats ((p - 109) / (per_sector S - 1)) 0) + 4 * ((p - 109) % (per_sector S - 1))) (digits 4 id)
    → disk after fat fats difats r ≡ list_place S d p id
unfolding list_place store_place store
place_far S p id r d image fat fats difats after far h e =
    rw (le-ltb p 109 far, e) (ap (λ (x : Disk). store_place S x p id) h)

-- a FAT sector: its bytes, its entry, which is its own, and its place in the DIFAT
module _ (S R : ℕ) (d : Disk) (f : FitsFat S R d) where
  pub full_new : start_of S d.sectors + S ≤ length d.image
  full_new = sectors_inside S R _ _ d f.fits d.sectors (full_room S R d f)

  pub full_listed : d.sectors / per_sector S < length d.fats
  full_listed = omega (arith, full_place S R d f, f.fits.fats_long)

  pub full_entry : (len : ℕ) → len ≡ length d.image → Entry S d.sectors d.fat (set d.fats (d.sectors / per_sector S) d.sectors) len
  full_entry len e = (
    (omega (arith, full_room S R d f, f.fits.fat_long), rw length-set full_listed),
    rw (get_or-set_same d.fats (d.sectors / per_sector S) d.sectors 0 full_listed, e) full_new,
  )

  marked_fits : FitsPlace S R (d.sectors / per_sector S) (fat_marked S d)
  unfolding store push_fat list_fat
  marked_fits =
      record {
        fits = subst (λ (k : ℕ). Fits S R (suc k) (difat_count S (d.sectors / per_sector S)) (fat_marked S d)) (sym (marked_same S R d f)) (marked_kept S R d f).fits;
        place = full_place S R d f;
        room = marked_room S R d f;
      }

pub fat_marked_lem : (S : ℕ) (d e : Disk) (img1 : List ℕ) → img1 ≡ splice d.image (start_of S d.sectors) (init_bytes S Fat)
    → e ≡ set_fat S (disk img1 d.fat (set d.fats (d.sectors / per_sector S) d.sectors) d.difats d.sectors) d.sectors fat_sector
    → disk e.image e.fat e.fats e.difats (e.sectors + 1) ≡ fat_marked S d
unfolding store push_fat list_fat
fat_marked_lem S d e img1 new entry = rw (entry, new, add-one d.sectors)

pub fat_place : (S : ℕ) (d e : Disk) → FitsFat S (room_of S (length d.image)) d → e ≡ fat_marked S d → FitsPlace S (room_of S (length e.image)) (d.sectors / per_sector S) e
fat_place S d e f h =
    subst (λ (x : Disk). FitsPlace S (room_of S (length x.image)) (d.sectors / per_sector S) x) (sym h)
    (subst (λ (len : ℕ). FitsPlace S (room_of S len) (d.sectors / per_sector S) (fat_marked S d)) (sym (marked_kept S _ d f).long.image_same) (marked_fits S _ d f))

pub fat_appended : (S r : ℕ) (d e : Disk) (image fat fats difats after : List ℕ) → e ≡ fat_marked S d
    → disk image fat fats difats r ≡ list_place S e (d.sectors / per_sector S) d.sectors
    → after ≡ splice image (offset_of fats_at) (digits (width_of fats_at) (d.sectors / per_sector S + 1))
    → disk after fat fats difats r ≡ append_fat S d
unfolding append_fat store
fat_appended S r d e image fat fats difats after made listed count =
    rw count (ap (λ (x : Disk). store x (offset_of fats_at) (digits 4 (d.sectors / per_sector S + 1))) (listed ∙ ap (λ (x : Disk). list_place S x (d.sectors / per_sector S) d.sectors) made))

-- the next sector for data, once the FAT has a place for it: its entry and its bytes
module _ (S R : ℕ) (d e : Disk) (f : FitsNew S R d) (h : e ≡ ready S d) where
  pub new_entry : Entry S e.sectors e.fat e.fats (length e.image)
  new_entry =
      subst (λ (x : Disk). Entry S x.sectors x.fat x.fats (length x.image)) (sym h)
      (let g = (ready_kept S R d f).fits in (
        (omega (arith, ready_room S R d f, g.fat_long), omega (arith, ready_has S R d f, g.fats_many, g.fats_long)),
        sectors_of_fat S R _ _ (ready S d) g ((ready S d).sectors / per_sector S) (ready_has S R d f),
      ))

  pub new_bytes : (len : ℕ) → len ≡ length e.image → start_of S e.sectors + S ≤ len
  new_bytes len same =
      rw same
      (subst (λ (x : Disk). start_of S x.sectors + S ≤ length x.image) (sym h)
      (sectors_inside S R _ _ (ready S d) (ready_kept S R d f).fits (ready S d).sectors (ready_room S R d f)))

pub new_made : (S : ℕ) (d e f : Disk) (img2 : List ℕ) → e ≡ ready S d → f ≡ set_fat S e e.sectors end_of_chain
    → img2 ≡ splice f.image (start_of S e.sectors) (init_bytes S Zero) → disk img2 f.fat f.fats f.difats (e.sectors + 1) ≡ new_sector S d
unfolding new_sector store push_fat
new_made S d e f img2 h entry zeros = rw (zeros, entry, h, add-one (ready S d).sectors)

-- a FREE sector that is taken: its entry is set, then its bytes are made zero
pub reused_of : (S id : ℕ) (d e : Disk) (after : List ℕ) → e ≡ set_fat S d id end_of_chain → after ≡ splice e.image (start_of S id) (init_bytes S Zero)
    → disk after e.fat e.fats e.difats e.sectors ≡ reused S d id
unfolding reused store
reused_of S id d e after entry zeros = rw zeros (ap (λ (x : Disk). store x (start_of S id) (init_bytes S Zero)) entry)
