-- What the moves of a disk keep: the lengths of what is lent, and that every number lies within it. Assumes nothing.
use Prim.Native.Nat.{ℕ, suc, ◌+◌, ◌-◌, ◌*◌, ◌/◌, ◌≤◌, ◌<◌}
use mathlib.Core.Path.{◌≡◌, refl, ◌∙◌}
use mathlib.Core.List.{List}
use mathlib.Core.Logic.{⊎_elim, ◌≢◌}
use native.Mathlib.Omega.{arith}
use native.Mathlib.Nat.{mod-lt, div-le_self, add-mul, one-mul}
use borrow.Author.Tests.{eq-eqb, ne_eqb}
use lib.ListN.{length, get_or, set, length-set}
use lib.Seq.{get_or-set_same, get_or-set_other}
use Rattle.lists.proofs.Cases.{same_or}
use Rattle.lists.proofs.Splice.{length_splice}
use Rattle.words.specs.Words.{digits}
use Rattle.words.proofs.Laws.{length_digits}
use Rattle.sectors.specs.Sectors.{start_of, per_sector}
use Rattle.sectors.specs.Init.{init_bytes}
use Rattle.sectors.specs.declared.init.SectorInit.{SectorInit}
use Rattle.sectors.proofs.Laws.{sector_within}
use Rattle.sectors.proofs.New.{length_init}
use Rattle.disk.specs.Disk.{Disk, store, entry_place, set_fat, push_fat, list_fat, list_difat, link_place}
use Rattle.disk.specs.Fits.{Fits}

-- the lent image and the lent tables are as long as they were
pub record SameLong (d e : Disk) : Type 0 where
  pub image_same : length e.image ≡ length d.image
  pub fat_same_lem : length e.fat ≡ length d.fat
  pub fats_same : length e.fats ≡ length d.fats
  pub difats_same : length e.difats ≡ length d.difats

-- and the disk that is left fits
pub record Kept (S R k j : ℕ) (d e : Disk) : Type 0 where
  pub long : SameLong d e
  pub fits : Fits S R k j e

-- one move after another
pub kept_then : (S R k j k' j' : ℕ) (d e f : Disk) → Kept S R k j d e → (Fits S R k j e → Kept S R k' j' e f) → Kept S R k' j' d f
kept_then S R k j k' j' d e f a b =
    let s = a.long in
    let t = (b a.fits).long in
    record {
      long = record {
        image_same = t.image_same ∙ s.image_same;
        fat_same_lem = t.fat_same_lem ∙ s.fat_same_lem;
        fats_same = t.fats_same ∙ s.fats_same;
        difats_same = t.difats_same ∙ s.difats_same;
      };
      fits = (b a.fits).fits;
    }

pub kept_none : (S R k j : ℕ) (d : Disk) → Fits S R k j d → Kept S R k j d d
kept_none S R k j d f = record { long = record { image_same = refl; fat_same_lem = refl; fats_same = refl; difats_same = refl }; fits = f }

-- what is as long fits where its own sectors do
kept_long : (S R k j k' j' : ℕ) (d e : Disk) → Fits S R k j d → SameLong d e → e.sectors ≤ R → k' ≤ R → j' ≤ R
    → ((p : ℕ) → p < k' → get_or e.fats p 0 < e.sectors) → ((p : ℕ) → p < j' → get_or e.difats p 0 < e.sectors) → Kept S R k' j' d e
kept_long S R k j k' j' d e f s n many more low lower =
    record {
      long = s;
      fits = record {
        holds = rw s.image_same f.holds;
        header = f.header;
        short = f.short;
        few = f.few;
        inside = n;
        fat_long = rw s.fat_same_lem f.fat_long;
        fats_long = rw s.fats_same f.fats_long;
        difats_long = rw s.difats_same f.difats_long;
        fats_many = many;
        difats_many = more;
        fats_below = low;
        difats_below = lower;
      };
    }

-- a value stored behind values that are small
set_below : (l : List ℕ) (i v m p : ℕ) → i < length l → v < m → ((q : ℕ) → q < i → get_or l q 0 < m) → p < suc i → get_or (set l i v) p 0 < m
set_below l i v m p h low rest lp =
    ⊎_elim
    (λ (e : p ≡ i). rw (e, get_or-set_same l i v 0 h) low)
    (λ (e : p ≢ i). rw (get_or-set_other l i p v 0 e) (rest p (omega (arith, lp, e))))
    (same_or p i)

-- where an entry stands
pub entry_inside : (S len : ℕ) (fats : List ℕ) (i : ℕ) → S ≡ 4 * per_sector S → 1 ≤ per_sector S → start_of S (get_or fats (i / per_sector S) 0) + S ≤ len → entry_place S fats i + 4 ≤ len
unfolding entry_place
entry_inside S len fats i e some h = omega (arith, mod-lt i {m = per_sector S} some, e, h)

-- what fits: its numbers, and where its sectors lie
module _ (S R k j : ℕ) (d : Disk) (f : Fits S R k j d) where
  pub each_many : 128 ≤ per_sector S
  each_many = omega (arith, f.holds.entries, f.header)

  pub sectors_inside : (i : ℕ) → i < R → start_of S i + S ≤ length d.image
  sectors_inside i l = sector_within S R (length d.image) i f.holds l

  pub header_inside : S ≤ length d.image
  header_inside = omega (arith, f.holds.fits, add-mul R 1 S, one-mul S)

  pub sectors_of_fat : (p : ℕ) → p < k → start_of S (get_or d.fats p 0) + S ≤ length d.image
  sectors_of_fat p l = sectors_inside (get_or d.fats p 0) (omega (arith, f.fats_below p l, f.inside))

  pub difats_inside : (p : ℕ) → p < j → start_of S (get_or d.difats p 0) + S ≤ length d.image
  difats_inside p l = sectors_inside (get_or d.difats p 0) (omega (arith, f.difats_below p l, f.inside))

  pub entries_inside : (i : ℕ) → i / per_sector S < k → entry_place S d.fats i + 4 ≤ length d.image
  entries_inside i l = entry_inside S (length d.image) d.fats i f.holds.entries (omega (arith, each_many)) (sectors_of_fat (i / per_sector S) l)

  pub link_inside : link_place S d.difats j + 4 ≤ length d.image
  unfolding link_place
  link_inside =
      ⊎_elim
      (λ (e : j ≡ 0). rw (eq-eqb j 0 e) (omega (arith, header_inside, f.header)))
      (λ (e : j ≢ 0). rw (ne_eqb j 0 e) (omega (arith, difats_inside (j - 1) (omega (arith, e)), f.holds.entries, each_many)))
      (same_or j 0)

  -- a run of bytes, a number and a new sector stored
  pub store_kept : (o : ℕ) (xs : List ℕ) → o + length xs ≤ length d.image → Kept S R k j d (store d o xs)
  unfolding store
  store_kept o xs h =
      kept_long S R k j k j d (store d o xs) f
      (record { image_same = length_splice d.image o xs h; fat_same_lem = refl; fats_same = refl; difats_same = refl })
      f.inside f.fats_many f.difats_many f.fats_below f.difats_below

  pub number_kept : (o v : ℕ) → o + 4 ≤ length d.image → Kept S R k j d (store d o (digits 4 v))
  number_kept o v h = store_kept o (digits 4 v) (omega (arith, length_digits 4 v, h))

  pub init_kept : (i : ℕ) (init : SectorInit) → i < R → Kept S R k j d (store d (start_of S i) (init_bytes S init))
  init_kept i init l =
      store_kept (start_of S i) (init_bytes S init)
      (omega (arith, length_init S init f.holds.entries (omega (arith, each_many)), sectors_inside i l))

  -- an entry set, and the entry of one sector more
  pub set_kept : (i v : ℕ) → i / per_sector S < k → Kept S R k j d (set_fat S d i v)
  unfolding set_fat
  set_kept i v l =
      kept_long S R k j k j d (set_fat S d i v) f
      (record { image_same = length_splice d.image (entry_place S d.fats i) (digits 4 v) (omega (arith, length_digits 4 v, entries_inside i l)); fat_same_lem = length-set d.fat i v; fats_same = refl; difats_same = refl })
      f.inside f.fats_many f.difats_many f.fats_below f.difats_below

  pub push_kept : (v : ℕ) → d.sectors / per_sector S < k → d.sectors < R → Kept S R k j d (push_fat S d v)
  unfolding push_fat
  push_kept v l room =
      kept_long S R k j k j d (push_fat S d v) f
      (record {
        image_same = length_splice d.image (entry_place S d.fats d.sectors) (digits 4 v) (omega (arith, length_digits 4 v, entries_inside d.sectors l));
        fat_same_lem = length-set d.fat d.sectors v;
        fats_same = refl;
        difats_same = refl;
      })
      room f.fats_many f.difats_many (λ p h. omega (arith, f.fats_below p h)) (λ p h. omega (arith, f.difats_below p h))

  -- one sector more, which is the FAT's next one and has its own entry
  pub grow_kept : (v : ℕ) → d.sectors / per_sector S ≡ k → d.sectors < R → Kept S R (suc k) j d (push_fat S (list_fat d k d.sectors) v)
  unfolding push_fat list_fat
  grow_kept v e room =
      let low : k < R = omega (arith, e, div-le_self d.sectors (per_sector S), room) in
      let own : get_or (set d.fats k d.sectors) (d.sectors / per_sector S) 0 ≡ d.sectors = rw e (get_or-set_same d.fats k d.sectors 0 (omega (arith, low, f.fats_long))) in
      let place : entry_place S (set d.fats k d.sectors) d.sectors + 4 ≤ length d.image = entry_inside S (length d.image) (set d.fats k d.sectors) d.sectors f.holds.entries (omega (arith, each_many)) (rw own (sectors_inside d.sectors room)) in
      kept_long S R k j (suc k) j d (push_fat S (list_fat d k d.sectors) v) f
      (record {
        image_same = length_splice d.image (entry_place S (set d.fats k d.sectors) d.sectors) (digits 4 v) (omega (arith, length_digits 4 v, place));
        fat_same_lem = length-set d.fat d.sectors v;
        fats_same = length-set d.fats k d.sectors;
        difats_same = refl;
      })
      room low f.difats_many
      (λ p h. set_below d.fats k d.sectors (suc d.sectors) p (omega (arith, f.fats_long, low)) (omega arith) (λ q l. omega (arith, f.fats_below q l)) h)
      (λ p h. omega (arith, f.difats_below p h))

  -- a sector of the DIFAT listed
  pub list_kept : (id : ℕ) → id < d.sectors → j < R → Kept S R k (suc j) d (list_difat d j id)
  unfolding list_difat
  list_kept id l room =
      kept_long S R k j k (suc j) d (list_difat d j id) f
      (record { image_same = refl; fat_same_lem = refl; fats_same = refl; difats_same = length-set d.difats j id })
      f.inside f.fats_many room f.fats_below
      (λ p h. set_below d.difats j id d.sectors p (omega (arith, f.difats_long, room)) l f.difats_below h)
