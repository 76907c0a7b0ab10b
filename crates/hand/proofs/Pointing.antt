-- The laws of marks, and of an entry made to point at a sector. Assumes nothing.
use Prim.Native.Nat.{ℕ, ◌+◌, ◌*◌, ◌/◌, ◌≤◌, ◌<◌}
use mathlib.Core.Path.{◌≡◌, refl, ◌∙◌}
use mathlib.Core.Bool.{Bool, true, false}
use mathlib.Core.List.{List}
use native.Mathlib.Omega.{arith}
use borrow.Author.Tests.{lt-ltb, le-ltb}
use lib.Dec.{ltb}
use lib.ListN.{length, get_or, set, length-set}
use Rattle.lists.specs.Lists.{choose, splice}
use Rattle.words.specs.Words.{digits}
use Rattle.sectors.specs.Sectors.{start_of, per_sector}
use Rattle.fat.specs.Lists.{fat_count}
use Rattle.disk.specs.Disk.{Disk, entry_place, set_fat}
use Rattle.disk.specs.Fits.{FitsWhole}
use Rattle.disk.proofs.Fitting.{set_fits, set_long, entry_sector, fats_inside}
use Rattle.disk.proofs.Keeping.{SameLong}
use Rattle.hand.specs.Hand.{Hand, marked, point}
use Rattle.hand.specs.Fits.{FitsHand}

-- a mark that is set, and one that is no sector's
pub marked_below : (n : ℕ) (marks : List ℕ) (t v : ℕ) → t < n → set marks t v ≡ marked n marks t v
unfolding marked
marked_below n marks t v h = rw (lt-ltb t n h)

pub marked_past : (n : ℕ) (marks : List ℕ) (t v : ℕ) → n ≤ t → marks ≡ marked n marks t v
unfolding marked
marked_past n marks t v h = rw (le-ltb t n h)

pub length_marked : (n : ℕ) (marks : List ℕ) (t v : ℕ) → length (marked n marks t v) ≡ length marks
unfolding marked
length_marked n marks t v = at (ltb t n)
  where
    at : (b : Bool) → length (choose b (set marks t v) marks) ≡ length marks
    at true = length-set marks t v
    at false = refl

-- what is in hand, by its parts
abbrev pub hand_of : ℕ → List ℕ → List ℕ → List ℕ → List ℕ → List ℕ → ℕ → List ℕ → Hand
hand_of n image fat fats difats frees free marks =
    record { disk = record { image = image; fat = fat; fats = fats; difats = difats; sectors = n }; frees = frees; free = free; marks = marks }

-- an entry made to point elsewhere: the old mark is lost, the new one comes, and the entry is set, whatever else is in hand
pub pointed_of : (S n : ℕ) (image fat fats marks : List ℕ) (i v : ℕ) (image' fat' lost marks' : List ℕ) → lost ≡ marked n marks (get_or fat i 0) 0
    → marks' ≡ marked n lost v 1 → (image' ≡ splice image (entry_place S fats i) (digits 4 v)) × (fat' ≡ set fat i v)
    → (difats frees : List ℕ) (free : ℕ)
    → hand_of n image' fat' fats difats frees free marks' ≡ point S (hand_of n image fat fats difats frees free marks) i v
unfolding point set_fat
pointed_of S n image fat fats marks i v image' fat' lost marks' l m s difats frees free = rw (m, l, s.0, s.1)

-- an entry of a sector in hand can be set
pub entry_in_hand : (S R : ℕ) (d : Disk) (i : ℕ) → FitsWhole S R d → i < d.sectors
    → (i < length d.fat) × (i / per_sector S < length d.fats) × (start_of S (get_or d.fats (i / per_sector S) 0) + S ≤ length d.image)
entry_in_hand S R d i f h =
    let e : i / per_sector S < fat_count S d.sectors = entry_sector S R d i f h in
    (omega (arith, f.inside, f.fat_long), omega (arith, e, f.fats_many, f.fats_long), fats_inside S R _ _ d (i / per_sector S) f e)

-- and be made to point elsewhere
pub point_inside : (S R : ℕ) (h : Hand) (i : ℕ) → FitsHand S R h → i < h.disk.sectors
    → ((S ≡ 4 * per_sector S) × (1 ≤ per_sector S) × (h.disk.sectors ≤ length h.marks))
    × (((i < length h.disk.fat) × (i / per_sector S < length h.disk.fats)) × (start_of S (get_or h.disk.fats (i / per_sector S) 0) + S ≤ length h.disk.image))
point_inside S R h i f b =
    let e = entry_in_hand S R h.disk i f.disk b in
    ((f.disk.holds.entries, omega (arith, f.disk.holds.two), omega (arith, f.disk.inside, f.marks_long)), ((e.0, e.1), e.2))

-- pointing leaves what the code asks for
pub point_fits : (S R : ℕ) (h : Hand) (i v : ℕ) → FitsHand S R h → i < h.disk.sectors → FitsHand S R (point S h i v)
unfolding point set_fat
point_fits S R h i v f b =
    record {
      disk = set_fits S R _ _ h.disk i v (entry_sector S R h.disk i f.disk b) f.disk;
      frees_long = f.frees_long;
      marks_long = rw (length_marked, length_marked) f.marks_long;
      free_few = f.free_few;
      frees_below = f.frees_below;
    }

-- and everything that is lent stays as long
pub record HandLong (h k : Hand) : Type 0 where
  pub disk : SameLong h.disk k.disk
  pub frees_same_lem : length k.frees ≡ length h.frees
  pub marks_same : length k.marks ≡ length h.marks

pub long_none : (h : Hand) → HandLong h h
long_none h =
    record { disk = record { image_same = refl; fat_same_lem = refl; fats_same = refl; difats_same = refl }; frees_same_lem = refl; marks_same = refl }

pub long_then : {h k l : Hand} → HandLong h k → HandLong k l → HandLong h l
long_then p q =
    record {
      disk = record {
        image_same = q.disk.image_same ∙ p.disk.image_same;
        fat_same_lem = q.disk.fat_same_lem ∙ p.disk.fat_same_lem;
        fats_same = q.disk.fats_same ∙ p.disk.fats_same;
        difats_same = q.disk.difats_same ∙ p.disk.difats_same;
      };
      frees_same_lem = q.frees_same_lem ∙ p.frees_same_lem;
      marks_same = q.marks_same ∙ p.marks_same;
    }

pub point_long : (S R : ℕ) (h : Hand) (i v : ℕ) → FitsHand S R h → i < h.disk.sectors → HandLong h (point S h i v)
unfolding point
point_long S R h i v f b =
    record {
      disk = set_long S R _ _ h.disk i v (entry_sector S R h.disk i f.disk b) f.disk;
      frees_same_lem = refl;
      marks_same =
          length_marked h.disk.sectors (marked h.disk.sectors h.marks (get_or h.disk.fat i 0) 0) v 1
          ∙ length_marked h.disk.sectors h.marks (get_or h.disk.fat i 0) 0;
    }

-- how many sectors there are, and how many of them are FREE, stays
pub point_counts : (S : ℕ) (h : Hand) (i v : ℕ) → ((point S h i v).disk.sectors ≡ h.disk.sectors) × ((point S h i v).free ≡ h.free)
unfolding point set_fat
point_counts S h i v = (refl, refl)
