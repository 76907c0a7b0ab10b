-- When a reader gives a field's number and when 0, and when its place moves on. Assumes nothing.
use Prim.Native.Nat.{ℕ, ◌+◌, ◌≤◌, ◌<◌}
use mathlib.Core.Path.{◌≡◌, refl, ap}
use mathlib.Core.Bool.{Bool, true, false}
use mathlib.Core.List.{List}
use borrow.Author.Tests.{le-leb, lt-leb, lt-ltb}
use lib.Dec.{leb}
use lib.ListN.{length}
use Rattle.lists.specs.Lists.{choose}
use Rattle.lists.proofs.Cases.{both_true, both_false_left, both_false_right}
use Rattle.fields.specs.Fields.{holds_number, number_at, minor_at, major_at, order_at, shift_at, mini_at, dirs_at, fats_at, dir_at, transaction_at, cutoff_at, minifat_at, minifats_at, difat_at, difats_at}
use Rattle.reader.specs.Serve.{served_at, place_after, numbers_of}
use Rattle.reader.specs.declared.Numbers.{Numbers}

-- The number of the field, where b is as long as a header and the field holds one (MS-CFB 2.2).
pub served_is : (b : List ℕ) (i : ℕ) → 512 ≤ length b → holds_number i ≡ true → served_at b i ≡ number_at b i
unfolding served_at
served_is b i long holds = ap (λ (t : Bool). choose t (number_at b i) 0) (both_true (le-leb 512 (length b) long) holds)

-- 0, where b is shorter than a header.
pub served_short : (b : List ℕ) (i : ℕ) → length b < 512 → served_at b i ≡ 0
unfolding served_at
served_short b i short = ap (λ (t : Bool). choose t (number_at b i) 0) (both_false_left (leb 512 (length b)) (holds_number i) (lt-leb 512 (length b) short))

-- 0, where the table has no number at i.
pub served_none : (b : List ℕ) (i : ℕ) → holds_number i ≡ false → served_at b i ≡ 0
unfolding served_at
served_none b i none = ap (λ (t : Bool). choose t (number_at b i) 0) (both_false_right (leb 512 (length b)) (holds_number i) none)

-- The next place, from each of the 18 fields (MS-CFB 2.2).
pub place_moves : (i : ℕ) → i < 18 → place_after i ≡ i + 1
unfolding place_after
place_moves i h = rw (lt-ltb i 18 h)

-- What one reader gives of a whole header is the number in each of its fields (MS-CFB 2.2).
pub numbers_are : (b : List ℕ) → 512 ≤ length b → ◌≡◌ {A = Numbers} (numbers_of b)
    (record {
      minor = number_at b minor_at;
      major = number_at b major_at;
      order = number_at b order_at;
      shift = number_at b shift_at;
      mini = number_at b mini_at;
      dirs = number_at b dirs_at;
      fats = number_at b fats_at;
      dir = number_at b dir_at;
      transaction = number_at b transaction_at;
      cutoff = number_at b cutoff_at;
      minifat = number_at b minifat_at;
      minifats = number_at b minifats_at;
      difat = number_at b difat_at;
      difats = number_at b difats_at;
    })
unfolding numbers_of
numbers_are b long = λ i.
    record {
      minor = served_is b minor_at long refl i;
      major = served_is b major_at long refl i;
      order = served_is b order_at long refl i;
      shift = served_is b shift_at long refl i;
      mini = served_is b mini_at long refl i;
      dirs = served_is b dirs_at long refl i;
      fats = served_is b fats_at long refl i;
      dir = served_is b dir_at long refl i;
      transaction = served_is b transaction_at long refl i;
      cutoff = served_is b cutoff_at long refl i;
      minifat = served_is b minifat_at long refl i;
      minifats = served_is b minifats_at long refl i;
      difat = served_is b difat_at long refl i;
      difats = served_is b difats_at long refl i;
    }
