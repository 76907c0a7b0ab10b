-- What a reader over a lent header gives, and the place that it then has (MS-CFB 2.2). Assumes nothing.
use Rattle.std.specs.Prelude.{ℕ, ◌+◌, List, leb, ltb, length}
use Rattle.lists.specs.Lists.{choose, both}
use Rattle.fields.specs.Fields.{holds_number, number_at, minor_at, major_at, order_at, shift_at, mini_at, dirs_at, fats_at, dir_at, transaction_at, cutoff_at, minifat_at, minifats_at, difat_at, difats_at}
use Rattle.reader.specs.declared.Reader.{Reader}
use Rattle.reader.specs.declared.Numbers.{Numbers}

-- the number in field i of b; 0 where b is shorter than a header, and where the table has no number at i
unfoldable pub served_at : List ℕ → ℕ → ℕ
served_at b i = choose (both (leb 512 (length b)) (holds_number i)) (number_at b i) 0

-- the place behind field i; behind the last of the 18 fields a reader stays where it is
unfoldable pub place_after : ℕ → ℕ
place_after i = choose (ltb i 18) (i + 1) i

-- the same bytes, at the next place
unfoldable pub stepped : Reader → Reader
unfolding place_after
stepped r = record { bytes = r.bytes; at = place_after r.at }

-- MS-CFB 2.2: the numbers in the fields of b, from the minor version to the count of DIFAT sectors
unfoldable pub numbers_of : List ℕ → Numbers
numbers_of b =
    record {
      minor = served_at b minor_at;
      major = served_at b major_at;
      order = served_at b order_at;
      shift = served_at b shift_at;
      mini = served_at b mini_at;
      dirs = served_at b dirs_at;
      fats = served_at b fats_at;
      dir = served_at b dir_at;
      transaction = served_at b transaction_at;
      cutoff = served_at b cutoff_at;
      minifat = served_at b minifat_at;
      minifats = served_at b minifats_at;
      difat = served_at b difat_at;
      difats = served_at b difats_at;
    }
