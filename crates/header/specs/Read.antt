-- What reading a header gives: document 01's refusals 1 to 9, and the content by MS-CFB 2.2. Assumes nothing.
use Rattle.std.specs.Prelude.{ℕ, ◌≡◌, Bool, not, List, [], ◌∷◌, ◌++◌, eqb, ltb, length, replicate, Result, IfOk}
use Rattle.lists.specs.Lists.{choose, both, part, same_list}
use Rattle.lists.specs.Rows.{Row, row, refusal}
use Rattle.consts.specs.Consts.{signature, byte_order, mini_shift, mini_cutoff, end_of_chain, free_sector}
use Rattle.fields.specs.Fields.{major_at, order_at, shift_at, mini_at, dirs_at, fats_at, dir_at, cutoff_at, minifat_at, minifats_at, difat_at, difats_at, number_at, list_of, ids_then_free}
use Rattle.header.specs.Versions.{is_strict, version_of, shift_of}
use Rattle.header.specs.declared.Version.TheVariants.{V3}
use Rattle.header.specs.declared.Validation.{Validation}
use Rattle.header.specs.declared.judge.Fixed.{Fixed}
use Rattle.header.specs.declared.Header.{Header}
use Rattle.consts.specs.Refusals.{ends_with}
use Rattle.consts.specs.declared.refusal.Refusal.{Refusal}

-- the numbers that a header is judged by
unfoldable pub fixed_of : List ℕ → Fixed
fixed_of b =
    record {
      order = number_at b order_at;
      major = number_at b major_at;
      shift = number_at b shift_at;
      mini = number_at b mini_at;
      dirs = number_at b dirs_at;
      cutoff = number_at b cutoff_at;
    }

-- major version neither 3 nor 4
unfoldable pub unknown : ℕ → Bool
unknown n = both (not (eqb n 3)) (not (eqb n 4))

-- strict, version 3, directory sectors not 0
unfoldable pub counts_dirs : Validation → ℕ → ℕ → Bool
counts_dirs m major dirs = both (is_strict m) (both (eqb major 3) (not (eqb dirs 0)))

-- document 01's rows 3 to 8, which those numbers decide
unfoldable pub fixed_rows : Validation → Fixed → List Row
fixed_rows m f =
    row 3 (not (eqb f.order byte_order))
    ∷ row 4 (unknown f.major)
    ∷ row 5 (not (eqb f.shift (shift_of (version_of f.major))))
    ∷ row 6 (not (eqb f.mini mini_shift))
    ∷ row 7 (counts_dirs m f.major f.dirs)
    ∷ row 8 (not (eqb f.cutoff mini_cutoff))
    ∷ []

-- document 01's rows 2 to 9, which the first 512 bytes decide
unfoldable pub header_rows : Validation → List ℕ → List Row
unfolding fixed_rows fixed_of
header_rows m b =
    row 2 (not (same_list (part b 0 8) signature))
    ∷ (fixed_rows m (fixed_of b) ++ (row 9 (not (ids_then_free (list_of b))) ∷ []))

-- document 01's rows 1 to 9, for the reader alone
unfoldable pub read_rows : Validation → List ℕ → List Row
unfolding header_rows
read_rows m b = row 1 (ltb (length b) 512) ∷ header_rows m b

-- the number that a reading ends with
unfoldable pub read_no : Validation → List ℕ → ℕ
unfolding read_rows
read_no m b = refusal (read_rows m b)

-- MS-CFB 2.2, Number of Directory Sectors: not kept in version 3
unfoldable pub dirs_of : ℕ → ℕ → ℕ
dirs_of major dirs = choose (eqb major 3) 0 dirs

-- document 01: a first DIFAT sector of FREE is read as END
unfoldable pub end_if_free : ℕ → ℕ
end_if_free n = choose (eqb n free_sector) end_of_chain n

-- MS-CFB 2.2: the content of a header
unfoldable pub header_of : List ℕ → Header
header_of b =
    record {
      version = version_of (number_at b major_at);
      dirs = dirs_of (number_at b major_at) (number_at b dirs_at);
      fats = number_at b fats_at;
      dir = number_at b dir_at;
      minifat = number_at b minifat_at;
      minifats = number_at b minifats_at;
      difat = end_if_free (number_at b difat_at);
      difats = number_at b difats_at;
      list = list_of b;
    }

-- document 01: beside a refusal stand version 3 and zeros
unfoldable pub none : Header
none = record { version = V3; dirs = 0; fats = 0; dir = 0; minifat = 0; minifats = 0; difat = 0; difats = 0; list = replicate 109 0 }

-- document 01: the header that a reading leaves: the content, or what stands beside a refusal
abbrev pub header_left : Validation → List ℕ → Header
header_left m b = choose (eqb (read_no m b) 0) (header_of b) none

-- what the reader says of b: document 01's number, and the header where there is none against it
pub record ReadSays (b : List ℕ) (m : Validation) (r : Result Header Refusal) : Type 0 where
  pub number : ends_with r ≡ read_no m b
  pub header : IfOk r (λ h. h ≡ header_of b)
