-- A header as 117 words at the library's edge: its eight numbers and its list. Assumes nothing.
use Rattle.std.specs.Prelude.{ℕ, List, ◌∷◌, eqb, length, get_or, drop}
use Rattle.lists.specs.Lists.{choose, splice}
use Rattle.header.specs.Versions.{major_of, version_of}
use Rattle.header.specs.Read.{unknown}
use Rattle.header.specs.Write.{write_no, header_bytes}
use Rattle.header.specs.declared.Version.{Version}
use Rattle.header.specs.declared.Validation.{Validation}
use Rattle.header.specs.declared.Validation.TheVariants.{Permissive, Strict}
use Rattle.header.specs.declared.Header.{Header}

-- 0 is permissive, any other number strict
unfoldable pub mode_of : ℕ → Validation
mode_of n = choose (eqb n 0) Permissive Strict

-- the words of a header: its version's number, its seven other numbers, its list
unfoldable pub words_of : Header → List ℕ
words_of h =
    major_of h.version ∷ h.dirs ∷ h.fats ∷ h.dir ∷ h.minifat ∷ h.minifats ∷ h.difat ∷ h.difats ∷ h.list

-- the header that words hold beside a version
unfoldable pub header_with : Version → List ℕ → Header
header_with v words =
    record {
      version = v;
      dirs = get_or words 1 0;
      fats = get_or words 2 0;
      dir = get_or words 3 0;
      minifat = get_or words 4 0;
      minifats = get_or words 5 0;
      difat = get_or words 6 0;
      difats = get_or words 7 0;
      list = drop 8 words;
    }

-- the header that words hold, where their first is 3 or 4
unfoldable pub header_from : List ℕ → Header
unfolding header_with
header_from words = header_with (version_of (get_or words 0 0)) words

-- the number that a writing of words into n lent bytes ends with: 4 for no version, before the writer's own
unfoldable pub written_no : List ℕ → ℕ → ℕ
unfolding header_from
written_no words n = choose (unknown (get_or words 0 0)) 4 (write_no (header_from words) n)

-- what the lent bytes then hold: the header's over the first of them, or what they held
unfoldable pub bytes_left : List ℕ → List ℕ → List ℕ
unfolding header_from written_no
bytes_left words buf = choose (eqb (written_no words (length buf)) 0) (splice buf 0 (header_bytes (header_from words))) buf
