-- What it is for the library to agree with a record of a reading, a writing or a short list. Assumes nothing.
use Rattle.std.specs.Prelude.{◌≡◌, Ok, ℕ, ◌+◌, ◌*◌, ◌%◌, ◌≤◌, List, [], ◌∷◌, length, take, ◌==◌, slice_index, slice_index_or}
use Rattle.lists.specs.Lists.{choose, tab, part, splice}
use Rattle.words.specs.Words.{le}
use Rattle.consts.specs.Pretty.{prettify_of}
use Rattle.texts.specs.Text.{text_of}
use Rattle.consts.specs.declared.Sector.{Sector}
use Rattle.header.specs.Versions.{numbered_of}
use Rattle.header.specs.Read.{read_no, header_left}
use Rattle.header.specs.Write.{write_no, header_bytes}
use Rattle.header.specs.declared.Version.{Version}
use Rattle.header.specs.declared.Header.{Header}
use Rattle.records.specs.Records.{length_in, number_in, mode_in, numbers_in, header_in}

-- the reader gives the number and the words of the record
pub record ReadAgrees (b : List ℕ) : Type 0 where
  pub version : Version
  pub named : numbered_of (le 4 b 552) ≡ Ok version
  pub number : read_no (mode_in b) (part b 8 (length_in b)) ≡ number_in b
  pub words : header_left (mode_in b) (part b 8 (length_in b)) ≡ header_in version (part b 552 468)

-- the bytes of a buffer before a writing
unfoldable pub before : ℕ → List ℕ
before n = tab (λ i. (7 * i + 3) % 256) n

-- the bytes of a buffer after a writing of h
unfoldable pub after : Header → ℕ → List ℕ
unfolding before
after h n = choose (write_no h n == 0) (splice (before n) 0 (header_bytes h)) (before n)

-- the writer gives the number and the bytes of the record
pub record WriteAgrees (b : List ℕ) : Type 0 where
  pub version : Version
  pub named : numbered_of (le 4 b 8) ≡ Ok version
  pub number : write_no (header_in version (part b 8 468)) (length_in b) ≡ number_in b
  pub bytes : after (header_in version (part b 8 468)) (length_in b) ≡ part b 476 (length_in b)

-- a text and a line feed stand in held from p on, and q is the place past them
pub record LineAt (held : List ℕ) (p : ℕ) (text : List ℕ) (q : ℕ) : Type 0 where
  pub bytes : part held p (length text) ≡ text
  pub feed : slice_index_or held (p + length text) 0 ≡ 10
  pub past : q ≡ p + length text + 1

-- the lines of the items stand in held from p on, and then zeros
unfoldable pub Lines : List ℕ → ℕ → List Sector → Type 0
Lines held p [] = (i : ℕ) → p ≤ i → slice_index held i ≡ 0
Lines held p (s ∷ ss) = LineAt held p (text_of s) (p + length (text_of s) + 1) × Lines held (p + length (text_of s) + 1) ss

-- the short list of the entries has n items, and held has their lines
pub record ListedAs (xs held : List ℕ) (n : ℕ) : Type 0 where
  pub number : length (prettify_of xs) ≡ n
  pub text : Lines held 0 (prettify_of xs)

-- the short list has the items and the lines of the record
abbrev pub ListAgrees : List ℕ → Type 0
ListAgrees b = ListedAs (take (length_in b) (numbers_in (part b 8 240) 60)) (part b 248 776) (number_in b)
