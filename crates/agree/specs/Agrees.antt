-- Agreement of a state and its tables with an image (document 01, 19), as plain facts. Assumes nothing.
use Rattle.std.specs.Prelude.{ℕ, ◌≤◌, ◌<◌, ◌≡◌, List, length, get_or, take}
use Rattle.header.specs.Versions.{length_of}
use Rattle.header.specs.Read.{header_of}
use Rattle.header.specs.declared.Header.{Header}
use Rattle.header.specs.declared.Validation.{Validation}
use Rattle.fat.specs.Lists.{sectors_in}
use Rattle.points.specs.Frees.{occurs}
pub use Rattle.points.specs.Frees.{FreesOnce}
use Rattle.alloc.specs.Opening.{Tables, open_no, open_tables, shortest, padded}

-- document 01, 19: lent tables t hold the tables o of an image of n sectors, zeros past their counts, the free list in any order
pub record Held (n : ℕ) (o : Tables) (free : ℕ) (t : Tables) : Type 0 where
  pub fat : t.fat ≡ padded o.fat (length t.fat)
  pub fats : t.fats ≡ padded o.fats (length t.fats)
  pub difats : t.difats ≡ padded o.difats (length t.difats)
  pub marks : t.marks ≡ padded o.marks (length t.marks)
  pub count : free ≡ length o.frees
  pub frees : FreesOnce n o.fat (take free t.frees)
  pub rest : (j : ℕ) → free ≤ j → j < length t.frees → get_or t.frees j 0 ≡ 0

-- document 01, 19: the image at the used length opens in the mode, and the numbers, the header and the tables are what that opening gives
pub record Agrees (m : Validation) (img : List ℕ) (used sectors free : ℕ) (h : Header) (t : Tables) : Type 0 where
  pub opens : open_no m img used (shortest t) ≡ 0
  pub header : h ≡ header_of img
  pub count : sectors ≡ sectors_in (length_of (header_of img).version) used
  pub tables : Held (sectors_in (length_of (header_of img).version) used) (open_tables (length_of (header_of img).version) img (header_of img) (sectors_in (length_of (header_of img).version) used)) free t

-- two lists hold the same numbers, each as often, in whatever order
pub record Permuted (xs ys : List ℕ) : Type 0 where
  pub long : length xs ≡ length ys
  pub times : (x : ℕ) → occurs x xs ≡ occurs x ys
