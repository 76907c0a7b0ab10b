-- What a strict opening leaves of an image: its verdict and its FAT (document 01, "Opening an image"). Assumes nothing.
use Rattle.std.specs.Prelude.{ℕ, ◌≡◌, List, length}
use Rattle.alloc.specs.Opening.{padded}
use Rattle.cfb.specs.Face.{numbers_of, answer, sectors_of, tables_of}
use Rattle.cfb.specs.declared.Opened.{Opened}
use Rattle.listing.specs.Listing.{strict_no}

-- an image is opened strictly: the verdict, and, where it is accepted, the FAT with zeros behind it
pub record FatOpened (img : List ℕ) (r : Opened) (fat : List ℕ) : Type 0 where
  pub verdict : numbers_of r.verdict ≡ answer (strict_no img) (sectors_of img (length img)) (length (tables_of img (length img)).frees)
  pub table : strict_no img ≡ 0 → fat ≡ padded (tables_of img (length img)).fat 128
