-- What the program `list` writes, as a function of the bytes that it reads (document 01, the end of "Cases from the shelf"). Assumes nothing.
use Rattle.std.specs.Prelude.{ℕ, List, eqb, ltb, length}
use Rattle.lists.specs.Lists.{choose}
use Rattle.header.specs.declared.Validation.TheVariants.{Strict}
use Rattle.fat.specs.Lists.{most}
use Rattle.alloc.specs.Opening.{open_no}
use Rattle.cfb.specs.Face.{sectors_of, tables_of}
use Rattle.lines.specs.Lines.{listed, refused_line}

-- document 01, "Opening an image": the number that the strict opening of all bytes ends with, where no table is too short
unfoldable pub strict_no : List ℕ → ℕ
unfolding open_no
strict_no img = open_no Strict img (length img) most

-- document 01, "opens it strictly and lists the FAT .. or writes `refused` and the number"
unfoldable pub shown : List ℕ → List ℕ
unfolding strict_no listed sectors_of tables_of refused_line
shown img =
    choose (eqb (strict_no img) 0) (listed (sectors_of img (length img)) (length (tables_of img (length img)).frees) (tables_of img (length img)).fat)
    (refused_line (strict_no img))

-- document 01, "an image of at most 64 KiB .. longer input is `refused 1`": all that is written
unfoldable pub listing : List ℕ → List ℕ
unfolding shown refused_line
listing img = choose (ltb 65536 (length img)) (refused_line 1) (shown img)
