-- Agreement of a state and its tables with an image (document 01, 19), as a test that computes. Assumes nothing.
use Rattle.std.specs.Prelude.{ℕ, ◌-◌, Bool, List, eqb, length, take, drop, replicate}
use Rattle.lists.specs.Lists.{both, same_list}
use Rattle.header.specs.Versions.{length_of, major_of}
use Rattle.header.specs.Read.{header_of}
use Rattle.header.specs.declared.Header.{Header}
use Rattle.header.specs.declared.Validation.{Validation}
use Rattle.fat.specs.Lists.{sectors_in}
use Rattle.points.specs.Frees.{any_order}
use Rattle.alloc.specs.Opening.{Tables, open_no, open_tables, shortest, padded}

-- two headers agree in all but their lists
unfoldable pub same_fields : Header → Header → Bool
same_fields a b =
    both (eqb (major_of a.version) (major_of b.version))
    (both (eqb a.dirs b.dirs)
    (both (eqb a.fats b.fats)
    (both (eqb a.dir b.dir)
    (both (eqb a.minifat b.minifat)
    (both (eqb a.minifats b.minifats)
    (both (eqb a.difat b.difat)
    (eqb a.difats b.difats)))))))

-- two headers agree in every field
unfoldable pub same_header : Header → Header → Bool
unfolding same_fields
same_header a b = both (same_fields a b) (same_list a.list b.list)

-- document 01: a lent table holds xs, and past them zeros over its whole length
unfoldable pub holds : List ℕ → List ℕ → Bool
unfolding padded
holds t xs = same_list t (padded xs (length t))

-- document 01: a lent free list holds the FREE sectors of n in its first places, as many as are said, and then zeros
unfoldable pub frees_held : ℕ → List ℕ → ℕ → List ℕ → Bool
unfolding any_order
frees_held n fat free frees = both (any_order n fat (take free frees)) (same_list (drop free frees) (replicate (length frees - free) 0))

-- document 01, 19: lent tables t hold the tables o of an image of n sectors, of which so many are FREE
unfoldable pub tables_held : ℕ → Tables → ℕ → Tables → Bool
unfolding holds frees_held
tables_held n o free t =
    both (holds t.fat o.fat)
    (both (holds t.fats o.fats)
    (both (holds t.difats o.difats)
    (both (holds t.marks o.marks)
    (both (eqb free (length o.frees))
    (frees_held n o.fat free t.frees)))))

-- document 01, 19: the image at the used length opens in the mode, and the numbers, the header and the tables are what that opening gives
unfoldable pub agreement : Validation → List ℕ → ℕ → ℕ → ℕ → Header → Tables → Bool
unfolding same_header tables_held sectors_in open_tables open_no shortest
agreement m img used sectors free h t =
    both (eqb (open_no m img used (shortest t)) 0)
    (both (same_header h (header_of img))
    (both (eqb sectors (sectors_in (length_of (header_of img).version) used))
    (tables_held (sectors_in (length_of (header_of img).version) used)
    (open_tables (length_of (header_of img).version) img (header_of img) (sectors_in (length_of (header_of img).version) used)) free t)))
