-- The six kinds of an entry. Assumes nothing.
use Rattle.std.specs.Prelude.{ℕ, leb, eqb}
use Rattle.lists.specs.Lists.{choose}
use Rattle.consts.specs.Consts.{max_regular, invalid_sector, difat_sector, fat_sector, end_of_chain}
use Rattle.consts.specs.declared.Kind.{Kind}
use Rattle.consts.specs.declared.Kind.TheVariants.{Regular, Reserved, Difat, Fat, End, Free}

-- MS-CFB 2.1, the table of sector numbers: the numbers up to MAXREGSECT are sectors, and each of the five above has a meaning of its own.
unfoldable pub kind_of : ℕ → Kind
kind_of v =
    choose (leb v max_regular) Regular
    (choose (eqb v invalid_sector) Reserved
    (choose (eqb v difat_sector) Difat
    (choose (eqb v fat_sector) Fat
    (choose (eqb v end_of_chain) End Free))))
