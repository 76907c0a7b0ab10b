-- The short list of a run of entries, from the Rust's `prettify`. Assumes nothing.
use Rattle.std.specs.Prelude.{ℕ, ◌+◌, Bool, false, List, [], ◌∷◌, Option, None, Some, leb, eqb, drop}
use Rattle.lists.specs.Lists.{choose, both}
use Rattle.consts.specs.Consts.{invalid_sector, difat_sector, fat_sector, end_of_chain, free_sector}
use Rattle.consts.specs.declared.Sector.{Sector}
use Rattle.consts.specs.declared.Sector.TheVariants.{Free, End, Fat, Difat, Range}
use Rattle.consts.specs.declared.Found.{Found}

-- `Sector::new`: the item that an entry begins.
unfoldable pub begun : ℕ → Sector
begun x =
    choose (eqb x end_of_chain) End
    (choose (eqb x free_sector) (Free 1)
    (choose (eqb x difat_sector) (Difat 1)
    (choose (eqb x fat_sector) (Fat 1) (Range x x))))

-- `prettify`, the arm of any other number: x goes on from b if it is b + 1, and none of the four numbers above 0xfffffffb.
unfoldable pub goes_on : ℕ → ℕ → Bool
goes_on b x = both (leb x invalid_sector) (eqb x (b + 1))

-- `prettify`, the tests of `fmt.last_mut()`: whether the entry x joins the open item.
unfoldable pub joins : Sector → ℕ → Bool
unfolding goes_on
joins (Free n) x = eqb x free_sector
joins End x = false
joins (Fat n) x = eqb x fat_sector
joins (Difat n) x = eqb x difat_sector
joins (Range a b) x = goes_on b x

-- `prettify`, `*i += 1` and `*end += 1`: the open item with one entry more.
unfoldable pub grown : Sector → Sector
grown (Free n) = Free (n + 1)
grown End = End
grown (Fat n) = Fat (n + 1)
grown (Difat n) = Difat (n + 1)
grown (Range a b) = Range a (b + 1)

-- `prettify`, its loop: the items of the entries, where s is the last item so far.
unfoldable pub gather : Sector → List ℕ → List Sector
unfolding begun joins grown
gather s [] = s ∷ []
gather s (x ∷ xs) =
    let joined = gather (grown s) xs in
    let apart = gather (begun x) xs in
    choose (joins s x) joined (s ∷ apart)

-- `prettify`: all items of the entries.
unfoldable pub prettify_of : List ℕ → List Sector
unfolding gather
prettify_of [] = []
prettify_of (x ∷ xs) = gather (begun x) xs

-- `prettify`, its loop while s is the last item: what s becomes, and the place past it, where the entries begin at place p.
unfoldable pub closed : ℕ → Sector → List ℕ → Found
unfolding joins grown
closed p s [] = record { item = s; past = p }
closed p s (x ∷ xs) =
    let more = closed (p + 1) (grown s) xs in
    choose (joins s x) more (record { item = s; past = p })

-- `prettify`, its first item and the place past it, where the entries begin at place p.
unfoldable pub first_item : ℕ → List ℕ → Option Found
unfolding begun closed
first_item p [] = None
first_item p (x ∷ xs) = Some (closed (p + 1) (begun x) xs)

-- `prettify` of the entries from place p on: its first item and the place past it, or none where none are left.
unfoldable pub item_at : List ℕ → ℕ → Option Found
unfolding first_item
item_at xs p = first_item p (drop p xs)
