-- What a FAT says of its sectors (document 01, 14 to 18): marks, forgiveness, who points where. Assumes nothing.
use Rattle.std.specs.Prelude.{ℕ, zero, suc, Bool, not, List, [], ◌∷◌, eqb, leb, length, get_or, set}
use Rattle.lists.specs.Lists.{choose, both, every, tab}
use Rattle.lists.specs.Rows.{Row, row}
use Rattle.consts.specs.Consts.{max_regular, invalid_sector, difat_sector, fat_sector, end_of_chain, free_sector}

-- document 01, 14: every listed sector has this entry
unfoldable pub all_marked : List ℕ → List ℕ → ℕ → Bool
all_marked fat ids v = every (length ids) (λ j. eqb (get_or fat (get_or ids j 0) 0) v)

-- document 01, 14, permissive: the entry of every listed sector becomes v
unfoldable pub set_all : List ℕ → List ℕ → ℕ → List ℕ
set_all fat [] v = fat
set_all fat (i ∷ is) v = set_all (set fat i v) is v

-- document 01, 14: DIFAT first
unfoldable pub marked_fat : List ℕ → List ℕ → List ℕ → List ℕ
unfolding set_all
marked_fat fat difats fats = set_all (set_all fat difats difat_sector) fats fat_sector

-- MS-CFB 2.3: a regular entry points at a sector
unfoldable pub regular : ℕ → Bool
regular e = leb e max_regular

-- document 01, 15, permissive: a regular entry at or above n becomes END
unfoldable pub forgiven : ℕ → ℕ → ℕ
unfolding regular
forgiven n e = choose (both (regular e) (leb n e)) end_of_chain e

-- some entry among the first m is t
unfoldable pub pointed : List ℕ → ℕ → ℕ → Bool
pointed fat m t = not (every m (λ j. not (eqb (get_or fat j 0) t)))

-- document 01, 15 to 17: what is wrong with sector i, or 0
unfoldable pub wrong_at : Bool → ℕ → List ℕ → ℕ → ℕ
unfolding regular pointed
wrong_at strict n fat i =
    choose (regular (get_or fat i 0))
    (choose (leb n (get_or fat i 0)) (choose strict 15 0) (choose (pointed fat i (get_or fat i 0)) 16 0))
    (choose (eqb (get_or fat i 0) invalid_sector) 17 0)

-- document 01: sector by sector upward, the first bad one decides; c sectors from i on
unfoldable pub first_wrong : Bool → ℕ → List ℕ → ℕ → ℕ → ℕ
unfolding wrong_at
first_wrong strict n fat i zero = 0
first_wrong strict n fat i (suc c) =
    let rest = first_wrong strict n fat (suc i) c in
    choose (eqb (wrong_at strict n fat i) 0) rest (wrong_at strict n fat i)

-- the table that an opening leaves
unfoldable pub forgiven_fat : ℕ → List ℕ → List ℕ
unfolding forgiven
forgiven_fat n fat = tab (λ i. forgiven n (get_or fat i 0)) n

-- document 01: one byte per sector, 1 where some entry points at it
unfoldable pub marks_of : ℕ → List ℕ → List ℕ
unfolding pointed
marks_of n fat = tab (λ i. choose (pointed fat n i) 1 0) n

-- document 01, 18: no pointed-to sector is FREE
unfoldable pub none_dangles : ℕ → List ℕ → Bool
unfolding pointed
none_dangles n fat = every n (λ i. not (both (pointed fat n i) (eqb (get_or fat i 0) free_sector)))

-- document 01: the FREE sectors, ascending; c sectors from i on
unfoldable pub frees_from : List ℕ → ℕ → ℕ → List ℕ
frees_from fat i zero = []
frees_from fat i (suc c) = choose (eqb (get_or fat i 0) free_sector) (i ∷ frees_from fat (suc i) c) (frees_from fat (suc i) c)

unfoldable pub frees_of : ℕ → List ℕ → List ℕ
unfolding frees_from
frees_of n fat = frees_from fat 0 n

-- document 01's rows 14 to 18, of a FAT of n entries as the bytes have it, and its listed sectors
unfoldable pub fat_rows : Bool → ℕ → List ℕ → List ℕ → List ℕ → List Row
unfolding all_marked marked_fat first_wrong forgiven_fat none_dangles
fat_rows strict n fat difats fats =
    row 14 (both strict (not (both (all_marked fat difats difat_sector) (all_marked fat fats fat_sector))))
    ∷ row 15 (eqb (first_wrong strict n (marked_fat fat difats fats) 0 n) 15)
    ∷ row 16 (eqb (first_wrong strict n (marked_fat fat difats fats) 0 n) 16)
    ∷ row 17 (eqb (first_wrong strict n (marked_fat fat difats fats) 0 n) 17)
    ∷ row 18 (not (none_dangles n (forgiven_fat n (marked_fat fat difats fats))))
    ∷ []
