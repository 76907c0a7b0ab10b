-- What the functions that test an agreement part by part ask for and say. Assumes nothing.
use Rattle.std.specs.Prelude.{ℕ, ◌≤◌, ◌≡◌, Bool, true, not, List, eqb, length, get_or, drop}
use Rattle.lists.specs.Lists.{both, every, same_list}
use Rattle.lists.specs.Rows.{refusal}
use Rattle.consts.specs.Consts.{difat_sector, fat_sector}
use Rattle.header.specs.declared.Header.{Header}
use Rattle.sectors.specs.Sectors.{Holds}
use Rattle.fat.specs.Lists.{difats_in, fats_in, all_below, lists_right}
use Rattle.fat.specs.Loaded.{Counted, Covers, Places}
use Rattle.judge.specs.Judge.{all_marked, marked_fat, forgiven_fat, marks_of}
use Rattle.alloc.specs.Opening.{Tables, open_fat, table_rows}
use Rattle.alloc.specs.Opened.{Lent}

-- every number is zero
unfoldable pub all_zero : List ℕ → Bool
all_zero xs = every (length xs) (λ i. eqb (get_or xs i 0) 0)

-- both lists as lent are the image's, and right (document 01, 12)
unfoldable pub lists_same : ℕ → List ℕ → Header → ℕ → List ℕ → List ℕ → Bool
lists_same S img h n fats difats = both (lists_right S img h n) (both (same_list difats (difats_in S img h n)) (same_list fats (fats_in S img h n)))

-- the entry of a listed sector is its mark (document 01, 14)
unfoldable pub listed_marked : List ℕ → List ℕ → List ℕ → Bool
listed_marked raw difats fats = both (all_marked raw difats difat_sector) (all_marked raw fats fat_sector)

-- a FAT is that of the bytes, marked and forgiven; strict marks and forgives nothing (document 01, 14 and 15)
unfoldable pub fat_same : Bool → List ℕ → List ℕ → List ℕ → List ℕ → Bool
unfolding listed_marked
fat_same strict raw difats fats fat =
    both (not (both strict (not (listed_marked raw difats fats))))
    (both (not (both strict (not (same_list fat (marked_fat raw difats fats)))))
    (same_list fat (forgiven_fat (length fat) (marked_fat raw difats fats))))

-- the image opens, and the fronts of the tables hold what it has (document 01, 12 to 18)
unfoldable pub tables_same : Bool → ℕ → List ℕ → Header → ℕ → List ℕ → List ℕ → List ℕ → List ℕ → Bool
tables_same strict S img h n fat fats difats marks =
    both (eqb (refusal (table_rows strict S img h n)) 0)
    (both (same_list fat (open_fat S img h n))
    (both (same_list fats (fats_in S img h n))
    (both (same_list difats (difats_in S img h n))
    (same_list marks (marks_of n (open_fat S img h n))))))

-- the same of tables as long as the FAT; the free list is not looked at
abbrev pub front_same : Bool → ℕ → List ℕ → Header → Tables → Bool
front_same strict S img h t = tables_same strict S img h (length t.fat) t.fat t.fats t.difats t.marks

-- each table holds zero past its count
unfoldable pub tails_zero : ℕ → ℕ → ℕ → ℕ → Tables → Bool
tails_zero n k d free t =
    both (all_zero (drop n t.fat))
    (both (all_zero (drop k t.fats))
    (both (all_zero (drop d t.difats))
    (both (all_zero (drop free t.frees))
    (all_zero (drop n t.marks)))))

-- a list of d sectors of an image that holds n, and a room of its length
pub record ChainRoom (S n len d room : ℕ) : Type 0 where
  pub holds : Holds S n len
  pub same : room ≡ d

-- the same, and a scratch with a place for each of n sectors
pub record ChainLent (S n len d scratch : ℕ) : Type 0 where
  pub holds : Holds S n len
  pub few : d ≤ 65536
  pub within : d ≤ scratch
  pub below : n ≤ scratch

-- k places of the DIFAT that can be read, and a room for them
pub record PlacesRoom (S n len : ℕ) (list difats : List ℕ) (k room : ℕ) : Type 0 where
  pub places : Places S n len list difats k
  pub same : room ≡ k

-- the same, and a scratch with a place for each of n sectors
pub record PlacesLent (S n len : ℕ) (list difats : List ℕ) (k scratch : ℕ) : Type 0 where
  pub places : Places S n len list difats k
  pub few : k ≤ 65536
  pub within : k ≤ scratch
  pub below : n ≤ scratch

-- lists as long as n sectors ask for, and a scratch with a place for each sector
pub record ListsLent (S n len k d scratch : ℕ) : Type 0 where
  pub counted : Counted S n len k d
  pub below : n ≤ scratch

-- sectors that hold n entries, listed sectors below n, and a room for the entries
pub record FatLent (S len : ℕ) (difats fats : List ℕ) (n room : ℕ) : Type 0 where
  pub covers : Covers S n len fats n
  pub below : all_below n difats ≡ true
  pub same : room ≡ n

-- tables as long as n sectors ask for, and a scratch with a place for each sector
pub record TablesLent (S len n k d marks scratch : ℕ) : Type 0 where
  pub counted : Counted S n len k d
  pub marked : marks ≡ n
  pub below : n ≤ scratch

-- the same of tables
abbrev pub FrontLent : ℕ → ℕ → Tables → ℕ → Type 0
FrontLent S len t scratch = TablesLent S len (length t.fat) (length t.fats) (length t.difats) (length t.marks) scratch

-- lent tables that are long enough for n sectors of S bytes, and so is the scratch
pub record WholeLent (S n len : ℕ) (t : Tables) (free scratch : ℕ) : Type 0 where
  pub lent : Lent S n len t
  pub listed : free ≤ n
  pub below : n ≤ scratch
