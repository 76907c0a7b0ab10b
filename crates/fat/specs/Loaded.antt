-- What the functions that load the lists leave. Assumes nothing.
use Rattle.std.specs.Prelude.{ℕ, ◌+◌, ◌-◌, ◌*◌, ◌^◌, ◌≤◌, ◌<◌, ◌≡◌, Bool, true, List, length}
use Rattle.lists.specs.Lists.{both}
use Rattle.header.specs.declared.Header.{Header}
use Rattle.sectors.specs.Sectors.{per_sector, Holds}
use Rattle.fat.specs.Lists.{most, fat_count, difat_count, difat_at, difats_of, fats_of, difats_in, fats_in, all_below, ends, lists_right}

-- the DIFAT chain of d sectors is listed: whether it is right but for repeats, and the list where it is
pub record ChainListed (S : ℕ) (img : List ℕ) (n first d : ℕ) (r : Bool) (difats : List ℕ) : Type 0 where
  pub right : r ≡ both (all_below n (difats_of S img first d)) (ends (difat_at S img first d))
  pub listed : r ≡ true → difats ≡ difats_of S img first d

-- the k places of the DIFAT are listed: whether each is below n, and the list where they are
pub record PlacesListed (S : ℕ) (img : List ℕ) (n : ℕ) (list difats : List ℕ) (k : ℕ) (r : Bool) (fats : List ℕ) : Type 0 where
  pub right : r ≡ all_below n (fats_of S img list difats k)
  pub listed : r ≡ true → fats ≡ fats_of S img list difats k

-- k places of the DIFAT can be read: the header's list is whole, its DIFAT sectors are below n, and the places are there
pub record Places (S n len : ℕ) (list difats : List ℕ) (k : ℕ) : Type 0 where
  pub holds : Holds S n len
  pub whole : length list ≡ 109
  pub below : all_below n difats ≡ true
  pub there : k ≤ 109 + length difats * (per_sector S - 1)
  pub small : length difats * (per_sector S - 1) < 2 ^ 32

-- m entries lie in the sectors fats, which are below n, and reach into the last of them
pub record Covers (S n len : ℕ) (fats : List ℕ) (m : ℕ) : Type 0 where
  pub holds : Holds S n len
  pub below : all_below n fats ≡ true
  pub enough : m ≤ length fats * per_sector S
  pub last : length fats * per_sector S < m + per_sector S
  pub small : m ≤ 2 ^ 32

-- a lent list is filled: whether what it then holds is right, and, where it is, that it is xs
pub record Loads (test : Bool) (xs : List ℕ) (r : Bool) (after : List ℕ) : Type 0 where
  pub right : r ≡ test
  pub list : r ≡ true → after ≡ xs

-- the lent lists are as long as n sectors ask for, and n and the sectors are small enough
pub record Counted (S n len k d : ℕ) : Type 0 where
  pub holds : Holds S n len
  pub short : S ≤ 65536
  pub few : n ≤ most
  pub fats : k ≡ fat_count S n
  pub difats : d ≡ difat_count S k

-- both lists are loaded: whether all is right, and, where it is, what the lent lists hold
pub record ListsLoaded (S : ℕ) (img : List ℕ) (h : Header) (n : ℕ) (r : Bool) (fats difats : List ℕ) : Type 0 where
  pub right : r ≡ lists_right S img h n
  pub difats_hold : r ≡ true → difats ≡ difats_in S img h n
  pub fats_hold : r ≡ true → fats ≡ fats_in S img h n
