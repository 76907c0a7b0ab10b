-- What an opening answers, and the state that it hands out (document 01, "Opening an image"). Assumes nothing.
use Rattle.std.specs.Prelude.{ℕ, ◌≡◌, List, [], ◌∷◌, eqb, length, Result, Ok, Err}
use Rattle.lists.specs.Lists.{choose}
use Rattle.consts.specs.Refusals.{number_of}
use Rattle.consts.specs.declared.refusal.Refusal.{Refusal}
use Rattle.header.specs.Versions.{length_of}
use Rattle.header.specs.Read.{header_of, none}
use Rattle.header.specs.declared.Validation.{Validation}
use Rattle.header.specs.declared.Validation.TheVariants.{Strict}
use Rattle.fat.specs.Lists.{sectors_in}
use Rattle.alloc.specs.Opening.{Tables, open_tables, open_no, shortest}
use Rattle.alloc.specs.Opened.{tables_left}
use Rattle.cfb.specs.declared.Counts.{Counts}
use Rattle.cfb.specs.declared.State.{State}
use Rattle.cfb.specs.declared.Opened.{Opened}

-- the number and the counts of each case: no count stands beside a refusal
abbrev pub numbers_of : Result Counts Refusal → List ℕ
numbers_of (Ok c) = 0 ∷ c.sectors ∷ c.free ∷ []
numbers_of (Err e) = number_of e ∷ []

-- the numbers of an opening that ends with k: its counts where that is 0
unfoldable pub answer : ℕ → ℕ → ℕ → List ℕ
answer k sectors free = choose (eqb k 0) (0 ∷ sectors ∷ free ∷ []) (k ∷ [])

-- document 01: the state beside a refusal is version 3, strict, all numbers 0
unfoldable pub no_state : State
no_state = record { mode = Strict; used = 0; sectors = 0; free = 0; header = none }

-- document 01, n: the sectors in so many bytes of an image
unfoldable pub sectors_of : List ℕ → ℕ → ℕ
unfolding sectors_in
sectors_of img used = sectors_in (length_of (header_of img).version) used

-- the tables of an image of which so many bytes are used
unfoldable pub tables_of : List ℕ → ℕ → Tables
unfolding sectors_of open_tables
tables_of img used = open_tables (length_of (header_of img).version) img (header_of img) (sectors_of img used)

-- document 01: the state that an opening which ends with k hands out
unfoldable pub state_of : ℕ → Validation → List ℕ → ℕ → State
unfolding no_state sectors_of tables_of
state_of k m img used =
    choose (eqb k 0) (record { mode = m; used = used; sectors = sectors_of img used; free = length (tables_of img used).frees; header = header_of img })
    no_state

-- what an opening says: the answer, the state, the image, which it leaves alone, and the lent tables t, which it leaves as t'
pub record Opens (m : Validation) (img : List ℕ) (used : ℕ) (t : Tables) (r : Opened) (img' : List ℕ) (t' : Tables) : Type 0 where
  pub verdict : numbers_of r.verdict ≡ answer (open_no m img used (shortest t)) (sectors_of img used) (length (tables_of img used).frees)
  pub state : r.state ≡ state_of (open_no m img used (shortest t)) m img used
  pub image : img' ≡ img
  pub tables : t' ≡ tables_left (open_no m img used (shortest t)) t (tables_of img used)
