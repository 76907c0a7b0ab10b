-- What a call on a chain answers and leaves (document 01, "Calls on a chain"). Assumes nothing.
use Rattle.std.specs.Prelude.{ℕ, ◌*◌, min, ◌≡◌, not, List, [], ◌∷◌, ◌++◌, eqb, ltb, get_or, length, take, replicate, Result, Ok, Err}
use Rattle.lists.specs.Lists.{choose}
use Rattle.lists.specs.Rows.{Row, row, refusal}
use Rattle.consts.specs.Refusals.{number_of}
use Rattle.consts.specs.declared.refusal.Refusal.{Refusal}
use Rattle.header.specs.Versions.{length_of}
use Rattle.fat.specs.Lists.{room_of}
use Rattle.alloc.specs.Opening.{Tables, shortest, padded}
use Rattle.agree.specs.Agree.{agreement}
use Rattle.walk.specs.Walk.{Outcome, lists, refuses, walk_of}
use Rattle.chain.specs.Bytes.{read_count, read_bytes}
use Rattle.cfb.specs.declared.Done.{Done}
use Rattle.cfb.specs.declared.State.{State}
use Rattle.cfb.specs.declared.Called.{Called}

-- the number of an outcome: 0 where ids are listed
unfoldable pub outcome_no : Outcome → ℕ
outcome_no (lists ids) = 0
outcome_no (refuses k) = k

-- the ids of an outcome: none beside a refusal
unfoldable pub outcome_ids : Outcome → List ℕ
outcome_ids (lists ids) = ids
outcome_ids (refuses k) = []

-- document 01, S: a sector's length, by the state's version
abbrev pub state_len : State → ℕ
state_len s = length_of s.header.version

-- document 01, Walk: from a start, by the FAT's entry of each of the state's sectors
unfoldable pub walked : State → Tables → ℕ → Outcome
unfolding walk_of
walked s t start = walk_of (take s.sectors t.fat) start

-- document 01, rows 11 and 19: the tables and the id list are long enough, and state and tables are what an opening gives
unfoldable pub agreed_rows : State → List ℕ → Tables → ℕ → List Row
unfolding agreement shortest room_of
agreed_rows s img t room =
    row 11 (ltb (min (shortest t) room) (room_of (state_len s) (length img)))
    ∷ row 19 (not (agreement s.mode img s.used s.sectors s.free s.header t))
    ∷ []

-- document 01, rows 20 to 22: what a walk comes to
unfoldable pub walk_rows : Outcome → List Row
unfolding outcome_no
walk_rows w =
    row 20 (eqb (outcome_no w) 20)
    ∷ row 21 (eqb (outcome_no w) 21)
    ∷ row 22 (eqb (outcome_no w) 22)
    ∷ []

-- document 01's rows for opening a chain; room is the length of the id list
unfoldable pub chain_rows : State → List ℕ → Tables → ℕ → ℕ → List Row
unfolding agreed_rows walk_rows walked
chain_rows s img t room start = agreed_rows s img t room ++ walk_rows (walked s t start)

-- the number that opening a chain ends with
unfoldable pub chain_no : State → List ℕ → Tables → ℕ → ℕ → ℕ
unfolding chain_rows
chain_no s img t room start = refusal (chain_rows s img t room start)

-- document 01: the ids of the chain
unfoldable pub chain_ids : State → Tables → ℕ → List ℕ
unfolding outcome_ids walked
chain_ids s t start = outcome_ids (walked s t start)

-- document 01, 23: the length is S times the sectors listed
unfoldable pub read_rows : State → List ℕ → Tables → ℕ → ℕ → ℕ → List Row
unfolding chain_rows chain_ids
read_rows s img t room start offset = chain_rows s img t room start ++ (row 23 (ltb (state_len s * length (chain_ids s t start)) offset) ∷ [])

-- the number that a read ends with
unfoldable pub read_no : State → List ℕ → Tables → ℕ → ℕ → ℕ → ℕ
unfolding read_rows
read_no s img t room start offset = refusal (read_rows s img t room start offset)

-- document 01: the id list after a call: 11 leaves it, any other refusal leaves it zero, else it holds the chain's ids and then zeros
unfoldable pub ids_left : ℕ → List ℕ → List ℕ → List ℕ
unfolding padded
ids_left k before ids = choose (eqb k 0) (padded ids (length before)) (choose (eqb k 11) before (replicate (length before) 0))

-- document 01's number and values for each case of the answer: an acceptance has 0, the number of ids, the start, and the bytes read or written
abbrev pub told_by : Result Done Refusal → List ℕ
told_by (Ok d) = 0 ∷ d.ids ∷ d.start ∷ d.bytes ∷ []
told_by (Err e) = number_of e ∷ []

-- the numbers of a call that ends with k
unfoldable pub told : ℕ → ℕ → ℕ → ℕ → List ℕ
told k ids start bytes = choose (eqb k 0) (0 ∷ ids ∷ start ∷ bytes ∷ []) (k ∷ [])

-- document 01, Open: the answer, the state as it was, image and tables as they were, and the id list
pub record ChainOpens (s : State) (img : List ℕ) (t : Tables) (ids : List ℕ) (start : ℕ) (r : Called) (img' : List ℕ) (t' : Tables) (ids' : List ℕ) : Type 0 where
  pub answer : told_by r.answer ≡ told (chain_no s img t (length ids) start) (length (chain_ids s t start)) start 0
  pub state : r.state ≡ s
  pub image : img' ≡ img
  pub tables : t' ≡ t
  pub list : ids' ≡ ids_left (chain_no s img t (length ids) start) ids (chain_ids s t start)

-- document 01, Read: the same, and the buffer: the smaller of it and what remains is read, and a refusal leaves it
pub record ChainReads (s : State) (img : List ℕ) (t : Tables) (ids : List ℕ) (start offset : ℕ) (buf : List ℕ) (r : Called) (img' : List ℕ) (t' : Tables) (ids' buf' : List ℕ) : Type 0 where
  pub answer : told_by r.answer
      ≡ told (read_no s img t (length ids) start offset) (length (chain_ids s t start)) start (read_count (state_len s) (chain_ids s t start) offset buf)
  pub state : r.state ≡ s
  pub image : img' ≡ img
  pub tables : t' ≡ t
  pub list : ids' ≡ ids_left (read_no s img t (length ids) start offset) ids (chain_ids s t start)
  pub buffer : buf' ≡ choose (eqb (read_no s img t (length ids) start offset) 0) (read_bytes (state_len s) img (chain_ids s t start) offset buf) buf

-- document 01, Read: the answer, the id list and the buffer of a read
pub record Reads (s : State) (img : List ℕ) (t : Tables) (ids : List ℕ) (start offset : ℕ) (buf : List ℕ) (r : Result Done Refusal) (ids' buf' : List ℕ) : Type 0 where
  pub answer : told_by r
      ≡ told (read_no s img t (length ids) start offset) (length (chain_ids s t start)) start (read_count (state_len s) (chain_ids s t start) offset buf)
  pub list : ids' ≡ ids_left (read_no s img t (length ids) start offset) ids (chain_ids s t start)
  pub buffer : buf' ≡ choose (eqb (read_no s img t (length ids) start offset) 0) (read_bytes (state_len s) img (chain_ids s t start) offset buf) buf
