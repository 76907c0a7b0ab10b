-- What a call that changes a chain answers and leaves (document 01, "Calls on a chain": Write, Resize, Free). Assumes nothing.
use Rattle.std.specs.Prelude.{ℕ, ◌+◌, ◌-◌, ◌*◌, ◌≡◌, Bool, not, List, [], ◌∷◌, ◌++◌, eqb, ltb, length, get_or, take, replicate, Result, Ok}
use Rattle.lists.specs.Lists.{choose, both}
use Rattle.lists.specs.Rows.{Row, row, refusal}
use Rattle.consts.specs.Consts.{end_of_chain}
use Rattle.header.specs.Versions.{is_strict}
use Rattle.header.specs.Read.{header_of}
use Rattle.fat.specs.Lists.{room_of}
use Rattle.judge.specs.Judge.{pointed}
use Rattle.alloc.specs.Opening.{Tables, padded}
use Rattle.disk.specs.Disk.{count_after}
use Rattle.room.specs.Needed.{resize_more, write_more}
use Rattle.hand.specs.Hand.{Chain}
use Rattle.moves.specs.Change.{resized, written, edited, bytes_of}
use Rattle.consts.specs.Refusals.{Ends}
use Rattle.consts.specs.declared.refusal.Refusal.{Refusal}
use Rattle.cfb.specs.Calls.{state_len, walked, agreed_rows, walk_rows, chain_ids, ids_left, told_by, told}
use Rattle.moves.specs.declared.change.Edit.{Edit}
use Rattle.moves.specs.declared.change.Edit.TheVariants.{Write, Resize}
use Rattle.cfb.specs.declared.State.{State}
use Rattle.cfb.specs.declared.Called.{Called}

-- document 01, 25: the start is not END, and some entry equals it; a start that is not refused by 20 is regular, so the entry is
unfoldable pub start_pointed : State → Tables → ℕ → Bool
unfolding pointed
start_pointed s t start = both (not (eqb start end_of_chain)) (pointed (take s.sectors t.fat) s.sectors start)

-- document 01's rows that every change has: 11, 19, 26, 20, 21, 22, 25
unfoldable pub change_rows : State → List ℕ → Tables → ℕ → ℕ → List Row
unfolding agreed_rows walk_rows walked start_pointed
change_rows s img t room start =
    agreed_rows s img t room ++ (row 26 (not (is_strict s.mode)) ∷ (walk_rows (walked s t start) ++ (row 25 (start_pointed s t start) ∷ [])))

-- the number of these rows
unfoldable pub change_no : State → List ℕ → Tables → ℕ → ℕ → ℕ
unfolding change_rows
change_no s img t room start = refusal (change_rows s img t room start)

-- document 01, 24: with so many sectors more in the chain, in a lent image of so many bytes, there would be more than R
unfoldable pub no_room : State → ℕ → ℕ → Bool
unfolding count_after room_of
no_room s lent more = ltb (room_of (state_len s) lent) (count_after (state_len s) s.sectors (more - s.free))

-- document 01's rows of a resize: those of a change, and 24
unfoldable pub resize_rows : State → List ℕ → Tables → ℕ → ℕ → ℕ → List Row
unfolding change_rows no_room chain_ids resize_more
resize_rows s img t room start len =
    change_rows s img t room start ++ (row 24 (no_room s (length img) (resize_more (state_len s) (length (chain_ids s t start)) len)) ∷ [])

-- document 01's rows of a write: those of a change, 23, and 24
unfoldable pub write_rows : State → List ℕ → Tables → ℕ → ℕ → ℕ → ℕ → List Row
unfolding change_rows no_room chain_ids write_more
write_rows s img t room start offset bytes =
    change_rows s img t room start
    ++ (row 23 (ltb (state_len s * length (chain_ids s t start)) offset)
    ∷ row 24 (no_room s (length img) (write_more (state_len s) (length (chain_ids s t start)) offset bytes))
    ∷ [])

-- the numbers that they end with
unfoldable pub resize_no : State → List ℕ → Tables → ℕ → ℕ → ℕ → ℕ
unfolding resize_rows
resize_no s img t room start len = refusal (resize_rows s img t room start len)

unfoldable pub write_no : State → List ℕ → Tables → ℕ → ℕ → ℕ → ℕ → ℕ
unfolding write_rows
write_no s img t room start offset bytes = refusal (write_rows s img t room start offset bytes)

abbrev pub edit_no : State → List ℕ → Tables → ℕ → ℕ → Edit → ℕ → ℕ
edit_no s img t room start (Write offset) bytes = write_no s img t room start offset bytes
edit_no s img t room start (Resize len) bytes = resize_no s img t room start len

-- the chain in hand before a change: image, tables and numbers as they are lent, and the ids of the chain, with zeros after them
unfoldable pub chain_from : State → List ℕ → Tables → ℕ → ℕ → Chain
unfolding chain_ids padded
chain_from s img t room start =
    record {
      hand =
          record {
            disk = record { image = img; fat = t.fat; fats = t.fats; difats = t.difats; sectors = s.sectors };
            frees = t.frees;
            free = s.free;
            marks = t.marks;
          };
      ids = padded (chain_ids s t start) room;
      count = length (chain_ids s t start);
    }

-- document 01: the state after a change that leaves so many sectors, so many of them FREE: its header is read anew from the bytes
abbrev pub state_with : State → ℕ → ℕ → List ℕ → State
state_with s sectors free img = record { mode = s.mode; used = (sectors + 1) * state_len s; sectors = sectors; free = free; header = header_of img }

-- that of a chain in hand
unfoldable pub state_from : State → Chain → State
state_from s c = state_with s c.hand.disk.sectors c.hand.free c.hand.disk.image

-- the lent tables of a chain in hand
unfoldable pub tables_in : Chain → Tables
tables_in c =
    record { fat = c.hand.disk.fat; fats = c.hand.disk.fats; difats = c.hand.disk.difats; frees = c.hand.frees; marks = c.hand.marks }

-- document 01: where a chain of count ids starts: END if it has none
unfoldable pub start_in : List ℕ → ℕ → ℕ
start_in ids count = choose (eqb count 0) end_of_chain (get_or ids 0 0)

-- document 01: a change that ends with number k: where that is 0, the chain in hand after it is what state, image, tables and id list then are; a refusal leaves them, but for the id list, which is zero unless k is 11
pub record Changes (s : State) (img : List ℕ) (t : Tables) (ids : List ℕ) (k : ℕ) (after : Chain) (bytes : ℕ) (r : Called) (img' : List ℕ) (t' : Tables) (ids' : List ℕ) : Type 0 where
  pub answer : told_by r.answer ≡ told k after.count (start_in after.ids after.count) bytes
  pub state : r.state ≡ choose (eqb k 0) (state_from s after) s
  pub image : img' ≡ choose (eqb k 0) after.hand.disk.image img
  pub tables : t' ≡ choose (eqb k 0) (tables_in after) t
  pub list : ids' ≡ choose (eqb k 0) after.ids (choose (eqb k 11) ids (replicate (length ids) 0))

-- document 01, Resize
abbrev pub ChainResizes : State → List ℕ → Tables → List ℕ → ℕ → ℕ → Called → List ℕ → Tables → List ℕ → Type 0
ChainResizes s img t ids start len r img' t' ids' =
    Changes s img t ids (resize_no s img t (length ids) start len) (resized (state_len s) (chain_from s img t (length ids) start) len) 0 r img' t' ids'

-- document 01, Write
abbrev pub ChainWrites : State → List ℕ → Tables → List ℕ → ℕ → ℕ → List ℕ → Called → List ℕ → Tables → List ℕ → Type 0
ChainWrites s img t ids start offset buf r img' t' ids' =
    Changes s img t ids (write_no s img t (length ids) start offset (length buf)) (written (state_len s) (chain_from s img t (length ids) start) offset buf) (length buf) r img' t' ids'

-- either, by the edit
abbrev pub ChainEdits : State → List ℕ → Tables → List ℕ → ℕ → Edit → List ℕ → Called → List ℕ → Tables → List ℕ → Type 0
ChainEdits s img t ids start edit buf r img' t' ids' =
    Changes s img t ids (edit_no s img t (length ids) start edit (length buf)) (edited (state_len s) (chain_from s img t (length ids) start) edit buf) (bytes_of edit (length buf)) r img' t' ids'

-- a change is judged and its chain listed: the answer, and the id list
pub record ChangeListed (s : State) (img : List ℕ) (t : Tables) (ids : List ℕ) (start : ℕ) (r : Result ℕ Refusal) (ids' : List ℕ) : Type 0 where
  pub answer : Ends (change_no s img t (length ids) start) (length (chain_ids s t start)) r
  pub list : ids' ≡ ids_left (change_no s img t (length ids) start) ids (chain_ids s t start)

-- a chain is listed for a change: of some lent image of so many bytes and its tables, an id list before and a start
pub record Listing (s : State) (lent : ℕ) (w : Result ℕ Refusal) (ids : List ℕ) : Type 0 where
  pub image : List ℕ
  pub tables : Tables
  pub before : List ℕ
  pub start : ℕ
  pub long : length image ≡ lent
  pub kept : length ids ≡ length before
  pub listed : ChangeListed s image tables before start w ids

-- a change of a chain of these ids is judged with number k: the answer, and the id list
pub record Judged (k : ℕ) (ids chain : List ℕ) (r : Result ℕ Refusal) (ids' : List ℕ) : Type 0 where
  pub answer : Ends k (length chain) r
  pub list : ids' ≡ ids_left k ids chain

-- the answer and the state after a change that left so many sectors, so many of them FREE, and count ids
unfoldable pub done_with : State → List ℕ → ℕ → ℕ → List ℕ → ℕ → ℕ → Called
unfolding start_in
done_with s img sectors free ids count bytes =
    record { answer = Ok (record { ids = count; start = start_in ids count; bytes = bytes }); state = state_with s sectors free img }
