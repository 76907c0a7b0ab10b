-- Document 01's causes for refusing a call on a chain, as plain statements. Assumes nothing.
use Rattle.std.specs.Prelude.{ℕ, suc, ◌-◌, ◌*◌, ◌≤◌, ◌<◌, min, ◌≡◌, List, [], ◌∷◌, ◌≢◌, eqb, length, get_or, take}
use Rattle.lists.specs.Lists.{choose}
use Rattle.consts.specs.Consts.{end_of_chain}
use Rattle.header.specs.declared.Validation.TheVariants.{Permissive}
use Rattle.fat.specs.Lists.{room_of}
use Rattle.alloc.specs.Opening.{Tables, shortest}
use Rattle.agree.specs.Agrees.{Agrees}
use Rattle.walk.specs.Steps.{Breaks, Returns}
use Rattle.room.specs.Needed.{resize_more, write_more}
use Rattle.disk.specs.Disk.{count_after}
use Rattle.cfb.specs.Calls.{state_len, chain_ids}
use Rattle.cfb.specs.declared.State.{State}

-- state and tables are what an opening of the image gives
abbrev pub Agreed : State → List ℕ → Tables → Type 0
Agreed s img t = Agrees s.mode img s.used s.sectors s.free s.header t

-- the FAT's entries of the state's sectors
abbrev pub state_fat : State → Tables → List ℕ
state_fat s t = take s.sectors t.fat

-- document 01's rows 11 and 19 to 22: what stands against opening a chain; the id list has room elements
pub data ChainCause (s : State) (img : List ℕ) (t : Tables) (room start : ℕ) : ℕ → Type 0 where
  -- 11: a table or the id list shorter than R
  short : min (shortest t) room < room_of (state_len s) (length img) → ChainCause s img t room start 11
  -- 19: state and tables are not what an opening of the image gives
  apart : (Agreed s img t → ⊥) → ChainCause s img t room start 19
  -- 20: the start is neither END nor below n
  past : Agreed s img t → start ≢ end_of_chain → s.sectors ≤ start → ChainCause s img t room start 20
  -- 21: the walk meets an entry that is neither END nor regular and below n
  breaks : Agreed s img t → Breaks (state_fat s t) start → ChainCause s img t room start 21
  -- 22: the walk comes back to its start
  returns : Agreed s img t → Returns (state_fat s t) start → ChainCause s img t room start 22

-- document 01's rows of a read: those, and 23, an offset above the chain's length
pub data ReadCause (s : State) (img : List ℕ) (t : Tables) (room start offset : ℕ) : ℕ → Type 0 where
  chain : (k : ℕ) → ChainCause s img t room start k → ReadCause s img t room start offset k
  beyond : state_len s * length (chain_ids s t start) < offset → ReadCause s img t room start offset 23

-- the place of a number in a list, from 1 on, or 0 where it has none
unfoldable pub place_of : List ℕ → ℕ → ℕ
place_of [] k = 0
place_of (x ∷ xs) k = choose (eqb x k) 1 (choose (eqb (place_of xs k) 0) 0 (suc (place_of xs k)))

-- document 01's table of the calls on a chain: in this order
unfoldable pub order : ℕ → ℕ
unfolding place_of
order k = place_of (11 ∷ 19 ∷ 26 ∷ 20 ∷ 21 ∷ 22 ∷ 25 ∷ 23 ∷ 24 ∷ []) k

-- document 01's rows 11, 19, 26, 20 to 22 and 25: what stands against any change of a chain
pub data ChangeCause (s : State) (img : List ℕ) (t : Tables) (room start : ℕ) : ℕ → Type 0 where
  -- 11, 19, 20, 21, 22: what stands against opening it
  chain : (k : ℕ) → ChainCause s img t room start k → ChangeCause s img t room start k
  -- 26: the state is permissive
  forgiving : s.mode ≡ Permissive → ChangeCause s img t room start 26
  -- 25: the start is not END, and some entry equals it
  inside : (i : ℕ) → i < s.sectors → get_or (state_fat s t) i 0 ≡ start → start ≢ end_of_chain → ChangeCause s img t room start 25

-- document 01, 24: with so many sectors more in the chain there would be more than R
abbrev pub Overfull : State → List ℕ → ℕ → Type 0
Overfull s img more = room_of (state_len s) (length img) < count_after (state_len s) s.sectors (more - s.free)

-- document 01's rows of a resize: those of a change, and 24
pub data ResizeCause (s : State) (img : List ℕ) (t : Tables) (room start len : ℕ) : ℕ → Type 0 where
  change : (k : ℕ) → ChangeCause s img t room start k → ResizeCause s img t room start len k
  full : Overfull s img (resize_more (state_len s) (length (chain_ids s t start)) len) → ResizeCause s img t room start len 24

-- document 01's rows of a write: those of a change, 23, an offset above the chain's length, and 24
pub data WriteCause (s : State) (img : List ℕ) (t : Tables) (room start offset bytes : ℕ) : ℕ → Type 0 where
  change : (k : ℕ) → ChangeCause s img t room start k → WriteCause s img t room start offset bytes k
  beyond : state_len s * length (chain_ids s t start) < offset → WriteCause s img t room start offset bytes 23
  full : Overfull s img (write_more (state_len s) (length (chain_ids s t start)) offset bytes) → WriteCause s img t room start offset bytes 24
