-- What the third demand speaks of: what is asked for, what is in hand between two calls, and what a call makes of it, by the definitions that the contracts cite. Assumes nothing.
use Rattle.std.specs.Prelude.{ℕ, ◌*◌, ◌≤◌, ◌<◌, ◌≡◌, List, [], ◌∷◌, ◌++◌, ◌≢◌, eqb, length, get_or, take, replicate}
use Rattle.lists.specs.Lists.{choose, splice}
use Rattle.consts.specs.Consts.{free_sector}
use Rattle.header.specs.declared.Validation.TheVariants.{Strict}
use Rattle.fat.specs.Lists.{ceil}
use Rattle.sectors.specs.Sectors.{sector_of}
use Rattle.alloc.specs.Opening.{Tables, open_no, shortest, padded}
use Rattle.alloc.specs.Opened.{tables_left}
use Rattle.agree.specs.Agrees.{Permuted}
use Rattle.walk.specs.Walk.{lists}
use Rattle.chain.specs.Bytes.{chain_bytes}
use Rattle.room.specs.Needed.{write_more}
use Rattle.hand.specs.Hand.{Chain}
use Rattle.moves.specs.Change.{edited}
use Rattle.moves.specs.declared.change.Edit.{Edit}
use Rattle.moves.specs.declared.change.Edit.TheVariants.{Write, Resize}
use Rattle.edits.specs.Roles.{fats_held, difats_held}
use Rattle.cfb.specs.Calls.{state_len, walked, chain_ids}
use Rattle.cfb.specs.Changes.{edit_no, chain_from, state_from, tables_in, start_in}
use Rattle.cfb.specs.Face.{tables_of, state_of}
use Rattle.cfb.specs.declared.State.{State}

-- what the caller hands on from one call to the next, unchanged: the state, and the lent image and tables over their whole lengths
pub record InHand : Type 0 where
  pub state : State
  pub image : List ℕ
  pub tables : Tables

-- a change that is asked for: it names its chain by the first sector, or by END the chain that has none; the buffer is a write's, and a resize has no use for it
pub record Asked : Type 0 where
  pub start : ℕ
  pub edit : Edit
  pub buf : List ℕ

-- document 01, Write, Resize and Free, which is a resize to 0: there is no other
abbrev pub write : ℕ → ℕ → List ℕ → Asked
write start offset buf = record { start = start; edit = Write offset; buf = buf }

abbrev pub resize : ℕ → ℕ → Asked
resize start len = record { start = start; edit = Resize len; buf = [] }

abbrev pub free : ℕ → Asked
free start = resize start 0

-- the number that the call ends with, by document 01's table, where an id list of so many places is lent. The tables leave no choice: it is 0 exactly where no row stands against the call (cfb, Exactly), so that idling on refusals is no way to keep the promise.
abbrev pub asked_no : InHand → ℕ → Asked → ℕ
asked_no h room a = edit_no h.state h.image h.tables room a.start a.edit (length a.buf)

-- the chain that it names, before the call
abbrev pub chain_named : InHand → ℕ → Asked → Chain
chain_named h room a = chain_from h.state h.image h.tables room a.start

-- and what an accepted call makes of it
abbrev pub chain_after : InHand → ℕ → Asked → Chain
chain_after h room a = edited (state_len h.state) (chain_named h room a) a.edit a.buf

-- what is in hand of such a chain
unfoldable pub hand_of : State → Chain → InHand
unfolding state_from tables_in
hand_of s c = record { state = state_from s c; image = c.hand.disk.image; tables = tables_in c }

-- what is in hand after a call: a refused one leaves it
unfoldable pub after : InHand → ℕ → Asked → InHand
unfolding hand_of
after h room a = choose (eqb (asked_no h room a) 0) (hand_of h.state (chain_after h room a)) h

-- a call: what it asks for, and how many places the id list has that is lent for it
pub record Call : Type 0 where
  pub room : ℕ
  pub asks : Asked

-- what is in hand after a list of calls, some of which may have been refused
unfoldable pub after_all : InHand → List Call → InHand
unfolding after
after_all h [] = h
after_all h (c ∷ cs) = after_all (after h c.room c.asks) cs

-- what a strict opening of the first used bytes leaves in hand, with lent tables t
unfoldable pub opened : List ℕ → ℕ → Tables → InHand
unfolding state_of tables_left tables_of
opened img used t = record { state = state_of 0 Strict img used; image = img; tables = tables_left 0 t (tables_of img used) }

-- the ids of the chain from x on, and its bytes
abbrev pub ids_from : InHand → ℕ → List ℕ
ids_from h x = chain_ids h.state h.tables x

abbrev pub bytes_from : InHand → ℕ → List ℕ
bytes_from h x = chain_bytes (state_len h.state) h.image (ids_from h x)

-- the start that an accepted call answers: END for a chain of none
abbrev pub start_after : InHand → ℕ → Asked → ℕ
start_after h room a = start_in (chain_after h room a).ids (chain_after h room a).count

-- what an edit makes of a chain's old bytes, count sectors of S bytes: a write puts zeros past their end, as far as whole sectors go, and the buffer over them from the offset on; a resize keeps those below the new length and has zeros from there to the end of its sectors, so that a free leaves none (free_leaves_none)
abbrev pub bytes_after : ℕ → Edit → List ℕ → List ℕ → ℕ → List ℕ
bytes_after S (Write offset) buf old count = splice (old ++ replicate (S * write_more S count offset (length buf)) 0) offset buf
bytes_after S (Resize len) buf old count = padded (take len old) (S * ceil len S)

-- the bytes in hand open strictly, in tables as long as those in hand, and what that opening leaves is what is in hand; the free list may stand in another order
pub record Fresh (h : InHand) : Type 0 where
  pub opens : open_no Strict h.image h.state.used (shortest h.tables) ≡ 0
  pub state : (opened h.image h.state.used h.tables).state ≡ h.state
  pub fat : (opened h.image h.state.used h.tables).tables.fat ≡ h.tables.fat
  pub fats : (opened h.image h.state.used h.tables).tables.fats ≡ h.tables.fats
  pub difats : (opened h.image h.state.used h.tables).tables.difats ≡ h.tables.difats
  pub marks : (opened h.image h.state.used h.tables).tables.marks ≡ h.tables.marks
  pub frees : Permuted (tables_of h.image h.state.used).frees (take h.state.free h.tables.frees)
  pub frees_rest : (i : ℕ) → h.state.free ≤ i → i < length h.tables.frees → get_or h.tables.frees i 0 ≡ 0

-- sector i was neither free nor in the named chain, and is no sector of the FAT or the DIFAT
pub record Elsewhere (h : InHand) (room : ℕ) (a : Asked) (i : ℕ) : Type 0 where
  pub inside : i < h.state.sectors
  pub not_free : (p : ℕ) → p < h.state.free → get_or h.tables.frees p 0 ≢ i
  pub not_named : (p : ℕ) → p < length (ids_from h a.start) → get_or (ids_from h a.start) p 0 ≢ i
  pub not_fat : (p : ℕ) → p < fats_held (state_len h.state) (chain_named h room a).hand.disk → get_or h.tables.fats p 0 ≢ i
  pub not_difat : (p : ℕ) → p < difats_held (state_len h.state) (chain_named h room a).hand.disk → get_or h.tables.difats p 0 ≢ i

-- another chain: what its walk lists, from a start that is not one of the named chain's sectors
pub record Another (h : InHand) (a : Asked) (x : ℕ) (ids : List ℕ) : Type 0 where
  pub walks : walked h.state h.tables x ≡ lists ids
  pub apart : (p : ℕ) → p < length (ids_from h a.start) → get_or (ids_from h a.start) p 0 ≢ x

-- the clauses of the demand about one call, which leaves h' in hand
pub record Promised (h : InHand) (room : ℕ) (a : Asked) (h' : InHand) : Type 0 where
  -- accepted or refused, the bytes in hand open afresh to what is in hand
  pub fresh : Fresh h'
  -- accepted: the chain from the start that is answered has the old bytes of the named one, edited as asked and in no other way
  pub exactly : asked_no h room a ≡ 0 → bytes_from h' (start_after h room a) ≡ bytes_after (state_len h.state) a.edit a.buf (bytes_from h a.start) (length (ids_from h a.start))
  -- and it is still that chain: the sector which named it names it still, unless it had none or has none then,
  pub start : asked_no h room a ≡ 0 → 0 < length (ids_from h a.start) → 0 < length (ids_from h' (start_after h room a)) → start_after h room a ≡ a.start
  -- it keeps its first sectors, as many as it had and has,
  pub same : asked_no h room a ≡ 0 → (p : ℕ) → p < length (ids_from h a.start) → p < length (ids_from h' (start_after h room a))
      → get_or (ids_from h' (start_after h room a)) p 0 ≡ get_or (ids_from h a.start) p 0
  -- and the sectors that it has no more are FREE: after a free, all that it had
  pub gone : asked_no h room a ≡ 0 → (p : ℕ) → p < length (ids_from h a.start) → length (ids_from h' (start_after h room a)) ≤ p
      → get_or h'.tables.fat (get_or (ids_from h a.start) p 0) 0 ≡ free_sector
  -- refused: state, image and tables are as they were, and with them every chain
  pub refused : asked_no h room a ≢ 0 → h' ≡ h
  -- a sector that was in use, but not by the named chain, the FAT or the DIFAT, has the bytes it had
  pub elsewhere : (i : ℕ) → Elsewhere h room a i → sector_of (state_len h.state) h'.image i ≡ sector_of (state_len h.state) h.image i
  -- any other chain lists the sectors it listed, in their order,
  pub others : (x : ℕ) (ids : List ℕ) → Another h a x ids → walked h'.state h'.tables x ≡ lists ids
  -- with the bytes they had
  pub others_bytes : (x : ℕ) (ids : List ℕ) → Another h a x ids → chain_bytes (state_len h.state) h'.image ids ≡ chain_bytes (state_len h.state) h.image ids
