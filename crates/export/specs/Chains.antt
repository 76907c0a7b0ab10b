-- What the calls on a chain give at the library's edge. Assumes nothing.
use Rattle.std.specs.Prelude.{ℕ, ◌≡◌, List, eqb, length}
use Rattle.lists.specs.Lists.{choose}
use Rattle.chain.specs.Bytes.{read_count, read_bytes}
use Rattle.alloc.specs.Opening.{Tables}
use Rattle.cfb.specs.Calls.{state_len, chain_no, chain_ids, read_no, ids_left}
use Rattle.states.specs.States.{held_in}
use Rattle.states.specs.Answers.{given, held_no}

-- the number that opening a chain ends with
unfoldable pub chain_given : List ℕ → List ℕ → Tables → ℕ → ℕ → ℕ
unfolding held_no held_in
chain_given words img t room start = held_no words (chain_no (held_in words) img t room start)

-- the number that a read ends with, likewise
unfoldable pub read_given : List ℕ → List ℕ → Tables → ℕ → ℕ → ℕ → ℕ
unfolding held_no held_in
read_given words img t room start offset = held_no words (read_no (held_in words) img t room start offset)

-- opening a chain at the library's edge: the number, the three words, the state's words, image and tables as they were, and the id list
pub record OpenChainGives (words img : List ℕ) (t : Tables) (ids : List ℕ) (start r : ℕ) (told words' img' : List ℕ) (t' : Tables) (ids' : List ℕ) : Type 0 where
  pub number : r ≡ chain_given words img t (length ids) start
  pub answer : told ≡ given (chain_given words img t (length ids) start) (length (chain_ids (held_in words) t start)) start 0
  pub state : words' ≡ words
  pub image : img' ≡ img
  pub tables : t' ≡ t
  pub list : ids' ≡ ids_left (chain_given words img t (length ids) start) ids (chain_ids (held_in words) t start)

-- reading a chain at the library's edge: the same, and the buffer
pub record ReadChainGives (words img : List ℕ) (t : Tables) (ids : List ℕ) (start offset : ℕ) (buf : List ℕ) (r : ℕ) (told words' img' : List ℕ) (t' : Tables) (ids' buf' : List ℕ) : Type 0 where
  pub number : r ≡ read_given words img t (length ids) start offset
  pub answer : told
      ≡ given (read_given words img t (length ids) start offset) (length (chain_ids (held_in words) t start)) start (read_count (state_len (held_in words)) (chain_ids (held_in words) t start) offset buf)
  pub state : words' ≡ words
  pub image : img' ≡ img
  pub tables : t' ≡ t
  pub list : ids' ≡ ids_left (read_given words img t (length ids) start offset) ids (chain_ids (held_in words) t start)
  pub buffer : buf'
      ≡ choose (eqb (read_given words img t (length ids) start offset) 0) (read_bytes (state_len (held_in words)) img (chain_ids (held_in words) t start) offset buf) buf
