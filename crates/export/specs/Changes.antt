-- What the calls that change a chain give at the library's edge. Assumes nothing.
use Rattle.std.specs.Prelude.{ℕ, ◌≡◌, List, eqb, length, replicate}
use Rattle.lists.specs.Lists.{choose}
use Rattle.alloc.specs.Opening.{Tables}
use Rattle.hand.specs.Hand.{Chain}
use Rattle.moves.specs.Change.{resized, written, edited, bytes_of}
use Rattle.moves.specs.declared.change.Edit.{Edit}
use Rattle.cfb.specs.Calls.{state_len}
use Rattle.cfb.specs.Changes.{resize_no, write_no, edit_no, chain_from, state_from, tables_in, start_in}
use Rattle.states.specs.States.{state_words, held_in}
use Rattle.states.specs.Answers.{held_no, given}

-- a change at the library's edge that ends with k: the number, the three words, and, where k is 0, the words of the state, image, tables and id list of the chain in hand after it; a refusal leaves all but the id list, which is zero unless k is 11
pub record ChangeGives (words img : List ℕ) (t : Tables) (ids : List ℕ) (k : ℕ) (after : Chain) (bytes r : ℕ) (told words' img' : List ℕ) (t' : Tables) (ids' : List ℕ) : Type 0 where
  pub number : r ≡ k
  pub answer : told ≡ given k after.count (start_in after.ids after.count) bytes
  pub state : words' ≡ choose (eqb k 0) (state_words (state_from (held_in words) after)) words
  pub image : img' ≡ choose (eqb k 0) after.hand.disk.image img
  pub tables : t' ≡ choose (eqb k 0) (tables_in after) t
  pub list : ids' ≡ choose (eqb k 0) after.ids (choose (eqb k 11) ids (replicate (length ids) 0))

-- document 01, Resize; Free is a resize to 0
abbrev pub ResizeChainGives : List ℕ → List ℕ → Tables → List ℕ → ℕ → ℕ → ℕ → List ℕ → List ℕ → List ℕ → Tables → List ℕ → Type 0
ResizeChainGives words img t ids start len r told words' img' t' ids' =
    ChangeGives words img t ids (held_no words (resize_no (held_in words) img t (length ids) start len)) (resized (state_len (held_in words)) (chain_from (held_in words) img t (length ids) start) len) 0 r told words' img' t' ids'

-- document 01, Write
abbrev pub WriteChainGives : List ℕ → List ℕ → Tables → List ℕ → ℕ → ℕ → List ℕ → ℕ → List ℕ → List ℕ → List ℕ → Tables → List ℕ → Type 0
WriteChainGives words img t ids start offset buf r told words' img' t' ids' =
    ChangeGives words img t ids (held_no words (write_no (held_in words) img t (length ids) start offset (length buf))) (written (state_len (held_in words)) (chain_from (held_in words) img t (length ids) start) offset buf) (length buf) r told words' img' t' ids'

-- either, by the edit
abbrev pub EditChainGives : List ℕ → List ℕ → Tables → List ℕ → ℕ → Edit → List ℕ → ℕ → List ℕ → List ℕ → List ℕ → Tables → List ℕ → Type 0
EditChainGives words img t ids start edit buf r told words' img' t' ids' =
    ChangeGives words img t ids (held_no words (edit_no (held_in words) img t (length ids) start edit (length buf))) (edited (state_len (held_in words)) (chain_from (held_in words) img t (length ids) start) edit buf) (bytes_of edit (length buf)) r told words' img' t' ids'
