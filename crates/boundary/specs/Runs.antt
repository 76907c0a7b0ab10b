-- What a caller in C has in hand between two calls, and the runs that the contracts of crate export allow. Assumes nothing.
use Rattle.std.specs.Prelude.{ℕ, ◌≤◌, ◌<◌, ◌≡◌, true, List, [], ◌∷◌, length, get_or, take}
use Rattle.lists.specs.Lists.{Below}
use Rattle.header.specs.declared.Validation.TheVariants.{Strict}
use Rattle.alloc.specs.Opening.{Tables}
use Rattle.agree.specs.Agrees.{Permuted}
use Rattle.moves.specs.declared.change.Edit.{Edit}
use Rattle.moves.specs.declared.change.Edit.TheVariants.{Write, Resize}
use Rattle.layout.specs.Layout.{mode_of}
use Rattle.states.specs.States.{state_words, holds, held_in}
use Rattle.export.specs.Opening.{OpenGives}
use Rattle.export.specs.Changes.{EditChainGives}
use Rattle.promises.specs.Demand.{InHand, Asked, Call, asked_no, start_after, Promised}

-- what the caller hands on from one call to the next, untouched: the state's 121 words, and the lent image and tables over their whole lengths
pub record InWords : Type 0 where
  pub words : List ℕ
  pub image : List ℕ
  pub tables : Tables

-- what the third demand calls in hand, laid out in words
abbrev pub worded : InHand → InWords
worded h = record { words = state_words h.state; image = h.image; tables = h.tables }

-- and taken from them again: the state is the one that the words hold
abbrev pub hand_in : InWords → InHand
hand_in w = record { state = held_in w.words; image = w.image; tables = w.tables }

-- what a call gives back: its number, the three words beside it, what is in hand then, and the id list
pub record Got : Type 0 where
  pub number : ℕ
  pub answer : List ℕ
  pub left : InWords
  pub ids : List ℕ

-- the contracts of rasuvelk_write_chain, rasuvelk_resize_chain and rasuvelk_free_chain, called on what is in hand with an id list lent: a write's, a resize's, and that of a resize to 0
abbrev pub Gives : InWords → List ℕ → Asked → Got → Type 0
Gives w ids a g =
    EditChainGives w.words w.image w.tables ids a.start a.edit a.buf g.number g.answer g.left.words g.left.image g.left.tables g.ids

-- a buffer to write is of bytes, as every slice of u8 is
abbrev pub OfBytes : Edit → List ℕ → Type 0
OfBytes (Write offset) buf = Below 256 buf
OfBytes (Resize len) buf = Unit {0}

-- calls that lead from w to what is in hand last: each by its contract, on what the one before it left; calls that open or read a chain leave all of it, and need no place here
pub data Leads (last : InWords) : InWords → List Call → Type 0 where
  done : Leads last last []
  call : (w : InWords) (ids : List ℕ) (a : Asked) (g : Got) (cs : List Call) → OfBytes a.edit a.buf → Gives w ids a g → Leads last g.left cs
      → Leads last w (record { room = length ids; asks = a } ∷ cs)

-- a run: bytes are lent, an opening whose mode word means strict gives 0, and calls follow it
pub record Run (img : List ℕ) (used : ℕ) (t : Tables) (cs : List Call) (w : InWords) : Type 0 where
  pub bytes : Below 256 img
  pub mode : ℕ
  pub strict : mode_of mode ≡ Strict
  pub first : InWords
  pub opens : OpenGives mode img used t 0 first.words first.image first.tables
  pub calls : Leads w first cs

-- an opening gave 0, the words in hand, and the image and tables in hand; the free list, as long as the fourth word says, may stand in another order
pub record Same (w : InWords) (r : ℕ) (state img : List ℕ) (t : Tables) : Type 0 where
  pub number : r ≡ 0
  pub words : state ≡ w.words
  pub image : img ≡ w.image
  pub fat : t.fat ≡ w.tables.fat
  pub fats : t.fats ≡ w.tables.fats
  pub difats : t.difats ≡ w.tables.difats
  pub marks : t.marks ≡ w.tables.marks
  pub frees : Permuted (take (get_or w.words 3 0) t.frees) (take (get_or w.words 3 0) w.tables.frees)
  -- and both free lists hold zeros behind that
  pub frees_rest : (i : ℕ) → get_or w.words 3 0 ≤ i → i < length w.tables.frees → (get_or t.frees i 0 ≡ 0) × (get_or w.tables.frees i 0 ≡ 0)

-- the third demand of one call by C that gives g
pub record Keeps (w : InWords) (ids : List ℕ) (a : Asked) (g : Got) : Type 0 where
  -- the number that is returned is that of document 01's table, for the state that the words hold
  pub number : g.number ≡ asked_no (hand_in w) (length ids) a
  -- the start that the clauses speak of is the second of the three words
  pub start : g.number ≡ 0 → get_or g.answer 1 0 ≡ start_after (hand_in w) (length ids) a
  -- the clauses of the demand hold between what was in hand and what is
  pub promised : Promised (hand_in w) (length ids) a (hand_in g.left)
  -- the words that are left hold a state, so that no later call refuses them for their form, and are the words of that state
  pub holding : holds g.left.words ≡ true
  pub words : state_words (hand_in g.left).state ≡ g.left.words
  -- the bytes that are left open afresh, by rasuvelk_open in a strict mode at the length that the second word says, to what is in hand
  pub fresh : (mode r : ℕ) (words img : List ℕ) (t : Tables) → mode_of mode ≡ Strict
      → OpenGives mode g.left.image (get_or g.left.words 1 0) g.left.tables r words img t → Same g.left r words img t
