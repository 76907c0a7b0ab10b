-- What an opening gives at the library's edge. Assumes nothing.
use Rattle.std.specs.Prelude.{ℕ, ◌≡◌, List}
use Rattle.alloc.specs.Opening.{Tables, open_no, shortest}
use Rattle.alloc.specs.Opened.{tables_left}
use Rattle.cfb.specs.Face.{tables_of, state_of}
use Rattle.layout.specs.Layout.{mode_of}
use Rattle.states.specs.States.{state_words}

-- an opening at the library's edge: the number, the words of the state, the image as it was, and the lent tables
pub record OpenGives (mode : ℕ) (img : List ℕ) (used : ℕ) (t : Tables) (r : ℕ) (words img' : List ℕ) (t' : Tables) : Type 0 where
  pub number : r ≡ open_no (mode_of mode) img used (shortest t)
  pub state : words ≡ state_words (state_of (open_no (mode_of mode) img used (shortest t)) (mode_of mode) img used)
  pub image : img' ≡ img
  pub tables : t' ≡ tables_left (open_no (mode_of mode) img used (shortest t)) t (tables_of img used)
