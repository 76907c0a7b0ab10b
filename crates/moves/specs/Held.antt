-- What is in hand of an open image, with a lent list of so many ids, as the record that the changes of a chain are defined on. Assumes nothing.
use Rattle.std.specs.Prelude.{ℕ, List, ◌≡◌}
use Rattle.disk.specs.Held.{SameHand}
use Rattle.disk.specs.declared.disk.Hand as lent
use Rattle.hand.specs.Hand.{Chain}
use Rattle.hand.specs.Held.{hand_in}

-- a chain in hand
abbrev pub chain_in : lent.Hand → List ℕ → ℕ → Chain
chain_in h ids count = record { hand = hand_in h; ids = ids; count = count }

-- what is in hand, a list and its count become chain c, in the same lent memory
pub record ChainBecomes (a b : lent.Hand) (ids : List ℕ) (count : ℕ) (c : Chain) : Type 0 where
  pub same : SameHand a b
  pub chain : chain_in b ids count ≡ c
