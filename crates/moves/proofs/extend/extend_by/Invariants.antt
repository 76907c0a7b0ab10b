-- The invariant: the sectors so far are taken.
use Prim.Native.Nat.{◌-◌}
use Rattle.hand.specs.Hand.{extend}
use Rattle.moves.specs.Held.{chain_in, ChainBecomes}
use Rattle.moves.proofs.extend.extend_by.Given as goal

abbrev pub invariant-loop-listed : goal.invariant-loop-listed
invariant-loop-listed l =
    ChainBecomes l.initial.hand l.hand l.ids l.listed (extend l.initial.hand.len (chain_in l.initial.hand l.initial.ids l.count) (l.listed - l.count))
