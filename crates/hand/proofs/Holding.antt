-- What is in hand after one move and another: the same memory is lent. Assumes nothing.
use Rattle.std.proofs.Common.{rules}
use Rattle.disk.specs.Held.{SameHand}
use Rattle.disk.specs.declared.disk.Hand.{Hand}

-- lent before the first move, lent after the second
pub same_then : {a b c : Hand} → SameHand a b → SameHand b c → SameHand a c
same_then p q = search rules
