-- The invariant: v is the number in the bytes from place i on.
use Prim.Native.Nat.{◌+◌, ◌-◌}
use mathlib.Core.Path.{◌≡◌}
use Rattle.words.specs.Words.{le}
use Rattle.words.proofs.read.Given as goal

abbrev pub invariant-loop-i : goal.invariant-loop-i
invariant-loop-i g l = l.v ≡ le (g.row.N - l.i) l.s (l.at + l.i)
