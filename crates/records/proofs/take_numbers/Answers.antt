use Prim.Native.Nat.{ℕ, ◌*◌}
use mathlib.Core.Path.{◌∙◌, ap}
use mathlib.Core.List.{List}
use native.Mathlib.Omega.{arith}
use lib.ListN.{set}
use Rattle.lists.proofs.Tab.{filled_none, filled_more, filled_all}
use Rattle.words.specs.Words.{le}
use Rattle.records.specs.Records.{numbers_in}
use Rattle.records.proofs.take_numbers.Goals as goal

pub loop-i-init : goal.loop-i-init
loop-i-init c = filled_none _ _

pub loop-i-preserved : goal.loop-i-preserved
loop-i-preserved c =
    let turn = c.loop-i in
    ap (λ (l : List ℕ). set l turn.i c.read.result) turn.invariant ∙ filled_more (λ k. le 4 c.args.held.now (4 * k)) _ turn.i _ (omega arith) c.read.ensures

pub returns : goal.returns
unfolding numbers_in
returns c = filled_all _ _ _ c.loop-i.i (omega arith) c.loop-i.invariant
