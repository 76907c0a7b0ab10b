use mathlib.Core.Path.{◌∙◌, ap}
use mathlib.Core.List.{List}
use native.Mathlib.Omega.{arith}
use Prim.Native.Nat.{ℕ}
use lib.ListN.{set}
use Rattle.lists.proofs.Tab.{filled_none, filled_more, filled_all}
use Rattle.sectors.specs.Sectors.{entry_in}
use Rattle.sectors.proofs.load.Goals as goal

pub loop-j-init : goal.loop-j-init
loop-j-init c = filled_none (entry_in c.args.sector.now) c.args.out.now

pub loop-j-preserved : goal.loop-j-preserved
loop-j-preserved c = let l = c.loop-j in
    ap (λ (u : List ℕ). set u l.j c.entry.result) l.invariant ∙ filled_more _ _ _ _ (omega arith) c.entry.ensures

pub returns : goal.returns
returns c = let l = c.loop-j in filled_all _ c.args.out.now _ l.j (omega arith) l.invariant
