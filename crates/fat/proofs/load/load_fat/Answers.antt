use Prim.Native.Nat.{◌*◌, ◌<◌, min}
use mathlib.Core.Path.{◌≡◌, ◌∙◌, ap}
use native.Mathlib.Omega.{arith}
use lib.ListN.{length}
use Rattle.sectors.specs.Sectors.{per_sector}
use Rattle.sectors.proofs.Laws.{sector_within}
use Rattle.fat.proofs.Differing.{below_at}
use Rattle.fat.proofs.Loading.{loaded_none, loaded_more, loaded_all, sector_begins}
use Rattle.fat.proofs.load.load_fat.Goals as goal

pub loop-p-init : goal.loop-p-init
loop-p-init c = loaded_none _ _ _ _

pub load_at-requires-clause-s_in_bounds : goal.load_at-requires-clause-s_in_bounds
load_at-requires-clause-s_in_bounds c = sector_within _ _ _ _ c.requires.holds (below_at _ _ c.requires.below _ c.loop-p-test.true)

pub loop-p-preserved : goal.loop-p-preserved
loop-p-preserved c = let l = c.loop-p in
    let begins : l.p * per_sector c.args.s < length c.args.fat.now = sector_begins _ _ _ _ c.loop-p-test.true c.requires.last in
    loaded_more _ _ _ l.p _ _ l.fat _ l.invariant begins (c.min-b.ensures ∙ ap (min _) l.invariant.same) c.load_at.ensures

pub returns : goal.returns
returns c = let l = c.loop-p in
    let e : l.p ≡ length c.args.fats.now = omega arith in
    loaded_all _ _ _ l.p _ _ l.invariant (rw e c.requires.enough)
