use mathlib.Core.Path.{refl}
use native.Mathlib.Omega.{arith}
use lib.ListN.{length}
use Rattle.fat.proofs.Loading.{filling_none, filling_more, chain_first, chain_next, chain_stops, chain_ends}
use Rattle.fat.proofs.load.list_difats.Goals as goal

pub loop-place-init : goal.loop-place-init
loop-place-init c = (refl, c.ranges.first.fits, chain_first c.args.s c.args.image.now c.args.first, filling_none _ _ _)

pub returns-then-n-at : goal.returns-then-n-at
returns-then-n-at c = let l = c.loop-place in
    chain_stops c.args.s c.args.image.now c.args.n c.args.first (length c.args.difats.now) l.place-index _ (omega arith) (rw l.invariant.2 at c.if-n-at.true)

pub loop-place-preserved : goal.loop-place-preserved
loop-place-preserved c = let l = c.loop-place in (
  refl,
  omega arith,
  chain_next c.args.s c.args.image.now c.args.first l.place-index l.id _ l.invariant.2 c.entry_at-id.ensures,
  filling_more _ _ l.place-index _ l.difats l.id l.invariant.3 (omega arith) l.invariant.2 c.if-n-at.false,
)

pub returns : goal.returns
returns c = let l = c.loop-place in
    chain_ends _ _ _ _ l.place-index l.id _ l.difats _ l.invariant.3 (omega arith) l.invariant.2 c.ends.ensures
