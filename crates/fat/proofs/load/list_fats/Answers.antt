use native.Mathlib.Omega.{arith}
use lib.ListN.{length}
use Rattle.fat.proofs.Loading.{filling_none, filling_more, places_stop, places_end}
use Rattle.fat.proofs.load.list_fats.Goals as goal

pub loop-p-init : goal.loop-p-init
loop-p-init c = filling_none _ _ _

pub returns-then-n-id : goal.returns-then-n-id
returns-then-n-id c = let l = c.loop-p in
    places_stop _ _ _ _ _ (length c.args.fats.now) l.p _ (omega arith) (rw c.place_at-id.ensures at c.if-n-id.true)

pub loop-p-preserved : goal.loop-p-preserved
loop-p-preserved c = let l = c.loop-p in
    filling_more _ _ l.p _ l.fats _ l.invariant (omega arith) c.place_at-id.ensures c.if-n-id.false

pub returns : goal.returns
returns c = let l = c.loop-p in
    places_end _ _ _ _ _ l.p c.args.fats.now _ l.invariant (omega arith)
