use Rattle.stores.proofs.Writing.{writing_begun, writing_over, writing_on}
use Rattle.stores.proofs.write.Goals as goal

pub loop-id-init : goal.loop-id-init
loop-id-init c = writing_begun _ _ _ _ _ _ c.requires c.div_ceil-end.ensures

pub loop-id-preserved : goal.loop-id-preserved
loop-id-preserved c = writing_on c.loop-id.invariant _ _ _ _ c.loop-id-test.true c.min.ensures c.split_at.ensures.front c.split_at.ensures.back c.write_at.ensures

pub returns : goal.returns
returns c = writing_over c.loop-id.invariant c.loop-id-test.false
