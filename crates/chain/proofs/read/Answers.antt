use Rattle.chain.specs.Bytes.{read_count}
use Rattle.chain.proofs.Reading.{reading_begun, reading_over, reading_on}
use Rattle.chain.proofs.read.Goals as goal

pub loop-id-init : goal.loop-id-init
unfolding read_count
loop-id-init c = reading_begun _ _ _ _ _ _ _ c.requires c.min-total.ensures c.div_ceil-end.ensures

pub loop-id-preserved : goal.loop-id-preserved
loop-id-preserved c = reading_on c.loop-id.invariant _ _ c.loop-id-test.true c.min-stop.ensures c.read_at.ensures

pub returns : goal.returns
returns c = reading_over c.loop-id.invariant c.loop-id-test.false
