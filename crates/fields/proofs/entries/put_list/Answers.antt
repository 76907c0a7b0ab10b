use native.Mathlib.Omega.{arith}
use Rattle.fields.proofs.Listed.{entries_none, entries_more}
use Rattle.fields.proofs.entries.put_list.Goals as goal

pub loop-i-init : goal.loop-i-init
loop-i-init c = entries_none c.args.buf.now 76 c.args.list.now

pub loop-i-preserved : goal.loop-i-preserved
loop-i-preserved c =
    let l = c.loop-i in
    entries_more _ l.buf _ 76 _ c.args.list.now l.i c.loop-i-test.true (omega (arith, c.requires)) c.row-at.ensures.0 l.invariant c.put.ensures
