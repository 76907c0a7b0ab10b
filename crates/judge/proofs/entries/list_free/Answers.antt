use Rattle.judge.proofs.Judging.{listing_begun, listing_more, listing_same, listing_ends}
use Rattle.judge.proofs.entries.list_free.Goals as goal
use Rattle.judge.proofs.entries.list_free.Goals.{then-entry, else-entry}

pub loop-i-init : goal.loop-i-init
loop-i-init c = listing_begun _ _

pub loop-i-preserved : goal.loop-i-preserved
loop-i-preserved c =
    let h = c.loop-i-test.true in
    elim c.if-entry.branch [
      | then-entry w ↦ rw (w.frees-is, w.count-is) (listing_more c.loop-i.invariant h c.requires.fat_in_bounds w.if-entry.true)
      | else-entry w ↦ rw (w.frees-is, w.count-is) (listing_same c.loop-i.invariant h w.if-entry.false)
    ]

pub returns : goal.returns
returns c = listing_ends c.loop-i.invariant c.loop-i-test.false
