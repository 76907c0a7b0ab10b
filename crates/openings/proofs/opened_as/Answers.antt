-- `opened_as` meets its contract: the opening's own, and that of the comparison of what it gave. Assumes nothing.
use Rattle.openings.specs.Openings.{lent_tables}
use Rattle.openings.proofs.Opened.{opening_said}
use Rattle.openings.proofs.opened_as.Goals as goal

pub returns : goal.returns
unfolding lent_tables
returns c = λ e. opening_said _ _ c.mode_in.ensures c.open-opened.ensures.opens c.number.ensures (rw (← c.as_ref.ensures) (c.record_says.ensures e))
