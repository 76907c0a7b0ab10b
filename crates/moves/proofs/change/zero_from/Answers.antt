-- What lies past the place is filled with zeros; at the end there is nothing to fill.
use Rattle.moves.proofs.Zeros.{zeroed_past}
use Rattle.moves.proofs.change.zero_from.Goals as goal

pub returns : goal.returns
returns c = zeroed_past _ _ _ _ c.min-kept.ensures (c.fill.ensures.after (λ y e. e))
