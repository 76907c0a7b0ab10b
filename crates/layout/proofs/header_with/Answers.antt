-- Each number is read where the definition reads it, and the list is what stands behind them.
use Rattle.std.proofs.Common.{rules}
use Rattle.layout.proofs.Placing.{list_held}
use Rattle.layout.proofs.header_with.Goals as goal

pub returns : goal.returns
returns c = list_held c.args.version c.args.words (search rules) c.copy_from_slice.ensures.after
