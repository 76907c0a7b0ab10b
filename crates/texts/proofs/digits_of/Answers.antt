-- `texts::digits_of` meets its contract: the digits stand at the front of 32 zeros. Assumes nothing.
use Rattle.std.proofs.Common.{rules}
use Rattle.texts.proofs.Puts.{put_begun}
use Rattle.texts.proofs.Texts.{put_written}
use Rattle.texts.proofs.digits_of.Goals as goal

pub returns : goal.returns
returns c = put_written (put_begun c.push_decimal.ensures c.new-out.ensures.held c.new-out.ensures.none (search rules) c.len-len.ensures)
