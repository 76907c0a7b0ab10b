-- `list_text` meets its contract: what `put_listing` puts begins at the front. Assumes nothing.
use Rattle.std.proofs.Common.{rules}
use Rattle.texts.proofs.Puts.{put_begun}
use Rattle.listing.proofs.list_text.Goals as goal

pub returns : goal.returns
returns c = put_begun c.put_listing.ensures c.new-text.ensures.held c.new-text.ensures.none (search rules) c.len.ensures
