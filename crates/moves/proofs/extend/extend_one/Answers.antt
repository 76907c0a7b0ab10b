-- The sector that is taken is linked behind the last one, then listed.
use Rattle.std.proofs.Common.{rules}
use Rattle.hand.specs.Hand.{extend_one}
use Rattle.hand.proofs.Linking.{more_stock, more_link, more_place}
use Rattle.moves.proofs.extend.extend_one.Goals as goal

pub take_sector_id-id-requires : goal.take_sector_id-id-requires
take_sector_id-id-requires c = more_stock {m = 0} c.requires

pub link_last-requires : goal.link_last-requires
link_last-requires c =
    let taken = c.take_sector_id-id.ensures.hand in
    rw taken.same.len (more_link {m = 0} c.requires _ taken.hand)

pub bounds-ids-count : goal.bounds-ids-count
bounds-ids-count c = more_place {m = 0} c.requires

pub returns : goal.returns
unfolding extend_one
returns c = search rules
