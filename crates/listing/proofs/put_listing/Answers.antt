-- `put_listing` meets its contract: each of the three answers is the listing in its case, and 127 sectors leave room. Assumes nothing.
use mathlib.Core.Path.{sym}
use native.Mathlib.Omega.{arith}
use lib.Seq.{length-take-le}
use Rattle.listing.proofs.Opened.{long_listing, refused_listing, accepted_within, accepted_short, accepted_listing}
use Rattle.listing.proofs.put_listing.Goals as goal

pub returns-then-image-gt-MOST : goal.returns-then-image-gt-MOST
returns-then-image-gt-MOST c = long_listing _ c.if-image-gt-MOST.true c.put_refused.ensures

pub returns-in_default : goal.returns-in_default
returns-in_default c =
    refused_listing _ c.if-image-gt-MOST.false c.open_fat-opened.ensures c.in_default.is c.number.ensures c.put_refused-in_default.ensures

pub slice_bounds-fat-end : goal.slice_bounds-fat-end
slice_bounds-fat-end c = accepted_within c.open_fat-opened.ensures c.in-Ok.is

pub slice_bounds-put_listed-end : goal.slice_bounds-put_listed-end
slice_bounds-put_listed-end c =
    sym (length-take-le _ _ (accepted_within c.open_fat-opened.ensures c.in-Ok.is))

pub put_listed-requires : goal.put_listed-requires
put_listed-requires c =
    omega (arith, accepted_short c.if-image-gt-MOST.false c.open_fat-opened.ensures c.in-Ok.is)

pub returns : goal.returns
returns c =
    accepted_listing _ c.if-image-gt-MOST.false c.open_fat-opened.ensures c.in-Ok.is c.put_listed.ensures
