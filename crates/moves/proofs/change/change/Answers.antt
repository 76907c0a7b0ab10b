-- A chain with fewer sectors than the edit asks for is extended, any other is cut to them; then its bytes are stored.
use Rattle.std.proofs.Common.{rules}
use mathlib.Core.Path.{refl}
use Rattle.moves.specs.Change.{with_image}
use Rattle.moves.proofs.Editing.{Fitted, grown_fitted, cut_fitted, edit_asks, edit_grow, edit_storable, edited_on}
use Rattle.moves.proofs.change.change.Goals as goal
use Rattle.moves.proofs.change.change.Goals.{then-count-need, else-count-need}

pub need_of-need-requires : goal.need_of-need-requires
need_of-need-requires c = edit_asks _ _ _ _ _ c.requires

pub extend_by-requires : goal.extend_by-requires
extend_by-requires c = edit_grow _ _ _ _ _ c.requires _ c.need_of-need.ensures

pub store-requires : goal.store-requires
store-requires c =
    let fits : Fitted c.args.hand.now c.if-count-need.hand c.args.ids.now c.if-count-need.ids c.args.count c.need_of-need.result
    = elim c.if-count-need.branch [
      | then-count-need w ↦ rw (w.hand-is, w.ids-is) (grown_fitted _ w.if-count-need.true w.extend_by.ensures)
      | else-count-need w ↦ rw (w.hand-is, w.ids-is) (cut_fitted _ w.if-count-need.false w.shrink.ensures)
    ] in
    edit_storable _ _ _ _ _ c.requires _ c.need_of-need.ensures _ fits.chain

pub returns : goal.returns
unfolding with_image
returns c =
    let fits : Fitted c.args.hand.now c.if-count-need.hand c.args.ids.now c.if-count-need.ids c.args.count c.need_of-need.result
    = elim c.if-count-need.branch [
      | then-count-need w ↦ rw (w.hand-is, w.ids-is) (grown_fitted _ w.if-count-need.true w.extend_by.ensures)
      | else-count-need w ↦ rw (w.hand-is, w.ids-is) (cut_fitted _ w.if-count-need.false w.shrink.ensures)
    ] in
    edited_on _ _ c.requires c.need_of-need.ensures fits (search rules) refl c.store.ensures
