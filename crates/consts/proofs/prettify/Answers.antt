-- `consts::prettify` meets its contract: each arm of the match names the item that such an entry begins. An item ends within the entries. Assumes nothing.
use Rattle.std.proofs.Common.{◌≡◌, ◌+◌, Some, arith, sym, ap, ◌∙◌}
use Rattle.consts.specs.Pretty.{item_at}
use Rattle.consts.specs.Runs.{size_of}
use Rattle.consts.proofs.Items.{found, item_past, item_begins, item_end, item_count, item_range, counts_free, counts_fat, counts_difat}
use Rattle.consts.proofs.Listing.{item_stands}
use Rattle.consts.proofs.prettify.Goals as goal
use Rattle.consts.proofs.prettify.Goals.{After-size, in-4294967294, in-4294967295, in-4294967292, in-4294967293, in_default}

pub returns-in_err-left : goal.returns-in_err-left
returns-in_err-left c = c.from_residual.ensures ∙ item_past _ _ (omega (arith, c.in_err-left.ensures.lookup))

pub returns-in_err-first : goal.returns-in_err-first
returns-in_err-first c =
    c.from_residual-in_err-first.ensures ∙ item_past _ _ (omega (arith, c.in_ok-left.ensures.lookup.0.3, c.in_err-first.ensures.cases))

-- the item that the match names, and the place past it
item : (c : After-size) → Some (found c.match-first.item (c.args.at + size_of c.match-first.item)) ≡ item_at c.args.sectors.now c.args.at
item c =
    let e = c.in_ok-first.ensures.cases.0 in
    item_begins _ _ _ c.in_ok-left.ensures.lookup.0.2 e
    (elim c.match-first.branch [
      | in-4294967294 w ↦ item_end _ _ _ w.in-4294967294.is w.item-is
      | in-4294967295 w ↦ item_count counts_free _ _ _ w.in-4294967295.is e w.run_of.ensures w.item-is
      | in-4294967292 w ↦ item_count counts_difat _ _ _ w.in-4294967292.is e w.run_of-in-4294967292.ensures w.item-is
      | in-4294967293 w ↦ item_count counts_fat _ _ _ w.in-4294967293.is e w.run_of-in-4294967293.ensures w.item-is
      | in_default w ↦ item_range _ _ _ (λ e. omega arith) (λ e. omega arith) (λ e. omega arith) (λ e. omega arith) w.range_end.ensures w.item-is
    ])

pub overflow_add-past : goal.overflow_add-past
overflow_add-past c =
    let stands = item_stands _ _ (found c.match-first.item (c.args.at + size_of c.match-first.item)) (sym (item c)) in
    omega (arith, stands.within, c.size.ensures)

pub returns : goal.returns
returns c = ap (λ n. Some (found c.match-first.item (c.args.at + n))) c.size.ensures ∙ item c
