use Rattle.std.proofs.Common.{◌≡◌, ◌<◌, [], ◌∷◌, length, get_or, arith, rules, sym, length-append, length-take-le}
use Rattle.std.proofs.lemmas.Iterator.Consumers.{YieldsList-from_first, YieldsList-turn, YieldsList-end}
use Rattle.consts.specs.Pretty.{prettify_of}
use Rattle.consts.proofs.Listing.{items_few}
use Rattle.answers.proofs.Lined.{left_more, left_over, text_taken, text_within}
use Rattle.answers.proofs.same_items.Goals as goal
use Rattle.answers.proofs.same_items.Goals.{In-Some}

-- which item this turn has
turn : (c : In-Some) → let all = prettify_of c.args.sectors.now in (length c.loop-item.yielded < length all) × (c.in-Some.item ≡ get_or all (length c.loop-item.yielded) c.in-Some.item)
turn c =
    YieldsList-turn (YieldsList-from_first (λ x. x) (λ s. prettify_of s.0.now) (prettify_of c.args.sectors.now) (search rules))
    c.loop-item.yielded c.loop-item.item-iterator c.loop-item.yielded_by c.next.result c.next.new.self c.in-Some.item c.in-Some.is c.next.ensures.steps

pub slice_bounds-bytes-end : goal.slice_bounds-bytes-end
slice_bounds-bytes-end c = text_within _ c.text_of-len.ensures

pub slice_bounds-after_line-end : goal.slice_bounds-after_line-end
slice_bounds-after_line-end c = sym (length-take-le _ _ (text_within _ c.text_of-len.ensures))

pub overflow_add-items : goal.overflow_add-items
overflow_add-items c =
    let passed = goal.at.overflow_add-items c in
    omega (arith, c.loop-item.invariant.count, turn passed.In-Some, items_few c.args.sectors.now)

pub loop-item-preserved : goal.loop-item-preserved
loop-item-preserved c =
    let passed = goal.at.loop-item-preserved c in
    let h = c.loop-item.invariant in
    let count = length-append c.loop-item.yielded (c.in-Some.item ∷ []) in
    record {
      count = omega (arith, h.count, count);
      left = rw count (left_more c.in-Some.item h.left c.in-Some-after_line.ensures (text_taken _ c.text_of-len.ensures) (turn passed.In-Some));
    }

pub returns-then-items-number : goal.returns-then-items-number
returns-then-items-number c =
    let h = c.loop-item.invariant in
    let all : length c.loop-item.yielded ≡ length (prettify_of c.args.sectors.now) =
    (YieldsList-end (YieldsList-from_first (λ x. x) (λ s. prettify_of s.0.now) (prettify_of c.args.sectors.now) (search rules))
    c.loop-item.yielded c.loop-item.item-iterator c.loop-item.yielded_by c.next.result c.next.new.self c.in-None.is c.next.ensures.steps).1 in
    λ e. record { number = omega (arith, all, h.count, c.if-items-number.true); text = left_over h.left all (c.only_zeros.ensures.0 e) }
