use Rattle.std.proofs.Common.{[], ◌∷◌, ◌<◌, length, arith, rules, length-append}
use Rattle.std.proofs.lemmas.Iterator.Consumers.{YieldsList-from_first, YieldsList-turn}
use Rattle.consts.specs.Pretty.{prettify_of}
use Rattle.consts.proofs.Listing.{items_few}
use Rattle.texts.proofs.Puts.{pushed_none, pushed_after}
use Rattle.lines.specs.Lines.{lines_of}
use Rattle.lines.proofs.Lined.{lines_more}
use Rattle.lines.proofs.put_items.Goals as goal

pub loop-item-init : goal.loop-item-init
unfolding lines_of
loop-item-init c = record { put = pushed_none c.args.out.now (omega (arith, c.requires)); short = omega arith }

pub put_item-requires : goal.put_item-requires
put_item-requires c =
    let fat = c.args.fat.now in
    let so_far = c.loop-item.yielded in
    let more : length so_far < length (prettify_of fat) =
    (YieldsList-turn (YieldsList-from_first (λ x. x) (λ s. prettify_of s.0.now) (prettify_of fat) (search rules))
    so_far c.loop-item.item-iterator c.loop-item.yielded_by c.next.result c.next.new.self c.in-Some.item c.in-Some.is c.next.ensures.steps).0 in
    let h = c.loop-item.invariant in
    omega (arith, c.requires, more, items_few fat, h.put.put.kept, h.short)

pub loop-item-preserved : goal.loop-item-preserved
loop-item-preserved c =
    let h = c.loop-item.invariant in
    record {
      put = rw (← lines_more c.loop-item.yielded c.in-Some.item) (pushed_after h.put c.put_item.ensures.put);
      short = omega (arith, h.short, c.put_item.ensures.short, length-append c.loop-item.yielded (c.in-Some.item ∷ []));
    }
