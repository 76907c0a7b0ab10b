use mathlib.Core.Path.{◌∙◌, sym}
use native.Mathlib.Omega.{arith}
use lib.ListN.{length-set}
use Rattle.walk.proofs.Listing.{walks_begun, walks_past, walks_length, walks_over, turn_sector, turn_most, turn_room, turn_on, turn_bad, turn_back}
use Rattle.walk.proofs.walk.Goals as goal

pub leads-requires : goal.leads-requires
leads-requires c = c.requires.few

pub returns-then-not-leads : goal.returns-then-not-leads
returns-then-not-leads c = walks_past _ _ _ c.requires.few (sym c.leads.ensures ∙ c.if-not-leads.true)

pub loop-id-init : goal.loop-id-init
loop-id-init c = walks_begun _ _ _ c.requires (sym c.leads.ensures ∙ c.if-not-leads.false)

pub offset_bounds-ids-count : goal.offset_bounds-ids-count
offset_bounds-ids-count c = omega (arith, turn_most c.loop-id.invariant c.loop-id-test.true)

pub bounds-ids-count : goal.bounds-ids-count
bounds-ids-count c = turn_room c.loop-id.invariant c.loop-id-test.true

pub overflow_add-count : goal.overflow_add-count
overflow_add-count c = omega (arith, turn_most c.loop-id.invariant c.loop-id-test.true)

pub overflow_cast-id : goal.overflow_cast-id
overflow_cast-id c = omega (arith, turn_sector c.loop-id.invariant c.loop-id-test.true)

pub offset_bounds-fat-id : goal.offset_bounds-fat-id
offset_bounds-fat-id c = omega (arith, turn_sector c.loop-id.invariant c.loop-id-test.true)

pub bounds-fat-id : goal.bounds-fat-id
bounds-fat-id c = turn_sector c.loop-id.invariant c.loop-id-test.true

pub leads-requires-in-loop-id : goal.leads-requires-in-loop-id
leads-requires-in-loop-id c = c.loop-id.invariant.asks.few

pub shape_of-ids-then-not-leads-2 : goal.shape_of-ids-then-not-leads-2
shape_of-ids-then-not-leads-2 c = simp length-set (walks_length c.loop-id.invariant)

pub returns-then-not-leads-2 : goal.returns-then-not-leads-2
returns-then-not-leads-2 c = turn_bad c.loop-id.invariant c.loop-id-test.true _ (sym c.leads-in-loop-id.ensures ∙ c.if-not-leads-2.true)

pub shape_of-ids-then-id-start : goal.shape_of-ids-then-id-start
shape_of-ids-then-id-start c = simp length-set (walks_length c.loop-id.invariant)

pub returns-then-id-start : goal.returns-then-id-start
returns-then-id-start c = turn_back c.loop-id.invariant c.loop-id-test.true _ c.if-id-start.true

pub loop-id-smaller : goal.loop-id-smaller
loop-id-smaller c = omega (arith, turn_most c.loop-id.invariant c.loop-id-test.true)

pub loop-id-preserved : goal.loop-id-preserved
loop-id-preserved c = turn_on c.loop-id.invariant c.loop-id-test.true (sym c.leads-in-loop-id.ensures ∙ c.if-not-leads-2.false) c.if-id-start.false

pub shape_of-ids : goal.shape_of-ids
shape_of-ids c = walks_length c.loop-id.invariant

pub returns : goal.returns
returns c = walks_over c.loop-id.invariant c.loop-id-test.false
