use Rattle.std.proofs.Common.{rules, ℕ, List, [], ◌≡◌, ◌+◌, ◌*◌, ◌/◌, length, get_or, replicate, ap, ◌∙◌, arith}
use lib.Seq.{get_or-drop}
use Rattle.points.proofs.Pointing.{counting_none, counting_all, counting_below, counting_fours, counting_more}
use Rattle.points.proofs.points.count_pointers.Goals as goal

pub loop-four-init : goal.loop-four-init
loop-four-init c =
    let z : c.fill.new.self ≡ replicate (length c.args.counts.now) 0 = search rules in
    counting_none _ _ _ c.requires.few z c.requires.each (omega (arith, c.requires.each, ap length z))

pub count_four-requires : goal.count_four-requires
count_four-requires c = counting_below _ _ _ _ (omega (arith, c.requires.few, c.as_chunks.ensures.front_len)) (omega (arith, c.as_chunks.ensures.front_len)) c.loop-four.invariant

pub loop-four-preserved : goal.loop-four-preserved
loop-four-preserved c = rw c.count_four.ensures (counting_fours _ _ _ _ (omega (arith, c.as_chunks.ensures.front_len)) (ap (λ (xs : List (List ℕ)). get_or xs c.loop-four.four-index []) c.as_chunks.ensures.front) c.loop-four.invariant)

pub count_pointer-requires : goal.count_pointer-requires
count_pointer-requires c = counting_below _ _ _ _ (omega (arith, c.requires.few, c.as_chunks.ensures.back_len)) (omega (arith, c.as_chunks.ensures.back_len)) c.loop-entry.invariant

pub loop-entry-preserved : goal.loop-entry-preserved
loop-entry-preserved c =
    let at : length c.args.fat.now / 4 * 4 + c.loop-entry.entry-index ≡ 4 * (length c.args.fat.now / 4) + c.loop-entry.entry-index = omega arith in
    let e : get_or c.as_chunks.result.1.now c.loop-entry.entry-index 0 ≡ get_or c.args.fat.now (4 * (length c.args.fat.now / 4) + c.loop-entry.entry-index) 0 =
    ap (λ (xs : List ℕ). get_or xs c.loop-entry.entry-index 0) c.as_chunks.ensures.back ∙ get_or-drop _ c.args.fat.now _ 0 ∙ ap (λ (k : ℕ). get_or c.args.fat.now k 0) at in
    counting_more _ _ _ _ _ _ (omega (arith, c.as_chunks.ensures.back_len)) (omega arith) e c.count_pointer.ensures c.loop-entry.invariant

pub returns : goal.returns
returns c = counting_all _ _ _ (omega (arith, c.as_chunks.ensures.back_len)) c.loop-entry.invariant
