-- The field's bytes are lent as a part of the buffer, filled with zeros and put back in their place.
use Prim.Native.Nat.{ℕ}
use mathlib.Core.Path.{◌∙◌, ap}
use native.Mathlib.Omega.{arith}
use lib.ListN.{replicate, length-replicate}
use Rattle.lists.proofs.Splice.{length_lent}
use Rattle.fields.proofs.Table.{field_ends, field_stored}
use Rattle.fields.proofs.put_zeros.Goals as goal

pub returns : goal.returns
returns c =
    let r = c.row-at.ensures in
    let long = length_lent c.args.buf.now c.row-at.result.at c.row-at.result.width (omega (arith, field_ends c.args.place c.requires.place_bound)) ∙ r.1 in
    field_stored _ _ _ _ _ _ _ r.0 r.1 (c.fill.ensures.after (λ y e. e) ∙ ap (λ (n : ℕ). replicate n 0) long) (length-replicate _ _)
