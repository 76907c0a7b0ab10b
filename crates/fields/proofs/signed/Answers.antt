-- The part that is lent begins with the first eight bytes, since the table's row says 0.
use mathlib.Core.Path.{◌∙◌, ap}
use native.Mathlib.Omega.{arith}
use Rattle.lists.specs.Lists.{same_list}
use Rattle.lists.proofs.Splice.{same_slices, same_list_sym}
use Rattle.consts.specs.Consts.{signature}
use Rattle.fields.proofs.Table.{field_begins}
use Rattle.fields.proofs.signed.Goals as goal

pub returns : goal.returns
returns c =
    c.starts_with.ensures.value
    ∙ same_slices signature _
    ∙ ap (same_list signature) (field_begins c.args.b.now _ 0 8 c.row.ensures.0 (omega (arith, c.requires)))
    ∙ same_list_sym signature _
