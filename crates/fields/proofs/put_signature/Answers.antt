-- The field's bytes are lent as a part of the buffer; the eight bytes copied over it are the signature.
use mathlib.Core.Path.{refl}
use Rattle.fields.proofs.Table.{field_stored}
use Rattle.fields.proofs.put_signature.Goals as goal

pub returns : goal.returns
returns c = let r = c.row-at in field_stored _ _ _ _ _ 0 8 r.ensures.0 r.ensures.1 c.copy_from_slice.ensures.after refl
