-- The two tests are the definition's, in its order.
use Rattle.std.proofs.Common.{rules}
use Rattle.fields.specs.Fields.{unreadable}
use Rattle.fields.proofs.entries.unreadable.Goals as goal

pub returns-then-not-ids_then_free : goal.returns-then-not-ids_then_free
unfolding unreadable
returns-then-not-ids_then_free c = search rules

pub returns-else-not-ids_then_free : goal.returns-else-not-ids_then_free
unfolding unreadable
returns-else-not-ids_then_free c = search rules
