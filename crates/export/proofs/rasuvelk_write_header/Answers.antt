-- A first word that names no version is refused, and else the writer decides.
use mathlib.Core.Path.{◌∙◌}
use Rattle.export.proofs.Answers.{unwritten_number, unwritten_bytes, written_number, written_bytes}
use Rattle.export.proofs.rasuvelk_write_header.Goals as goal

pub returns-in-Ok-clause-value : goal.returns-in-Ok-clause-value
returns-in-Ok-clause-value c = c.ends_with.ensures ∙ written_number _ c.try_from.ensures c.in-Ok.is c.header_with.ensures c.write_to.ensures

pub returns-in-Ok-clause-buf_after : goal.returns-in-Ok-clause-buf_after
returns-in-Ok-clause-buf_after c = written_bytes _ c.try_from.ensures c.in-Ok.is c.header_with.ensures c.write_to.ensures

pub returns-in-Err-clause-value : goal.returns-in-Err-clause-value
returns-in-Err-clause-value c = c.number.ensures ∙ unwritten_number _ _ _ c.try_from.ensures c.in-Err.is

pub returns-in-Err-clause-buf_after : goal.returns-in-Err-clause-buf_after
returns-in-Err-clause-buf_after c = unwritten_bytes _ _ _ c.try_from.ensures c.in-Err.is
