-- What the tables' opening found is handed on: a refusal, or an acceptance with its counts.
use mathlib.Core.Path.{sym}
use Rattle.cfb.proofs.Facing.{face_refused, face_accepted}
use Rattle.cfb.proofs.State.open.Goals as goal

pub returns-in-Ok-clause-opens : goal.returns-in-Ok-clause-opens
returns-in-Ok-clause-opens c = face_accepted _ _ _ _ _ _ c.open_tables.ensures.says _ c.in-Ok.is

pub returns-in-Err-clause-opens : goal.returns-in-Err-clause-opens
returns-in-Err-clause-opens c = rw c.none.ensures (face_refused _ _ _ _ _ _ c.open_tables.ensures.says _ c.in-Err.is)
