-- A special value stays, a low one stays, and any other becomes END.
use mathlib.Core.Path.{sym}
use mathlib.Core.Logic.{⊎_elim}
use Rattle.judge.proofs.Judging.{forgiven_low, forgiven_kind, forgiven_high}
use Rattle.compare.proofs.permissive.forgiven.Goals as goal

pub returns-then-entry-limit : goal.returns-then-entry-limit
returns-then-entry-limit c = ⊎_elim (λ k. sym (forgiven_kind _ _ k)) (λ p. sym (forgiven_low _ _ p.1)) c.if-entry-limit.either

pub returns-else-entry-limit : goal.returns-else-entry-limit
returns-else-entry-limit c = sym (forgiven_high _ _ c.if-entry-limit.false.0 c.if-entry-limit.false.1)
