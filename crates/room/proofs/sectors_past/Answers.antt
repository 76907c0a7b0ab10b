-- What stays within the chain asks for none; else what is over is rounded up.
use Prim.Native.Nat.{ℕ}
use mathlib.Core.Path.{◌∙◌, ap}
use native.Mathlib.Omega.{arith}
use Rattle.fat.specs.Lists.{ceil}
use Rattle.room.proofs.Needing.{write_over}
use Rattle.room.proofs.sectors_past.Goals as goal

pub returns : goal.returns
returns c = let g = c.requires in
    c.sectors_for.ensures ∙ ap (λ (n : ℕ). ceil n c.args.s) c.saturating_sub.ensures ∙ write_over _ _ _ _ (omega (arith, g.0)) g.2
