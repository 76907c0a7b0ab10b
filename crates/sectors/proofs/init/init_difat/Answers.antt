-- All bytes 255 are FREE entries, and END is stored over the last of them.
use Prim.Native.Nat.{ℕ, ◌-◌, ◌/◌}
use mathlib.Core.Path.{ap}
use Rattle.sectors.proofs.New.{init_difat}
use Rattle.sectors.proofs.init.init_difat.Goals as goal

pub returns : goal.returns
returns c =
    init_difat _ _ _ _ c.requires.0 c.requires.1 (ap (λ (n : ℕ). n / 4 - 1) c.fill.ensures.len) (c.fill.ensures.after (λ y e. e)) c.put_entry.ensures
