-- Each kind of sector is what its own fill leaves.
use mathlib.Core.Path.{◌∙◌, sym, ap}
use Rattle.sectors.specs.Init.{init_bytes}
use Rattle.sectors.proofs.New.{init_zero, init_fat}
use Rattle.sectors.proofs.init.init_sector.Goals as goal

pub returns-in-Zero : goal.returns-in-Zero
returns-in-Zero c = c.fill.ensures.after (λ y e. e) ∙ init_zero _ ∙ ap (init_bytes _) (sym c.in-Zero.is)

pub returns-in-Fat : goal.returns-in-Fat
returns-in-Fat c = c.fill-in-Fat.ensures.after (λ y e. e) ∙ init_fat _ c.requires.0 ∙ ap (init_bytes _) (sym c.in-Fat.is)
