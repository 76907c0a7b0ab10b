-- The part that is lent is sector id by definition, and the entries are compared with it.
use Prim.Native.Nat.{ℕ, ◌+◌}
use mathlib.Core.Path.{◌∙◌, ap}
use mathlib.Core.List.{List}
use native.Mathlib.Omega.{arith}
use lib.ListN.{length, get_or}
use Rattle.lists.specs.Lists.{every}
use Rattle.sectors.specs.Sectors.{entry_in}
use Rattle.sectors.proofs.Laws.{scaled, lent_sector}
use Rattle.compare.specs.Compare.{entry_kept}
use Rattle.compare.proofs.strict.sector_kept.Goals as goal

pub overflow_add-a : goal.overflow_add-a
overflow_add-a c = omega (arith, scaled (c.args.id + 1) c.args.s c.requires.le_s.0)

pub returns : goal.returns
returns c =
    let a = c.args in
    c.entries_kept.ensures ∙ ap (λ (l : List ℕ). every (length a.fat.now) (λ j. entry_kept a.limit (entry_in l j) (get_or a.fat.now j 0))) (lent_sector a.s a.id a.image.now)
