use Rattle.std.proofs.Common.{rules, length, get_or, refl, ◌∙◌}
use Rattle.std.proofs.lemmas.Iterator.{YieldsList-from_range}
use Rattle.points.specs.Parts.{sector_right}
use Rattle.points.proofs.Folding.{fold_all, every_range}
use Rattle.points.proofs.points.sectors_right.Goals as goal

pub returns : goal.returns
returns c =
    fold_all (λ i. sector_right (get_or c.args.fat.now i 0) (get_or c.args.counts.now i 0) (get_or c.args.marks.now i 0)) _ _ c.fold.ensures.ran
    (YieldsList-from_range 0 (length c.args.fat.now) (length c.args.fat.now) refl (search rules)) (λ a x b f' k. search rules) ∙ every_range _ _
