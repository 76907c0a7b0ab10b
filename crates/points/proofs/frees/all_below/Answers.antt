use Rattle.std.proofs.Common.{rules, ltb, ◌∙◌}
use Rattle.std.proofs.lemmas.Iterator.{YieldsList-from_slice}
use Rattle.fat.specs.Lists.{all_below}
use Rattle.points.proofs.Folding.{fold_all, every_all}
use Rattle.points.proofs.frees.all_below.Goals as goal

pub returns : goal.returns
unfolding all_below
returns c = fold_all (λ x. ltb x c.args.limit) _ _ c.fold.ensures.ran (YieldsList-from_slice c.args.xs.now cc) (λ a x b f' k. search rules) ∙ every_all _ 0 _
