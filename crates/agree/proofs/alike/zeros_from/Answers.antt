use Rattle.std.proofs.Common.{rules, ◌∙◌}
use Rattle.std.proofs.lemmas.Iterator.{YieldsList-from_slice}
use Rattle.points.proofs.Folding.{fold_all}
use Rattle.agree.proofs.Comparing.{rest_lent}
use Rattle.agree.proofs.alike.zeros_from.Goals as goal

pub returns : goal.returns
returns g c = (
  c.default-zero.result,
  c.default-zero.ensures,
  fold_all (λ x. g.T.PartialEq.eq x c.default-zero.result) _ _ c.fold.ensures.ran
      (YieldsList-from_slice _ (c.iter.ensures.rest ∙ rest_lent c.args.xs.now c.args.from c.min.result c.min.ensures)) (λ a x b f' k. search rules),
)
