use Rattle.std.proofs.Common.{rules, ◌∙◌, eqb, arith}
use Rattle.std.proofs.lemmas.Iterator.{YieldsList-from_slice, YieldsList-from_zip}
use Rattle.judge.specs.Judge.{forgiven}
use Rattle.points.proofs.Folding.{fold_all, every_zip}
use Rattle.compare.proofs.Keeping.{forgiven_tells}
use Rattle.compare.proofs.permissive.is_forgiven.Goals as goal

pub returns : goal.returns
returns c =
    fold_all (λ (e, own). eqb e (forgiven c.limit_of-limit.result own)) _ _ c.fold.ensures.ran
    (YieldsList-from_zip (YieldsList-from_slice c.args.fat.now cc) (YieldsList-from_slice c.args.raw.now cc)) (λ a x b f' k. search rules)
    ∙ every_zip _ 0 0 _ _ (omega (arith, c.requires)) ∙ forgiven_tells _ _ _ c.limit_of-limit.ensures
