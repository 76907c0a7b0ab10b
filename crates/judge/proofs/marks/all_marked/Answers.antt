-- The fold looks up the entry of each listed sector, which is below the FAT's length, and and-s the tests.
use mathlib.Core.Path.{◌∙◌}
use lib.Dec.{eqb}
use lib.ListN.{get_or}
use borrow.Author.Rules.{rules}
use Rattle.std.proofs.iter.Serving.{serving}
use Rattle.std.proofs.lemmas.Iterator.{YieldsList-from_slice}
use Rattle.lists.proofs.Folds.{folded, all_listed}
use Rattle.fat.proofs.Differing.{below_left}
use Rattle.judge.specs.Judge.{all_marked}
use Rattle.judge.proofs.marks.all_marked.Goals as goal

pub fold-requires-clause-callable : goal.fold-requires-clause-callable
fold-requires-clause-callable c = grind (serving, below_left _ _ c.iter.result.rest.now c.iter.ensures.rest c.requires)

pub returns : goal.returns
unfolding all_marked
returns c =
    folded (λ x. eqb (get_or c.args.fat.now x 0) c.args.v) (λ flag x next f k. search rules) (YieldsList-from_slice c.args.ids.now c.iter.ensures.rest) c.fold.ensures.ran
    ∙ all_listed _ _
