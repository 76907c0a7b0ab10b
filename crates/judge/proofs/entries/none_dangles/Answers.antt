-- The fold and-s the tests of each entry and its mark, of which there are as many.
use mathlib.Core.Path.{◌∙◌, sym}
use mathlib.Core.Bool.{not, ◌||◌}
use lib.Dec.{eqb}
use borrow.Author.Rules.{rules}
use Rattle.std.proofs.lemmas.Iterator.{YieldsList-from_slice, YieldsList-from_zip}
use Rattle.lists.proofs.Folds.{folded, all_paired}
use Rattle.consts.specs.Consts.{free_sector}
use Rattle.judge.proofs.Judging.{length_marks, sound_tests}
use Rattle.judge.proofs.entries.none_dangles.Goals as goal

pub returns : goal.returns
returns c =
    folded (λ p. not (eqb p.0 free_sector) || not (eqb p.1 1)) (λ flag x next f k. search rules)
    (YieldsList-from_zip (YieldsList-from_slice c.args.fat.now (search rules)) (YieldsList-from_slice c.args.marks.now (search rules))) c.fold.ensures.ran
    ∙ all_paired _ c.args.fat.now c.args.marks.now (sym (length_marks _ _ _ c.requires))
    ∙ sound_tests _ _ _ c.requires
