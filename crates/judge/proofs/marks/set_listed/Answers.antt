-- `marks::set_listed` meets its contract: two calls, and the length stays.
use mathlib.Core.Path.{◌∙◌}
use Rattle.fat.proofs.Differing.{below_kept}
use Rattle.judge.proofs.Marking.{marked_fat_two}
use Rattle.judge.proofs.marks.set_listed.Goals as goal

pub set_all-requires : goal.set_all-requires
set_all-requires c = c.requires.difats_value

pub set_all-requires-2 : goal.set_all-requires-2
set_all-requires-2 c = below_kept _ _ c.args.fats.now c.set_all.auto.fat c.requires.fats_value

pub shape_of-fat : goal.shape_of-fat
shape_of-fat c = c.set_all-2.auto.fat ∙ c.set_all.auto.fat

pub returns : goal.returns
returns c = marked_fat_two c.args.fat.now _ _ c.args.difats.now c.args.fats.now c.set_all.ensures c.set_all-2.ensures
