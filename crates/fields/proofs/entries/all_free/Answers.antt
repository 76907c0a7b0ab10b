-- Each entry is tested against FREE, and the flag keeps what each test said.
use Rattle.std.proofs.Common.{rules, tests, ◌∙◌, ◌&&◌, true}
use Rattle.std.proofs.lemmas.Iterator.{YieldsList-from_slice}
use Rattle.std.proofs.lemmas.Iterator.Consumers.{fold_from_yields_List}
use lib.Dec.{eqb}
use Rattle.consts.specs.Consts.{free_sector}
use Rattle.fields.proofs.Listed.{free_from}
use Rattle.fields.proofs.entries.all_free.Goals as goal

pub returns : goal.returns
returns c =
    fold_from_yields_List _ (λ b x. b && eqb x free_sector) true _ c.fold.ensures.ran (YieldsList-from_slice c.args.list.now (cc)) (λ a x b q k. search (rules, tests))
    ∙ free_from true c.args.list.now
