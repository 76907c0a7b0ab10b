-- `consts::run_of` meets its contract: the chain takes the entries at the front that are `value`, and counts them. Assumes nothing.
use Rattle.std.proofs.Common.{◌∙◌, rules, tests, ◌==◌}
use Rattle.std.proofs.lemmas.Iterator.{YieldsList-from_slice}
use Rattle.std.proofs.lemmas.Iterator.Consumers.{count_from_yields_List}
use Rattle.std.proofs.lemmas.Iterator.Search.{YieldsList-from_take_while}
use Rattle.std.proofs.lemmas.List.Folds.{length-prefix_len}
use Rattle.consts.specs.Runs.{run_of}
use Rattle.consts.proofs.run_of.Goals as goal

pub returns : goal.returns
unfolding run_of
returns c =
    let xs = c.args.sectors.now in
    count_from_yields_List c.take_while.result _ c.count.ensures.ran
    (YieldsList-from_take_while _ (λ x. x == c.args.value) (YieldsList-from_slice xs cc) c.take_while.ensures.closure c.take_while.ensures.done (λ x b q k. search (rules, tests)))
    ∙ length-prefix_len (λ x. x == c.args.value) xs
