-- `consts::range_end` meets its contract: the chain takes the numbers after `first` that the entries are, and counts them. Assumes nothing.
use Rattle.std.proofs.Common.{◌+◌, ◌-◌, ◌==◌, refl, ap, ◌∙◌, rules, tests}
use Rattle.std.specs.List.{range_with_len, zip}
use Rattle.std.proofs.lemmas.Iterator.{YieldsList-from_slice, YieldsList-from_range, YieldsList-from_zip}
use Rattle.std.proofs.lemmas.Iterator.Consumers.{count_from_yields_List, YieldsList-at}
use Rattle.std.proofs.lemmas.Iterator.Search.{YieldsList-from_take_while}
use Rattle.std.proofs.lemmas.List.Folds.{length-prefix_len}
use Rattle.consts.specs.Consts.{invalid_sector}
use Rattle.consts.proofs.Runs.{end_counted}
use Rattle.consts.proofs.range_end.Goals as goal

pub returns : goal.returns
returns c =
    let first = c.args.first in
    let xs = c.args.sectors.now in
    let numbered = zip (range_with_len first (invalid_sector - first)) xs in
    let zipped = c.zip-numbered.ensures in
    let counted =
    count_from_yields_List c.take_while.result _ c.count-more.ensures.ran
    (YieldsList-from_take_while _ (λ p. p.1 == p.0 + 1)
    (YieldsList-at c.take_while.ensures.source (YieldsList-from_zip (YieldsList-from_range first invalid_sector _ zipped.first refl) (YieldsList-from_slice xs zipped.second.0)))
    c.take_while.ensures.closure c.take_while.ensures.done (λ x b q k. search (rules, tests)))
    ∙ length-prefix_len (λ p. p.1 == p.0 + 1) numbered in
    ap (λ n. first + n) counted ∙ end_counted first xs
