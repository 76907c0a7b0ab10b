-- The front of the list that the test holds of, counted.
use Rattle.std.proofs.Common.{ℕ, rules, tests, ◌∙◌}
use Rattle.std.proofs.lemmas.Iterator.{YieldsList-from_slice}
use Rattle.std.proofs.lemmas.Iterator.Consumers.{count_from_yields_List}
use Rattle.std.proofs.lemmas.Iterator.Search.{YieldsList-from_take_while}
use Rattle.std.proofs.lemmas.List.Folds.{length-prefix_len}
use lib.Dec.{leb}
use Rattle.consts.specs.Consts.{max_regular}
use Rattle.fields.proofs.Listed.{ids_prefix}
use Rattle.fields.proofs.entries.leading_ids.Goals as goal

pub returns : goal.returns
returns c =
    let xs = c.args.list.now in
    let test = λ (x : ℕ). leb x max_regular in
    count_from_yields_List c.take_while.result _ c.count.ensures.ran
    (YieldsList-from_take_while _ test (YieldsList-from_slice xs (cc)) c.take_while.ensures.closure c.take_while.ensures.done (λ x b q k. search (rules, tests)))
    ∙ length-prefix_len test xs
    ∙ ids_prefix xs
