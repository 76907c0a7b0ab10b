-- The number, the words of the state, and the tables are those that the opening leaves.
use Rattle.std.proofs.Common.{rules}
use Rattle.export.proofs.Answers.{opening_gives}
use Rattle.export.proofs.rasuvelk_open.Goals as goal

pub returns : goal.returns
returns c =
    let told = opening_gives _ _ _ _ _ _ _ _ _ _ c.mode_of.ensures c.open-opened.ensures.opens c.number.ensures c.words_of_state.ensures in
    search (rules, told)
