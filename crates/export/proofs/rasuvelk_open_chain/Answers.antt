-- Words that hold no state are refused by 19; else the call on the state that they hold decides.
use Rattle.export.proofs.Giving.{open_refused, open_given}
use Rattle.export.proofs.rasuvelk_open_chain.Goals as goal

pub returns-in_default : goal.returns-in_default
returns-in_default c =
    let told = c.refuse_words.ensures in
    open_refused _ _ _ _ _ _ _ _ c.in_default.ensures told.value told.answer_after told.ids_after

pub returns : goal.returns
returns c =
    let held = c.in-Some.ensures in
    open_given _ _ _ _ _ _ _ _ _ _ held.0 held.1 _ _ c.number.ensures c.words_of_answer.ensures c.open_chain-called.ensures
