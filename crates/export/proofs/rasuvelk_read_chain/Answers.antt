-- Words that hold no state are refused by 19; else the call on the state that they hold decides.
use Rattle.export.proofs.Giving.{read_refused, read_given_lem}
use Rattle.export.proofs.rasuvelk_read_chain.Goals as goal

pub returns-in_default : goal.returns-in_default
returns-in_default c =
    let told = c.refuse_words.ensures in
    read_refused _ _ _ _ _ _ _ _ c.in_default.ensures told.value told.answer_after told.ids_after _ _

pub returns : goal.returns
returns c =
    let held = c.in-Some.ensures in
    read_given_lem _ _ _ _ _ _ _ _ _ _ held.0 held.1 _ _ c.number.ensures c.words_of_answer.ensures _ _ _ c.read-called.ensures
