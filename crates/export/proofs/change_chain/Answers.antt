-- Words that hold no state are refused by 19; else the call on the state that they hold decides, and its answer and state are given as words.
use Rattle.export.proofs.Changing.{change_refused, edit_given}
use Rattle.export.proofs.change_chain.Goals as goal

pub returns-in_default-clause-gives : goal.returns-in_default-clause-gives
returns-in_default-clause-gives c =
    let told = c.refuse_words.ensures in
    change_refused _ _ _ _ _ _ _ _ _ _ c.in_default.ensures told.value told.answer_after told.ids_after

pub returns-clause-gives : goal.returns-clause-gives
returns-clause-gives c =
    let held = c.in-Some.ensures in
    let told = c.give.ensures in
    edit_given _ _ _ _ _ _ _ _ _ held.0 held.1 held.2 _ _ _ told.value told.state_after told.answer_after _ c.args.edit c.args.buf.now c.change-called.ensures.edits
