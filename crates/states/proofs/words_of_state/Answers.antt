-- `states::words_of_state` meets its contract: the four numbers are stored over the zeros before the header's words.
use Rattle.states.proofs.Holding.{state_stored}
use Rattle.states.proofs.words_of_state.Goals as goal

pub returns : goal.returns
returns c = state_stored c.args.s c.words_of.ensures c.state_with-words.ensures c.number_of_mode.ensures
