-- The eight numbers are copied over the front of the words, and the list over the others.
use mathlib.Core.Path.{refl}
use Rattle.layout.proofs.Placing.{words_stored}
use Rattle.layout.proofs.words_of.Goals as goal

pub returns : goal.returns
returns c = words_stored c.args.h _ refl c.number.ensures c.copy_from_slice.ensures.after c.copy_from_slice-2.ensures.after
