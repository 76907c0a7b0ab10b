-- Each call of the closure reads the entry of its place.
use Rattle.std.proofs.Common.{rules}
use Rattle.lists.proofs.Tab.{made_tab}
use Rattle.fields.specs.Fields.{entry_at, list_of}
use Rattle.fields.proofs.entries.read_list.Goals as goal

pub returns : goal.returns
unfolding list_of entry_at
returns c = made_tab _ _ (entry_at c.args.b.now) _ 109 (λ i x q l k. search rules) c.from_fn.ensures.items
