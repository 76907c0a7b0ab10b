-- Each stored place is one of its number, so all stand exactly where no number has two.
use mathlib.Core.Path.{◌∙◌}
use Rattle.fat.proofs.Differing.{below_kept, places_tell}
use Rattle.fat.proofs.places.different.Goals as goal

pub put_places-requires : goal.put_places-requires
put_places-requires c = record { list_value = c.requires.list_value; list_len_bound = c.requires.list_len_bound }

pub places_stand-requires : goal.places_stand-requires
places_stand-requires c = below_kept _ _ c.args.list.now c.put_places.auto.scratch c.requires.list_value

pub returns : goal.returns
returns c = c.places_stand.ensures ∙ places_tell c.args.list.now c.put_places.new.scratch c.put_places.ensures
