-- The places are listed into the room, and the room compared.
use mathlib.Core.Path.{◌∙◌}
use lib.ListN.{length}
use Rattle.fat.specs.Loaded.{PlacesListed}
use Rattle.agree.proofs.Comparing.{slices_same}
use Rattle.agree.proofs.Listing.{places_as_long, places_unlisted, places_compared, places_room}
use Rattle.agree.proofs.listed.are_places.Goals as goal
use Rattle.agree.proofs.listed.are_places.Goals.{After-list_fats}

listed : (c : After-list_fats) → PlacesListed c.args.s c.args.image.now c.args.n c.args.list.now c.args.difats.now (length c.args.fats.now) c.list_fats.result c.list_fats.new.fats
listed c = places_as_long _ _ _ _ _ _ _ _ _ c.requires.same c.list_fats.ensures

pub list_fats-requires : goal.list_fats-requires
list_fats-requires c = places_room _ _ _ _ _ _ _ c.requires

pub returns-then-not-list_fats : goal.returns-then-not-list_fats
returns-then-not-list_fats c =
    let passed = goal.at.returns-then-not-list_fats c in
    places_unlisted _ _ _ _ _ _ _ _ _ (listed passed.After-list_fats) (c.if-not-list_fats.true)

pub returns : goal.returns
returns c =
    let passed = goal.at.returns c in
    places_compared _ _ _ _ _ _ _ _ _ _ (listed passed.After-list_fats) (c.if-not-list_fats.false) (c.eq.ensures ∙ slices_same _ _)
