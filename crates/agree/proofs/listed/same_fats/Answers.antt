-- The list is compared, FREE must follow, and then it is looked through for repeats: together the definition's test.
use mathlib.Core.Path.{sym, ◌∙◌}
use lib.Seq.{length-take-le}
use Rattle.fat.proofs.Listing.{below_more}
use Rattle.agree.proofs.Listing.{relent, fats_wrong, fats_followed, fats_low, fats_told}
use Rattle.agree.proofs.listed.same_fats.Goals as goal

pub slice_bounds-are_places-end-2 : goal.slice_bounds-are_places-end-2
slice_bounds-are_places-end-2 c = sym (length-take-le _ _ c.requires.within)

pub are_places-requires : goal.are_places-requires
are_places-requires c = record { places = c.requires.places; same = length-take-le _ _ c.requires.within }

pub returns-then-not-are_places : goal.returns-then-not-are_places
returns-then-not-are_places c = fats_wrong _ _ _ _ _ _ _ _ c.are_places.ensures (c.if-not-are_places.true)

pub rest_free-requires : goal.rest_free-requires
rest_free-requires c = c.requires.places

pub returns-then-not-rest_free : goal.returns-then-not-rest_free
returns-then-not-rest_free c = fats_followed _ _ _ _ _ _ _ (sym c.rest_free.ensures ∙ c.if-not-rest_free.true)

pub different-requires : goal.different-requires
different-requires c =
    record { list_value = below_more _ _ _ (relent c.are_places.new.room c.args.scratch.now _ _ c.are_places.auto.room c.requires.within c.requires.below) (fats_low _ _ _ _ _ _ _ _ c.are_places.ensures (c.if-not-are_places.false)); list_len_bound = c.requires.few }

pub returns : goal.returns
returns c =
    fats_told _ _ _ _ _ _ _ _ c.are_places.ensures _ (c.if-not-are_places.false) (sym c.rest_free.ensures ∙ c.if-not-rest_free.false) c.different.ensures
