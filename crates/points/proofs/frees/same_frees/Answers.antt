-- The number, the range, the entries and the repeats are tested in turn; a list that passes has every FREE sector, by its number.
use mathlib.Core.Path.{◌≡◌, sym, ◌∙◌}
use mathlib.Core.Bool.{true}
use native.Mathlib.Omega.{arith}
use lib.ListN.{length}
use Rattle.fat.specs.Lists.{all_below}
use Rattle.fat.proofs.Listing.{below_more}
use Rattle.judge.specs.Judge.{frees_of}
use Rattle.judge.proofs.Judging.{frees_few}
use Rattle.points.proofs.Freeing.{frees_number, frees_range, frees_entries, frees_different}
use Rattle.points.proofs.frees.same_frees.Goals as goal
use Rattle.points.proofs.frees.same_frees.Goals.{Else-frees-count_free, Else-not-all_below}

counted : (c : Else-frees-count_free) → length c.args.frees.now ≡ length (frees_of (length c.args.fat.now) c.args.fat.now)
counted c = c.if-frees-count_free.false ∙ c.count_free.ensures

ranged : (c : Else-not-all_below) → all_below (length c.args.fat.now) c.args.frees.now ≡ true
ranged c = sym c.all_below.ensures ∙ c.if-not-all_below.false

pub count_free-requires : goal.count_free-requires
count_free-requires c = omega (arith, c.requires.few)

pub returns-then-frees-count_free : goal.returns-then-frees-count_free
returns-then-frees-count_free c = frees_number _ _ (λ e. c.if-frees-count_free.true (e ∙ sym c.count_free.ensures))

pub overflow_cast-limit : goal.overflow_cast-limit
overflow_cast-limit c = omega (arith, c.requires.few)

pub returns-then-not-all_below : goal.returns-then-not-all_below
returns-then-not-all_below c =
    let passed = goal.at.returns-then-not-all_below c in
    frees_range _ _ (counted passed.Else-frees-count_free) (sym c.all_below.ensures ∙ c.if-not-all_below.true)

pub all_marked-requires : goal.all_marked-requires
all_marked-requires c = ranged c

pub returns-then-not-all_marked : goal.returns-then-not-all_marked
returns-then-not-all_marked c =
    let passed = goal.at.returns-then-not-all_marked c in
    frees_entries _ _ (counted passed.Else-frees-count_free) (sym c.all_marked.ensures ∙ c.if-not-all_marked.true)

pub different-requires : goal.different-requires
different-requires c =
    let passed = goal.at.different-requires c in
    record { list_value = below_more _ _ _ c.requires.below (ranged passed.Else-not-all_below); list_len_bound = omega (arith, counted passed.Else-frees-count_free, frees_few (length c.args.fat.now) c.args.fat.now, c.requires.few) }

pub returns : goal.returns
returns c =
    let passed = goal.at.returns c in
    frees_different _ _ (counted passed.Else-frees-count_free) _ (ranged passed.Else-not-all_below) (sym c.all_marked.ensures ∙ c.if-not-all_marked.false) c.different.ensures
