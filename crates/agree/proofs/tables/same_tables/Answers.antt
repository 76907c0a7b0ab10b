-- The lists, the tail and the FAT are tested in turn; right lists cover the FAT's entries; then the entries and the marks decide.
use Prim.Native.Nat.{◌≤◌}
use mathlib.Core.Path.{◌≡◌, refl, sym, ◌∙◌}
use mathlib.Core.Bool.{true}
use native.Mathlib.Omega.{arith}
use lib.ListN.{length}
use lib.Seq.{length-take-le}
use Rattle.agree.specs.Parts.{lists_same}
use Rattle.agree.proofs.Listing.{relent}
use Rattle.agree.proofs.Accepting.{tables_lists, tables_tail, tables_fat, tables_told, tables_cover, tables_fat_lent}
use Rattle.agree.proofs.tables.same_tables.Goals as goal
use Rattle.agree.proofs.tables.same_tables.Goals.{After-same_lists, Else-not-same_lists}

room : (c : After-same_lists) → length c.args.tables.fat.now ≤ length c.same_lists.new.scratch
room c = omega (arith, c.same_lists.auto.scratch, c.requires.below)

right : (c : Else-not-same_lists) → lists_same c.args.s c.args.image.now c.args.h (length c.args.tables.fat.now) c.args.tables.fats.now c.args.tables.difats.now ≡ true
right c = sym c.same_lists.ensures ∙ c.if-not-same_lists.false

pub same_lists-requires : goal.same_lists-requires
same_lists-requires c = record { counted = c.requires.counted; below = c.requires.below }

pub returns-then-not-same_lists : goal.returns-then-not-same_lists
returns-then-not-same_lists c = tables_lists _ _ _ _ _ _ _ _ _ (sym c.same_lists.ensures ∙ c.if-not-same_lists.true)

pub tail_free-requires : goal.tail_free-requires
tail_free-requires c = tables_cover _ _ _ _ _ _ _ _ _ c.requires (right c)

pub returns-then-not-tail_free : goal.returns-then-not-tail_free
returns-then-not-tail_free c = tables_tail _ _ _ _ _ _ _ _ _ (sym c.tail_free.ensures ∙ c.if-not-tail_free.true)

pub slice_bounds-same_fat-end-2 : goal.slice_bounds-same_fat-end-2
slice_bounds-same_fat-end-2 c =
    let passed = goal.at.slice_bounds-same_fat-end-2 c in
    sym (length-take-le _ _ (room passed.After-same_lists))

pub same_fat-requires : goal.same_fat-requires
same_fat-requires c =
    let passed = goal.at.same_fat-requires c in
    tables_fat_lent _ _ _ _ _ _ _ _ _ _ c.requires (right passed.Else-not-same_lists) (length-take-le _ _ (room passed.After-same_lists))

pub returns-then-not-same_fat : goal.returns-then-not-same_fat
returns-then-not-same_fat c =
    tables_fat _ _ _ _ _ _ _ _ _ (omega (arith, c.requires.counted.few)) refl (sym c.same_fat.ensures ∙ c.if-not-same_fat.true)

pub same_points-requires : goal.same_points-requires
same_points-requires c =
    let passed = goal.at.same_points-requires c in
    record {
      few = omega (arith, c.requires.counted.few);
      below = relent c.same_fat.new.room c.same_lists.new.scratch _ _ c.same_fat.auto.room (room passed.After-same_lists) (room passed.After-same_lists);
      marked = c.requires.marked;
    }

pub returns : goal.returns
returns c =
    let passed = goal.at.returns c in
    tables_told _ _ _ _ _ _ _ _ _ (omega (arith, c.requires.counted.few)) refl _ (right passed.Else-not-same_lists) (sym c.tail_free.ensures ∙ c.if-not-tail_free.false)
    (sym c.same_fat.ensures ∙ c.if-not-same_fat.false) c.same_points.ensures
