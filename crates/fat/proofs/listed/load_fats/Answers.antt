-- The listing tells whether all are below n, then FREE must follow, and only then is the list looked through for repeats: together the definition's test.
use Prim.Native.Nat.{ℕ}
use mathlib.Core.Path.{sym, ◌∙◌, ap}
use lib.ListN.{length}
use Rattle.lists.proofs.Cases.{not_both}
use Rattle.fat.specs.Lists.{rest_free}
use Rattle.fat.proofs.Listing.{below_more, fats_not, fats_more, fats_below, fats_load}
use Rattle.fat.proofs.listed.load_fats.Goals as goal
use Rattle.fat.proofs.listed.load_fats.Goals.{then-list_fats, else-list_fats}

pub different-requires-clause-list_value : goal.different-requires-clause-list_value
different-requires-clause-list_value c =
    elim c.if-list_fats.branch [
      | then-list_fats w ↦ below_more _ _ _ c.requires.fats_len_bound.1 (fats_below _ _ _ _ _ _ _ _ c.list_fats.ensures w.if-list_fats.true)
      | else-list_fats w ↦ absurd (not_both c.if-rest_free.true (w.value-is ∙ w.if-list_fats.false))
    ]

pub returns-then-rest_free : goal.returns-then-rest_free
returns-then-rest_free c =
    elim c.if-list_fats.branch [
      | then-list_fats w ↦ let same = ap (λ (k : ℕ). rest_free c.args.s c.args.image.now c.args.list.now c.args.difats.now k (length c.args.difats.now)) c.list_fats.auto.fats in
          fats_load _ _ _ _ _ _ _ _ _ c.list_fats.ensures w.if-list_fats.true (sym (w.rest_free.ensures ∙ same) ∙ sym w.value-is ∙ c.if-rest_free.true) c.different.ensures
      | else-list_fats w ↦ absurd (not_both c.if-rest_free.true (w.value-is ∙ w.if-list_fats.false))
    ]

pub returns-else-rest_free : goal.returns-else-rest_free
returns-else-rest_free c =
    elim c.if-list_fats.branch [
      | then-list_fats w ↦ let same = ap (λ (k : ℕ). rest_free c.args.s c.args.image.now c.args.list.now c.args.difats.now k (length c.args.difats.now)) c.list_fats.auto.fats in
          fats_more _ _ _ _ _ _ _ _ (w.value-is ∙ w.rest_free.ensures ∙ same) c.if-rest_free.false
      | else-list_fats w ↦ rw w.value-is (fats_not _ _ _ _ _ _ _ _ c.list_fats.ensures w.if-list_fats.false)
    ]
