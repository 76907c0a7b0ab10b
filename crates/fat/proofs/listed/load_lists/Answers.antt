-- The counts, the DIFAT chain and the FAT's list are tested in the definition's order. The chain that was loaded is what the places are read from.
use mathlib.Core.Path.{sym, ◌∙◌}
use native.Mathlib.Omega.{arith}
use borrow.Author.Rules.{rules}
use Rattle.lists.proofs.Cases.{not_both}
use Rattle.fat.proofs.Listing.{fats_few, difats_few, places_ready, lists_not_counts, lists_not_chain, lists_load}
use Rattle.fat.proofs.listed.load_lists.Goals as goal
use Rattle.fat.proofs.listed.load_lists.Goals.{then-counts_right, else-counts_right}

pub load_difats-requires-clause-difats_len_bound : goal.load_difats-requires-clause-difats_len_bound
load_difats-requires-clause-difats_len_bound c = (omega (arith, difats_few _ _ _ _ _ c.requires.counted, c.requires.counted.few), c.requires.n_in_bounds)

pub load_fats-requires-clause-places : goal.load_fats-requires-clause-places
load_fats-requires-clause-places c =
    elim c.if-counts_right.branch [
      | then-counts_right w ↦ places_ready _ _ _ _ _ _ _ _ _ _ c.requires.counted (search rules) c.if-counts_right.auto.difats (rw (sym w.difats-is) at w.load_difats.ensures) (sym w.value-is ∙ c.if-load_difats.true)
      | else-counts_right w ↦ absurd (not_both c.if-load_difats.true (w.value-is ∙ w.if-counts_right.false))
    ]

pub load_fats-requires-clause-fats_len_bound : goal.load_fats-requires-clause-fats_len_bound
load_fats-requires-clause-fats_len_bound c =
    (omega (arith, fats_few _ _ _ _ _ c.requires.counted, c.requires.counted.few), omega (arith, c.if-counts_right.auto.scratch, c.requires.n_in_bounds))

pub returns-then-load_difats : goal.returns-then-load_difats
returns-then-load_difats c =
    elim c.if-counts_right.branch [
      | then-counts_right w ↦ lists_load _ _ _ _ _ _ c.requires.counted.fats c.requires.counted.difats _ _ _ _
          (sym c.counts_right.ensures ∙ w.if-counts_right.true) (rw (sym w.difats-is) at w.load_difats.ensures) (sym w.value-is ∙ c.if-load_difats.true) c.load_fats.ensures
      | else-counts_right w ↦ absurd (not_both c.if-load_difats.true (w.value-is ∙ w.if-counts_right.false))
    ]

pub returns-else-load_difats : goal.returns-else-load_difats
returns-else-load_difats c =
    elim c.if-counts_right.branch [
      | then-counts_right w ↦ rw (w.value-is, w.difats-is) (lists_not_chain _ _ _ _ _ _ c.requires.counted.fats c.requires.counted.difats _ _ _ w.load_difats.ensures (sym w.value-is ∙ c.if-load_difats.false))
      | else-counts_right w ↦ lists_not_counts _ _ _ _ _ _ c.requires.counted.fats c.requires.counted.difats _ _ _ (w.value-is ∙ c.counts_right.ensures) c.if-load_difats.false
    ]
