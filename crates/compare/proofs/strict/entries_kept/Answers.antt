-- The fours of a sector's bytes are its entries.
use Rattle.std.proofs.Common.{rules, ◌∙◌}
use Rattle.std.specs.Int.{w32, from_le_bytes}
use Rattle.std.proofs.lemmas.Iterator.{YieldsList-from_slice, YieldsList-from_zip}
use Rattle.points.proofs.Folding.{fold_all}
use Rattle.compare.specs.Compare.{entry_kept}
use Rattle.compare.proofs.Running.{sector_tested}
use Rattle.compare.proofs.strict.entries_kept.Goals as goal

pub returns : goal.returns
returns c =
    fold_all (λ (e, own). entry_kept c.args.limit (from_le_bytes w32 own) e) _ _ c.fold.ensures.ran
    (YieldsList-from_zip (YieldsList-from_slice c.args.fat.now cc) (YieldsList-from_slice c.as_chunks.result.0.now cc)) (λ a x b f' k. search rules)
    ∙ sector_tested (entry_kept c.args.limit) _ _ _ c.requires c.as_chunks.ensures.front
