-- Each FAT sector comes with the part of the table that it holds.
use Rattle.std.proofs.Common.{rules, length, ◌∙◌, arith}
use Rattle.std.specs.List.{zip}
use Rattle.std.specs.Simd.{first_chunks}
use Rattle.std.specs.Slice.Iter.{chunks_steps}
use Rattle.std.proofs.lemmas.Fn.{fronts}
use Rattle.std.proofs.lemmas.Iterator.{YieldsList, YieldsList-from_slice, YieldsList-from_zip, zips}
use Rattle.sectors.specs.Sectors.{per_sector, entry_in, sector_of}
use Rattle.points.proofs.Folding.{fold_all, fold_asks, YieldsList-from_chunks}
use Rattle.compare.specs.Compare.{entry_kept, entries_kept}
use Rattle.compare.proofs.Running.{sector_asked, sectors_tested}
use Rattle.compare.proofs.strict.fat_kept.Goals as goal
use Rattle.compare.proofs.strict.fat_kept.Goals.{After-zip}

road : (c : After-zip) → YieldsList (zips fronts chunks_steps) (λ p. (p.0.now, p.1.now)) c.zip.result (zip c.args.fats.now (first_chunks (per_sector c.args.s) (length c.args.fats.now) c.args.fat.now))
road c =
    let two = c.requires.holds.two in
    YieldsList-from_zip (YieldsList-from_slice c.args.fats.now cc) (YieldsList-from_chunks (per_sector c.args.s) (length c.args.fats.now) c.args.fat.now (omega arith) c.requires.enough c.requires.last (cc) (cc))

pub fold-requires-clause-callable : goal.fold-requires-clause-callable
fold-requires-clause-callable c =
    let passed = goal.at.fold-requires-clause-callable c in
    fold_asks (road passed.After-zip) (λ b x r f' k. search rules)
    (λ b x p h e. let asked = sector_asked _ _ _ _ _ c.requires p x.0.now x.1.now h e in search rules)

pub returns : goal.returns
returns c =
    let passed = goal.at.returns c in
    fold_all (λ (id, tbl). entries_kept c.args.limit (entry_in (sector_of c.args.s c.args.image.now id)) tbl) _ _ c.fold.ensures.ran
    (road passed.After-zip) (λ a x b f' k. search rules)
    ∙ sectors_tested _ _ _ _ _ c.requires c.args.image.now (entry_kept c.args.limit)
