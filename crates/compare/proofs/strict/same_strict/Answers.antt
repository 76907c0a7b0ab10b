-- A FAT that is not the image's own, or that forgiving would change, fails; of one that is, the listed sectors decide.
use Rattle.compare.proofs.Keeping.{strict_differs, strict_told}
use Rattle.compare.proofs.strict.same_strict.Goals as goal

pub returns-then-not-fat_kept : goal.returns-then-not-fat_kept
returns-then-not-fat_kept c =
    let a = c.args in
    strict_differs a.s a.image.now a.difats.now a.fats.now a.fat.now _ c.limit_of-limit.ensures _ c.fat_kept.ensures (c.if-not-fat_kept.true)

pub returns : goal.returns
returns c =
    strict_told _ _ _ _ _ _ c.limit_of-limit.ensures _ c.fat_kept.ensures _ (c.if-not-fat_kept.false) c.listed_marked.ensures
