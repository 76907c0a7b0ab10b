-- When a FAT in memory is that of an image, in either mode (document 01, 14, 15 and 19). Assumes nothing.
use Rattle.std.specs.Prelude.{ℕ, Bool, List, eqb, ltb, length, get_or}
use Rattle.lists.specs.Lists.{both, either, every, same_list}
use Rattle.consts.specs.Consts.{max_regular, difat_sector, fat_sector}
use Rattle.judge.specs.Judge.{all_marked, marked_fat, forgiven_fat}

-- document 01, 15: an entry in memory is the image's own, and is below the limit or not regular
unfoldable pub entry_kept : ℕ → ℕ → ℕ → Bool
entry_kept limit own e = both (eqb e own) (either (ltb e limit) (ltb max_regular e))

-- `entry_kept` holds of every entry i of a FAT in memory, with own i as the image's entry i
abbrev pub entries_kept : ℕ → (ℕ → ℕ) → List ℕ → Bool
entries_kept limit own fat = every (length fat) (λ i. entry_kept limit (own i) (get_or fat i 0))

-- document 01, 14 and 15, strict: a FAT in memory is the image's own, forgiving leaves it as it is, and its listed sectors have their marks
unfoldable pub strict_same : List ℕ → List ℕ → List ℕ → List ℕ → Bool
strict_same raw difats fats fat =
    both (both (same_list fat raw) (same_list fat (forgiven_fat (length fat) fat)))
    (both (all_marked fat difats difat_sector) (all_marked fat fats fat_sector))

-- document 01, 14 and 15, permissive: a FAT in memory is the image's own, marked and forgiven
abbrev pub permissive_same : List ℕ → List ℕ → List ℕ → List ℕ → Bool
permissive_same raw difats fats fat = same_list fat (forgiven_fat (length fat) (marked_fat raw difats fats))
