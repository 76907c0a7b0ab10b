-- The sectors that are taken, computed for document 01's cases. Assumes nothing.
use mathlib.Core.Path.{◌≡◌, refl}
use mathlib.Core.List.{[], ◌∷◌}
use Rattle.disk.specs.Disk.{count_after, one_more, after_fat, needs_difat}
use Rattle.fat.specs.Lists.{ceil, difat_count}
use Rattle.edits.specs.Order.{taken_at, added_fat, added_difat}

-- cases 2 and 7: image Q has 6 sectors of which 4 and 5 are FREE: 5, 4 and then 6 are taken
pub q_takes : (taken_at 512 6 (4 ∷ 5 ∷ []) 2 0 ∷ taken_at 512 6 (4 ∷ 5 ∷ []) 2 1 ∷ taken_at 512 6 (4 ∷ 5 ∷ []) 2 2 ∷ []) ≡ (5 ∷ 4 ∷ 6 ∷ [])
unfolding taken_at count_after one_more
q_takes = refl

-- case 9: a header alone: FAT 0, data 1
pub none_takes : (added_fat 512 0 ∷ taken_at 512 0 [] 0 0 ∷ []) ≡ (0 ∷ 1 ∷ [])
unfolding taken_at count_after one_more after_fat needs_difat difat_count ceil
none_takes = refl

-- case 11: 128 sectors, none FREE: FAT 128, data 129
pub full_takes : (added_fat 512 1 ∷ taken_at 512 128 [] 0 0 ∷ []) ≡ (128 ∷ 129 ∷ [])
unfolding taken_at count_after one_more after_fat needs_difat difat_count ceil
full_takes = refl

-- case 12: 13,952 sectors, none FREE: FAT 13,952, DIFAT 13,953, data 13,954
pub many_takes : (added_fat 512 109 ∷ added_difat 512 0 ∷ taken_at 512 13952 [] 0 0 ∷ []) ≡ (13952 ∷ 13953 ∷ 13954 ∷ [])
unfolding taken_at count_after one_more after_fat needs_difat difat_count ceil
many_takes = refl
