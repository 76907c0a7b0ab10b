-- Which sectors a change takes (document 01, "Calls on a chain"), over the sector's length S. Assumes nothing.
use Rattle.std.specs.Prelude.{ℕ, suc, ◌+◌, ◌-◌, ◌*◌, List, ltb, get_or}
use Rattle.lists.specs.Lists.{choose}
use Rattle.sectors.specs.Sectors.{per_sector}
use Rattle.disk.specs.Disk.{count_after}

-- document 01: the i-th sector that is taken: from the end of the free list; when it is empty, the last of the sectors that there are then
unfoldable pub taken_at : ℕ → ℕ → List ℕ → ℕ → ℕ → ℕ
unfolding count_after
taken_at S n frees free i = choose (ltb i free) (get_or frees (free - 1 - i) 0) (count_after S n (suc (i - free)) - 1)

-- document 01: where n is a multiple of E, sector n becomes a FAT sector: the one that is added at place p of the FAT's list is sector p E
abbrev pub added_fat : ℕ → ℕ → ℕ
added_fat S p = p * per_sector S

-- document 01: where its place is 109 or later and no DIFAT sector holds it, the sector after it becomes a DIFAT sector, which holds E - 1 places: the one that is added at place q of the DIFAT's list follows the FAT sector at place 109 + q (E - 1)
abbrev pub added_difat : ℕ → ℕ → ℕ
added_difat S q = added_fat S (109 + q * (per_sector S - 1)) + 1
