-- The free list after a run of sectors is freed: the sectors in their order behind those that it had. Assumes nothing.
use Prim.Native.Nat.{ℕ, zero, suc, ◌+◌, ◌≤◌, ◌<◌}
use mathlib.Core.Path.{◌≡◌, refl, ◌∙◌, ap}
use mathlib.Core.List.{List}
use native.Mathlib.Omega.{arith}
use lib.ListN.{length, get_or, set, length-set}
use lib.Seq.{get_or-set_same, get_or-set_other}
use Rattle.disk.specs.Disk.{set_fat}
use Rattle.hand.specs.Hand.{Hand, point, free_sector_of, free_run}
use Rattle.hand.proofs.Freeing.{free_none, free_more, free_one_count}
use Rattle.edits.proofs.Growing.{SameLists}

-- one sector freed
one_frees : (S : ℕ) (h : Hand) (i : ℕ) → (free_sector_of S h i).frees ≡ set h.frees h.free i
unfolding free_sector_of
one_frees S h i = refl

pub free_one_lists : (S : ℕ) (h : Hand) (i : ℕ) → SameLists h.disk (free_sector_of S h i).disk
unfolding free_sector_of point set_fat
free_one_lists S h i = record { sectors = refl; fats = refl; difats = refl }

-- what the free list had stays
pub free_run_stays : (S : ℕ) (h : Hand) (ids : List ℕ) (i c j : ℕ) → j < h.free → get_or (free_run S h ids i c).frees j 0 ≡ get_or h.frees j 0
free_run_stays S h ids i zero j l = rw free_none
free_run_stays S h ids i (suc c) j l =
    rw free_more
    (free_run_stays S (free_sector_of S h (get_or ids i 0)) ids (suc i) c j (omega (arith, free_one_count S h (get_or ids i 0)))
    ∙ ap (λ (xs : List ℕ). get_or xs j 0) (one_frees S h (get_or ids i 0))
    ∙ get_or-set_other h.frees h.free j (get_or ids i 0) 0 (omega arith))

-- and the freed ones stand behind it
pub free_run_at : (S : ℕ) (h : Hand) (ids : List ℕ) (i c j : ℕ) → h.free + c ≤ length h.frees → j < c → get_or (free_run S h ids i c).frees (h.free + j) 0 ≡ get_or ids (i + j) 0
free_run_at S h ids i zero j room l = absurd (omega arith)
free_run_at S h ids i (suc c) zero room l =
    let here : h.free + 0 ≡ h.free = omega arith in
    let there : i + 0 ≡ i = omega arith in
    rw (free_more, here, there)
    (free_run_stays S (free_sector_of S h (get_or ids i 0)) ids (suc i) c h.free (omega (arith, free_one_count S h (get_or ids i 0)))
    ∙ ap (λ (xs : List ℕ). get_or xs h.free 0) (one_frees S h (get_or ids i 0))
    ∙ get_or-set_same h.frees h.free (get_or ids i 0) 0 (omega arith))
free_run_at S h ids i (suc c) (suc j) room l =
    let next : Hand = free_sector_of S h (get_or ids i 0) in
    let long : length next.frees ≡ length h.frees = ap length (one_frees S h (get_or ids i 0)) ∙ length-set h.frees h.free (get_or ids i 0) in
    let count : next.free ≡ suc h.free = free_one_count S h (get_or ids i 0) in
    let here : h.free + suc j ≡ next.free + j = omega (arith, count) in
    let there : suc i + j ≡ i + suc j = omega arith in
    rw (free_more, here)
    (free_run_at S next ids (suc i) c j (omega (arith, long, count, room)) (omega (arith, l)) ∙ ap (λ (k : ℕ). get_or ids k 0) there)

-- the lists of the FAT and the DIFAT stay
pub free_run_lists : (S : ℕ) (h : Hand) (ids : List ℕ) (i c : ℕ) → SameLists h.disk (free_run S h ids i c).disk
free_run_lists S h ids i zero = rw free_none (record { sectors = refl; fats = refl; difats = refl })
free_run_lists S h ids i (suc c) =
    let one = free_one_lists S h (get_or ids i 0) in
    let more = free_run_lists S (free_sector_of S h (get_or ids i 0)) ids (suc i) c in
    rw free_more
    (record { sectors = more.sectors ∙ one.sectors; fats = more.fats ∙ one.fats; difats = more.difats ∙ one.difats })
