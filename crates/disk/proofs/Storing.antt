-- Where an entry and a link stand within their sector, and that a sector's number is small. Assumes nothing.
use Prim.Native.Nat.{ℕ, ◌+◌, ◌-◌, ◌*◌, ◌%◌, ◌≤◌, ◌<◌}
use mathlib.Core.Path.{◌≡◌}
use native.Mathlib.Omega.{arith}
use native.Mathlib.Nat.{mod-lt}
use Rattle.sectors.specs.Sectors.{start_of, per_sector}
use Rattle.sectors.proofs.Laws.{scaled}

-- the number of a sector that lies within an image is below the image's length
pub sector_small : (S len i : ℕ) → 1 ≤ S → start_of S i + S ≤ len → i < len
sector_small S len i some h = omega (arith, scaled (i + 1) S some, h)

-- an entry lies within its sector
pub entry_within : (S i : ℕ) → S ≡ 4 * per_sector S → 1 ≤ per_sector S → 4 * (i % per_sector S) + 4 ≤ S
entry_within S i e some = omega (arith, mod-lt i {m = per_sector S} some, e)

-- and so does the last one, which links a DIFAT sector to the next
pub link_within : (S : ℕ) → 512 ≤ S → S ≡ 4 * per_sector S → 4 * (per_sector S - 1) + 4 ≤ S
link_within S h e = omega (arith, h, e)
