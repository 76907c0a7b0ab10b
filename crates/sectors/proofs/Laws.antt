-- The laws of sectors and of the table that lies in them, over the sector's length S. Assumes nothing.
use Prim.Native.Nat.{ℕ, ◌+◌, ◌-◌, ◌*◌, ◌/◌, ◌%◌, ◌≤◌, ◌<◌}
use mathlib.Core.Path.{◌≡◌, ◌∙◌}
use mathlib.Core.List.{List}
use native.Mathlib.Omega.{arith}
use native.Mathlib.Nat.{mul-one, mul-le-mul_left, mul-le-mul_right, add-mul, one-mul, add-zero, mul-add-div_right, mul-add-mod_self_right, div-eq_of_lt, mod-eq_of_lt}
use lib.ListN.{length, get_or, take, drop}
use Rattle.lists.specs.Lists.{part}
use Rattle.lists.proofs.Splice.{length_part}
use Rattle.sectors.specs.Sectors.{start_of, sector_of, per_sector, entry_in, entry_of, Holds}

-- a number is at most its multiple
pub scaled : (a s : ℕ) → 1 ≤ s → a ≤ a * s
scaled a s h = rw mul-one at (mul-le-mul_left a h)

-- a sector that was lent as a part of the image
pub lent_sector : (S i : ℕ) (img : List ℕ) → take ((i + 1) * S + S - (i + 1) * S) (drop ((i + 1) * S) img) ≡ sector_of S img i
unfolding sector_of part
lent_sector S i img = let k : (i + 1) * S + S - (i + 1) * S ≡ S = omega arith in rw k

-- the same, between where it begins and where it ends
pub spanned_sector : (S i : ℕ) (img : List ℕ) (a e : ℕ) → (a ≡ start_of S i) × (e ≡ start_of S i + S) → take (e - a) (drop a img) ≡ sector_of S img i
spanned_sector S i img a e at = rw (at.0, at.1) (lent_sector S i img)

pub length_sector : (S i : ℕ) (img : List ℕ) → start_of S i + S ≤ length img → length (sector_of S img i) ≡ S
unfolding sector_of
length_sector S i img inside = length_part img (start_of S i) S inside

-- a sector below n lies within an image that holds n
pub sector_within : (S n len i : ℕ) → Holds S n len → i < n → (i + 1) * S + S ≤ len
sector_within S n len i h l =
    let m : (i + 1 + 1) * S ≤ (n + 1) * S = mul-le-mul_right S (omega arith) in
    omega (arith, add-mul (i + 1) 1 S, one-mul S, h.fits)

-- the last entry of a sector
pub last_within : (S n len : ℕ) → Holds S n len → 4 * (per_sector S - 1) + 4 ≤ S
last_within S n len h = omega (arith, h.entries, h.two)

-- an entry of the table, by its sector and its place in it
pub entry_in_sector : (S : ℕ) (img ids : List ℕ) (p j : ℕ) → j < per_sector S → entry_of S img ids (p * per_sector S + j) ≡ entry_in (sector_of S img (get_or ids p 0)) j
unfolding entry_of
entry_in_sector S img ids p j h =
    let pos : 1 ≤ per_sector S = omega arith in
    let quot : (p * per_sector S + j) / per_sector S ≡ p = mul-add-div_right {m = per_sector S} pos p j ∙ rw (div-eq_of_lt h, add-zero) in
    let rest : (p * per_sector S + j) % per_sector S ≡ j = mul-add-mod_self_right p (per_sector S) j ∙ mod-eq_of_lt h in
    rw (quot, rest)
