-- What the lent tables hold past their counts (document 01, "Opening an image"). Assumes nothing.
use Rattle.std.specs.Prelude.{ℕ, ◌≤◌, ◌≡◌, get_or}
use Rattle.hand.specs.Hand.{Hand}
use Rattle.edits.specs.Roles.{fats_held, difats_held}

-- document 01, 19: the lent marks are zero past those of the sectors
abbrev pub Blank : Hand → Type 0
Blank h = (i : ℕ) → h.disk.sectors ≤ i → get_or h.marks i 0 ≡ 0

-- document 01: past its count each table holds zero
pub record Tailed (S : ℕ) (h : Hand) : Type 0 where
  pub fat : (i : ℕ) → h.disk.sectors ≤ i → get_or h.disk.fat i 0 ≡ 0
  pub fats : (i : ℕ) → fats_held S h.disk ≤ i → get_or h.disk.fats i 0 ≡ 0
  pub difats : (i : ℕ) → difats_held S h.disk ≤ i → get_or h.disk.difats i 0 ≡ 0
  pub frees : (i : ℕ) → h.free ≤ i → get_or h.frees i 0 ≡ 0
  pub marks : Blank h
