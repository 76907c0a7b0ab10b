-- The format's versions and modes as numbers (MS-CFB 2.2). Assumes nothing.
use Rattle.std.specs.Prelude.{ℕ, Bool, true, false, eqb, Result, Ok, Err}
use Rattle.lists.specs.Lists.{choose}
use Rattle.consts.specs.declared.refusal.Refusal.{Refusal}
use Rattle.consts.specs.declared.refusal.Refusal.TheVariants as refusals
use Rattle.header.specs.declared.Version.{Version}
use Rattle.header.specs.declared.Version.TheVariants.{V3, V4}
use Rattle.header.specs.declared.Validation.{Validation}
use Rattle.header.specs.declared.Validation.TheVariants.{Permissive, Strict}

-- MS-CFB 2.2, Major Version: 3 or 4
abbrev pub major_of : Version → ℕ
major_of V3 = 3
major_of V4 = 4

-- MS-CFB 2.2, Sector Shift: 9 in version 3, 12 in version 4
abbrev pub shift_of : Version → ℕ
shift_of V3 = 9
shift_of V4 = 12

-- MS-CFB 2.2, Sector Shift: a sector has 2 to that power bytes
abbrev pub length_of : Version → ℕ
length_of V3 = 512
length_of V4 = 4096

-- the version of a major version number; any other number is refused by 4
unfoldable pub numbered_of : ℕ → Result Version Refusal
numbered_of n = choose (eqb n 3) (Ok V3) (choose (eqb n 4) (Ok V4) (Err refusals.Version))

-- the version of a header whose major version is 3 or 4
unfoldable pub version_of : ℕ → Version
version_of n = choose (eqb n 4) V4 V3

-- strict insists on every rule
abbrev pub is_strict : Validation → Bool
is_strict Permissive = false
is_strict Strict = true
