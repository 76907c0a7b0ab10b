-- The id list is zero past what a walk listed. Assumes nothing.
use Prim.Native.Nat.{ℕ}
use mathlib.Core.Path.{◌≡◌, refl}
use mathlib.Core.List.{List}
use lib.ListN.{length, take}
use Rattle.std.specs.Prelude.{Result, Ok, Err}
use Rattle.std.specs.Result.{result_unwrap_or}
use Rattle.consts.specs.declared.refusal.Refusal.{Refusal}
use Rattle.alloc.specs.Opening.{padded}
use Rattle.cfb.specs.Listed.{cleared}

-- zeros past the ids of a walk, and beside a refusal nothing else
pub cleared_as : (w : Result ℕ Refusal) (ids : List ℕ) → padded (take (result_unwrap_or w 0) ids) (length ids) ≡ cleared w ids
unfolding cleared
cleared_as (Ok count) ids = refl
cleared_as (Err e) ids = refl
