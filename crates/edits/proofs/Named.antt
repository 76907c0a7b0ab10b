-- Which bytes of a header document 01 names for a change: laws of Unnamed. Assumes nothing.
use Prim.Native.Nat.{ℕ, ◌≤◌, ◌<◌}
use mathlib.Core.Path.{◌≡◌}
use mathlib.Core.Logic.{◌⊎◌, inl, inr}
use native.Mathlib.Omega.{arith}
use Rattle.stores.specs.Stores.{NotIn}
use Rattle.fields.specs.Fields.{fats_at, difat_at, entries_at, offset_of, width_of}
use Rattle.edits.specs.Untouched.{Unnamed}

-- a change within another names no more
pub unnamed_within : {k k' j j' l l' i i' b : ℕ} → Unnamed k k' j j' b → k ≤ l → l' ≤ k' → j ≤ i → i' ≤ j' → Unnamed l l' i i' b
unnamed_within n p q r s =
    record {
      number_of_fats = λ a. n.number_of_fats (omega (arith, a, p, q));
      first_difat = λ z a. n.first_difat (omega (arith, z, r)) (omega (arith, a, r, s));
      number_of_difats = λ a. n.number_of_difats (omega (arith, a, r, s));
      entry = λ x g a near. n.entry x (omega (arith, g, p)) (omega (arith, a, q)) near;
    }

-- a change that adds no FAT sector and no DIFAT sector names nothing
pub unnamed_same : {k k' j j' b : ℕ} → k' ≡ k → j' ≡ j → Unnamed k k' j j' b
unnamed_same p q =
    record {
      number_of_fats = λ a. absurd (omega (arith, a, p));
      first_difat = λ z a. absurd (omega (arith, a, q));
      number_of_difats = λ a. absurd (omega (arith, a, q));
      entry = λ x g a near. absurd (omega (arith, g, a, p));
    }

-- one that adds no DIFAT sector names none of the bytes 68 to 75
pub unnamed_difat : {k k' j j' b : ℕ} → j' ≡ j → offset_of difat_at ≤ b → b < offset_of entries_at → Unnamed k k' j j' b
unnamed_difat q low high =
    record {
      number_of_fats = λ a. inr (omega (arith, low));
      first_difat = λ z a. absurd (omega (arith, a, q));
      number_of_difats = λ a. absurd (omega (arith, a, q));
      entry = λ x g a near. inl (omega (arith, high));
    }

-- none names a byte outside 44 to 47 and 68 to 511
pub unnamed_outside : {k k' j j' b : ℕ} → NotIn (offset_of fats_at) (width_of fats_at) b → (b < offset_of difat_at) ⊎ (512 ≤ b) → Unnamed k k' j j' b
unnamed_outside c (inl l) =
    record {
      number_of_fats = λ a. c;
      first_difat = λ z a. inl l;
      number_of_difats = λ a. inl (omega (arith, l));
      entry = λ x g a near. inl (omega (arith, l));
    }
unnamed_outside c (inr h) =
    record {
      number_of_fats = λ a. c;
      first_difat = λ z a. inr (omega (arith, h));
      number_of_difats = λ a. inr (omega (arith, h));
      entry = λ x g a near. inr (omega (arith, h, near));
    }

-- and so none past the header's 512 bytes of fields
pub unnamed_past : {k k' j j' b : ℕ} → 512 ≤ b → Unnamed k k' j j' b
unnamed_past h = unnamed_outside (inr (omega (arith, h))) (inr h)
