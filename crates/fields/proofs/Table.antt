-- The rules of the table of fields, each from one computed test over the whole table. Assumes nothing.
use Prim.Native.Nat.{ℕ, ◌+◌, ◌-◌, ◌≤◌, ◌<◌}
use mathlib.Core.Path.{◌≡◌, refl, sym, ap, ◌∙◌}
use mathlib.Core.Bool.{Bool, true, not}
use mathlib.Core.List.{List}
use mathlib.Core.Logic.{◌⊎◌, inl, inr, ⊎_elim}
use native.Mathlib.Omega.{arith}
use borrow.Author.Tests.{eqb-true, leb-true, ltb-true, not-true}
use borrow.Rule.Slice.PartMut.{put_mid}
use lib.Dec.{eqb, leb, ltb}
use lib.ListN.{length, take, drop}
use lib.Seq.{take-take}
use Rattle.lists.specs.Lists.{either, every, splice, part}
use Rattle.lists.proofs.Cases.{both_left, either_cases, every_at, not_both}
use Rattle.lists.proofs.Splice.{put_mid_splice}
use Rattle.words.specs.Words.{le}
use Rattle.fields.specs.Fields.{offset_of, width_of, holds_number, number_at}

-- every field ends within the first 80 bytes
ends : ℕ → Bool
ends i = leb (offset_of i + width_of i) 80

pub field_ends : (i : ℕ) → i < 18 → offset_of i + width_of i ≤ 80
unfolding ends
field_ends i h = leb-true _ 80 (every_at 18 ends (unfold every in refl) i h)

-- a field with a number has two bytes or four
two_or_four : ℕ → Bool
two_or_four i = either (not (holds_number i)) (either (eqb (width_of i) 2) (eqb (width_of i) 4))

-- and is one of the 18
pub number_below : (i : ℕ) → holds_number i ≡ true → i < 18
number_below i h = ltb-true i 18 (both_left (ltb i 18) _ h)

-- the test, of each field with a number
pub number_width : (i : ℕ) → holds_number i ≡ true → (width_of i ≡ 2) ⊎ (width_of i ≡ 4)
unfolding two_or_four
number_width i h =
    ⊎_elim
    (λ (n : not (holds_number i) ≡ true). absurd (not_both h (not-true (holds_number i) n)))
    (λ (e : either (eqb (width_of i) 2) (eqb (width_of i) 4) ≡ true).
    ⊎_elim (λ (t : eqb (width_of i) 2 ≡ true). inl (eqb-true _ 2 t)) (λ (t : eqb (width_of i) 4 ≡ true). inr (eqb-true _ 4 t)) (either_cases _ _ e))
    (either_cases _ _ (every_at 18 two_or_four (unfold every in refl) i (number_below i h)))

-- what is not two bytes wide is four
pub number_wide : (i : ℕ) → holds_number i ≡ true → (width_of i ≡ 2 → ⊥) → width_of i ≡ 4
number_wide i h n = ⊎_elim (λ (e : width_of i ≡ 2). absurd (n e)) (λ (e : width_of i ≡ 4). e) (number_width i h)

-- a field with a number lies within a header
pub number_fits : (i l w : ℕ) → holds_number i ≡ true → 512 ≤ l → width_of i ≡ w → offset_of i + w ≤ l
number_fits i l w h whole e = let f : offset_of i + width_of i ≤ 80 = field_ends i (number_below i h) in rw (← e) (omega arith)

-- the number that the table's width gives, once the width is known
pub number_is : (b : List ℕ) (i w : ℕ) → width_of i ≡ w → le w b (offset_of i) ≡ number_at b i
unfolding number_at
number_is b i w e = ap (λ (k : ℕ). le k b (offset_of i)) (sym e)

-- a field that was lent, from o on and w bytes long as its row says, and came back as xs
pub field_stored : (b last xs : List ℕ) (o w at width : ℕ) → o ≡ at → w ≡ width → last ≡ xs → length xs ≡ width → put_mid o (o + w - o) b last ≡ splice b at xs
field_stored b last xs o w at width eo ew e l = rw (e, eo) (put_mid_splice at (at + w - at) b xs (l ∙ sym ew ∙ omega arith))

-- the first k bytes of what was lent from a field on
pub field_begins : (b : List ℕ) (o at k : ℕ) → o ≡ at → at + k ≤ length b → take k (take (length b - o) (drop o b)) ≡ part b at k
unfolding part
field_begins b o at k e h = let fits : k ≤ length b - at = omega arith in rw (e, take-take)
