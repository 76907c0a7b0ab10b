-- The first rows of the opening, 1 to 11, and what is known once they are passed. Assumes nothing.
use Prim.Native.Nat.{ℕ, ◌+◌, ◌-◌, ◌*◌, ◌/◌, ◌%◌, ◌≤◌, ◌<◌, min}
use mathlib.Core.Path.{◌≡◌, refl, sym, ◌∙◌, ap}
use mathlib.Core.Bool.{not}
use mathlib.Core.List.{List, [], ◌∷◌, ◌++◌}
use mathlib.Core.Logic.{⊎_elim, ◌≢◌}
use native.Mathlib.Nat.{div-add-mod', zero-mul, le_trans, div-mul-le_self, le-div_iff_mul-le}
use native.Mathlib.Omega.{arith}
use borrow.Author.Tests.{lt-ltb, le-ltb, eq-eqb, ne_eqb, eqb-true, ltb-false, not-false}
use lib.Dec.{eqb, ltb}
use lib.ListN.{length}
use Rattle.std.specs.Prelude.{Result, Ok, Err}
use Rattle.lists.specs.Lists.{either}
use Rattle.lists.specs.Rows.{row, refusal, distinct, fresh}
use Rattle.lists.proofs.Cases.{same_or, either_right, either_none}
use Rattle.lists.proofs.Rows.{stop, pass, append_given, append_none, given_none}
use Rattle.header.specs.Versions.{length_of}
use Rattle.consts.specs.Refusals.{number_of}
use Rattle.consts.specs.declared.refusal.Refusal.{Refusal}
use Rattle.consts.proofs.Refusals.{answers_apart}
use Rattle.header.specs.Read.{header_rows, read_rows, read_no, header_of}
use Rattle.header.specs.declared.Version.{Version}
use Rattle.header.specs.declared.Version.TheVariants.{V3, V4}
use Rattle.header.specs.declared.Validation.{Validation}
use Rattle.header.specs.declared.Header.{Header}
use Rattle.fat.specs.Lists.{most, sectors_in, room_of}
use Rattle.sectors.specs.Sectors.{Holds}
use Rattle.alloc.specs.Opening.{first_rows}
use Rattle.alloc.specs.Early.{EarlySays, early_of}
use Rattle.alloc.specs.declared.early.Early.{Early}

module _ (m : Validation) (img : List ℕ) (used short : ℕ) where
  pub early_below : used < 512 → 1 ≡ refusal (first_rows m img used short)
  unfolding first_rows
  early_below h = sym (stop 1 _ _ (rw (lt-ltb used 512 h)))

  pub early_above : length img < used → 1 ≡ refusal (first_rows m img used short)
  unfolding first_rows
  early_above h = sym (stop 1 _ _ (either_right (ltb used 512) _ (lt-ltb (length img) used h)))

  module _ (low : 512 ≤ used) (high : used ≤ length img) where
    past_1 : refusal (first_rows m img used short)
        ≡ refusal (header_rows m img ++ (row 10 (either (not (eqb (used % length_of (header_of img).version) 0)) (ltb most (sectors_in (length_of (header_of img).version) used)))
        ∷ row 11 (ltb short (room_of (length_of (header_of img).version) (length img))) ∷ []))
    unfolding first_rows
    past_1 = pass 1 _ _ (rw (le-ltb used 512 low, le-ltb (length img) used high))

    read_is : read_no m img ≡ refusal (header_rows m img)
    unfolding read_no read_rows
    read_is = pass 1 _ _ (le-ltb (length img) 512 (omega arith))

    pub early_header : (w : ℕ) → w ≡ read_no m img → (w ≡ 0 → ⊥) → w ≡ refusal (first_rows m img used short)
    early_header w e n = e ∙ read_is ∙ sym (past_1 ∙ append_given (header_rows m img) _ (λ z. n (e ∙ read_is ∙ z)))

    module _ (read : read_no m img ≡ 0) (S : ℕ) (own : S ≡ length_of (header_of img).version) where
      past_9 : refusal (first_rows m img used short) ≡ refusal (row 10 (either (not (eqb (used % S) 0)) (ltb most (sectors_in S used))) ∷ row 11 (ltb short (room_of S (length img))) ∷ [])
      unfolding header_rows distinct fresh
      past_9 = rw own (past_1 ∙ append_none (header_rows m img) _ refl (sym read_is ∙ read))

      pub early_odd : (used % S ≡ 0 → ⊥) → 10 ≡ refusal (first_rows m img used short)
      early_odd n = sym (past_9 ∙ stop 10 _ _ (rw (ne_eqb _ 0 n)))

      pub early_many : most < used / S - 1 → 10 ≡ refusal (first_rows m img used short)
      unfolding sectors_in
      early_many h = sym (past_9 ∙ stop 10 _ _ (either_right (not (eqb (used % S) 0)) _ (lt-ltb most _ h)))

      module _ (even : used % S ≡ 0) (few : used / S - 1 ≤ most) where
        past_10 : refusal (first_rows m img used short) ≡ refusal (row 11 (ltb short (room_of S (length img))) ∷ [])
        unfolding sectors_in
        past_10 = past_9 ∙ pass 10 _ _ (rw (eq-eqb _ 0 even, le-ltb most _ few))

        pub early_short : short < room_of S (length img) → 11 ≡ refusal (first_rows m img used short)
        early_short h = sym (past_10 ∙ stop 11 _ _ (lt-ltb short _ h))

        pub early_passed : (h : Header) → h ≡ header_of img → room_of S (length img) ≤ short → EarlySays img used m short (Ok (record { len = S; sectors = used / S - 1; header = h }))
        unfolding refusal early_of sectors_in
        early_passed h e l = record { number = sym (past_10 ∙ pass 11 _ [] (le-ltb short _ l)); early = rw (own, e) }

-- a refusal with its number
pub early_no : (m : Validation) (img : List ℕ) (used short : ℕ) (e : Refusal) → number_of e ≡ refusal (first_rows m img used short) → EarlySays img used m short (Err e)
early_no m img used short e k = record { number = k; early = tt }

-- any two permitted results are the same
pub early_unique : (img : List ℕ) (used : ℕ) (m : Validation) (short : ℕ) (r q : Result Early Refusal) → EarlySays img used m short r → EarlySays img used m short q → r ≡ q
early_unique img used m short r q s t = answers_apart r q (early_of img used) (s.number ∙ sym t.number) s.early t.early

-- a sector is not empty, and whole sectors that hold something are one at least
pub length_some : (v : Version) → 512 ≤ length_of v
length_some V3 = omega arith
length_some V4 = omega arith

pub one_whole : (used s : ℕ) → 1 ≤ used → used % s ≡ 0 → 1 ≤ used / s
one_whole used s h e =
    ⊎_elim
    (λ (z : used / s ≡ 0). absurd (omega (arith, div-add-mod' used s, ap (λ (q : ℕ). q * s) z, zero-mul s)))
    (λ (n : used / s ≢ 0). omega arith)
    (same_or (used / s) 0)

-- whole sectors of a version, of which an image has so many bytes
version_holds : (v : Version) (n len : ℕ) → (n + 1) * length_of v ≤ len → Holds (length_of v) n len
version_holds V3 n len h = record { entries = refl; two = omega arith; fits = h }
version_holds V4 n len h = record { entries = refl; two = omega arith; fits = h }

-- fewer bytes are no more sectors
sectors_within : (s used len : ℕ) → 1 ≤ s → used ≤ len → used / s ≤ len / s
sectors_within s used len h l = (le-div_iff_mul-le {k = s} {x = used / s} {y = len} h).1 (le_trans (div-mul-le_self used s) l)

-- what is known of an image that passes the first rows: its sectors are there, and are no more than the room of each table
pub early_held : (m : Validation) (img : List ℕ) (used short : ℕ) → refusal (first_rows m img used short) ≡ 0
    → Holds (length_of (header_of img).version) (sectors_in (length_of (header_of img).version) used) (length img)
    × (sectors_in (length_of (header_of img).version) used ≤ most)
    × (sectors_in (length_of (header_of img).version) used ≤ short)
unfolding first_rows header_rows distinct fresh sectors_in room_of
early_held m img used short z =
    let v = (header_of img).version in
    let none = given_none (first_rows m img used short) refl z in
    let ends = either_none _ _ (none 0 (omega arith)) in
    let whole = either_none _ _ (none 9 (omega arith)) in
    let low : 512 ≤ used = ltb-false _ _ ends.0 in
    let high : used ≤ length img = ltb-false _ _ ends.1 in
    let even : used % length_of v ≡ 0 = eqb-true _ _ (not-false _ whole.0) in
    let few : used / length_of v - 1 ≤ most = ltb-false _ _ whole.1 in
    let room : min most (length img / length_of v - 1) ≤ short = ltb-false _ _ (none 10 (omega arith)) in
    let one : 1 ≤ used / length_of v = one_whole used (length_of v) (omega arith) even in
    let count : used / length_of v - 1 + 1 ≡ used / length_of v = omega arith in
    let fits : (used / length_of v - 1 + 1) * length_of v ≤ length img = rw count (le_trans (div-mul-le_self used (length_of v)) high) in
    let within : used / length_of v ≤ length img / length_of v = sectors_within (length_of v) used (length img) (omega (arith, length_some v)) high in
    (version_holds v _ _ fits, few, omega (arith, room, few, within))
