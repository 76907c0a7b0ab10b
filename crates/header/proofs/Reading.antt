-- The number that a reading ends with, row by row, and what the reader then says. Assumes nothing.
use Prim.Native.Nat.{ℕ, ◌≤◌, ◌<◌}
use mathlib.Core.Path.{◌≡◌, refl, sym, ◌∙◌}
use mathlib.Core.Bool.{true, false, not}
use mathlib.Core.List.{List, [], ◌∷◌}
use borrow.Author.Tests.{lt-ltb, le-ltb, eq-eqb, ne_eqb}
use lib.ListN.{length}
use Rattle.lists.specs.Lists.{part, same_list}
use Rattle.lists.specs.Rows.{row, refusal, distinct}
use Rattle.lists.proofs.Rows.{Passed, passed_none, passed_more, passed_given, append_given, append_none}
use Rattle.consts.specs.Consts.{signature}
use Rattle.fields.specs.Fields.{list_of, ids_then_free}
use Rattle.header.specs.Read.{fixed_of, fixed_rows, read_rows, read_no, header_of, none, header_left, ReadSays}
use Rattle.header.specs.declared.Validation.{Validation}
use Rattle.header.specs.declared.Header.{Header}
use Rattle.consts.specs.Refusals.{number_of}
use Rattle.consts.specs.declared.refusal.Refusal.{Refusal}
use Rattle.std.specs.Prelude.{Result, Ok, Err}
use Rattle.std.specs.Result.{result_unwrap_or}
use Rattle.consts.proofs.Refusals.{number_not}

module _ (m : Validation) (b : List ℕ) where
  pub gives_1 : length b < 512 → 1 ≡ read_no m b
  unfolding read_no
  gives_1 h = passed_given (read_rows m b) 0 (passed_none _) (lt-ltb _ _ h)

  -- past the length, past the signature
  module _ (whole : 512 ≤ length b) where
    past_1 : Passed (read_rows m b) 1
    unfolding read_rows
    past_1 = passed_more (read_rows m b) 0 (passed_none _) (le-ltb _ _ whole)

    pub gives_2 : same_list (part b 0 8) signature ≡ false → 2 ≡ read_no m b
    unfolding read_no
    gives_2 h = passed_given (read_rows m b) 1 past_1 (rw h)

    module _ (signed : same_list (part b 0 8) signature ≡ true) where
      past_2 : Passed (read_rows m b) 2
      unfolding read_rows
      past_2 = passed_more (read_rows m b) 1 past_1 (rw signed)

      -- the numbers refuse
      pub gives_fixed : (k : ℕ) → k ≡ refusal (fixed_rows m (fixed_of b)) → (k ≡ 0 → ⊥) → k ≡ read_no m b
      unfolding read_no
      gives_fixed k e n = e ∙ sym (past_2.rest ∙ append_given (fixed_rows m (fixed_of b)) _ (λ z. n (e ∙ z)))

      -- the numbers pass, and the list decides
      module _ (passed : 0 ≡ refusal (fixed_rows m (fixed_of b))) where
        nine : read_no m b ≡ refusal (row 9 (not (ids_then_free (list_of b))) ∷ [])
        unfolding read_no fixed_rows distinct
        nine = past_2.rest ∙ append_none (fixed_rows m (fixed_of b)) _ refl (sym passed)

        pub gives_9 : ids_then_free (list_of b) ≡ false → 9 ≡ read_no m b
        unfolding refusal
        gives_9 h = sym (nine ∙ rw h)

        pub gives_0 : ids_then_free (list_of b) ≡ true → 0 ≡ read_no m b
        unfolding refusal
        gives_0 h = sym (nine ∙ rw h)

-- a refusal with its number, and a header that is read
pub says_no : (m : Validation) (b : List ℕ) (e : Refusal) → number_of e ≡ read_no m b → ReadSays b m (Err e)
says_no m b e k = record { number = k; header = tt }

pub says_yes : (m : Validation) (b : List ℕ) (h : Header) → h ≡ header_of b → 0 ≡ read_no m b → ReadSays b m (Ok h)
says_yes m b h e k = record { number = k; header = e }

-- the header that a reading leaves, with the empty one beside a refusal
pub left_by : (m : Validation) (b : List ℕ) (r : Result Header Refusal) → ReadSays b m r → result_unwrap_or r none ≡ header_left m b
left_by m b (Ok h) says = says.header ∙ rw (eq-eqb (read_no m b) 0 (sym says.number))
left_by m b (Err e) says = rw (ne_eqb (read_no m b) 0 (λ z. number_not e (says.number ∙ z)))
