-- The bytes of a header, put one field after the other, and what the writer then says. Assumes nothing.
use Prim.Native.Nat.{ℕ, ◌*◌, ◌≤◌, ◌<◌}
use mathlib.Core.Path.{◌≡◌, refl, sym, ◌∙◌, ap}
use mathlib.Core.Bool.{true, false}
use mathlib.Core.List.{List}
use native.Mathlib.Omega.{arith}
use borrow.Author.Tests.{lt-ltb, le-ltb, eq-eqb, ne_eqb}
use lib.ListN.{length, replicate}
use Rattle.lists.specs.Lists.{splice}
use Rattle.lists.proofs.Rows.{Passed, passed_none, passed_more, passed_given, passed_all}
use Rattle.lists.proofs.Splice.{splice_next}
use Rattle.words.specs.Words.{digits}
use Rattle.consts.specs.Consts.{signature, minor_version, byte_order, mini_shift, mini_cutoff}
use Rattle.header.specs.Versions.{major_of, shift_of}
use Rattle.header.specs.Read.{counts_dirs}
use Rattle.fields.specs.Fields.{list_bytes, unreadable}
use Rattle.header.specs.Write.{start_bytes, number_bytes, header_bytes, write_rows, write_no, WriteSays}
use Rattle.header.specs.declared.Version.{Version}
use Rattle.header.specs.declared.Validation.TheVariants.{Strict}
use Rattle.header.specs.declared.Header.{Header}
use Rattle.consts.specs.Refusals.{number_of}
use Rattle.consts.specs.declared.refusal.Refusal.{Refusal}
use Rattle.consts.proofs.Refusals.{number_not}
use Rattle.std.specs.Prelude.{Ok, Err}
use Rattle.fields.proofs.Listed.{length_list_bytes}

-- the fields from the signature to the reserved bytes, b being the buffer before, b1 to b8 after each store
pub start_stored : (v : Version) (major shift : ℕ) (b b1 b2 b3 b4 b5 b6 b7 b8 : List ℕ) → 512 ≤ length b → major ≡ major_of v → shift ≡ shift_of v
    → b1 ≡ splice b 0 signature
    → b2 ≡ splice b1 8 (replicate 16 0)
    → b3 ≡ splice b2 24 (digits 2 minor_version)
    → b4 ≡ splice b3 26 (digits 2 major)
    → b5 ≡ splice b4 28 (digits 2 byte_order)
    → b6 ≡ splice b5 30 (digits 2 shift)
    → b7 ≡ splice b6 32 (digits 2 mini_shift)
    → b8 ≡ splice b7 34 (replicate 6 0)
    → b8 ≡ splice b 0 (start_bytes v)
unfolding start_bytes digits
start_stored v major shift b b1 b2 b3 b4 b5 b6 b7 b8 h em es e1 e2 e3 e4 e5 e6 e7 e8 =
    let f2 = splice_next b 0 signature (replicate 16 0) e1 e2 (omega arith) in
    let f3 = splice_next b 0 _ (digits 2 minor_version) f2 e3 (omega arith) in
    let f4 = splice_next b 0 _ (digits 2 (major_of v)) f3 (rw em at e4) (omega arith) in
    let f5 = splice_next b 0 _ (digits 2 byte_order) f4 e5 (omega arith) in
    let f6 = splice_next b 0 _ (digits 2 (shift_of v)) f5 (rw es at e6) (omega arith) in
    let f7 = splice_next b 0 _ (digits 2 mini_shift) f6 e7 (omega arith) in
    splice_next b 0 _ (replicate 6 0) f7 e8 (omega arith)

-- the fields from the count of directory sectors to that of DIFAT sectors
pub numbers_stored : (h : Header) (b b1 b2 b3 b4 b5 b6 b7 b8 b9 : List ℕ) → 512 ≤ length b
    → b1 ≡ splice b 40 (digits 4 h.dirs)
    → b2 ≡ splice b1 44 (digits 4 h.fats)
    → b3 ≡ splice b2 48 (digits 4 h.dir)
    → b4 ≡ splice b3 52 (digits 4 0)
    → b5 ≡ splice b4 56 (digits 4 mini_cutoff)
    → b6 ≡ splice b5 60 (digits 4 h.minifat)
    → b7 ≡ splice b6 64 (digits 4 h.minifats)
    → b8 ≡ splice b7 68 (digits 4 h.difat)
    → b9 ≡ splice b8 72 (digits 4 h.difats)
    → b9 ≡ splice b 40 (number_bytes h)
unfolding number_bytes digits
numbers_stored h b b1 b2 b3 b4 b5 b6 b7 b8 b9 l e1 e2 e3 e4 e5 e6 e7 e8 e9 =
    let f2 = splice_next b 40 _ (digits 4 h.fats) e1 e2 (omega arith) in
    let f3 = splice_next b 40 _ (digits 4 h.dir) f2 e3 (omega arith) in
    let f4 = splice_next b 40 _ (digits 4 0) f3 e4 (omega arith) in
    let f5 = splice_next b 40 _ (digits 4 mini_cutoff) f4 e5 (omega arith) in
    let f6 = splice_next b 40 _ (digits 4 h.minifat) f5 e6 (omega arith) in
    let f7 = splice_next b 40 _ (digits 4 h.minifats) f6 e7 (omega arith) in
    let f8 = splice_next b 40 _ (digits 4 h.difat) f7 e8 (omega arith) in
    splice_next b 40 _ (digits 4 h.difats) f8 e9 (omega arith)

-- the three parts of a header, one after the other
pub length_start : (v : Version) → length (start_bytes v) ≡ 40
unfolding start_bytes digits
length_start v = refl

pub length_numbers : (h : Header) → length (number_bytes h) ≡ 36
unfolding number_bytes digits
length_numbers h = refl

pub header_stored : (h : Header) (b b1 b2 b3 : List ℕ) → 512 ≤ length b → length h.list ≡ 109
    → b1 ≡ splice b 0 (start_bytes h.version)
    → b2 ≡ splice b1 40 (number_bytes h)
    → b3 ≡ splice b2 76 (list_bytes h.list)
    → b3 ≡ splice b 0 (header_bytes h)
unfolding header_bytes start_bytes number_bytes digits
header_stored h b b1 b2 b3 l n e1 e2 e3 =
    let k : length (list_bytes h.list) ≡ 436 = length_list_bytes h.list ∙ ap (λ (x : ℕ). 4 * x) n in
    let f2 = splice_next b 0 (start_bytes h.version) (number_bytes h) e1 e2 (omega arith) in
    splice_next b 0 _ (list_bytes h.list) f2 e3 (omega arith)

-- the writer's numbers, row by row
module _ (h : Header) (n : ℕ) where
  pub gives_1 : n < 512 → 1 ≡ write_no h n
  unfolding write_no
  gives_1 l = passed_given (write_rows h n) 0 (passed_none _) (lt-ltb _ _ l)

  module _ (whole : 512 ≤ n) where
    past_1 : Passed (write_rows h n) 1
    unfolding write_rows
    past_1 = passed_more (write_rows h n) 0 (passed_none _) (le-ltb _ _ whole)

    pub gives_7 : counts_dirs Strict (major_of h.version) h.dirs ≡ true → 7 ≡ write_no h n
    unfolding write_no
    gives_7 t = passed_given (write_rows h n) 1 past_1 t

    module _ (none : counts_dirs Strict (major_of h.version) h.dirs ≡ false) where
      past_2 : Passed (write_rows h n) 2
      unfolding write_rows
      past_2 = passed_more (write_rows h n) 1 past_1 none

      pub gives_9 : unreadable h.list h.difat ≡ true → 9 ≡ write_no h n
      unfolding write_no
      gives_9 t = passed_given (write_rows h n) 2 past_2 t

      pub gives_0 : unreadable h.list h.difat ≡ false → 0 ≡ write_no h n
      unfolding write_no
      gives_0 t = passed_all (write_rows h n) (passed_more (write_rows h n) 2 past_2 t)

-- a refusal with its number leaves the buffer, and a header is written
pub says_no : (h : Header) (b : List ℕ) (e : Refusal) → number_of e ≡ write_no h (length b) → WriteSays h b b (Err e)
says_no h b e k = record { number = k; buffer = rw (ne_eqb (write_no h (length b)) 0 (λ z. number_not e (k ∙ z))) }

pub says_yes : (h : Header) (b after : List ℕ) → after ≡ splice b 0 (header_bytes h) → 0 ≡ write_no h (length b) → WriteSays h b after (Ok tt)
says_yes h b after e k = record { number = k; buffer = e ∙ rw (eq-eqb (write_no h (length b)) 0 (sym k)) }
