-- What the writer puts, a reader of either mode gives back. Assumes nothing.
use Prim.Native.Nat.{ℕ, zero, suc, ◌+◌, ◌*◌, ◌^◌, ◌≤◌, ◌<◌}
use mathlib.Core.Path.{◌≡◌, refl, sym, ◌∙◌, ap, ap₂}
use mathlib.Core.Bool.{true, false, not}
use mathlib.Core.List.{List, [], ◌∷◌, ◌++◌, append_assoc}
use native.Mathlib.Omega.{arith}
use native.Mathlib.Nat.{zero-add}
use borrow.Author.Tests.{ne_eqb, eqb-true, eqb-false, not-false}
use lib.Dec.{eqb}
use lib.ListN.{length, get_or, length-append, get_or-append}
use lib.Seq.{get_or-append-add}
use Rattle.lists.specs.Lists.{splice, part, Below}
use Rattle.lists.specs.Rows.{refusal, distinct, fresh}
use Rattle.lists.proofs.Cases.{either_none}
use Rattle.lists.proofs.Rows.{given_none}
use Rattle.lists.proofs.Splice.{length_splice, part_inside, same_list_refl}
use Rattle.lists.proofs.Tab.{is_tab}
use Rattle.words.specs.Words.{le, digits}
use Rattle.words.proofs.Laws.{le_ext, le_inside, le_digits, length_digits}
use Rattle.consts.specs.Consts.{signature, byte_order, mini_shift, mini_cutoff, free_sector}
use Rattle.fields.specs.Fields.{order_at, major_at, shift_at, mini_at, dirs_at, fats_at, dir_at, cutoff_at, minifat_at, minifats_at, difat_at, difats_at, offset_of, width_of, number_at, entry_at, list_of, ids_then_free, list_bytes, unreadable}
use Rattle.header.specs.Versions.{major_of, shift_of, version_of}
use Rattle.header.specs.Read.{fixed_of, fixed_rows, unknown, counts_dirs, dirs_of, end_if_free, header_of, read_no}
use Rattle.header.specs.Write.{start_bytes, number_bytes, header_bytes, write_rows, write_no, Sized}
use Rattle.header.specs.declared.Version.{Version}
use Rattle.header.specs.declared.Version.TheVariants.{V3, V4}
use Rattle.header.specs.declared.Validation.{Validation}
use Rattle.header.specs.declared.Validation.TheVariants.{Permissive, Strict}
use Rattle.header.specs.declared.Header.{Header}
use Rattle.header.specs.declared.judge.Fixed.{Fixed}
use Rattle.fields.proofs.Listed.{length_list_bytes}
use Rattle.header.proofs.Reading.{gives_0}
use Rattle.header.proofs.Writing.{length_start, length_numbers}

-- entry i of the bytes of a list
pub listed_entry : (xs : List ℕ) (i : ℕ) → Below (2 ^ 32) xs → i < length xs → le 4 (list_bytes xs) (4 * i) ≡ get_or xs i 0
unfolding list_bytes
listed_entry [] i low h = absurd (omega arith)
listed_entry (x ∷ xs) zero low h =
    le_ext 4 (digits 4 x ++ list_bytes xs) (digits 4 x) (4 * 0) 0
    (λ k hk. rw zero-add (get_or-append (digits 4 x) (list_bytes xs) 0 k (rw (length_digits 4 x) hk)))
    ∙ le_digits 4 x (low.each 0 (omega arith))
listed_entry (x ∷ xs) (suc i) low h =
    let rest : le 4 (list_bytes xs) (4 * i) ≡ get_or xs i 0 = listed_entry xs i (record { each = λ j hj. low.each (suc j) (omega arith) }) (omega arith) in
    le_ext 4 (digits 4 x ++ list_bytes xs) (list_bytes xs) (4 * suc i) (4 * i)
    (λ k hk.
    let p : 4 * suc i + k ≡ length (digits 4 x) + (4 * i + k) = omega (arith, length_digits 4 x) in
    ap (λ (q : ℕ). get_or (digits 4 x ++ list_bytes xs) q 0) p ∙ get_or-append-add (digits 4 x) (list_bytes xs) (4 * i + k) 0)
    ∙ rest

pub length_header : (h : Header) → length h.list ≡ 109 → length (header_bytes h) ≡ 512
unfolding header_bytes
length_header h n =
    length-append (start_bytes h.version) (number_bytes h ++ list_bytes h.list)
    ∙ omega (arith, length_start h.version, length-append (number_bytes h) (list_bytes h.list), length_numbers h, length_list_bytes h.list, n)

-- a version comes back from its number
version_back : (v : Version) → version_of (major_of v) ≡ v
unfolding version_of
version_back V3 = refl
version_back V4 = refl

-- directory sectors that the writer lets pass are those that are read
dirs_kept : (v : Version) (dirs : ℕ) → counts_dirs Strict (major_of v) dirs ≡ false → dirs_of (major_of v) dirs ≡ dirs
unfolding counts_dirs dirs_of
dirs_kept V3 dirs c = sym (eqb-true dirs 0 (not-false (eqb dirs 0) c))
dirs_kept V4 dirs c = refl

end_kept : (n : ℕ) → (n ≡ free_sector → ⊥) → end_if_free n ≡ n
unfolding end_if_free
end_kept n f = rw (ne_eqb n free_sector f)

-- the numbers that a written header is judged by, and that they pass
fixed_written : Version → ℕ → Fixed
fixed_written v dirs = record { order = byte_order; major = major_of v; shift = shift_of v; mini = mini_shift; dirs = dirs; cutoff = mini_cutoff }

fixed_passes : (m : Validation) (v : Version) (dirs : ℕ) → counts_dirs Strict (major_of v) dirs ≡ false → refusal (fixed_rows m (fixed_written v dirs)) ≡ 0
unfolding fixed_rows fixed_written refusal unknown version_of counts_dirs
fixed_passes Permissive V3 dirs c = refl
fixed_passes Permissive V4 dirs c = refl
fixed_passes Strict V3 dirs c = rw c
fixed_passes Strict V4 dirs c = refl

-- what an accepting writer tells
readable : (list : List ℕ) (difat : ℕ) → unreadable list difat ≡ false → (ids_then_free list ≡ true) × (difat ≡ free_sector → ⊥)
unfolding unreadable
readable list difat h =
    let both : (not (ids_then_free list) ≡ false) × (eqb difat free_sector ≡ false) = either_none _ _ h in
    (not-false _ both.0, eqb-false _ _ both.1)

accepted : (h : Header) (n : ℕ) → write_no h n ≡ 0 → (counts_dirs Strict (major_of h.version) h.dirs ≡ false) × (unreadable h.list h.difat ≡ false)
unfolding write_no write_rows distinct fresh
accepted h n e = let none = given_none (write_rows h n) refl e in (none 1 (omega arith), none 2 (omega arith))

module _ (h : Header) (s : Sized h) where
  -- the numbers in a header's own bytes
  own_list : (i : ℕ) → i < 109 → le 4 (header_bytes h) (76 + 4 * i) ≡ get_or h.list i 0
  unfolding header_bytes
  own_list i l =
      le_ext 4 (start_bytes h.version ++ (number_bytes h ++ list_bytes h.list)) (list_bytes h.list) (76 + 4 * i) (4 * i) at
      ∙ listed_entry h.list i s.list (omega (arith, s.entries))
    where
      front : List ℕ
      front = start_bytes h.version ++ number_bytes h

      front_length : length front ≡ 76
      front_length = length-append (start_bytes h.version) (number_bytes h) ∙ omega (arith, length_start h.version, length_numbers h)

      at : (k : ℕ) → k < 4 → get_or (start_bytes h.version ++ (number_bytes h ++ list_bytes h.list)) (76 + 4 * i + k) 0 ≡ get_or (list_bytes h.list) (4 * i + k) 0
      at k hk =
          let p : 76 + 4 * i + k ≡ length front + (4 * i + k) = omega (arith, front_length) in
          ap (λ (q : ℕ). get_or (start_bytes h.version ++ (number_bytes h ++ list_bytes h.list)) q 0) p
          ∙ ap (λ (l : List ℕ). get_or l (length front + (4 * i + k)) 0) (sym (append_assoc (start_bytes h.version) (number_bytes h) (list_bytes h.list)))
          ∙ get_or-append-add front (list_bytes h.list) (4 * i + k) 0

  -- a buffer that the header was written to
  module _ (b : List ℕ) (whole : 512 ≤ length b) where
    w : List ℕ
    w = splice b 0 (header_bytes h)

    fits : 0 + length (header_bytes h) ≤ length b
    fits = omega (arith, length_header h s.entries)

    -- a field of it is the field of the header's own bytes
    within : (i : ℕ) → offset_of i + width_of i ≤ 512 → number_at w i ≡ le (width_of i) (header_bytes h) (offset_of i)
    unfolding number_at w
    within i l =
        ap (λ (o : ℕ). le (width_of i) (splice b 0 (header_bytes h)) o) (sym (zero-add (offset_of i)))
        ∙ le_inside (width_of i) b 0 (header_bytes h) (offset_of i) fits (omega (arith, length_header h s.entries))

    -- a field comes back as the number whose bytes stand there
    back : (i v : ℕ) → offset_of i + width_of i ≤ 512 → le (width_of i) (header_bytes h) (offset_of i) ≡ le (width_of i) (digits (width_of i) v) 0 → v < 256 ^ width_of i → number_at w i ≡ v
    back i v l e low = within i l ∙ e ∙ le_digits (width_of i) v low

    list_back : list_of w ≡ h.list
    unfolding list_of entry_at w
    list_back =
        sym (is_tab h.list (entry_at w) 109 s.entries
        (λ i l. sym (
        ap (λ (o : ℕ). le 4 (splice b 0 (header_bytes h)) o) (sym (zero-add (76 + 4 * i)))
        ∙ le_inside 4 b 0 (header_bytes h) (76 + 4 * i) fits (omega (arith, length_header h s.entries))
        ∙ own_list i l)))

    signature_back : part w 0 8 ≡ signature
    unfolding header_bytes start_bytes part w
    signature_back = part_inside b 0 (header_bytes h) fits 0 8 (omega (arith, length_header h s.entries)) ∙ refl

    major_back : number_at w major_at ≡ major_of h.version
    unfolding header_bytes digits le
    major_back = back major_at (major_of h.version) (omega arith) refl (small h.version)
      where
        small : (v : Version) → major_of v < 256 ^ 2
        small V3 = omega arith
        small V4 = omega arith

    fixed_back : fixed_of w ≡ fixed_written h.version h.dirs
    unfolding header_bytes digits le fixed_of fixed_written
    fixed_back = λ j.
        record {
          order = back order_at byte_order (omega arith) refl (omega arith) j;
          major = major_back j;
          shift = back shift_at (shift_of h.version) (omega arith) refl (small h.version) j;
          mini = back mini_at mini_shift (omega arith) refl (omega arith) j;
          dirs = back dirs_at h.dirs (omega arith) refl s.dirs j;
          cutoff = back cutoff_at mini_cutoff (omega arith) refl (omega arith) j;
        }
      where
        small : (v : Version) → shift_of v < 256 ^ 2
        small V3 = omega arith
        small V4 = omega arith

    -- the content, where the writer had no cause against it
    content_back : counts_dirs Strict (major_of h.version) h.dirs ≡ false → (h.difat ≡ free_sector → ⊥) → header_of w ≡ h
    unfolding header_bytes digits le header_of
    content_back c f = λ j.
        record {
          version = (ap version_of major_back ∙ version_back h.version) j;
          dirs = (ap₂ dirs_of major_back (back dirs_at h.dirs (omega arith) refl s.dirs) ∙ dirs_kept h.version h.dirs c) j;
          fats = back fats_at h.fats (omega arith) refl s.fats j;
          dir = back dir_at h.dir (omega arith) refl s.dir j;
          minifat = back minifat_at h.minifat (omega arith) refl s.minifat j;
          minifats = back minifats_at h.minifats (omega arith) refl s.minifats j;
          difat = (ap end_if_free (back difat_at h.difat (omega arith) refl s.difat) ∙ end_kept h.difat f) j;
          difats = back difats_at h.difats (omega arith) refl s.difats j;
          list = list_back j;
        }

    -- a reader of either mode has no cause against it, and gives the header
    pub written_reads : (m : Validation) → write_no h (length b) ≡ 0
        → (read_no m (splice b 0 (header_bytes h)) ≡ 0) × (header_of (splice b 0 (header_bytes h)) ≡ h)
    unfolding w
    written_reads m e = (
      sym (gives_0 m w (rw (length_splice b 0 (header_bytes h) fits) whole) (rw signature_back (same_list_refl signature))
          (sym (ap (λ (f : Fixed). refusal (fixed_rows m f)) fixed_back ∙ fixed_passes m h.version h.dirs kept.0))
          (rw list_back good.0)),
      content_back kept.0 good.1,
    )
      where
        kept : (counts_dirs Strict (major_of h.version) h.dirs ≡ false) × (unreadable h.list h.difat ≡ false)
        kept = accepted h (length b) e

        good : (ids_then_free h.list ≡ true) × (h.difat ≡ free_sector → ⊥)
        good = readable h.list h.difat kept.1
