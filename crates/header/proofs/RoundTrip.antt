-- What the reader gave comes back, and the writer's 9 is what no reader could give. Assumes nothing.
use Prim.Native.Nat.{ℕ, ◌+◌, ◌*◌, ◌^◌, ◌≤◌, ◌<◌}
use mathlib.Core.Path.{◌≡◌, refl, sym, ◌∙◌, ap}
use mathlib.Core.Bool.{Bool, true, false, not}
use mathlib.Core.List.{List, [], ◌∷◌, ◌++◌}
use mathlib.Core.Logic.{◌⊎◌, inl, inr, ⊎_elim, ◌≢◌, ◌↔◌}
use native.Mathlib.Omega.{arith}
use borrow.Author.Tests.{eq-eqb, ne_eqb, eqb-true, ltb-false, not-true, not-false}
use lib.Dec.{eqb}
use lib.ListN.{length, replicate, length-replicate}
use Rattle.lists.specs.Lists.{choose, splice, Below}
use Rattle.lists.specs.Rows.{distinct, fresh}
use Rattle.lists.proofs.Cases.{true_or, same_or, not_both, either_cases, either_right}
use Rattle.lists.proofs.Rows.{First, given_first, given_none}
use Rattle.lists.proofs.Splice.{below_splice, below_append, below_replicate}
use Rattle.lists.proofs.Tab.{length_tab, get_or_tab}
use Rattle.words.specs.Words.{le, digits}
use Rattle.words.proofs.Laws.{le_below, below_digits}
use Rattle.consts.specs.Consts.{signature, minor_version, byte_order, mini_shift, mini_cutoff, end_of_chain, free_sector}
use Rattle.fields.specs.Fields.{major_at, dirs_at, difat_at, number_at, entry_at, list_of, ids_then_free, list_bytes, unreadable}
use Rattle.header.specs.Versions.{major_of, shift_of, version_of}
use Rattle.header.specs.Read.{unknown, counts_dirs, read_rows, read_no, dirs_of, end_if_free, header_of}
use Rattle.header.specs.Write.{start_bytes, number_bytes, header_bytes, write_rows, write_no, Sized}
use Rattle.header.specs.declared.Version.TheVariants.{V3}
use Rattle.header.specs.declared.Validation.{Validation}
use Rattle.header.specs.declared.Validation.TheVariants.{Strict}
use Rattle.header.specs.declared.Header.{Header}
use Rattle.header.proofs.Writing.{gives_0, gives_9}
use Rattle.header.proofs.Written.{written_reads}

-- a reading that is accepted: the version is known, and the list is ids and then FREE
accepted : (m : Validation) (b : List ℕ) → read_no m b ≡ 0 → (unknown (number_at b major_at) ≡ false) × (ids_then_free (list_of b) ≡ true)
unfolding read_no read_rows distinct fresh
accepted m b e = let none = given_none (read_rows m b) refl e in (none 3 (omega arith), not-false _ (none 8 (omega arith)))

-- the content of bytes is of the code's own types
sized : (b : List ℕ) → Below 256 b → Sized (header_of b)
unfolding header_of number_at list_of entry_at dirs_of end_if_free
sized b h =
    record {
      dirs = least (eqb (le 2 b 26) 3) 0 (le 4 b 40) (omega arith) (le_below 4 b 40 h);
      fats = le_below 4 b 44 h;
      dir = le_below 4 b 48 h;
      minifat = le_below 4 b 60 h;
      minifats = le_below 4 b 64 h;
      difat = least (eqb (le 4 b 68) free_sector) end_of_chain (le 4 b 68) (omega arith) (le_below 4 b 68 h);
      difats = le_below 4 b 72 h;
      entries = length_tab (entry_at b) 109;
      list = record { each = λ i l. let k : i < 109 = rw length_tab at l in rw (get_or_tab (entry_at b) 109 i 0 k) (le_below 4 b (76 + 4 * i) h) };
    }
  where
    least : (t : Bool) (x y : ℕ) → x < 2 ^ 32 → y < 2 ^ 32 → choose t x y < 2 ^ 32
    least true x y hx hy = hx
    least false x y hx hy = hy

-- directory sectors as they are read, and a first DIFAT sector as it is read, are no cause for the writer
no_dirs : (major dirs : ℕ) → unknown major ≡ false → counts_dirs Strict (major_of (version_of major)) (dirs_of major dirs) ≡ false
unfolding unknown counts_dirs version_of dirs_of
no_dirs major dirs u =
    ⊎_elim
    (λ (e : major ≡ 3). rw e)
    (λ (n : major ≢ 3). let e : major ≡ 4 = eqb-true major 4 (not-false _ (sym (rw (ne_eqb major 3 n)) ∙ u)) in rw e)
    (same_or major 3)

no_free : (list : List ℕ) (difat : ℕ) → ids_then_free list ≡ true → unreadable list (end_if_free difat) ≡ false
unfolding unreadable end_if_free
no_free list difat t =
    ⊎_elim
    (λ (e : difat ≡ free_sector). rw (t, e))
    (λ (n : difat ≢ free_sector). rw (t, ne_eqb difat free_sector n) (ne_eqb difat free_sector n))
    (same_or difat free_sector)

-- the writer has no cause against it
writable : (m : Validation) (b : List ℕ) (n : ℕ) → 512 ≤ n → read_no m b ≡ 0 → write_no (header_of b) n ≡ 0
unfolding header_of
writable m b n l e =
    sym (gives_0 (header_of b) n l (no_dirs (number_at b major_at) (number_at b dirs_at) (accepted m b e).0) (no_free (list_of b) (number_at b difat_at) (accepted m b e).1))

-- what the reader gave, written and read in the same mode, comes back equal
pub record ComesBack (m : Validation) (b buf : List ℕ) : Type 0 where
  pub written : write_no (header_of b) (length buf) ≡ 0
  pub read : read_no m (splice buf 0 (header_bytes (header_of b))) ≡ 0
  pub same : header_of (splice buf 0 (header_bytes (header_of b))) ≡ header_of b

pub comes_back : (m : Validation) (b buf : List ℕ) → Below 256 b → 512 ≤ length buf → read_no m b ≡ 0 → ComesBack m b buf
comes_back m b buf bytes whole e =
    let w : write_no (header_of b) (length buf) ≡ 0 = writable m b (length buf) whole e in
    let r = written_reads (header_of b) (sized b bytes) buf whole m w in
    record { written = w; read = r.0; same = r.1 }

-- a list that some reader gives of some bytes
pub record Givable (list : List ℕ) : Type 0 where
  pub mode : Validation
  pub bytes : List ℕ
  pub small : Below 256 bytes
  pub read : read_no mode bytes ≡ 0
  pub gives : (header_of bytes).list ≡ list

-- the smallest header around a list
around : List ℕ → Header
around xs = record { version = V3; dirs = 0; fats = 0; dir = 0; minifat = 0; minifats = 0; difat = end_of_chain; difats = 0; list = xs }

around_sized : (xs : List ℕ) → length xs ≡ 109 → Below (2 ^ 32) xs → Sized (around xs)
unfolding around
around_sized xs n low =
    record { dirs = omega arith; fats = omega arith; dir = omega arith; minifat = omega arith; minifats = omega arith; difat = omega arith; difats = omega arith; entries = n; list = low }

pub list_bytes_below : (xs : List ℕ) → Below 256 (list_bytes xs)
unfolding list_bytes
list_bytes_below [] = record { each = λ i h. absurd (omega arith) }
list_bytes_below (x ∷ xs) = below_append 256 (digits 4 x) (list_bytes xs) (below_digits 4 x) (list_bytes_below xs)

header_below : (h : Header) → Below 256 (header_bytes h)
unfolding header_bytes start_bytes number_bytes digits
header_below h = join _ _ start (join _ _ numbers (list_bytes_below h.list))
  where
    join : (xs ys : List ℕ) → Below 256 xs → Below 256 ys → Below 256 (xs ++ ys)
    join = below_append 256

    start : Below 256 (start_bytes h.version)
    start =
        join signature _ (below_digits 8 0xe11ab1a1e011cfd0) (join (replicate 16 0) _ (below_replicate 256 16 0 (omega arith))
        (join (digits 2 minor_version) _ (below_digits 2 minor_version) (join (digits 2 (major_of h.version)) _ (below_digits 2 _)
        (join (digits 2 byte_order) _ (below_digits 2 byte_order) (join (digits 2 (shift_of h.version)) _ (below_digits 2 _)
        (join (digits 2 mini_shift) (replicate 6 0) (below_digits 2 mini_shift) (below_replicate 256 6 0 (omega arith))))))))

    numbers : Below 256 (number_bytes h)
    numbers =
        join (digits 4 h.dirs) _ (below_digits 4 _) (join (digits 4 h.fats) _ (below_digits 4 _) (join (digits 4 h.dir) _ (below_digits 4 _)
        (join (digits 4 0) _ (below_digits 4 0) (join (digits 4 mini_cutoff) _ (below_digits 4 mini_cutoff)
        (join (digits 4 h.minifat) _ (below_digits 4 _) (join (digits 4 h.minifats) _ (below_digits 4 _)
        (join (digits 4 h.difat) (digits 4 h.difats) (below_digits 4 _) (below_digits 4 _))))))))

-- it is written where its list is ids and then FREE
around_written : (xs : List ℕ) (n : ℕ) → 512 ≤ n → ids_then_free xs ≡ true → write_no (around xs) n ≡ 0
unfolding around counts_dirs unreadable
around_written xs n l t = sym (gives_0 (around xs) n l refl (rw t))

blank : List ℕ
blank = replicate 512 0

length_blank : length blank ≡ 512
unfolding blank
length_blank = length-replicate {A = ℕ} 512 0

-- and then a reader gives the list
given : (xs : List ℕ) → length xs ≡ 109 → Below (2 ^ 32) xs → ids_then_free xs ≡ true → Givable xs
unfolding around
given xs n low t =
    let whole : 512 ≤ length blank = omega (arith, length_blank) in
    let r = written_reads (around xs) (around_sized xs n low) blank whole Strict (around_written xs (length blank) whole t) in
    record {
      mode = Strict;
      bytes = splice blank 0 (header_bytes (around xs));
      small = below_splice 256 blank 0 (header_bytes (around xs)) (unfold blank in below_replicate 256 512 0 (omega arith)) (header_below (around xs));
      read = r.0;
      gives = ap (λ (h : Header). h.list) r.1;
    }

-- a reader can give exactly the lists of ids and then FREE
pub givable_exactly : (xs : List ℕ) → length xs ≡ 109 → Below (2 ^ 32) xs → Givable xs ↔ (ids_then_free xs ≡ true)
unfolding header_of
givable_exactly xs n low = (λ g. ap ids_then_free (sym g.gives) ∙ (accepted g.mode g.bytes g.read).1, given xs n low)

-- the writer's 9: enough bytes, no directory sectors counted in version 3, and a list that no reader could give or a first DIFAT sector of FREE
pub record Nine (h : Header) (n : ℕ) : Type 0 where
  pub whole : 512 ≤ n
  pub dirs : counts_dirs Strict (major_of h.version) h.dirs ≡ false
  pub entries : (Givable h.list → ⊥) ⊎ (h.difat ≡ free_sector)

pub nine_exactly : (h : Header) (n : ℕ) → Sized h → (write_no h n ≡ 9) ↔ Nine h n
unfolding write_no write_rows distinct fresh unreadable
nine_exactly h n s = (λ e. told (given_first (write_rows h n) 2 refl (omega arith) e), λ k. sym (gives_9 h n k.whole k.dirs (bad k.entries)))
  where
    told : First (write_rows h n) 2 → Nine h n
    told f =
        record {
          whole = ltb-false _ _ (f.none 0 (omega arith));
          dirs = f.none 1 (omega arith);
          entries = ⊎_elim
              (λ (t : not (ids_then_free h.list) ≡ true). inl (λ g. not_both ((givable_exactly h.list s.entries s.list).0 g) (not-true _ t)))
              (λ (t : eqb h.difat free_sector ≡ true). inr (eqb-true _ _ t))
              (either_cases _ _ f.here);
        }

    bad : (Givable h.list → ⊥) ⊎ (h.difat ≡ free_sector) → unreadable h.list h.difat ≡ true
    bad (inl g) =
        ⊎_elim
        (λ (t : ids_then_free h.list ≡ true). absurd (g (given h.list s.entries s.list t)))
        (λ (f : ids_then_free h.list ≡ false). rw f)
        (true_or (ids_then_free h.list))
    bad (inr e) = either_right (not (ids_then_free h.list)) (eqb h.difat free_sector) (eq-eqb h.difat free_sector e)
