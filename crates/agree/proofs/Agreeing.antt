-- The agreement, tested in turn: the first rows, the header, the numbers, and then the tables. Assumes nothing.
use Prim.Native.Nat.{ℕ, ◌+◌, ◌≤◌, ◌<◌}
use mathlib.Core.Path.{◌≡◌, refl, sym, ◌∙◌, ap}
use mathlib.Core.Bool.{Bool, true, false}
use mathlib.Core.List.{List}
use native.Mathlib.Omega.{arith}
use native.Mathlib.Nat.{le-div_iff_mul-le}
use borrow.Author.Tests.{eq-eqb, ne_eqb}
use lib.Dec.{eqb}
use lib.ListN.{length}
use Rattle.lists.specs.Lists.{both}
use Rattle.lists.specs.Rows.{refusal}
use Rattle.lists.proofs.Cases.{both_right, both_false_left, both_false_right}
use Rattle.header.specs.Versions.{length_of, is_strict}
use Rattle.header.specs.Read.{header_of}
use Rattle.header.specs.declared.Header.{Header}
use Rattle.header.specs.declared.Validation.{Validation}
use Rattle.sectors.specs.Sectors.{Holds}
use Rattle.fat.specs.Lists.{most, sectors_in, room_of}
use Rattle.judge.proofs.Judging.{frees_few}
use Rattle.alloc.specs.Opening.{Tables, first_rows, table_rows, open_no, open_tables, open_fat, shortest}
use Rattle.alloc.proofs.Opens.{open_first, open_then, opens_lent, lent_own}
use Rattle.agree.specs.Agree.{same_header, tables_held, agreement}
use Rattle.agree.specs.Parts.{WholeLent}
use Rattle.agree.proofs.Comparing.{header_exactly}
use Rattle.agree.proofs.Listing.{refutes}
use Rattle.agree.proofs.Lent.{wholes_true}

-- sectors that an image holds are no more than its room
pub holds_room : (S n len : ℕ) → Holds S n len → n ≤ most → n ≤ room_of S len
unfolding room_of sectors_in
holds_room S n len h few = omega (arith, few, (le-div_iff_mul-le {k = S} {x = n + 1} {y = len} (omega (arith, h.entries, h.two))).1 h.fits)

module _ (m : Validation) (img : List ℕ) (used sectors free : ℕ) (h : Header) (t : Tables) where
  -- the image's own sectors, how many they are, and its tables
  abbrev S : ℕ
  S = length_of (header_of img).version

  abbrev n : ℕ
  n = sectors_in S used

  abbrev same : Bool
  same = same_header h (header_of img)

  abbrev held : Bool
  held = tables_held n (open_tables S img (header_of img) n) free t

  abbrev opens : Bool
  opens = eqb (open_no m img used (shortest t)) 0

  by_tests : agreement m img used sectors free h t ≡ both opens (both same (both (eqb sectors n) held))
  unfolding agreement
  by_tests = refl

  pub agree_early : (refusal (first_rows m img used (shortest t)) ≡ 0 → ⊥) → false ≡ agreement m img used sectors free h t
  agree_early z = sym (by_tests ∙ both_false_left opens _ (ne_eqb _ 0 (λ e. z (sym (open_first m img used t z) ∙ e))))

  pub agree_header : (own : Header) → own ≡ header_of img → same_header h own ≡ false → false ≡ agreement m img used sectors free h t
  agree_header own e f = sym (by_tests ∙ both_false_right opens _ (both_false_left same _ (ap (same_header h) (sym e) ∙ f)))

  pub agree_count : (c : ℕ) → c ≡ n → (sectors ≡ c → ⊥) → false ≡ agreement m img used sectors free h t
  agree_count c e d = sym (by_tests ∙ both_false_right opens _ (both_false_right same _ (both_false_left (eqb sectors n) held (ne_eqb sectors n (λ s. d (s ∙ sym e))))))

  pub agree_free : (c : ℕ) → c ≡ n → c < free → false ≡ agreement m img used sectors free h t
  agree_free c e l =
      refutes (agreement m img used sectors free h t)
      (λ q.
      let w = wholes_true S img (header_of img) n free t (both_right (eqb sectors n) held (both_right same _ (both_right opens _ (sym by_tests ∙ q)))) in
      omega (arith, w.count, frees_few n (open_fat S img (header_of img) n)))

  -- past the first rows
  module _ (z : refusal (first_rows m img used (shortest t)) ≡ 0) where
    pub agree_told : (strict : Bool) (s c : ℕ) (own : Header) (r : Bool) → strict ≡ is_strict m → s ≡ S → c ≡ n → own ≡ header_of img → same_header h own ≡ true → sectors ≡ c
        → r ≡ both (eqb (refusal (table_rows strict s img own c)) 0) (tables_held c (open_tables s img own c) free t) → r ≡ agreement m img used sectors free h t
    agree_told strict s c own r es e_s en eo eh ec e =
        let mine : same_header h (header_of img) ≡ true = ap (same_header h) (sym eo) ∙ eh in
        let there : both (eqb (refusal (table_rows strict s img own c)) 0) (tables_held c (open_tables s img own c) free t) ≡ both (eqb (refusal (table_rows (is_strict m) S img (header_of img) n)) 0) held =
        rw (es, e_s, en, eo) in
        e ∙ there ∙ sym (by_tests ∙ rest opens same (eqb sectors n) held mine (eq-eqb sectors n (ec ∙ en)) ∙ ap (λ (k : ℕ). both (eqb k 0) held) (open_then m img used t z))
      where
        rest : (a b c d : Bool) → b ≡ true → c ≡ true → both a (both b (both c d)) ≡ both a d
        rest a b c d p q = rw (p, q)

    pub agree_lent : (s c scratch : ℕ) (own : Header) → s ≡ S → c ≡ n → own ≡ header_of img → same_header h own ≡ true → free ≤ c → room_of (length_of h.version) (length img) ≤ scratch
        → WholeLent s c (length img) t free scratch
    agree_lent s c scratch own e_s en eo eh few room =
        let lent = opens_lent m img used t z in
        let mine : h ≡ header_of img = (header_exactly h (header_of img)).0 (ap (same_header h) (sym eo) ∙ eh) in
        let wide : room_of S (length img) ≤ scratch = rw mine at room in
        record {
          lent = lent_own e_s en lent;
          listed = few;
          below = omega (arith, holds_room S n (length img) lent.holds lent.few);
        }
