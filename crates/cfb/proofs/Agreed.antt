-- What is known of a FAT that agrees with its image: it points at no sector twice, and its sectors are there. Assumes nothing.
use Prim.Native.Nat.{ℕ, ◌≤◌, min}
use mathlib.Core.Path.{◌≡◌, refl, sym, ◌∙◌, ap}
use mathlib.Core.Bool.{true, false}
use mathlib.Core.List.{List}
use native.Mathlib.Omega.{arith}
use borrow.Author.Tests.{eqb-false, not-false}
use lib.Dec.{eqb}
use lib.ListN.{length, take}
use Rattle.lists.specs.Lists.{both}
use Rattle.lists.specs.Rows.{refusal, distinct, fresh}
use Rattle.lists.proofs.Rows.{given_none, append_accepts}
use Rattle.lists.proofs.Tab.{length_tab}
use Rattle.consts.specs.Consts.{max_regular}
use Rattle.header.specs.Versions.{length_of, is_strict}
use Rattle.header.specs.Read.{header_rows, header_of}
use Rattle.header.specs.declared.Header.{Header}
use Rattle.header.specs.declared.Validation.{Validation}
use Rattle.sectors.specs.Sectors.{Holds}
use Rattle.lists.proofs.Cases.{both_left, both_right}
use Rattle.fat.specs.Lists.{most, sectors_in, room_of, fat_count, difat_count, difat_at, all_below, different, ends, counts_right, rest_free, difats_in, fats_in, chain_right, ids_right, fats_right, lists_right}
use Rattle.judge.specs.Judge.{first_wrong, forgiven_fat, marks_of, fat_rows}
use Rattle.judge.proofs.Rows.{Number, is_0, is_15, is_16, is_17, first_number}
use Rattle.alloc.specs.Opening.{Tables, first_rows, table_rows, open_rows, open_no, judged_fat, open_fat, open_tables, shortest, padded}
use Rattle.alloc.proofs.First.{early_held}
use Rattle.alloc.proofs.Filled.{front_padded}
use Rattle.agree.specs.Agrees.{Agrees}
use Rattle.agree.proofs.Agreeing.{holds_room}
use Rattle.walk.specs.Steps.{Once}
use Rattle.walk.proofs.Judged.{once_judged}

-- rows 15 to 17 are passed only where no sector is wrong
none_wrong : (w : ℕ) → Number w → eqb w 15 ≡ false → eqb w 16 ≡ false → eqb w 17 ≡ false → w ≡ 0
none_wrong _ is_0 a b c = refl
none_wrong _ is_15 a b c = absurd (eqb-false 15 15 a refl)
none_wrong _ is_16 a b c = absurd (eqb-false 16 16 b refl)
none_wrong _ is_17 a b c = absurd (eqb-false 17 17 c refl)

module _ (m : Validation) (img : List ℕ) (used short : ℕ) (z : open_no m img used short ≡ 0) where
  abbrev S : ℕ
  S = length_of (header_of img).version

  abbrev n : ℕ
  n = sectors_in S used

  -- an image that opens passes both parts of the rows
  pub parts : (refusal (first_rows m img used short) ≡ 0) × (refusal (table_rows (is_strict m) S img (header_of img) n) ≡ 0)
  unfolding open_no open_rows first_rows header_rows distinct fresh
  parts = (append_accepts (first_rows m img used short) _ refl).0 z

  pub held : Holds S n (length img) × (n ≤ most) × (n ≤ short)
  held = early_held m img used short parts.0

  -- no entry of its FAT is wrong
  right : first_wrong (is_strict m) n (judged_fat S img (header_of img) n) 0 n ≡ 0
  unfolding table_rows fat_rows judged_fat distinct fresh
  right =
      let none = given_none (table_rows (is_strict m) S img (header_of img) n) refl parts.1 in
      none_wrong _ (first_number (is_strict m) n (judged_fat S img (header_of img) n) 0 n) (none 3 (omega arith)) (none 4 (omega arith)) (none 5 (omega arith))

  -- its lists are right: the sectors of its FAT and of its DIFAT are below n
  lists_right_lem : lists_right S img (header_of img) n ≡ true
  unfolding table_rows fat_rows distinct fresh
  lists_right_lem = not-false _ (given_none (table_rows (is_strict m) S img (header_of img) n) refl parts.1 0 (omega arith))

  abbrev k : ℕ
  k = fat_count S n

  both_lists : both (chain_right S img (header_of img).difat n (difat_count S k)) (fats_right S img n (header_of img).list (difats_in S img (header_of img) n) k) ≡ true
  unfolding lists_right
  both_lists = both_right (counts_right (header_of img) k (difat_count S k)) _ lists_right_lem

  pub fats_open : all_below n (fats_in S img (header_of img) n) ≡ true
  unfolding fats_right ids_right fats_in
  fats_open =
      let right : fats_right S img n (header_of img).list (difats_in S img (header_of img) n) k ≡ true = both_right (chain_right S img (header_of img).difat n (difat_count S k)) _ both_lists in
      let ids : ids_right n (fats_in S img (header_of img) n) ≡ true = both_right (rest_free S img (header_of img).list (difats_in S img (header_of img) n) k (length (difats_in S img (header_of img) n))) _ right in
      both_left (all_below n (fats_in S img (header_of img) n)) (different (fats_in S img (header_of img) n)) ids

  pub difats_open : all_below n (difats_in S img (header_of img) n) ≡ true
  unfolding chain_right difats_in
  difats_open =
      let right : chain_right S img (header_of img).difat n (difat_count S k) ≡ true = both_left _ (fats_right S img n (header_of img).list (difats_in S img (header_of img) n) k) both_lists in
      both_left (all_below n (difats_in S img (header_of img) n)) (both (different (difats_in S img (header_of img) n)) (ends (difat_at S img (header_of img).difat (difat_count S k)))) right

  once_open : Once (open_fat S img (header_of img) n)
  unfolding open_fat
  once_open = once_judged (is_strict m) n (judged_fat S img (header_of img) n) (omega (arith, held.1)) right

  pub length_open : length (open_fat S img (header_of img) n) ≡ n
  unfolding open_fat forgiven_fat
  length_open = length_tab _ n

-- the FAT of an agreeing state
pub record Chained (S : ℕ) (img fat : List ℕ) (sectors : ℕ) : Type 0 where
  pub within : sectors ≤ length fat
  pub count : length (take sectors fat) ≡ sectors
  pub few : length (take sectors fat) ≤ max_regular
  pub once : Once (take sectors fat)
  pub room : sectors ≤ room_of S (length img)
  pub holds : Holds S (length (take sectors fat)) (length img)

-- the FAT's entries of the state's sectors are those of the opening
pub agreed_front : (m : Validation) (img : List ℕ) (used sectors free : ℕ) (h : Header) (t : Tables) → Agrees m img used sectors free h t
    → take sectors t.fat ≡ open_fat (length_of (header_of img).version) img (header_of img) (sectors_in (length_of (header_of img).version) used)
unfolding open_tables
agreed_front m img used sectors free h t a =
    front_padded _ t.fat sectors (length t.fat) a.tables.fat (length_open m img used (shortest t) a.opens ∙ sym a.count)

-- what is said of sectors is said of equal ones
holds_own : (S S' n n' len : ℕ) → S ≡ S' → n ≡ n' → Holds S n len → Holds S' n' len
holds_own S S' n n' len p q h = rw (p, q) at h

room_own : (S S' n n' len : ℕ) → S ≡ S' → n ≡ n' → n ≤ room_of S len → n' ≤ room_of S' len
room_own S S' n n' len p q h = rw (p, q) at h

once_own : (xs ys : List ℕ) → xs ≡ ys → Once ys → Once xs
once_own xs ys e o = rw e o

pub agreed_chained : (m : Validation) (img : List ℕ) (used sectors free : ℕ) (h : Header) (t : Tables) → Agrees m img used sectors free h t → Chained (length_of h.version) img t.fat sectors
unfolding open_tables shortest
agreed_chained m img used sectors free h t a =
    let z = a.opens in
    let known = held m img used (shortest t) z in
    let long : length (open_fat (length_of (header_of img).version) img (header_of img) (sectors_in (length_of (header_of img).version) used)) ≡ sectors_in (length_of (header_of img).version) used = length_open m img used (shortest t) z in
    let front = agreed_front m img used sectors free h t a in
    let count : length (take sectors t.fat) ≡ sectors = ap length front ∙ long ∙ sym a.count in
    let all : sectors_in (length_of (header_of img).version) used ≤ min (length t.fat) (min (length t.fats) (min (length t.difats) (min (length t.frees) (length t.marks)))) = known.2 in
    record {
      within = omega (arith, all, a.count);
      count = count;
      few = omega (arith, known.1, a.count, count);
      once = once_own _ _ front (once_open m img used (shortest t) z);
      room = room_own _ _ _ _ _ (ap (λ (x : Header). length_of x.version) (sym a.header)) (sym a.count) (holds_room _ _ _ known.0 known.1);
      holds = holds_own _ _ _ _ _ (ap (λ (x : Header). length_of x.version) (sym a.header)) (sym a.count ∙ sym count) known.0;
    }

-- its marks are those of the FAT, and zeros after them
pub agreed_marks : (m : Validation) (img : List ℕ) (used sectors free : ℕ) (h : Header) (t : Tables) → Agrees m img used sectors free h t
    → t.marks ≡ padded (marks_of sectors (take sectors t.fat)) (length t.marks)
unfolding open_tables
agreed_marks m img used sectors free h t a =
    let front = agreed_front m img used sectors free h t a in
    a.tables.marks ∙ ap (λ (xs : List ℕ). padded xs (length t.marks)) (ap (λ (n : ℕ). marks_of n (open_fat (length_of (header_of img).version) img (header_of img) (sectors_in (length_of (header_of img).version) used))) (sym a.count) ∙ ap (marks_of sectors) (sym front))
