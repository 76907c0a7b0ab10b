-- A strict opening accepts, and gives these tables, exactly when the image is sound with them. Assumes nothing.
use Prim.Native.Nat.{ℕ}
use mathlib.Core.Path.{◌≡◌, refl, sym, ◌∙◌, ap}
use mathlib.Core.Bool.{true, not}
use mathlib.Core.List.{List}
use mathlib.Core.Logic.{◌↔◌}
use native.Mathlib.Omega.{arith}
use borrow.Author.Tests.{not-false}
use Rattle.lists.specs.Rows.{refusal, distinct, fresh}
use Rattle.lists.proofs.Rows.{pass, given_none, append_accepts}
use Rattle.header.specs.Versions.{length_of}
use Rattle.header.specs.Read.{header_rows, header_of}
use Rattle.header.specs.declared.Header.{Header}
use Rattle.header.specs.declared.Validation.TheVariants.{Strict}
use Rattle.fat.specs.Lists.{sectors_in, difat_count, difats_in, fats_in}
use Rattle.alloc.specs.Opening.{raw_fat, judged_fat, open_fat, table_rows, first_rows, open_rows, open_no}
use Rattle.judge.specs.Judge.{fat_rows}
use Rattle.alloc.proofs.Filled.{length_fats, length_difats}
use Rattle.sound.specs.Sound.{Sound, Accepts, SoundImage}
use Rattle.sound.proofs.Encoded.{lists_told, raw_count, encoded_told, encoded_difats, encoded_fats, encoded_fat, encoded_lists, encoded_tail}
use Rattle.sound.proofs.Formed.{formed_told, formed_opens, formed_judged}

-- what is sound with some tables is sound with equal ones
sound_same : {S : ℕ} {img : List ℕ} {h : Header} {n : ℕ} {fat fats difats fat' fats' difats' : List ℕ} → fat' ≡ fat → fats' ≡ fats → difats' ≡ difats → Sound S img h n fat fats difats
    → Sound S img h n fat' fats' difats'
sound_same p q r s = rw (p, q, r) s

module _ (S : ℕ) (img : List ℕ) (h : Header) (n : ℕ) where
  -- an image whose tables are not refused is sound with the tables that its bytes hold
  raw_sound : refusal (table_rows true S img h n) ≡ 0 → Sound S img h n (raw_fat S img h n) (fats_in S img h n) (difats_in S img h n)
  unfolding table_rows fat_rows distinct fresh
  raw_sound z =
      let none = given_none (table_rows true S img h n) refl z in
      let right = lists_told S img h n (not-false _ (none 0 (omega arith))) in
      record {
        encodes = encoded_told S img h n right (not-false _ (none 1 (omega arith)));
        formed = formed_told (raw_count S img h n) (length_fats S img h n) (length_difats S img h n ∙ ap (difat_count S) (sym (length_fats S img h n)))
            right.fats_below right.difats_below right.fats_differ right.difats_differ
            (sym (pass 12 _ _ (none 0 (omega arith)) ∙ pass 13 _ _ (none 1 (omega arith))) ∙ z);
      }

  -- document 01, 12 to 18: a strict opening accepts, and leaves these tables, exactly when the image is sound with them
  pub strict_sound : (fat fats difats : List ℕ) → Accepts S img h n fat fats difats ↔ Sound S img h n fat fats difats
  unfolding table_rows open_fat judged_fat
  strict_sound fat fats difats = (there, back)
    where
      there : Accepts S img h n fat fats difats → Sound S img h n fat fats difats
      there a = let s = raw_sound a.number in sound_same (a.fat_is ∙ formed_opens s.formed) a.fats_are a.difats_are s

      back : Sound S img h n fat fats difats → Accepts S img h n fat fats difats
      back s =
          let e = s.encodes in
          let f = s.formed in
          let fat_is : fat ≡ raw_fat S img h n = encoded_fat e f in
          let fats_are : fats ≡ fats_in S img h n = encoded_fats e f in
          let difats_are : difats ≡ difats_in S img h n = encoded_difats e f in
          record {
            number = pass 12 _ _ (ap not (encoded_lists e f)) ∙ pass 13 _ _ (ap not (encoded_tail e f)) ∙ rw (← fat_is, ← fats_are, ← difats_are) (formed_judged f);
            fat_is = rw (← fat_is, ← fats_are, ← difats_are) (sym (formed_opens f));
            fats_are = fats_are;
            difats_are = difats_are;
          }

  -- an image is sound with one set of tables at most
  pub sound_unique : {fat fats difats fat' fats' difats' : List ℕ} → Sound S img h n fat fats difats → Sound S img h n fat' fats' difats' → (fat ≡ fat') × (fats ≡ fats') × (difats ≡ difats')
  sound_unique s s' =
      let a = (strict_sound _ _ _).1 s in
      let b = (strict_sound _ _ _).1 s' in
      (a.fat_is ∙ sym b.fat_is, a.fats_are ∙ sym b.fats_are, a.difats_are ∙ sym b.difats_are)

-- document 01: an image opens strictly exactly when its first rows are passed and it is sound
pub opens_sound : (img : List ℕ) (used short : ℕ) → (open_no Strict img used short ≡ 0) ↔ ((refusal (first_rows Strict img used short) ≡ 0) × SoundImage img used)
unfolding open_no open_rows first_rows header_rows distinct fresh
opens_sound img used short = (there, back)
  where
    S : ℕ
    S = length_of (header_of img).version

    n : ℕ
    n = sectors_in S used

    rows : (open_no Strict img used short ≡ 0) ↔ ((refusal (first_rows Strict img used short) ≡ 0) × (refusal (table_rows true S img (header_of img) n) ≡ 0))
    rows = append_accepts (first_rows Strict img used short) _ refl

    there : open_no Strict img used short ≡ 0 → (refusal (first_rows Strict img used short) ≡ 0) × SoundImage img used
    there z =
        let p = rows.0 z in (
          p.0,
          record {
            fat = open_fat S img (header_of img) n;
            fats = fats_in S img (header_of img) n;
            difats = difats_in S img (header_of img) n;
            sound = (strict_sound S img (header_of img) n _ _ _).0 (record { number = p.1; fat_is = refl; fats_are = refl; difats_are = refl });
          },
        )

    back : (refusal (first_rows Strict img used short) ≡ 0) × SoundImage img used → open_no Strict img used short ≡ 0
    back p = rows.1 (p.0, ((strict_sound S img (header_of img) n _ _ _).1 p.1.sound).number)
