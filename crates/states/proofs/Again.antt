-- Nothing is lost at the library's edge: a state comes back from its words, and words from the state that they hold. Assumes nothing.
use Prim.Native.Nat.{ℕ, suc, ◌≤◌, ◌<◌, ◌^◌}
use mathlib.Core.Path.{◌≡◌, refl, ◌∙◌, ap, ap₂}
use mathlib.Core.Bool.{Bool, true, false}
use mathlib.Core.List.{List, [], ◌∷◌}
use mathlib.Core.Logic.{⊎_elim, ◌≢◌}
use native.Mathlib.Omega.{arith}
use borrow.Author.Tests.{le-leb, ne_eqb, leb-true}
use lib.Dec.{eqb, leb}
use lib.ListN.{length, get_or, drop, length-drop}
use lib.Seq.{drop-cons, get_or-drop}
use Rattle.lists.specs.Lists.{choose, both, Below}
use Rattle.lists.proofs.Cases.{both_true, both_left, both_right, same_or}
use Rattle.words.proofs.Laws.{le_below}
use Rattle.consts.specs.Consts.{end_of_chain, free_sector}
use Rattle.fields.specs.Fields.{major_at, dirs_at, fats_at, dir_at, minifat_at, minifats_at, difat_at, difats_at, offset_of, width_of, number_at, list_of}
use Rattle.header.specs.Versions.{major_of, version_of}
use Rattle.header.specs.Read.{unknown, dirs_of, end_if_free, header_of, none}
use Rattle.header.proofs.Given.{entries_narrow}
use Rattle.header.specs.declared.Version.{Version}
use Rattle.header.specs.declared.Version.TheVariants.{V3, V4}
use Rattle.header.specs.declared.Validation.{Validation}
use Rattle.header.specs.declared.Validation.TheVariants.{Permissive, Strict}
use Rattle.header.specs.declared.Header.{Header}
use Rattle.cfb.specs.Face.{no_state, sectors_of, tables_of, state_of}
use Rattle.cfb.specs.declared.State.{State}
use Rattle.layout.specs.Layout.{mode_of, words_of, header_with, header_from}
use Rattle.layout.proofs.Again.{header_again}
use Rattle.states.specs.States.{mode_number, state_words, fits_in, is_version, holds, held_in}

-- every state is the one that its words hold
pub state_again : (s : State) → held_in (state_words s) ≡ s
unfolding held_in state_words mode_of
state_again s = ap₂ with (mode_again s.mode) (header_again s.header)
  where
    with : Validation → Header → State
    with m h = record { mode = m; used = s.used; sectors = s.sectors; free = s.free; header = h }

    mode_again : (m : Validation) → mode_of (mode_number m) ≡ m
    mode_again Permissive = refl
    mode_again Strict = refl

-- and they are words that hold one, where the header's have 32 bits
pub state_holds : (s : State) → fits_in (words_of s.header) ≡ true → holds (state_words s) ≡ true
unfolding holds state_words words_of is_version unknown
state_holds s fit = both_true (mode_known s.mode) (both_true (version_known s.header.version) fit)
  where
    mode_known : (m : Validation) → leb (mode_number m) 1 ≡ true
    mode_known Permissive = refl
    mode_known Strict = refl

    version_known : (v : Version) → is_version (major_of v) ≡ true
    version_known V3 = refl
    version_known V4 = refl

-- a number that is a version's is that of its version, and one that is a mode's that of its mode
version_number : (n : ℕ) → is_version n ≡ true → major_of (version_of n) ≡ n
unfolding is_version unknown version_of
version_number n h =
    ⊎_elim (λ (e : n ≡ 3). rw e)
    (λ (three : n ≢ 3). ⊎_elim (λ (e : n ≡ 4). rw e)
    (λ (four : n ≢ 4).
    let none : false ≡ true = rw (ne_eqb n 3 three, ne_eqb n 4 four) at h in
    let z : ◌≡◌ {A = ℕ} 0 1 = cc in
    absurd (omega arith))
    (same_or n 4))
    (same_or n 3)

mode_number_lem : (n : ℕ) → leb n 1 ≡ true → mode_number (mode_of n) ≡ n
unfolding mode_of
mode_number_lem n h =
    let low : n ≤ 1 = leb-true n 1 h in
    ⊎_elim (λ (e : n ≡ 0). rw e) (λ (o : n ≢ 0). let e : n ≡ 1 = omega (arith, low, o) in rw e) (same_or n 0)

-- words that hold a header are those of the header that they hold
header_words_again : (words : List ℕ) → 8 ≤ length words → is_version (get_or words 0 0) ≡ true → words_of (header_from words) ≡ words
unfolding words_of header_from header_with
header_words_again words n v =
    rw (
      version_number (get_or words 0 0) v,
      ← drop-cons words 7 0 (omega (arith, n)),
      ← drop-cons words 6 0 (omega (arith, n)),
      ← drop-cons words 5 0 (omega (arith, n)),
      ← drop-cons words 4 0 (omega (arith, n)),
      ← drop-cons words 3 0 (omega (arith, n)),
      ← drop-cons words 2 0 (omega (arith, n)),
      ← drop-cons words 1 0 (omega (arith, n)),
      ← drop-cons words 0 0 (omega (arith, n)),
    )

-- words that hold a state are those of the state that they hold
pub words_again : (words : List ℕ) → length words ≡ 121 → holds words ≡ true → state_words (held_in words) ≡ words
unfolding state_words held_in holds
words_again words n h =
    let mode : leb (get_or words 0 0) 1 ≡ true = both_left (leb (get_or words 0 0) 1) _ h in
    let rest : both (is_version (get_or words 4 0)) (fits_in (drop 4 words)) ≡ true = both_right (leb (get_or words 0 0) 1) _ h in
    let version : is_version (get_or (drop 4 words) 0 0) ≡ true = ap is_version (get_or-drop 4 words 0 0) ∙ both_left (is_version (get_or words 4 0)) _ rest in
    rw (
      mode_number_lem (get_or words 0 0) mode,
      header_words_again (drop 4 words) (omega (arith, length-drop 4 words, n)) version,
      ← drop-cons words 3 0 (omega (arith, n)),
      ← drop-cons words 2 0 (omega (arith, n)),
      ← drop-cons words 1 0 (omega (arith, n)),
      ← drop-cons words 0 0 (omega (arith, n)),
    )

-- a word of 32 bits fits
fits_one : (x : ℕ) → x < 2 ^ 32 → leb x 4294967295 ≡ true
fits_one x h = le-leb x 4294967295 (omega arith)

-- the words beside a refusal fit
none_fits : fits_in (words_of none) ≡ true
unfolding fits_in words_of none
none_fits = refl

-- words of 32 bits fit, one by one
fits_of : (xs : List ℕ) → ((i : ℕ) → i < length xs → get_or xs i 0 < 2 ^ 32) → fits_in xs ≡ true
unfolding fits_in
fits_of [] h = refl
fits_of (x ∷ xs) h = both_true (fits_one x (h 0 (omega arith))) (fits_of xs (λ i l. h (suc i) (omega arith)))

-- the numbers of a header that is read from bytes have 32 bits
module _ (b : List ℕ) (small : Below 256 b) where
  four : (i : ℕ) → width_of i ≡ 4 → number_at b i < 2 ^ 32
  unfolding number_at
  four i e = rw e (le_below 4 b (offset_of i) small)

  pub header_fits : fits_in (words_of (header_of b)) ≡ true
  unfolding words_of header_of fits_in dirs_of end_if_free
  header_fits =
      both_true (major_fits (version_of (number_at b major_at)))
      (both_true (chosen (eqb (number_at b major_at) 3) 0 (number_at b dirs_at) (omega arith) (four dirs_at refl))
      (both_true (fits_one _ (four fats_at refl))
      (both_true (fits_one _ (four dir_at refl))
      (both_true (fits_one _ (four minifat_at refl))
      (both_true (fits_one _ (four minifats_at refl))
      (both_true (chosen (eqb (number_at b difat_at) free_sector) end_of_chain (number_at b difat_at) (omega arith) (four difat_at refl))
      (both_true (fits_one _ (four difats_at refl))
      (fits_of (list_of b) (entries_narrow b small)))))))))
    where
      major_fits : (v : Version) → leb (major_of v) 4294967295 ≡ true
      major_fits V3 = refl
      major_fits V4 = refl

      chosen : (t : Bool) (x y : ℕ) → x < 2 ^ 32 → y < 2 ^ 32 → leb (choose t x y) 4294967295 ≡ true
      chosen true x y p q = fits_one x p
      chosen false x y p q = fits_one y q

-- what an opening of bytes leaves in the state's words holds a state
pub opened_holds : (k : ℕ) (m : Validation) (img : List ℕ) (used : ℕ) → Below 256 img → holds (state_words (state_of k m img used)) ≡ true
unfolding state_of
opened_holds k m img used small = at (eqb k 0)
  where
    at : (t : Bool) → holds (state_words (choose t (record { mode = m; used = used; sectors = sectors_of img used; free = length (tables_of img used).frees; header = header_of img }) no_state)) ≡ true
    at true = state_holds _ (header_fits img small)
    at false = state_holds no_state none_fits
