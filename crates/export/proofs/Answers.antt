-- What the header's writer and an opening say, told of numbers and words. Assumes nothing.
use Prim.Native.Nat.{ℕ}
use mathlib.Core.Path.{◌≡◌, refl, ◌∙◌, sym, ap, ap₂}
use mathlib.Core.Bool.{true, false}
use mathlib.Core.List.{List}
use mathlib.Core.Logic.{◌≢◌, ⊎_elim}
use borrow.Author.Tests.{ne_eqb}
use lib.Dec.{eqb}
use lib.ListN.{length, get_or}
use Rattle.lists.specs.Lists.{choose, splice}
use Rattle.lists.proofs.Cases.{same_or}
use Rattle.header.specs.Versions.{numbered_of, version_of}
use Rattle.header.specs.Read.{unknown}
use Rattle.header.specs.Write.{write_no, header_bytes, WriteSays}
use Rattle.header.specs.declared.Version.{Version}
use Rattle.std.specs.Prelude.{Result, Ok, Err, MatchResult}
use Rattle.std.proofs.lemmas.Result.{MatchResult-at_ok, MatchResult-at_err}
use Rattle.consts.specs.Refusals.{number_of, ends_with}
use Rattle.consts.specs.declared.refusal.Refusal.{Refusal}
use Rattle.consts.proofs.Refusals.{number_not}
use Rattle.header.specs.declared.Validation.{Validation}
use Rattle.header.specs.declared.Header.{Header}
use Rattle.alloc.specs.Opening.{Tables}
use Rattle.cfb.specs.Face.{Opens}
use Rattle.cfb.specs.declared.Opened.{Opened}
use Rattle.cfb.proofs.Facing.{verdict_number}
use Rattle.layout.specs.Layout.{mode_of, header_with, header_from, written_no, bytes_left}
use Rattle.states.specs.States.{state_words}
use Rattle.export.specs.Opening.{OpenGives}

-- a number that names a version is that version's, and any other is unknown and refused by 4
numbered : (n : ℕ) → MatchResult (numbered_of n) (λ v. (unknown n ≡ false) × (v ≡ version_of n)) (λ x. (unknown n ≡ true) × (number_of x ≡ 4))
unfolding numbered_of unknown version_of
numbered n =
    ⊎_elim (λ (e : n ≡ 3). rw e (refl, refl))
    (λ (n3 : n ≢ 3). ⊎_elim (λ (e : n ≡ 4). rw e (refl, refl)) (λ (n4 : n ≢ 4). rw (ne_eqb n 3 n3, ne_eqb n 4 n4) (refl, refl)) (same_or n 4))
    (same_or n 3)

-- words that begin with no version are answered by 4
pub unwritten_number : (words : List ℕ) (k : ℕ) {n : Result Version Refusal} (x : Refusal) → n ≡ numbered_of (get_or words 0 0) → n ≡ Err x → number_of x ≡ written_no words k
unfolding written_no
unwritten_number words k x e u = let known = MatchResult-at_err _ _ x (sym e ∙ u) (numbered (get_or words 0 0)) in rw known.0 known.1

-- and the buffer stays
pub unwritten_bytes : (words buf : List ℕ) {n : Result Version Refusal} (x : Refusal) → n ≡ numbered_of (get_or words 0 0) → n ≡ Err x → buf ≡ bytes_left words buf
unfolding bytes_left
unwritten_bytes words buf x e u = rw (← unwritten_number words (length buf) x e u, ne_eqb (number_of x) 0 (number_not x))

-- words that begin with a version, whose header goes to the writer
module _ (words : List ℕ) {n : Result Version Refusal} {v : Version} {h : Header} {buf after : List ℕ} {written : Result (Unit {0}) Refusal}
    (e : n ≡ numbered_of (get_or words 0 0)) (u : n ≡ Ok v) (w : h ≡ header_with v words) (says : WriteSays h buf after written) where
  -- the first word is the version's
  named : (unknown (get_or words 0 0) ≡ false) × (v ≡ version_of (get_or words 0 0))
  named = MatchResult-at_ok _ _ v (sym e ∙ u) (numbered (get_or words 0 0))

  -- the header is the one that the words hold
  held : h ≡ header_from words
  unfolding header_from
  held = w ∙ ap (λ (k : Version). header_with k words) named.1

  -- the writer's number is the answer's
  asked : write_no h (length buf) ≡ written_no words (length buf)
  unfolding written_no
  asked = rw (named.0, held)

  -- what the writer says of its number
  pub written_number : ends_with written ≡ written_no words (length buf)
  written_number = says.number ∙ asked

  -- what the writer says of the buffer
  pub written_bytes : after ≡ bytes_left words buf
  unfolding bytes_left
  written_bytes = says.buffer ∙ ap₂ (λ (k : ℕ) (g : Header). choose (eqb k 0) (splice buf 0 (header_bytes g)) buf) asked held

-- what the face says of an opening is what its edge gives
pub opening_gives : (mode : ℕ) (m : Validation) (img : List ℕ) (used : ℕ) (t : Tables) (r : Opened) (img' : List ℕ) (t' : Tables) (given : ℕ) (words : List ℕ)
    → m ≡ mode_of mode → Opens m img used t r img' t' → given ≡ ends_with r.verdict → words ≡ state_words r.state → OpenGives mode img used t given words img' t'
opening_gives mode m img used t r img' t' given words e s n w =
    let o : Opens (mode_of mode) img used t r img' t' = rw e at s in
    record {
      number = n ∙ verdict_number r.verdict _ _ _ o.verdict;
      state = w ∙ ap state_words o.state;
      image = o.image;
      tables = o.tables;
    }
