-- What the tables' opening found is what the face says of it, and the answer is one. Assumes nothing.
use Prim.Native.Nat.{ℕ}
use mathlib.Core.Path.{◌≡◌, refl, sym, ◌∙◌, ap}
use mathlib.Core.List.{List, [], ◌∷◌}
use mathlib.Core.Logic.{⊎_elim, ◌≢◌}
use native.Mathlib.Omega.{arith}
use borrow.Author.Tests.{eq-eqb, ne_eqb}
use lib.ListN.{length, get_or}
use Rattle.lists.proofs.Cases.{same_or}
use Rattle.header.specs.Read.{header_of}
use Rattle.header.specs.declared.Validation.{Validation}
use Rattle.std.specs.Prelude.{Result, Ok, Err}
use Rattle.std.proofs.lemmas.Result.{IfOk-at_ok}
use Rattle.consts.specs.Refusals.{number_of, ends_with}
use Rattle.consts.specs.declared.refusal.Refusal.{Refusal}
use Rattle.consts.proofs.Refusals.{number_apart, number_not}
use Rattle.alloc.specs.Opening.{Tables, open_tables, open_no, shortest}
use Rattle.alloc.specs.Opened.{found_in, OpenSays}
use Rattle.alloc.specs.declared.open.Found.{Found}
use Rattle.cfb.specs.Face.{numbers_of, answer, no_state, sectors_of, tables_of, state_of, Opens}
use Rattle.cfb.specs.declared.Counts.{Counts}
use Rattle.cfb.specs.declared.State.{State}
use Rattle.cfb.specs.declared.Opened.{Opened}

-- the answer and the state of an opening that is refused, and of one that is not
answer_refused : (k sectors free : ℕ) → (k ≡ 0 → ⊥) → answer k sectors free ≡ k ∷ []
unfolding answer
answer_refused k sectors free n = rw (ne_eqb k 0 n)

answer_accepted : (k sectors free : ℕ) → k ≡ 0 → answer k sectors free ≡ 0 ∷ sectors ∷ free ∷ []
unfolding answer
answer_accepted k sectors free z = rw (eq-eqb k 0 z)

state_refused : (k : ℕ) (m : Validation) (img : List ℕ) (used : ℕ) → (k ≡ 0 → ⊥) → state_of k m img used ≡ no_state
unfolding state_of
state_refused k m img used n = rw (ne_eqb k 0 n)

state_accepted : (k : ℕ) (m : Validation) (img : List ℕ) (used : ℕ) → k ≡ 0
    → state_of k m img used ≡ record { mode = m; used = used; sectors = sectors_of img used; free = length (tables_of img used).frees; header = header_of img }
unfolding state_of
state_accepted k m img used z = rw (eq-eqb k 0 z)

module _ (m : Validation) (img : List ℕ) (used : ℕ) (t : Tables) (r : Result Found Refusal) (t' : Tables) (s : OpenSays m img used t r t') where
  -- refused
  pub face_refused : (e : Refusal) → r ≡ Err e → Opens m img used t (record { verdict = Err e; state = no_state }) img t'
  unfolding tables_of sectors_of
  face_refused e q =
      let number : number_of e ≡ open_no m img used (shortest t) = sym (ap ends_with q) ∙ s.number in
      let some : open_no m img used (shortest t) ≡ 0 → ⊥ = λ y. number_not e (number ∙ y) in
      record {
        verdict = ap (λ (k : ℕ). k ∷ []) number ∙ sym (answer_refused _ _ _ some);
        state = sym (state_refused _ m img used some);
        image = refl;
        tables = s.left;
      }

  -- open
  pub face_accepted : (f : Found) → r ≡ Ok f
      → Opens m img used t (record { verdict = Ok (record { sectors = f.sectors; free = f.free }); state = record { mode = m; used = used; sectors = f.sectors; free = f.free; header = f.header } }) img t'
  unfolding tables_of sectors_of open_tables found_in
  face_accepted f q =
      let z : open_no m img used (shortest t) ≡ 0 = sym (sym (ap ends_with q) ∙ s.number) in
      let w = IfOk-at_ok _ q s.found in
      record {
        verdict = ap (λ (x : Found). 0 ∷ x.sectors ∷ x.free ∷ []) w ∙ sym (answer_accepted _ _ _ z);
        state = ap (λ (x : Found). record { mode = m; used = used; sectors = x.sectors; free = x.free; header = x.header }) w ∙ sym (state_accepted _ m img used z);
        image = refl;
        tables = s.left;
      }

-- what a case of the answer tells of the opening
pub accepted_says : (v : Counts) (k n c : ℕ) → numbers_of (Ok v) ≡ answer k n c → (k ≡ 0) × (v.sectors ≡ n) × (v.free ≡ c)
accepted_says v k n c e =
    ⊎_elim
    (λ (z : k ≡ 0). let w = e ∙ answer_accepted k n c z in (z, ap (λ (xs : List ℕ). get_or xs 1 0) w, ap (λ (xs : List ℕ). get_or xs 2 0) w))
    (λ (d : k ≢ 0). let w : ◌≡◌ {A = ℕ} 3 1 = ap (λ (xs : List ℕ). length xs) (e ∙ answer_refused k n c d) in absurd (omega arith))
    (same_or k 0)

pub refused_says : (j : Refusal) (k n c : ℕ) → numbers_of (Err j) ≡ answer k n c → (k ≡ 0 → ⊥) × (number_of j ≡ k)
refused_says j k n c e =
    ⊎_elim
    (λ (z : k ≡ 0). let w : ◌≡◌ {A = ℕ} 1 3 = ap (λ (xs : List ℕ). length xs) (e ∙ answer_accepted k n c z) in absurd (omega arith))
    (λ (d : k ≢ 0). (d, ap (λ (xs : List ℕ). get_or xs 0 0) (e ∙ answer_refused k n c d)))
    (same_or k 0)

-- the answer's number is the opening's
pub verdict_number : (v : Result Counts Refusal) (k n c : ℕ) → numbers_of v ≡ answer k n c → ends_with v ≡ k
verdict_number (Ok v) k n c e = sym (accepted_says v k n c e).0
verdict_number (Err j) k n c e = (refused_says j k n c e).1

-- two answers with the same numbers are one
verdict_apart : (v w : Result Counts Refusal) → numbers_of v ≡ numbers_of w → v ≡ w
verdict_apart (Ok a) (Ok b) e =
    let p : a.sectors ≡ b.sectors = ap (λ (xs : List ℕ). get_or xs 1 0) e in
    let q : a.free ≡ b.free = ap (λ (xs : List ℕ). get_or xs 2 0) e in
    λ i. Ok (record { sectors = p i; free = q i })
verdict_apart (Ok a) (Err k) e = let z : ◌≡◌ {A = ℕ} 3 1 = ap (λ (xs : List ℕ). length xs) e in absurd (omega arith)
verdict_apart (Err j) (Ok b) e = let z : ◌≡◌ {A = ℕ} 1 3 = ap (λ (xs : List ℕ). length xs) e in absurd (omega arith)
verdict_apart (Err j) (Err k) e = ap Err (number_apart j k (ap (λ (xs : List ℕ). get_or xs 0 0) e))

-- any two results that the contract permits are the same
pub open_unique : (m : Validation) (img : List ℕ) (used : ℕ) (t : Tables) (r q : Opened) (img' img'' : List ℕ) (t' t'' : Tables) → Opens m img used t r img' t' → Opens m img used t q img'' t''
    → (r.verdict ≡ q.verdict) × (r.state ≡ q.state) × (img' ≡ img'') × (t' ≡ t'')
open_unique m img used t r q img' img'' t' t'' a b =
    (verdict_apart r.verdict q.verdict (a.verdict ∙ sym b.verdict), a.state ∙ sym b.state, a.image ∙ sym b.image, a.tables ∙ sym b.tables)
