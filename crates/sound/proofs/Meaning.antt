-- Every mark is 0 or 1, and what an opening says is one answer. Which sectors are marked, and which are listed as FREE, is said where they are judged. Assumes nothing.
use Prim.Native.Nat.{ℕ, ◌≤◌, ◌<◌}
use mathlib.Core.Path.{◌≡◌, refl, sym, ◌∙◌}
use mathlib.Core.Bool.{Bool, true, false}
use mathlib.Core.List.{List}
use mathlib.Core.Logic.{◌⊎◌, inl, inr, ⊎_elim}
use lib.ListN.{get_or, get_or-eq_default}
use Rattle.lists.proofs.Cases.{below_or}
use Rattle.std.specs.Prelude.{Result}
use Rattle.consts.specs.declared.refusal.Refusal.{Refusal}
use Rattle.consts.proofs.Refusals.{answers_apart}
use Rattle.header.specs.declared.Validation.{Validation}
use Rattle.judge.specs.Judge.{pointed, marks_of}
use Rattle.alloc.specs.Opening.{Tables}
use Rattle.alloc.specs.Opened.{OpenSays}
use Rattle.alloc.specs.declared.open.Found.{Found}
use Rattle.judge.proofs.Judging.{mark_of, mark_at, length_marks}

-- document 01: one byte per sector, 1 where some entry points at it, and 0 elsewhere
pub marks_binary : (n : ℕ) (fat : List ℕ) (t : ℕ) → (get_or (marks_of n fat) t 0 ≡ 0) ⊎ (get_or (marks_of n fat) t 0 ≡ 1)
marks_binary n fat t =
    ⊎_elim
    (λ (l : t < n). rw (mark_at n fat (marks_of n fat) t refl l) (at (pointed fat n t)))
    (λ (g : n ≤ t). inl (get_or-eq_default (marks_of n fat) 0 (rw (length_marks n fat (marks_of n fat) refl) g)))
    (below_or t n)
  where
    at : (p : Bool) → (mark_of p ≡ 0) ⊎ (mark_of p ≡ 1)
    at true = inr refl
    at false = inl refl

-- any two results that the opening's contract permits are the same, answer and tables
pub open_unique : (m : Validation) (img : List ℕ) (used : ℕ) (t : Tables) (r q : Result Found Refusal) (t' t'' : Tables) → OpenSays m img used t r t' → OpenSays m img used t q t'' → (r ≡ q) × (t' ≡ t'')
open_unique m img used t r q t' t'' s u = (answers_apart r q _ (s.number ∙ sym u.number) s.found u.found, s.left ∙ sym u.left)
