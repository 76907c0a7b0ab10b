-- What agrees with its image is what a fresh strict opening gives, and an accepted change leaves such a hand: the laws behind the third demand. Assumes nothing.
use Prim.Native.Nat.{ℕ, ◌≤◌, ◌<◌}
use mathlib.Core.Path.{◌≡◌, refl, sym, ◌∙◌}
use mathlib.Core.List.{List}
use mathlib.Core.Logic.{⊎_elim}
use native.Mathlib.Omega.{arith}
use borrow.Author.Tests.{eqb-true}
use lib.Dec.{eqb}
use lib.ListN.{length}
use Rattle.lists.proofs.Cases.{below_or, both_right, every_at}
use Rattle.header.specs.Read.{header_of}
use Rattle.header.specs.declared.Header.{Header}
use Rattle.header.specs.declared.Validation.{Validation}
use Rattle.header.specs.declared.Validation.TheVariants.{Strict}
use Rattle.fat.specs.Lists.{all_below}
use Rattle.alloc.specs.Opening.{Tables, open_tables, open_no, shortest, left_in, padded}
use Rattle.alloc.specs.Opened.{tables_left}
use Rattle.points.specs.Frees.{occurs, times_free, any_order, FreesOnce}
use Rattle.points.proofs.Freeing.{occurs_place, order_exactly}
use Rattle.agree.specs.Agrees.{Agrees, Permuted}
use Rattle.agree.proofs.Meaning.{agrees_exactly, opened_agrees, ascending_once}
use Rattle.cfb.specs.Face.{sectors_of, tables_of, state_of}
use Rattle.cfb.specs.declared.State.{State}
use Rattle.promises.specs.Demand.{InHand, Fresh, opened}
use Rattle.promises.proofs.Reopening.{once_counts}

-- what is in hand is strict, and agrees with its image (document 01, 19)
pub record Sure (h : InHand) : Type 0 where
  pub strict : h.state.mode ≡ Strict
  pub agrees : Agrees Strict h.image h.state.used h.state.sectors h.state.free h.state.header h.tables

-- document 01, 19: so does what a strict opening gives
pub opened_sure : (img : List ℕ) (used : ℕ) (t : Tables) → open_no Strict img used (shortest t) ≡ 0 → Sure (opened img used t)
unfolding opened state_of tables_of sectors_of
opened_sure img used t z = record {
  strict = refl;
  agrees = (agrees_exactly Strict img used _ _ (header_of img) _).0 (opened_agrees Strict img used t z);
}

-- each number stands as often in one list of the FREE sectors as in another
once_times : (n : ℕ) (fat xs : List ℕ) → FreesOnce n fat xs → (x : ℕ) → x < n → occurs x xs ≡ times_free fat x
unfolding any_order
once_times n fat xs f x l = eqb-true _ _ (every_at n (λ i. eqb (occurs i xs) (times_free fat i)) (both_right (all_below n xs) _ ((order_exactly n fat xs).1 f)) x l)

once_never : (n : ℕ) (fat xs : List ℕ) → FreesOnce n fat xs → (x : ℕ) → n ≤ x → occurs x xs ≡ 0
once_never n fat xs f x g =
    ⊎_elim
    (λ (some : 0 < occurs x xs). let p = occurs_place x xs some in absurd (omega (arith, f.below p.0 p.1, p.2, g)))
    (λ (none : occurs x xs ≤ 0). omega (arith, none))
    (below_or 0 (occurs x xs))

once_permuted : (n : ℕ) (fat xs ys : List ℕ) → length xs ≡ length ys → FreesOnce n fat xs → FreesOnce n fat ys → Permuted xs ys
once_permuted n fat xs ys e f g = record {
  long = e;
  times = λ x.
      ⊎_elim
      (λ (l : x < n). once_times n fat xs f x l ∙ sym (once_times n fat ys g x l))
      (λ (u : n ≤ x). once_never n fat xs f x u ∙ sym (once_never n fat ys g x u))
      (below_or x n);
}

-- a state is its numbers
state_same : (s : State) (m : Validation) (used sectors free : ℕ) (header : Header) → s.mode ≡ m → s.used ≡ used → s.sectors ≡ sectors → s.free ≡ free → s.header ≡ header
    → (record { mode = m; used = used; sectors = sectors; free = free; header = header }) ≡ s
state_same s m used sectors free header a b c d e = rw (← a, ← b, ← c, ← d, ← e)

-- document 01, 19: what agrees is what a fresh strict opening gives, the free list in some order
pub sure_fresh : (h : InHand) → Sure h → Fresh h
unfolding opened state_of tables_of sectors_of tables_left left_in open_tables padded
sure_fresh h s =
    let a = s.agrees in
    record {
      opens = a.opens;
      state = state_same h.state _ _ _ _ _ s.strict refl a.count a.tables.count a.header;
      fat = sym a.tables.fat;
      fats = sym a.tables.fats;
      difats = sym a.tables.difats;
      marks = sym a.tables.marks;
      frees = once_permuted _ _ _ _ (sym (once_counts _ _ _ a.tables.frees)) (ascending_once _ _) a.tables.frees;
      frees_rest = a.tables.rest;
    }
