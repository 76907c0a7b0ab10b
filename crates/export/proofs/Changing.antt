-- What a change of a chain says, told of numbers and words. Assumes nothing.
use Prim.Native.Nat.{ℕ}
use mathlib.Core.Path.{◌≡◌, refl, sym, ◌∙◌, ap}
use mathlib.Core.Bool.{Bool, true, false}
use mathlib.Core.List.{List}
use lib.Dec.{eqb}
use lib.ListN.{length, replicate}
use Rattle.lists.specs.Lists.{choose, Below}
use Rattle.alloc.specs.Opening.{Tables}
use Rattle.hand.specs.Hand.{Chain}
use Rattle.moves.specs.declared.change.Edit.{Edit}
use Rattle.cfb.specs.Changes.{state_from, Changes, ChainEdits}
use Rattle.consts.specs.Refusals.{ends_with}
use Rattle.cfb.specs.declared.State.{State}
use Rattle.cfb.specs.declared.Called.{Called}
use Rattle.states.specs.States.{state_words, holds, held_in}
use Rattle.states.specs.Answers.{answer_words, given, held_no}
use Rattle.states.proofs.Again.{header_fits, state_holds}
use Rattle.states.proofs.Telling.{number_of_lem, words_of_lem}
use Rattle.export.specs.Changes.{ChangeGives, EditChainGives}

-- the number of a call on words that hold a state, and on words that hold none
pub held_number : (words : List ℕ) (k : ℕ) → holds words ≡ true → k ≡ held_no words k
unfolding held_no
held_number words k h = rw h

pub unheld_number : (words : List ℕ) (k : ℕ) → holds words ≡ false → 19 ≡ held_no words k
unfolding held_no
unheld_number words k h = rw h

-- the words of the state after a change: a refusal leaves those that came in
words_left : (words : List ℕ) (t : Bool) (s held : State) → state_words held ≡ words → state_words (choose t s held) ≡ choose t (state_words s) words
words_left words true s held e = refl
words_left words false s held e = e

-- what a change gives on words that hold no state
pub change_refused : (words img : List ℕ) (t : Tables) (ids : List ℕ) (k : ℕ) (after : Chain) (bytes number : ℕ) (told ids' : List ℕ) → holds words ≡ false → number ≡ 19 → told ≡ replicate 3 0 → ids' ≡ replicate (length ids) 0
    → ChangeGives words img t ids (held_no words k) after bytes number told words img t ids'
unfolding held_no given
change_refused words img t ids k after bytes number told ids' h n a z = rw h (record { number = n; answer = a; state = refl; image = refl; tables = refl; list = z })

-- what it gives on words that hold one
module _ (words img : List ℕ) (t : Tables) (ids : List ℕ) (s : State) (r : Called) (img' : List ℕ) (t' : Tables) (ids' : List ℕ) (h : holds words ≡ true) (e : s ≡ held_in words) (again : state_words s ≡ words)
    (no : ℕ) (told words' : List ℕ) (n : no ≡ ends_with r.answer) (w : words' ≡ state_words r.state) (a : told ≡ answer_words r.answer) where
  change_given : (k : ℕ) (after : Chain) (bytes : ℕ) → Changes (held_in words) img t ids k after bytes r img' t' ids' → ChangeGives words img t ids (held_no words k) after bytes no told words' img' t' ids'
  unfolding held_no
  change_given k after bytes says =
      rw h
      (record {
        number = n ∙ number_of_lem r.answer _ _ _ _ says.answer;
        answer = a ∙ words_of_lem r.answer _ _ _ _ says.answer;
        state = w ∙ ap state_words says.state ∙ words_left words (eqb k 0) (state_from (held_in words) after) (held_in words) (ap state_words (sym e) ∙ again);
        image = says.image;
        tables = says.tables;
        list = says.list;
      })

  pub edit_given : (start : ℕ) (edit : Edit) (buf : List ℕ) → ChainEdits s img t ids start edit buf r img' t' ids' → EditChainGives words img t ids start edit buf no told words' img' t' ids'
  edit_given start edit buf says =
      let mine : ChainEdits (held_in words) img t ids start edit buf r img' t' ids' = rw e at says in
      change_given _ _ _ mine

-- what a change of bytes leaves in the state's words holds a state
pub changed_holds : (s : State) (c : Chain) → Below 256 c.hand.disk.image → holds (state_words (state_from s c)) ≡ true
unfolding state_from
changed_holds s c small = state_holds _ (header_fits c.hand.disk.image small)
