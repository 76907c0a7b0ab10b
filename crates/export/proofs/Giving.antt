-- What a call on a chain says, told of numbers and words. Assumes nothing.
use Prim.Native.Nat.{ℕ}
use mathlib.Core.Path.{◌≡◌, refl, ◌∙◌}
use mathlib.Core.Bool.{true, false}
use mathlib.Core.List.{List}
use lib.ListN.{length, replicate}
use Rattle.alloc.specs.Opening.{Tables}
use Rattle.cfb.specs.Calls.{ids_left, ChainOpens, ChainReads}
use Rattle.consts.specs.Refusals.{ends_with}
use Rattle.cfb.specs.declared.State.{State}
use Rattle.cfb.specs.declared.Called.{Called}
use Rattle.states.specs.States.{holds, held_in}
use Rattle.states.specs.Answers.{answer_words, given, held_no}
use Rattle.states.proofs.Telling.{number_of_lem, words_of_lem}
use Rattle.export.specs.Chains.{chain_given, read_given, OpenChainGives, ReadChainGives}

-- what the calls give on words that hold no state
module _ (words img : List ℕ) (t : Tables) (ids : List ℕ) (start no : ℕ) (told ids' : List ℕ) (h : holds words ≡ false) (n : no ≡ 19) (a : told ≡ replicate 3 0) (z : ids' ≡ replicate (length ids) 0) where
  pub open_refused : OpenChainGives words img t ids start no told words img t ids'
  unfolding chain_given held_no given ids_left
  open_refused = record { number = rw h n; answer = rw h a; state = refl; image = refl; tables = refl; list = rw h z }

  pub read_refused : (offset : ℕ) (buf : List ℕ) → ReadChainGives words img t ids start offset buf no told words img t ids' buf
  unfolding read_given held_no given ids_left
  read_refused offset buf = record { number = rw h n; answer = rw h a; state = refl; image = refl; tables = refl; list = rw h z; buffer = rw h refl }

-- what they give on words that hold one
module _ (words img : List ℕ) (t : Tables) (ids : List ℕ) (start : ℕ) (s : State) (r : Called) (img' : List ℕ) (t' : Tables) (ids' : List ℕ) (h : holds words ≡ true) (e : s ≡ held_in words) (no : ℕ) (told : List ℕ) (n : no ≡ ends_with r.answer) (a : told ≡ answer_words r.answer) where
  pub open_given : ChainOpens s img t ids start r img' t' ids' → OpenChainGives words img t ids start no told words img' t' ids'
  unfolding chain_given held_no
  open_given says =
      let o : ChainOpens (held_in words) img t ids start r img' t' ids' = rw e at says in
      record {
        number = rw h (n ∙ number_of_lem r.answer _ _ _ _ o.answer);
        answer = rw h (a ∙ words_of_lem r.answer _ _ _ _ o.answer);
        state = refl;
        image = o.image;
        tables = o.tables;
        list = rw h o.list;
      }

  pub read_given_lem : (offset : ℕ) (buf buf' : List ℕ) → ChainReads s img t ids start offset buf r img' t' ids' buf' → ReadChainGives words img t ids start offset buf no told words img' t' ids' buf'
  unfolding read_given held_no
  read_given_lem offset buf buf' says =
      let o : ChainReads (held_in words) img t ids start offset buf r img' t' ids' buf' = rw e at says in
      record {
        number = rw h (n ∙ number_of_lem r.answer _ _ _ _ o.answer);
        answer = rw h (a ∙ words_of_lem r.answer _ _ _ _ o.answer);
        state = refl;
        image = o.image;
        tables = o.tables;
        list = rw h o.list;
        buffer = rw h o.buffer;
      }
