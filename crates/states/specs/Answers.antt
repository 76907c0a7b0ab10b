-- The answer of a call on a chain as its number and three words at the library's edge. Assumes nothing.
use Rattle.std.specs.Prelude.{ℕ, List, [], ◌∷◌, eqb, Result, Ok, Err}
use Rattle.lists.specs.Lists.{choose}
use Rattle.consts.specs.declared.refusal.Refusal.{Refusal}
use Rattle.cfb.specs.declared.Done.{Done}
use Rattle.states.specs.States.{holds}

-- the three words beside the number of an answer: how many ids, the start, how many bytes; zeros beside a refusal
abbrev pub answer_words : Result Done Refusal → List ℕ
answer_words (Ok d) = d.ids ∷ d.start ∷ d.bytes ∷ []
answer_words (Err e) = 0 ∷ 0 ∷ 0 ∷ []

-- the three words of a call that ends with k
unfoldable pub given : ℕ → ℕ → ℕ → ℕ → List ℕ
given k ids start bytes = choose (eqb k 0) (ids ∷ start ∷ bytes ∷ []) (0 ∷ 0 ∷ 0 ∷ [])

-- the number of a call that ends with k on the state that words hold: 19 for words that hold none, before k
unfoldable pub held_no : List ℕ → ℕ → ℕ
unfolding holds
held_no words k = choose (holds words) k 19
