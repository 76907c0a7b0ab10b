-- What the code of a walk asks for and leaves (document 01, Calls on a chain). Assumes nothing.
use Rattle.std.specs.Prelude.{ℕ, ◌≤◌, ◌≡◌, List, ◌++◌, length, drop, Result, Ok, Err}
use Rattle.consts.specs.Consts.{max_regular}
use Rattle.consts.specs.Refusals.{number_of}
use Rattle.consts.specs.declared.refusal.Refusal.{Refusal}
use Rattle.walk.specs.Steps.{Once}
use Rattle.walk.specs.Walk.{Outcome, lists, refuses, walk_of}

-- document 01: an answer stands for an outcome: it has the number of the ids, or the refusal of that number
abbrev pub StandsFor : Outcome → Result ℕ Refusal → Type 0
StandsFor (lists ids) r = r ≡ Ok (length ids)
StandsFor (refuses n) r = (e : Refusal) × (r ≡ Err e) × (number_of e ≡ n)

-- a table of no more sectors than there are regular numbers (MS-CFB 2.1), none pointed to twice, and a list with room for all
pub record Walkable (fat ids : List ℕ) : Type 0 where
  pub few : length fat ≤ max_regular
  pub once : Once fat
  pub room : length fat ≤ length ids

-- the answer, and, where ids are listed, the lent list: they stand at its front, and the rest is as it was
pub record WalkLeft (fat : List ℕ) (start : ℕ) (before : List ℕ) (r : Result ℕ Refusal) (after : List ℕ) : Type 0 where
  pub answer : StandsFor (walk_of fat start) r
  pub front : (ids : List ℕ) → walk_of fat start ≡ lists ids → after ≡ ids ++ drop (length ids) before
