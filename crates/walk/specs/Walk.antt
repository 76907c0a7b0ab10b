-- The walk of a chain, over a table of numbers alone (document 01, Calls on a chain): the table may be a FAT or a MiniFAT. Assumes nothing.
use Rattle.std.specs.Prelude.{ℕ, zero, suc, Bool, List, [], ◌∷◌, eqb, ltb, length, get_or}
use Rattle.lists.specs.Lists.{choose, both, either}
use Rattle.consts.specs.Consts.{end_of_chain}
use Rattle.judge.specs.Judge.{regular}

-- document 01, Calls on a chain: what a walk comes to, the ids that it lists or the number of a refusal
pub data Outcome : Type 0 where
  lists : List ℕ → Outcome
  refuses : ℕ → Outcome

-- an outcome with one id more in front
unfoldable pub ahead : ℕ → Outcome → Outcome
ahead i (lists l) = lists (i ∷ l)
ahead i (refuses r) = refuses r

-- document 01, 21: an entry that is END, or regular and below n
unfoldable pub leads : ℕ → ℕ → Bool
unfolding regular
leads n e = either (eqb e end_of_chain) (both (regular e) (ltb e n))

-- document 01, Walk, with 21 and 22: while the id is not END, list it and go to its entry. It lists at most f ids; where f are spent before END, the outcome is refusal 0, which no row has.
unfoldable pub walk_from : List ℕ → ℕ → ℕ → ℕ → Outcome
unfolding ahead leads
walk_from fat start zero id = choose (eqb id end_of_chain) (lists []) (refuses 0)
walk_from fat start (suc f) id =
    let next = get_or fat id 0 in
    let rest = ahead id (walk_from fat start f next) in
    choose (eqb id end_of_chain) (lists [])
    (choose (leads (length fat) next) (choose (eqb next start) (refuses 22) rest) (refuses 21))

-- document 01, 20 to 22: the walk from a start, of at most n ids
unfoldable pub walk_of : List ℕ → ℕ → Outcome
unfolding walk_from
walk_of fat start =
    choose (either (eqb start end_of_chain) (ltb start (length fat))) (walk_from fat start (length fat) start) (refuses 20)
