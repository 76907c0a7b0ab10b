-- A walk gives each of document 01's 20 to 22 exactly when its cause holds, and where no sector is pointed to twice its fuel is never spent. Assumes nothing.
use Prim.Native.Nat.{ℕ, zero, suc, ◌≤◌, ◌<◌}
use mathlib.Core.Path.{◌≡◌, refl, ◌∙◌, sym, ap}
use mathlib.Core.List.{List}
use mathlib.Core.Logic.{⊎_elim, ◌≢◌, ◌↔◌}
use native.Mathlib.Omega.{arith}
use lib.ListN.{length}
use Rattle.lists.specs.Lists.{tab}
use Rattle.lists.proofs.Cases.{below_or}
use Rattle.consts.specs.Consts.{max_regular, end_of_chain}
use Rattle.walk.specs.Walk.{Outcome, lists, refuses, walk_of}
use Rattle.walk.specs.Steps.{stepped, Path, Returns, Breaks, Once, Unpointed}
use Rattle.walk.proofs.Steps.{stepped_next, stepped_none, leaves_different, going_most}
use Rattle.walk.proofs.Walking.{walk_past, walk_breaks, Fate, past, ended, broken, back, spent, fate}

-- steps to END, and the ids on them
pub record Ended (fat : List ℕ) (start : ℕ) (ids : List ℕ) : Type 0 where
  pub steps : ℕ
  pub path : Path fat start steps
  pub last : stepped fat start steps ≡ end_of_chain
  pub met : ids ≡ tab (stepped fat start) steps

-- steps that come back to their start never leave the table
returns_stay : {fat : List ℕ} {start : ℕ} → Returns fat start → (k : ℕ) → Path fat start k → length fat ≤ stepped fat start k → ⊥
returns_stay {fat} {start} r k p out =
    ⊎_elim
    (λ (l : k < r.steps). omega (arith, r.path.within k l))
    (λ (g : r.steps ≤ k). ⊎_elim
    (λ (l : r.steps < k).
    let z : r.steps ≡ 0 = leaves_different p out r.steps 0 l (omega arith) (r.back ∙ sym (stepped_none fat start)) in
    omega (arith, r.some))
    (λ (s : k ≤ r.steps).
    let same : stepped fat start k ≡ start = let e : k ≡ r.steps = omega arith in ap (stepped fat start) e ∙ r.back in
    omega (arith, r.path.within 0 r.some, stepped_none fat start))
    (below_or r.steps k))
    (below_or k r.steps)

-- in a table of no more sectors than there are regular numbers
module _ (fat : List ℕ) (start : ℕ) (few : length fat ≤ max_regular) where
  -- from an outcome to its cause
  pub listed_steps : (ids : List ℕ) → walk_of fat start ≡ lists ids → Ended fat start ids
  listed_steps ids w = at ids (rw w at (fate fat start few))
    where
      at : (l : List ℕ) → Fate fat start (lists l) → Ended fat start l
      at _ (ended k p e) = record { steps = k; path = p; last = e; met = refl }

  refused_past : walk_of fat start ≡ refuses 20 → (start ≢ end_of_chain) × (length fat ≤ start)
  refused_past w = at (rw w at (fate fat start few))
    where
      at : Fate fat start (refuses 20) → (start ≢ end_of_chain) × (length fat ≤ start)
      at (past d h) = (d, h)

  refused_breaks : walk_of fat start ≡ refuses 21 → Breaks fat start
  refused_breaks w = at (rw w at (fate fat start few))
    where
      at : Fate fat start (refuses 21) → Breaks fat start
      at (broken b) = b

  refused_returns : walk_of fat start ≡ refuses 22 → Returns fat start
  refused_returns w = at (rw w at (fate fat start few))
    where
      at : Fate fat start (refuses 22) → Returns fat start
      at (back k h g e) = record { steps = suc k; some = omega arith; path = g.path; back = e }

  -- from a return to 22
  walk_returns : Once fat → Returns fat start → walk_of fat start ≡ refuses 22
  walk_returns o r = at (walk_of fat start) (fate fat start few)
    where
      at : (w : Outcome) → Fate fat start w → w ≡ refuses 22
      at _ (past d h) = absurd (omega (arith, r.path.within 0 r.some, stepped_none fat start))
      at _ (ended k p e) = absurd (returns_stay r k p (omega arith))
      at _ (broken b) = absurd (returns_stay r b.steps b.path b.outside)
      at _ (back k h g e) = refl
      at _ (spent g) = absurd (omega (arith, going_most few o g))

  -- 20 is given exactly when the start is neither END nor below n
  pub past_exactly : (walk_of fat start ≡ refuses 20) ↔ ((start ≢ end_of_chain) × (length fat ≤ start))
  past_exactly = (refused_past, λ c. walk_past fat start c.0 c.1)

  -- 21 is given exactly when steps lead to an entry that is neither END nor a sector of the table
  pub breaks_exactly : (walk_of fat start ≡ refuses 21) ↔ Breaks fat start
  breaks_exactly = (refused_breaks, walk_breaks few)

  -- 22 is given exactly when steps lead back to the start
  pub returns_exactly : Once fat → (walk_of fat start ≡ refuses 22) ↔ Returns fat start
  returns_exactly o = (refused_returns, walk_returns o)

  -- where no sector is pointed to twice, n ids are enough
  pub never_spent : Once fat → walk_of fat start ≢ refuses 0
  never_spent o w = at (rw w at (fate fat start few))
    where
      at : Fate fat start (refuses 0) → ⊥
      at (spent g) = omega (arith, going_most few o g)

  -- a start that nothing points to never meets 22
  pub unpointed_never : Unpointed fat start → walk_of fat start ≢ refuses 22
  unpointed_never u w = at (refused_returns w).steps (refused_returns w).some (refused_returns w).path (refused_returns w).back
    where
      at : (k : ℕ) → 0 < k → Path fat start k → stepped fat start k ≡ start → ⊥
      at zero pos p e = omega arith
      at (suc k) pos p e = u.none (stepped fat start k) (p.within k (omega arith)) (sym (stepped_next fat start k) ∙ e)
