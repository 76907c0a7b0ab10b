-- The sectors that a walk lists: different, linked by their entries, apart from those of another start, and the tail from one of them. Assumes nothing.
use Prim.Native.Nat.{ℕ, zero, suc, ◌+◌, ◌-◌, ◌≤◌, ◌<◌}
use mathlib.Core.Path.{◌≡◌, refl, ◌∙◌, sym, ap}
use mathlib.Core.List.{List, [], ◌∷◌}
use mathlib.Core.Logic.{⊎_elim, ◌≢◌, ◌↔◌}
use native.Mathlib.Omega.{arith}
use lib.ListN.{length, get_or, drop, length-drop, get_or-eq_default}
use lib.Seq.{get_or-drop}
use Rattle.lists.proofs.Cases.{below_or}
use Rattle.lists.proofs.Tab.{length_tab, get_or_tab, is_tab}
use Rattle.consts.specs.Consts.{max_regular, end_of_chain}
use Rattle.walk.specs.Walk.{lists, walk_of}
use Rattle.walk.specs.Steps.{stepped, Path, Sectors, Linked, Once, Unpointed}
use Rattle.walk.proofs.Steps.{stepped_add, stepped_next, stepped_none, path_shorter, leaves_different, leaves_most}
use Rattle.walk.proofs.Walking.{walk_ends}
use Rattle.walk.proofs.Exactly.{Ended, listed_steps}

-- within a list the value past its end does not matter
pub get_d_any : (l : List ℕ) (i d e : ℕ) → i < length l → get_or l i d ≡ get_or l i e
get_d_any [] i d e h = absurd (omega arith)
get_d_any (x ∷ l) zero d e h = refl
get_d_any (x ∷ l) (suc i) d e h = get_d_any l i d e (omega arith)

-- the ids on steps to END, by their places
module _ {fat : List ℕ} {start : ℕ} {ids : List ℕ} (w : Ended fat start ids) where
  ended_length : length ids ≡ w.steps
  ended_length = ap length w.met ∙ length_tab (stepped fat start) w.steps

  ended_at : (j : ℕ) → j < length ids → get_or ids j 0 ≡ stepped fat start j
  ended_at j h =
      let l : j < w.steps = rw ended_length at h in
      ap (λ (x : List ℕ). get_or x j 0) w.met ∙ get_or_tab (stepped fat start) w.steps j 0 l

  ended_to : (j : ℕ) → j ≤ length ids → get_or ids j end_of_chain ≡ stepped fat start j
  ended_to j h =
      ⊎_elim
      (λ (l : j < length ids). get_d_any ids j end_of_chain 0 l ∙ ended_at j l)
      (λ (g : length ids ≤ j).
      let e : w.steps ≡ j = omega (arith, ended_length) in
      get_or-eq_default ids end_of_chain g ∙ sym w.last ∙ ap (stepped fat start) e)
      (below_or j (length ids))

  ended_out : length fat ≤ max_regular → length fat ≤ stepped fat start w.steps
  ended_out few = omega (arith, w.last)

-- in a table of no more sectors than there are regular numbers
module _ (fat : List ℕ) (start : ℕ) (ids : List ℕ) (few : length fat ≤ max_regular) where
  ended_sectors : Ended fat start ids → Sectors fat ids
  ended_sectors w = record {
    most = rw (ended_length w) (leaves_most w.path (ended_out w few));
    within = λ j h. rw (ended_at w j h) (w.path.within j (omega (arith, ended_length w)));
    apart = λ i j hi hj e.
        leaves_different w.path (ended_out w few) i j (omega (arith, ended_length w)) (omega (arith, ended_length w))
        (sym (ended_at w i hi) ∙ e ∙ ended_at w j hj);
  }

  -- a walk lists different sectors, all below n, never more than n
  pub walk_sectors : walk_of fat start ≡ lists ids → Sectors fat ids
  walk_sectors w = ended_sectors (listed_steps fat start few ids w)

  -- the entry of each is the next one, and the last one's is END
  walk_linked : walk_of fat start ≡ lists ids → Linked fat start ids
  walk_linked w = of (listed_steps fat start few ids w)
    where
      of : Ended fat start ids → Linked fat start ids
      of h = record {
        first = ended_to h 0 (omega arith) ∙ stepped_none fat start;
        within = (ended_sectors h).within;
        next = λ j l.
            ap (λ (x : ℕ). get_or fat x 0) (ended_at h j l) ∙ sym (stepped_next fat start j) ∙ sym (ended_to h (suc j) (omega arith));
      }

  linked_steps : Linked fat start ids → (j : ℕ) → j ≤ length ids → stepped fat start j ≡ get_or ids j end_of_chain
  linked_steps c zero h = stepped_none fat start ∙ sym c.first
  linked_steps c (suc j) h =
      stepped_next fat start j
      ∙ ap (λ (x : ℕ). get_or fat x 0) (linked_steps c j (omega arith) ∙ get_d_any ids j end_of_chain 0 (omega arith))
      ∙ c.next j (omega arith)

  linked_at : Linked fat start ids → (j : ℕ) → j < length ids → stepped fat start j ≡ get_or ids j 0
  linked_at c j h = linked_steps c j (omega arith) ∙ get_d_any ids j end_of_chain 0 h

  linked_walk : Linked fat start ids → walk_of fat start ≡ lists ids
  linked_walk c =
      walk_ends few (length ids) (record { within = λ j h. rw (linked_at c j h) (c.within j h) })
      (linked_steps c (length ids) (omega arith) ∙ get_or-eq_default ids end_of_chain (omega arith))
      ∙ ap lists (sym (is_tab ids (stepped fat start) (length ids) refl (λ j h. sym (linked_at c j h))))

  -- a walk lists exactly the chain from its start
  pub lists_exactly : (walk_of fat start ≡ lists ids) ↔ Linked fat start ids
  lists_exactly = (walk_linked, linked_walk)

  -- a start inside a chain gives the tail
  pub walk_tail : walk_of fat start ≡ lists ids → (j : ℕ) → j < length ids → walk_of fat (get_or ids j 0) ≡ lists (drop j ids)
  walk_tail w j h = of (listed_steps fat start few ids w)
    where
      of : Ended fat start ids → walk_of fat (get_or ids j 0) ≡ lists (drop j ids)
      of k = rw (ended_at k j h)
          (walk_ends few (length ids - j)
          (record { within = λ i l. rw (on i) (k.path.within (j + i) (omega (arith, ended_length k))) })
          (on (length ids - j) ∙ ap (stepped fat start) all ∙ k.last)
          ∙ ap lists (sym (is_tab (drop j ids) (stepped fat (stepped fat start j)) (length ids - j) (length-drop j ids)
          (λ i l. get_or-drop j ids i 0 ∙ ended_at k (j + i) (omega arith) ∙ sym (on i)))))
        where
          on : (i : ℕ) → stepped fat (stepped fat start j) i ≡ stepped fat start (j + i)
          on i = sym (stepped_add fat start j i)

          all : j + (length ids - j) ≡ k.steps
          all = omega (arith, ended_length k)

-- two starts that nothing points to
module _ {fat : List ℕ} {a b : ℕ} (few : length fat ≤ max_regular) (o : Once fat) (other : a ≢ b) (ua : Unpointed fat a) (ub : Unpointed fat b) where
  apart_steps : (i j : ℕ) → Path fat a (suc i) → Path fat b (suc j) → stepped fat a i ≡ stepped fat b j → ⊥
  unfolding stepped
  apart_steps zero zero p q e = other e
  apart_steps zero (suc j) p q e = ua.none (stepped fat b j) (q.within j (omega arith)) (sym e)
  apart_steps (suc i) zero p q e = ub.none (stepped fat a i) (p.within i (omega arith)) e
  apart_steps (suc i) (suc j) p q e =
      let low : get_or fat (stepped fat a i) 0 < length fat = p.within (suc i) (omega arith) in
      apart_steps i j
      (path_shorter (omega arith) p)
      (path_shorter (omega arith) q)
      (o.once _ _ (p.within i (omega arith)) (q.within j (omega arith)) (omega arith) low e)

  -- their walks share no sector
  pub walks_apart : {xs ys : List ℕ} → walk_of fat a ≡ lists xs → walk_of fat b ≡ lists ys
      → (i j : ℕ) → i < length xs → j < length ys → get_or xs i 0 ≢ get_or ys j 0
  walks_apart {xs} {ys} wa wb i j hi hj e = at (listed_steps fat a few xs wa) (listed_steps fat b few ys wb)
    where
      at : Ended fat a xs → Ended fat b ys → ⊥
      at k m =
          apart_steps i j
          (path_shorter (omega (arith, ended_length k)) k.path)
          (path_shorter (omega (arith, ended_length m)) m.path)
          (sym (ended_at k i hi) ∙ e ∙ ended_at m j hj)
