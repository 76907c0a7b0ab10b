-- The walk, by its steps: what it comes to where they lead to END, to a bad entry or back, and that one of these is met. Assumes nothing.
use Prim.Native.Nat.{ℕ, zero, suc, ◌+◌, ◌-◌, ◌≤◌, ◌<◌}
use mathlib.Core.Path.{◌≡◌, refl, ◌∙◌, sym, ap}
use mathlib.Core.Bool.{Bool, true, false}
use mathlib.Core.List.{List, []}
use mathlib.Core.Logic.{◌⊎◌, inl, inr, ⊎_elim, ◌≢◌}
use native.Mathlib.Omega.{arith}
use native.Mathlib.Nat.{suc-add, zero-add}
use borrow.Author.Tests.{ltb-true, lt-ltb, le-ltb, le-leb, eq-eqb, ne_eqb}
use lib.Dec.{eqb, ltb}
use lib.ListN.{length, get_or}
use Rattle.lists.specs.Lists.{choose, either, tab, tab_from}
use Rattle.lists.proofs.Cases.{below_or, same_or, not_both, both_true, both_right, both_false_right}
use Rattle.consts.specs.Consts.{max_regular, end_of_chain}
use Rattle.judge.specs.Judge.{regular}
use Rattle.walk.specs.Walk.{Outcome, lists, refuses, ahead, leads, walk_from, walk_of}
use Rattle.walk.specs.Steps.{stepped, Path, Breaks}
use Rattle.walk.proofs.Steps.{stepped_next, stepped_none, leaves_going, leaves_most, Going, going_none, going_more}

-- an entry, in a table of fewer sectors than there are regular numbers: END and a sector lead on, any other does not
pub leads_end : (n e : ℕ) → e ≡ end_of_chain → leads n e ≡ true
unfolding leads
leads_end n e h = rw (eq-eqb e end_of_chain h)

leads_sector : (n e : ℕ) → n ≤ max_regular → e < n → leads n e ≡ true
unfolding leads regular
leads_sector n e few h = rw (ne_eqb e end_of_chain (omega arith)) (both_true (le-leb e max_regular (omega arith)) (lt-ltb e n h))

-- and told by the test
pub leads_true : (n e : ℕ) → leads n e ≡ true → e ≢ end_of_chain → e < n
unfolding leads
leads_true n e t d = ltb-true e n (both_right (regular e) (ltb e n) (rw (ne_eqb e end_of_chain d) at t))

pub leads_false : (n e : ℕ) → n ≤ max_regular → leads n e ≡ false → (e ≢ end_of_chain) × (n ≤ e)
leads_false n e few f = (
  λ h. not_both (leads_end n e h) f,
  ⊎_elim (λ (l : e < n). absurd (not_both (leads_sector n e few l) f)) (λ (g : n ≤ e). g) (below_or e n),
)

leads_not : (n e : ℕ) → e ≢ end_of_chain → n ≤ e → leads n e ≡ false
unfolding leads
leads_not n e d h = rw (ne_eqb e end_of_chain d) (both_false_right (regular e) (ltb e n) (le-ltb e n h))

pub leads_other : (n e : ℕ) → n ≤ max_regular → e ≢ end_of_chain → ltb e n ≡ leads n e
leads_other n e few d =
    ⊎_elim
    (λ (l : e < n). lt-ltb e n l ∙ sym (leads_sector n e few l))
    (λ (g : n ≤ e). le-ltb e n g ∙ sym (leads_not n e d g))
    (below_or e n)

-- one turn of the walk, by the id and its entry
module _ (fat : List ℕ) (start : ℕ) where
  turn_end : (f id : ℕ) → id ≡ end_of_chain → walk_from fat start f id ≡ lists []
  unfolding walk_from
  turn_end zero id e = simp (eq-eqb _ _ e)
  turn_end (suc f) id e = simp (eq-eqb _ _ e)

  turn_spent : (id : ℕ) → id ≢ end_of_chain → walk_from fat start zero id ≡ refuses 0
  unfolding walk_from
  turn_spent id d = simp (ne_eqb _ _ d)

  turn_bad : (f id : ℕ) → id ≢ end_of_chain → leads (length fat) (get_or fat id 0) ≡ false → walk_from fat start (suc f) id ≡ refuses 21
  unfolding walk_from
  turn_bad f id d l = simp (ne_eqb _ _ d, l)

  turn_back : (f id : ℕ) → id ≢ end_of_chain → leads (length fat) (get_or fat id 0) ≡ true → get_or fat id 0 ≡ start → walk_from fat start (suc f) id ≡ refuses 22
  unfolding walk_from
  turn_back f id d l e = simp (ne_eqb _ _ d, l, eq-eqb _ _ e)

  turn_on : (f id : ℕ) → id ≢ end_of_chain → leads (length fat) (get_or fat id 0) ≡ true → get_or fat id 0 ≢ start
      → walk_from fat start (suc f) id ≡ ahead id (walk_from fat start f (get_or fat id 0))
  unfolding walk_from
  turn_on f id d l e = simp (ne_eqb _ _ d, l, ne_eqb _ _ e)

-- d steps from the i-th on, in front of an outcome
ahead_from : List ℕ → ℕ → ℕ → ℕ → Outcome → Outcome
ahead_from fat start i zero w = w
ahead_from fat start i (suc d) w = ahead (stepped fat start i) (ahead_from fat start (suc i) d w)

ahead_lists : (fat : List ℕ) (start i d : ℕ) → ahead_from fat start i d (lists []) ≡ lists (tab_from (stepped fat start) i d)
unfolding ahead_from ahead tab_from
ahead_lists fat start i zero = refl
ahead_lists fat start i (suc d) = ap (ahead (stepped fat start i)) (ahead_lists fat start (suc i) d)

ahead_refuses : (fat : List ℕ) (start i d r : ℕ) → ahead_from fat start i d (refuses r) ≡ refuses r
unfolding ahead_from ahead
ahead_refuses fat start i zero r = refl
ahead_refuses fat start i (suc d) r = ap (ahead (stepped fat start i)) (ahead_refuses fat start (suc i) d r)

-- step j is taken: its sector is not END, and the next id leads on and is not the start
record Taken (fat : List ℕ) (start j : ℕ) : Type 0 where
  here : stepped fat start j ≢ end_of_chain
  there : leads (length fat) (stepped fat start (suc j)) ≡ true
  apart : stepped fat start (suc j) ≢ start

-- steps that are all taken are listed
taken_on : (fat : List ℕ) (start k : ℕ) → ((j : ℕ) → j < k → Taken fat start j) → (d i f : ℕ) → i + d ≡ k
    → walk_from fat start (d + f) (stepped fat start i) ≡ ahead_from fat start i d (walk_from fat start f (stepped fat start k))
unfolding ahead_from stepped
taken_on fat start k t zero i f e = let s : i ≡ k = omega arith in rw (zero-add, s)
taken_on fat start k t (suc d) i f e =
    let h : Taken fat start i = t i (omega arith) in
    rw (suc-add d f)
    (turn_on fat start (d + f) (stepped fat start i) h.here h.there h.apart
    ∙ ap (ahead (stepped fat start i)) (taken_on fat start k t d (suc i) f (omega arith)))

-- the walk is 20, or it begins
pub walk_past : (fat : List ℕ) (start : ℕ) → start ≢ end_of_chain → length fat ≤ start → walk_of fat start ≡ refuses 20
unfolding walk_of
walk_past fat start d h = simp (ne_eqb _ _ d, le-ltb _ _ h)

walk_in : (fat : List ℕ) (start : ℕ) → start < length fat → walk_of fat start ≡ walk_from fat start (length fat) start
unfolding walk_of
walk_in fat start h = at (eqb start end_of_chain)
  where
    at : (b : Bool) → choose (either b (ltb start (length fat))) (walk_from fat start (length fat) start) (refuses 20) ≡ walk_from fat start (length fat) start
    at true = refl
    at false = rw (lt-ltb _ _ h)

walk_none : (fat : List ℕ) (start : ℕ) → start ≡ end_of_chain → walk_of fat start ≡ lists []
unfolding walk_of
walk_none fat start e = simp (eq-eqb _ _ e) (turn_end fat start (length fat) start e)

module _ {fat : List ℕ} {start : ℕ} (few : length fat ≤ max_regular) where
  -- a walk whose first k steps are taken
  walk_taken : (k : ℕ) → k ≤ length fat → start < length fat → ((j : ℕ) → j < k → Taken fat start j)
      → walk_of fat start ≡ ahead_from fat start 0 k (walk_from fat start (length fat - k) (stepped fat start k))
  walk_taken k h low t =
      let whole : k + (length fat - k) ≡ length fat = omega arith in
      walk_in fat start low
      ∙ ap (λ (f : ℕ). walk_from fat start f start) (sym whole)
      ∙ ap (walk_from fat start (k + (length fat - k))) (sym (stepped_none fat start))
      ∙ taken_on fat start k t k 0 (length fat - k) (zero-add k)

  going_taken : {k : ℕ} → Going fat start (suc k) → (j : ℕ) → j < k → Taken fat start j
  going_taken g j h = record {
    here = λ e. omega (arith, g.path.within j (omega arith));
    there = leads_sector (length fat) (stepped fat start (suc j)) few (g.path.within (suc j) (omega arith));
    apart = g.fresh (suc j) (omega arith) (omega arith);
  }

  going_start : {k : ℕ} → Going fat start (suc k) → start < length fat
  going_start g = rw stepped_none at (g.path.within 0 (omega arith))

  -- the last sector before the walk ends
  going_here : {k : ℕ} → Going fat start (suc k) → stepped fat start k ≢ end_of_chain
  going_here {k} g e = omega (arith, g.path.within k (omega arith))

  -- up to a last step that refuses
  going_refuses : {k r : ℕ} → Going fat start (suc k) → k < length fat
      → ((f : ℕ) → walk_from fat start (suc f) (stepped fat start k) ≡ refuses r) → walk_of fat start ≡ refuses r
  going_refuses {k} {r} g h last =
      let left : length fat - k ≡ suc (length fat - suc k) = omega arith in
      walk_taken k (omega arith) (going_start g) (going_taken g)
      ∙ ap (ahead_from fat start 0 k) (ap (λ (f : ℕ). walk_from fat start f (stepped fat start k)) left ∙ last (length fat - suc k))
      ∙ ahead_refuses fat start 0 k r

  -- back at the start
  pub walk_back : {k : ℕ} → Going fat start (suc k) → k < length fat → stepped fat start (suc k) ≡ start → walk_of fat start ≡ refuses 22
  walk_back {k} g h e =
      going_refuses g h
      (λ f. turn_back fat start f (stepped fat start k) (going_here g)
      (ap (leads (length fat)) (sym (stepped_next fat start k) ∙ e) ∙ leads_sector (length fat) start few (going_start g))
      (sym (stepped_next fat start k) ∙ e))

  -- at an entry that is neither END nor a sector
  pub walk_bad : {k : ℕ} → Going fat start (suc k) → k < length fat → length fat ≤ stepped fat start (suc k) → stepped fat start (suc k) ≢ end_of_chain
      → walk_of fat start ≡ refuses 21
  walk_bad {k} g h out d =
      going_refuses g h
      (λ f. turn_bad fat start f (stepped fat start k) (going_here g)
      (ap (leads (length fat)) (sym (stepped_next fat start k)) ∙ leads_not (length fat) (stepped fat start (suc k)) d out))

  -- with its fuel spent
  walk_spent : Going fat start (suc (length fat)) → walk_of fat start ≡ refuses 0
  walk_spent g =
      let none : length fat - length fat ≡ 0 = omega arith in
      walk_taken (length fat) (omega arith) (going_start g) (going_taken g)
      ∙ ap (ahead_from fat start 0 (length fat)) (ap (λ (f : ℕ). walk_from fat start f (stepped fat start (length fat))) none ∙ turn_spent fat start (stepped fat start (length fat)) (going_here g))
      ∙ ahead_refuses fat start 0 (length fat) 0

  -- at END
  pub walk_ends : (k : ℕ) → Path fat start k → stepped fat start k ≡ end_of_chain → walk_of fat start ≡ lists (tab (stepped fat start) k)
  unfolding tab
  walk_ends zero p e = walk_none fat start (sym (stepped_none fat start) ∙ e) ∙ ap lists refl
  walk_ends (suc k) p e =
      walk_taken (suc k) (leaves_most p out) (going_start g) (λ j h. taken j h (below_or (suc j) (suc k)))
      ∙ ap (ahead_from fat start 0 (suc k)) (turn_end fat start (length fat - suc k) (stepped fat start (suc k)) e)
      ∙ ahead_lists fat start 0 (suc k)
    where
      out : length fat ≤ stepped fat start (suc k)
      out = omega arith

      g : Going fat start (suc k)
      g = leaves_going p out

      taken : (j : ℕ) → j < suc k → (suc j < suc k) ⊎ (suc k ≤ suc j) → Taken fat start j
      taken j h (inl l) = going_taken g j (omega arith)
      taken j h (inr l) =
          let s : suc j ≡ suc k = omega arith in
          let last : stepped fat start (suc j) ≡ end_of_chain = ap (stepped fat start) s ∙ e in
          record {
            here = λ z. omega (arith, p.within j h);
            there = leads_end (length fat) (stepped fat start (suc j)) last;
            apart = λ z. omega (arith, going_start g);
          }

  pub walk_breaks : Breaks fat start → walk_of fat start ≡ refuses 21
  walk_breaks b = at b.steps b.some b.path b.outside b.other
    where
      at : (k : ℕ) → 0 < k → Path fat start k → length fat ≤ stepped fat start k → stepped fat start k ≢ end_of_chain → walk_of fat start ≡ refuses 21
      at zero pos p out d = absurd (omega arith)
      at (suc k) pos p out d = walk_bad (leaves_going p out) (leaves_most p out) out d

-- what a walk comes to, with the steps that led there
pub data Fate (fat : List ℕ) (start : ℕ) : Outcome → Type 0 where
  past : start ≢ end_of_chain → length fat ≤ start → Fate fat start (refuses 20)
  ended : (k : ℕ) → Path fat start k → stepped fat start k ≡ end_of_chain → Fate fat start (lists (tab (stepped fat start) k))
  broken : Breaks fat start → Fate fat start (refuses 21)
  back : (k : ℕ) → k < length fat → Going fat start (suc k) → stepped fat start (suc k) ≡ start → Fate fat start (refuses 22)
  spent : Going fat start (suc (length fat)) → Fate fat start (refuses 0)

module _ (fat : List ℕ) (start : ℕ) (few : length fat ≤ max_regular) where
  ends_so : (k : ℕ) → Path fat start k → stepped fat start k ≡ end_of_chain → Fate fat start (walk_of fat start)
  ends_so k p e = rw (walk_ends few k p e) (ended k p e)

  breaks_so : Breaks fat start → Fate fat start (walk_of fat start)
  breaks_so b = rw (walk_breaks few b) (broken b)

  -- d steps more, and the fuel is spent
  fate_from : (d k : ℕ) → k + d ≡ length fat → Going fat start (suc k) → Fate fat start (walk_of fat start)
  fate_from zero k e g =
      let s : k ≡ length fat = omega arith in
      let all : Going fat start (suc (length fat)) = rw s at g in
      rw (walk_spent few all) (spent all)
  fate_from (suc d) k e g =
      ⊎_elim
      (λ (l : stepped fat start (suc k) < length fat).
      ⊎_elim
      (λ (s : stepped fat start (suc k) ≡ start). rw (walk_back few g (omega arith) s) (back k (omega arith) g s))
      (λ (n : stepped fat start (suc k) ≢ start). fate_from d (suc k) (omega arith) (going_more g l (λ pos. n)))
      (same_or (stepped fat start (suc k)) start))
      (λ (out : length fat ≤ stepped fat start (suc k)).
      ⊎_elim
      (λ (s : stepped fat start (suc k) ≡ end_of_chain). ends_so (suc k) g.path s)
      (λ (n : stepped fat start (suc k) ≢ end_of_chain). breaks_so (record { steps = suc k; some = omega arith; path = g.path; outside = out; other = n }))
      (same_or (stepped fat start (suc k)) end_of_chain))
      (below_or (stepped fat start (suc k)) (length fat))

  -- every walk has one of these fates
  pub fate : Fate fat start (walk_of fat start)
  fate =
      ⊎_elim
      (λ (l : start < length fat). fate_from (length fat) 0 (zero-add (length fat)) (going_more going_none (rw stepped_none l) (λ pos. absurd (omega arith))))
      (λ (h : length fat ≤ start).
      ⊎_elim
      (λ (e : start ≡ end_of_chain). ends_so 0 going_none.path (stepped_none fat start ∙ e))
      (λ (d : start ≢ end_of_chain). rw (walk_past fat start d h) (past d h))
      (same_or start end_of_chain))
      (below_or start (length fat))
