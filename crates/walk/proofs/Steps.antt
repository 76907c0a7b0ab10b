-- The laws of steps along a table's entries: where they lead, and when they meet different sectors. Assumes nothing.
use Prim.Native.Nat.{ℕ, zero, suc, ◌+◌, ◌-◌, ◌≤◌, ◌<◌}
use mathlib.Core.Path.{◌≡◌, refl, ◌∙◌, sym, ap}
use mathlib.Core.List.{List}
use mathlib.Core.Logic.{⊎_elim, ◌≢◌}
use native.Mathlib.Omega.{arith}
use native.Mathlib.Nat.{add-zero, add-suc}
use lib.ListN.{length, get_or}
use Rattle.lists.proofs.Cases.{below_or}
use Rattle.lists.proofs.Pigeon.{pigeon}
use Rattle.consts.specs.Consts.{max_regular}
use Rattle.walk.specs.Steps.{stepped, Path, Once}

-- steps after steps
pub stepped_add : (fat : List ℕ) (start i d : ℕ) → stepped fat start (i + d) ≡ stepped fat (stepped fat start i) d
unfolding stepped
stepped_add fat start i zero = rw add-zero
stepped_add fat start i (suc d) = rw add-suc (ap (λ (x : ℕ). get_or fat x 0) (stepped_add fat start i d))

pub stepped_next : (fat : List ℕ) (start k : ℕ) → stepped fat start (suc k) ≡ get_or fat (stepped fat start k) 0
unfolding stepped
stepped_next fat start k = refl

pub stepped_none : (fat : List ℕ) (start : ℕ) → stepped fat start 0 ≡ start
unfolding stepped
stepped_none fat start = refl

-- two sectors that are one lead on to one
stepped_same : (fat : List ℕ) (start i j d : ℕ) → stepped fat start i ≡ stepped fat start j → stepped fat start (i + d) ≡ stepped fat start (j + d)
stepped_same fat start i j d e = stepped_add fat start i d ∙ ap (λ (x : ℕ). stepped fat x d) e ∙ sym (stepped_add fat start j d)

-- fewer steps of a path
pub path_shorter : {fat : List ℕ} {start k m : ℕ} → m ≤ k → Path fat start k → Path fat start m
path_shorter h p = record { within = λ j l. p.within j (omega arith) }

-- a path that leaves the table has met no sector twice: two that are one would leave it at two places
module _ {fat : List ℕ} {start k : ℕ} (p : Path fat start k) (out : length fat ≤ stepped fat start k) where
  leaves_before : (i j : ℕ) → i < j → j < k → stepped fat start i ≡ stepped fat start j → ⊥
  leaves_before i j l h e =
      let whole : j + (k - j) ≡ k = omega arith in
      let same : stepped fat start (i + (k - j)) ≡ stepped fat start k = stepped_same fat start i j (k - j) e ∙ ap (stepped fat start) whole in
      omega (arith, p.within (i + (k - j)) (omega arith))

  pub leaves_different : (i j : ℕ) → i < k → j < k → stepped fat start i ≡ stepped fat start j → i ≡ j
  leaves_different i j hi hj e =
      ⊎_elim
      (λ (l : i < j). absurd (leaves_before i j l hj e))
      (λ (g : j ≤ i). ⊎_elim (λ (l : j < i). absurd (leaves_before j i l hi (sym e))) (λ (s : i ≤ j). omega arith) (below_or j i))
      (below_or i j)

  pub leaves_most : k ≤ length fat
  leaves_most = pigeon (length fat) k (stepped fat start) p.within leaves_different

-- steps that go on: each from a sector of the table, and none back to the start
pub record Going (fat : List ℕ) (start k : ℕ) : Type 0 where
  pub path : Path fat start k
  pub fresh : (j : ℕ) → 0 < j → j < k → stepped fat start j ≢ start

pub leaves_going : {fat : List ℕ} {start k : ℕ} → Path fat start k → length fat ≤ stepped fat start k → Going fat start k
leaves_going {fat} {start} {k} p out = record {
  path = p;
  fresh = λ j pos l e. let z : j ≡ 0 = leaves_different p out j 0 l (omega arith) (e ∙ sym (stepped_none fat start)) in omega arith;
}

pub going_none : {fat : List ℕ} {start : ℕ} → Going fat start 0
going_none = record { path = record { within = λ j l. absurd (omega arith) }; fresh = λ j pos l. absurd (omega arith) }

pub going_more : {fat : List ℕ} {start k : ℕ} → Going fat start k → stepped fat start k < length fat → (0 < k → stepped fat start k ≢ start) → Going fat start (suc k)
going_more {fat} {start} {k} g h d = record {
  path = record { within = λ j l. ⊎_elim (λ (b : j < k). g.path.within j b) (λ (a : k ≤ j). let e : j ≡ k = omega arith in rw e h) (below_or j k) };
  fresh = λ j pos l. ⊎_elim (λ (b : j < k). g.fresh j pos b) (λ (a : k ≤ j). let e : j ≡ k = omega arith in rw e (d (omega arith))) (below_or j k);
}

-- where no sector is pointed to twice, steps that go on meet different sectors: two that are one would have been one a step before, and so back to the start
module _ {fat : List ℕ} {start k : ℕ} (few : length fat ≤ max_regular) (o : Once fat) (g : Going fat start k) where
  going_different : (i j : ℕ) → i < k → j < k → stepped fat start i ≡ stepped fat start j → i ≡ j
  unfolding stepped
  going_different zero zero hi hj e = refl
  going_different zero (suc j) hi hj e = absurd (g.fresh (suc j) (omega arith) hj (sym e))
  going_different (suc i) zero hi hj e = absurd (g.fresh (suc i) (omega arith) hi e)
  going_different (suc i) (suc j) hi hj e =
      let a : stepped fat start i < length fat = g.path.within i (omega arith) in
      let b : stepped fat start j < length fat = g.path.within j (omega arith) in
      let low : get_or fat (stepped fat start i) 0 < length fat = g.path.within (suc i) hi in
      ap suc (going_different i j (omega arith) (omega arith) (o.once _ _ a b (omega arith) low e))

  pub going_most : k ≤ length fat
  going_most = pigeon (length fat) k (stepped fat start) g.path.within going_different
