-- The laws of a list that stays, loses its end or gets one number more. Assumes nothing.
use Prim.Native.Nat.{ℕ, suc, ◌≤◌, ◌<◌}
use mathlib.Core.Path.{◌≡◌, ◌∙◌, sym, ap}
use mathlib.Core.List.{List}
use mathlib.Core.Logic.{◌⊎◌, inl, inr, ⊎_elim, ◌≢◌}
use native.Mathlib.Omega.{arith}
use lib.ListN.{length, get_or, set}
use lib.Seq.{get_or-set_same, get_or-set_other}
use Rattle.lists.proofs.Cases.{same_or}
use Rattle.edits.specs.Roles.{Once, Separate}

-- each of the first k' numbers of now stood in the same place, among the first k of was, or is v and comes right behind those
pub record Listed (was now : List ℕ) (k k' v : ℕ) : Type 0 where
  pub at : (p : ℕ) → p < k' → ((p < k) × (get_or now p 0 ≡ get_or was p 0)) ⊎ ((p ≡ k) × (get_or now p 0 ≡ v))

-- a list that stays, one that loses its end, and one that gets a number more
pub listed_fewer : (was now : List ℕ) (k k' v : ℕ) → k' ≤ k → ((p : ℕ) → p < k' → get_or now p 0 ≡ get_or was p 0) → Listed was now k k' v
listed_fewer was now k k' v h e = record { at = λ p l. inl (omega (arith, h, l), e p l) }

pub listed_same : (was now : List ℕ) (k k' v : ℕ) → now ≡ was → k' ≡ k → Listed was now k k' v
listed_same was now k k' v e c = listed_fewer was now k k' v (omega (arith, c)) (λ p l. ap (λ (xs : List ℕ). get_or xs p 0) e)

pub listed_more : (was now : List ℕ) (k k' v : ℕ) → now ≡ set was k v → k' ≡ suc k → k < length was → Listed was now k k' v
listed_more was now k k' v e c h = record {
  at = λ p l. ⊎_elim
      (λ (s : p ≡ k). inr (s, ap (λ (xs : List ℕ). get_or xs p 0) e ∙ ap (λ (q : ℕ). get_or (set was k v) q 0) s ∙ get_or-set_same was k v 0 h))
      (λ (d : p ≢ k). inl (omega (arith, l, c, d), ap (λ (xs : List ℕ). get_or xs p 0) e ∙ get_or-set_other was k p v 0 d))
      (same_or p k);
}

-- what stood there stays
pub listed_stays : {was now : List ℕ} {k k' v : ℕ} → Listed was now k k' v → k ≤ k' → (p : ℕ) → p < k → get_or now p 0 ≡ get_or was p 0
listed_stays {was} {now} {k} {k'} {v} g h p l =
    ⊎_elim
    (λ (s : (p < k) × (get_or now p 0 ≡ get_or was p 0)). s.1)
    (λ (n : (p ≡ k) × (get_or now p 0 ≡ v)). absurd (omega (arith, n.0)))
    (g.at p (omega arith))

-- what v is not and none of the list was, none of it is
pub listed_none : {was now : List ℕ} {k k' v : ℕ} → Listed was now k k' v → (i : ℕ) → v ≢ i → ((p : ℕ) → p < k → get_or was p 0 ≢ i) → (p : ℕ) → p < k' → get_or now p 0 ≢ i
listed_none {was} {now} {k} {k'} {v} g i n old p l e =
    ⊎_elim
    (λ (s : (p < k) × (get_or now p 0 ≡ get_or was p 0)). old p s.0 (sym s.1 ∙ e))
    (λ (s : (p ≡ k) × (get_or now p 0 ≡ v)). n (sym s.1 ∙ e))
    (g.at p l)

-- a list without repetition that v is not in has none then
pub listed_once : {was now : List ℕ} {k k' v : ℕ} → Listed was now k k' v → Once was k → ((p : ℕ) → p < k → get_or was p 0 ≢ v) → Once now k'
listed_once {was} {now} {k} {k'} {v} g once fresh i j hi hj e = at (g.at i hi) (g.at j hj)
  where
    at : ((i < k) × (get_or now i 0 ≡ get_or was i 0)) ⊎ ((i ≡ k) × (get_or now i 0 ≡ v)) → ((j < k) × (get_or now j 0 ≡ get_or was j 0)) ⊎ ((j ≡ k) × (get_or now j 0 ≡ v)) → i ≡ j
    at (inl a) (inl b) = once i j a.0 b.0 (sym a.1 ∙ e ∙ b.1)
    at (inl a) (inr b) = absurd (fresh i a.0 (sym a.1 ∙ e ∙ b.1))
    at (inr a) (inl b) = absurd (fresh j b.0 (sym b.1 ∙ sym e ∙ a.1))
    at (inr a) (inr b) = a.0 ∙ sym b.0

-- two lists that have nothing in common have nothing in common then
pub listed_separate : {xs xs' ys ys' : List ℕ} {i i' j j' v w : ℕ} → Listed xs xs' i i' v → Listed ys ys' j j' w → Separate xs i ys j
    → ((p : ℕ) → p < i → get_or xs p 0 ≢ w) → ((q : ℕ) → q < j → get_or ys q 0 ≢ v) → v ≢ w → Separate xs' i' ys' j'
listed_separate {xs} {xs'} {ys} {ys'} {i} {i'} {j} {j'} {v} {w} g h apart left right new p q hp hq e = at (g.at p hp) (h.at q hq)
  where
    at : ((p < i) × (get_or xs' p 0 ≡ get_or xs p 0)) ⊎ ((p ≡ i) × (get_or xs' p 0 ≡ v)) → ((q < j) × (get_or ys' q 0 ≡ get_or ys q 0)) ⊎ ((q ≡ j) × (get_or ys' q 0 ≡ w)) → ⊥
    at (inl a) (inl b) = apart p q a.0 b.0 (sym a.1 ∙ e ∙ b.1)
    at (inl a) (inr b) = left p a.0 (sym a.1 ∙ e ∙ b.1)
    at (inr a) (inl b) = right q b.0 (sym b.1 ∙ sym e ∙ a.1)
    at (inr a) (inr b) = new (sym a.1 ∙ e ∙ b.1)
