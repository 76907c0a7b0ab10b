-- A table that judging lets pass points at no sector twice (document 01, 16): so the walks of an opened image end. Assumes nothing.
use Prim.Native.Nat.{ℕ, zero, suc, ◌+◌, ◌≤◌, ◌<◌}
use mathlib.Core.Path.{◌≡◌, ◌∙◌, sym}
use mathlib.Core.Bool.{Bool, true, false}
use mathlib.Core.List.{List}
use mathlib.Core.Logic.{⊎_elim, ◌≢◌}
use native.Mathlib.Omega.{arith}
use borrow.Author.Tests.{le-leb, lt-leb, eq-eqb, ne_eqb}
use lib.ListN.{length, get_or}
use Rattle.lists.specs.Lists.{choose}
use Rattle.lists.proofs.Cases.{below_or, same_or, true_or, not_both}
use Rattle.lists.proofs.Tab.{length_tab, get_or_tab}
use Rattle.consts.specs.Consts.{max_regular}
use Rattle.judge.specs.Judge.{regular, forgiven, pointed, wrong_at, first_wrong, forgiven_fat}
use Rattle.judge.proofs.Judging.{pointed_by, forgiven_low, forgiven_kind, forgiven_high}
use Rattle.walk.specs.Steps.{Once}

-- where no sector is the first bad one, none is bad
none_wrong : (strict : Bool) (n : ℕ) (fat : List ℕ) (i c : ℕ) → first_wrong strict n fat i c ≡ 0 → (j : ℕ) → i ≤ j → j < i + c → wrong_at strict n fat j ≡ 0
unfolding first_wrong
none_wrong strict n fat i zero w j low high = absurd (omega arith)
none_wrong strict n fat i (suc c) w j low high =
    let rest : first_wrong strict n fat (suc i) c ≡ 0 → suc i ≤ j → wrong_at strict n fat j ≡ 0 = λ v l. none_wrong strict n fat (suc i) c v j l (omega arith) in
    ⊎_elim
    (λ (z : wrong_at strict n fat i ≡ 0).
    ⊎_elim
    (λ (l : i < j). rest (rw (eq-eqb (wrong_at strict n fat i) 0 z) at w) l)
    (λ (g : j ≤ i). let e : j ≡ i = omega arith in rw e z)
    (below_or i j))
    (λ (d : wrong_at strict n fat i ≢ 0). absurd (d (rw (ne_eqb (wrong_at strict n fat i) 0 d) at w)))
    (same_or (wrong_at strict n fat i) 0)

-- a sector that is not bad points at none that an earlier one points at
first_pointer : (strict : Bool) (n : ℕ) (fat : List ℕ) (i : ℕ) → n ≤ max_regular → wrong_at strict n fat i ≡ 0 → get_or fat i 0 < n → pointed fat i (get_or fat i 0) ≡ false
unfolding wrong_at regular
first_pointer strict n fat i few w h =
    let left : ◌≡◌ {A = ℕ} (choose (pointed fat i (get_or fat i 0)) 16 0) 0 = rw (le-leb (get_or fat i 0) max_regular (omega arith), lt-leb n (get_or fat i 0) h) at w in
    ⊎_elim
    (λ (t : pointed fat i (get_or fat i 0) ≡ true). let z : ◌≡◌ {A = ℕ} 16 0 = rw t at left in absurd (omega arith))
    (λ (f : pointed fat i (get_or fat i 0) ≡ false). f)
    (true_or (pointed fat i (get_or fat i 0)))

-- a forgiven entry that is a sector was that sector before
forgiven_sector : (n e : ℕ) → n ≤ max_regular → forgiven n e < n → (e < n) × (forgiven n e ≡ e)
forgiven_sector n e few h =
    ⊎_elim
    (λ (l : e < n). (l, forgiven_low n e l))
    (λ (g : n ≤ e).
    ⊎_elim
    (λ (k : max_regular < e). absurd (omega (arith, forgiven_kind n e k)))
    (λ (r : e ≤ max_regular). absurd (omega (arith, forgiven_high n e r g)))
    (below_or max_regular e))
    (below_or e n)

-- the table that judging leaves
pub once_judged : (strict : Bool) (n : ℕ) (fat : List ℕ) → n ≤ max_regular → first_wrong strict n fat 0 n ≡ 0 → Once (forgiven_fat n fat)
unfolding forgiven_fat
once_judged strict n fat few w = record { once = λ i j hi hj r low e. same i j (rw long at hi) (rw long at hj) (rw long at low) e }
  where
    long : length (forgiven_fat n fat) ≡ n
    long = length_tab (λ i. forgiven n (get_or fat i 0)) n

    at : (i : ℕ) → i < n → get_or (forgiven_fat n fat) i 0 ≡ forgiven n (get_or fat i 0)
    at i h = get_or_tab (λ k. forgiven n (get_or fat k 0)) n i 0 h

    later : (i j : ℕ) → i < j → j < n → get_or fat j 0 < n → get_or fat i 0 ≡ get_or fat j 0 → ⊥
    later i j l h low e =
        not_both (pointed_by fat j (get_or fat j 0) i l e)
        (first_pointer strict n fat j few (none_wrong strict n fat 0 n w j (omega arith) (omega arith)) low)

    same : (i j : ℕ) → i < n → j < n → get_or (forgiven_fat n fat) i 0 < n → get_or (forgiven_fat n fat) i 0 ≡ get_or (forgiven_fat n fat) j 0 → i ≡ j
    same i j hi hj low e =
        let a : (get_or fat i 0 < n) × (forgiven n (get_or fat i 0) ≡ get_or fat i 0) = forgiven_sector n (get_or fat i 0) few (rw (at i hi) at low) in
        let b : (get_or fat j 0 < n) × (forgiven n (get_or fat j 0) ≡ get_or fat j 0) = forgiven_sector n (get_or fat j 0) few (rw (e ∙ at j hj) at low) in
        let one : get_or fat i 0 ≡ get_or fat j 0 = sym a.1 ∙ sym (at i hi) ∙ e ∙ at j hj ∙ b.1 in
        ⊎_elim
        (λ (l : i < j). absurd (later i j l hj b.0 one))
        (λ (g : j ≤ i). ⊎_elim (λ (l : j < i). absurd (later j i l hi a.0 (sym one))) (λ (s : i ≤ j). omega arith) (below_or j i))
        (below_or i j)
