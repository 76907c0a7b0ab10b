-- The fold and-s the tests of the places from the first past the k to the last.
use Prim.Native.Nat.{ℕ, ◌+◌, ◌-◌, ◌*◌}
use mathlib.Core.Bool.{Bool}
use mathlib.Core.Path.{◌≡◌, refl, ◌∙◌, ap}
use native.Mathlib.Omega.{arith}
use lib.Dec.{eqb}
use lib.ListN.{length}
use borrow.Author.Rules.{rules}
use Rattle.std.proofs.lemmas.Iterator.{YieldsList-from_range}
use Rattle.lists.specs.Lists.{every}
use Rattle.lists.proofs.Folds.{folded, all_ranged}
use Rattle.consts.specs.Consts.{free_sector}
use Rattle.sectors.specs.Sectors.{per_sector}
use Rattle.fat.specs.Lists.{place_at, rest_free}
use Rattle.fat.proofs.load.rest_free.Goals as goal

pub returns : goal.returns
unfolding rest_free
returns c = let a = c.args in
    let free : ℕ → Bool = λ p. eqb (place_at a.s a.image.now a.list.now a.difats.now p) free_sector in
    let count : ℕ = length a.difats.now * (per_sector a.s - 1) - (a.k - 109) in
    let past : c.max.result ≡ 109 + (a.k - 109) = omega (arith, c.max.ensures) in
    folded free (λ flag x next f k. search rules) (YieldsList-from_range c.max.result _ count refl (omega arith)) c.fold.ensures.ran
    ∙ all_ranged free c.max.result count
    ∙ ap (λ (p : ℕ). every count (λ i. free (p + i))) past
