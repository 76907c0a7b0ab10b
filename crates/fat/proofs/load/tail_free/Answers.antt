-- The entries from n on all lie in the last sector, which begins below n and reaches to it at least; with no sectors there are none.
use Prim.Native.Nat.{ℕ}
use mathlib.Core.Path.{◌≡◌, sym, ◌∙◌, ap}
use mathlib.Core.List.{List, []}
use native.Mathlib.Omega.{arith}
use lib.ListN.{length, get_or}
use lib.Seq.{get_or-append_seam}
use Rattle.sectors.proofs.Laws.{sector_within}
use Rattle.fat.proofs.Differing.{below_at}
use Rattle.fat.proofs.Loading.{sector_begins, tail_none, tail_last}
use Rattle.fat.proofs.load.tail_free.Goals as goal
use Rattle.fat.proofs.load.tail_free.Goals.{In-Some}

-- the last of the sectors stands behind the others
at_last : (c : In-Some) → get_or c.args.fats.now (length c.in-Some.before.now) 0 ≡ c.in-Some.id.now
at_last c =
    ap (λ (l : List ℕ). get_or l (length c.in-Some.before.now) 0) c.in-Some.ensures.cases.0
    ∙ get_or-append_seam c.in-Some.before.now c.in-Some.id.now [] 0

pub returns-in_default : goal.returns-in_default
returns-in_default c = tail_none _ _ _ _ c.in_default.ensures.cases

pub free_at-requires-clause-s_in_bounds : goal.free_at-requires-clause-s_in_bounds
free_at-requires-clause-s_in_bounds c =
    let passed = goal.at.free_at-requires-clause-s_in_bounds c in
    sector_within _ _ _ _ c.requires.holds (rw (at_last passed.In-Some) at (below_at _ _ c.requires.below (length c.in-Some.before.now) (omega (arith, c.in-Some.ensures.cases.1))))

pub returns : goal.returns
returns c =
    let passed = goal.at.returns c in
    let more = sym c.in-Some.ensures.cases.1 in
    let begins = sector_begins (length c.in-Some.before.now) (length c.args.fats.now) _ _ (omega (arith, more)) c.requires.last in
    c.free_at.ensures
    ∙ rw (at_last passed.In-Some) at (tail_last c.args.s c.args.image.now c.args.fats.now c.args.n (length c.in-Some.before.now) more (omega (arith, begins)) c.requires.enough)
