-- A place below 109 stands in the header's list. Any other is in the DIFAT sector that its quotient names, which is listed and below n, at the remainder.
use native.Mathlib.Omega.{arith}
use Rattle.sectors.proofs.Laws.{sector_within}
use Rattle.fat.proofs.Differing.{below_at}
use Rattle.fat.proofs.Loading.{place_low, place_high, place_index}
use Rattle.fat.proofs.load.place_at.Goals as goal

pub returns-then-p-lt109 : goal.returns-then-p-lt109
returns-then-p-lt109 c = place_low _ _ _ _ _ c.if-p-lt109.true

pub entry_at-requires-clause-s_in_bounds : goal.entry_at-requires-clause-s_in_bounds
entry_at-requires-clause-s_in_bounds c =
    sector_within _ _ _ _ c.requires.holds (below_at _ _ c.requires.below _
    (place_index _ _ _ (omega (arith, c.requires.holds.two)) (omega (arith, c.requires.there)) c.if-p-lt109.false))

pub returns : goal.returns
returns c = place_high _ _ _ _ _ _ c.if-p-lt109.false c.entry_at.ensures
