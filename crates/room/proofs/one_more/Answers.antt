-- The three ways are those of the definition.
use Prim.Native.Nat.{◌/◌}
use mathlib.Core.Path.{sym, ◌∙◌}
use native.Mathlib.Omega.{arith}
use Rattle.room.proofs.Needing.{quotient_times, one_more_data, one_more_fat, one_more_difat}
use Rattle.room.proofs.one_more.Goals as goal

pub returns-then-n-each-ne0 : goal.returns-then-n-each-ne0
returns-then-n-each-ne0 c = one_more_data _ _ c.if-n-each-ne0.true

pub needs_difat-requires : goal.needs_difat-requires
needs_difat-requires c =
    (c.requires.0, c.requires.1, omega (arith, c.requires.0, c.requires.2, quotient_times c.args.n (c.args.s / 4) 128 (omega (arith, c.requires.0))))

pub returns-then-needs_difat : goal.returns-then-needs_difat
returns-then-needs_difat c = one_more_difat _ _ c.if-n-each-ne0.false (sym c.needs_difat.ensures ∙ c.if-needs_difat.true)

pub returns : goal.returns
returns c = one_more_fat _ _ c.if-n-each-ne0.false (sym c.needs_difat.ensures ∙ c.if-needs_difat.false)
