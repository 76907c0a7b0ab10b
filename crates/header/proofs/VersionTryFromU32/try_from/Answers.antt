-- Each arm of the match is one case of the definition.
use mathlib.Core.Path.{◌≡◌}
use native.Mathlib.Omega.{arith}
use borrow.Author.Tests.{ne_eqb}
use Rattle.header.specs.Versions.{numbered_of}
use Rattle.header.proofs.VersionTryFromU32.try_from.Goals as goal

pub returns-in-3 : goal.returns-in-3
unfolding numbered_of
returns-in-3 c = rw c.in-3.is

pub returns-in-4 : goal.returns-in-4
unfolding numbered_of
returns-in-4 c = rw c.in-4.is

pub returns-in_default : goal.returns-in_default
unfolding numbered_of
returns-in_default c =
    let not_3 : c.args.number ≡ 3 → ⊥ = λ e. omega arith in
    let not_4 : c.args.number ≡ 4 → ⊥ = λ e. omega arith in
    rw (ne_eqb _ _ not_3, ne_eqb _ _ not_4)
