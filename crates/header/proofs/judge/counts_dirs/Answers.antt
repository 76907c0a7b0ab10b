-- The three tests are the definition's, in its order.
use mathlib.Core.Path.{◌≡◌, sym, ◌∙◌}
use mathlib.Core.Bool.{true}
use Rattle.header.specs.Versions.{is_strict}
use borrow.Author.Tests.{eq-eqb, ne_eqb}
use Rattle.header.specs.Read.{counts_dirs}
use Rattle.header.proofs.judge.counts_dirs.Goals as goal
use Rattle.header.proofs.judge.counts_dirs.Goals.{After-is_strict, Else-not-is_strict}

-- what the test of the mode says, and that it was passed
strict : (c : After-is_strict) → is_strict c.args.validation ≡ c.is_strict.result
strict c = sym c.is_strict.ensures

insists : (c : Else-not-is_strict) → is_strict c.args.validation ≡ true
insists c =
    let strict : is_strict c.args.validation ≡ c.is_strict.result = sym c.is_strict.ensures in
    strict ∙ c.if-not-is_strict.false

pub returns-then-not-is_strict : goal.returns-then-not-is_strict
unfolding counts_dirs
returns-then-not-is_strict c =
    let passed = goal.at.returns-then-not-is_strict c in
    rw (strict passed.After-is_strict ∙ c.if-not-is_strict.true)

pub returns-then-major-ne3 : goal.returns-then-major-ne3
unfolding counts_dirs
returns-then-major-ne3 c =
    let passed = goal.at.returns-then-major-ne3 c in
    rw (insists passed.Else-not-is_strict, ne_eqb _ _ c.if-major-ne3.true)

pub returns : goal.returns
unfolding counts_dirs
returns c =
    let passed = goal.at.returns c in
    rw (insists passed.Else-not-is_strict, eq-eqb _ _ c.if-major-ne3.false)
