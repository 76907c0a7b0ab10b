-- Each test is the next row of the table: at a return the rows before it are passed and its own holds, and at the end all six are passed.
use mathlib.Core.Path.{◌≡◌, sym, ◌∙◌, ap}
use Rattle.lists.proofs.Cases.{alike, unlike}
use Rattle.lists.proofs.Rows.{Passed, passed_none, passed_more, passed_given, passed_all}
use Rattle.header.specs.Versions.{shift_of, version_of}
use Rattle.header.specs.Read.{fixed_rows}
use Rattle.header.proofs.judge.judge.Goals as goal
use Rattle.header.proofs.judge.judge.Goals.{After-sector_shift, Else-counts_dirs, Else-f, Else-f-2, Else-f-ne-MINI_STREAM_CUTOFF, Else-f-sector_shift, Else-unknown}

-- what the tests have passed so far: each adds one row of the table to the rows that were passed before it
past1 : (c : Else-f) → Passed (fixed_rows c.args.validation c.args.f) 1
unfolding fixed_rows
past1 c = passed_more (fixed_rows c.args.validation c.args.f) 0 (passed_none _) (alike _ _ c.if-f.false)

past2 : (c : Else-unknown) → Passed (fixed_rows c.args.validation c.args.f) 1 → Passed (fixed_rows c.args.validation c.args.f) 2
unfolding fixed_rows
past2 c passed = passed_more (fixed_rows c.args.validation c.args.f) 1 passed (sym c.unknown.ensures ∙ c.if-unknown.false)

-- the shift that the version has
shift_is : (c : After-sector_shift) → c.sector_shift.result ≡ shift_of (version_of c.args.f.major)
shift_is c = c.sector_shift.ensures ∙ ap shift_of c.version_of.ensures

past3 : (c : Else-f-sector_shift) → Passed (fixed_rows c.args.validation c.args.f) 2 → Passed (fixed_rows c.args.validation c.args.f) 3
unfolding fixed_rows
past3 c passed = passed_more (fixed_rows c.args.validation c.args.f) 2 passed (alike _ _ (c.if-f-sector_shift.false ∙ c.sector_shift.ensures ∙ ap shift_of c.version_of.ensures))

past4 : (c : Else-f-2) → Passed (fixed_rows c.args.validation c.args.f) 3 → Passed (fixed_rows c.args.validation c.args.f) 4
unfolding fixed_rows
past4 c passed = passed_more (fixed_rows c.args.validation c.args.f) 3 passed (alike _ _ c.if-f-2.false)

past5 : (c : Else-counts_dirs) → Passed (fixed_rows c.args.validation c.args.f) 4 → Passed (fixed_rows c.args.validation c.args.f) 5
unfolding fixed_rows
past5 c passed = passed_more (fixed_rows c.args.validation c.args.f) 4 passed (sym c.counts_dirs.ensures ∙ c.if-counts_dirs.false)

past6 : (c : Else-f-ne-MINI_STREAM_CUTOFF) → Passed (fixed_rows c.args.validation c.args.f) 5 → Passed (fixed_rows c.args.validation c.args.f) 6
unfolding fixed_rows
past6 c passed = passed_more (fixed_rows c.args.validation c.args.f) 5 passed (alike _ _ c.if-f-ne-MINI_STREAM_CUTOFF.false)

pub returns-then-f : goal.returns-then-f
unfolding fixed_rows
returns-then-f c = passed_given (fixed_rows c.args.validation c.args.f) 0 (passed_none _) (unlike _ _ c.if-f.true)

pub returns-then-unknown : goal.returns-then-unknown
unfolding fixed_rows
returns-then-unknown c =
    let at = goal.at.returns-then-unknown c in
    passed_given (fixed_rows c.args.validation c.args.f) 1 (past1 at.Else-f) (sym c.unknown.ensures ∙ c.if-unknown.true)

pub returns-then-f-sector_shift : goal.returns-then-f-sector_shift
unfolding fixed_rows
returns-then-f-sector_shift c =
    let at = goal.at.returns-then-f-sector_shift c in
    passed_given (fixed_rows c.args.validation c.args.f) 2 (past2 at.Else-unknown (past1 at.Else-f)) (unlike _ _ (λ e. c.if-f-sector_shift.true (e ∙ sym (shift_is at.After-sector_shift))))

pub returns-then-f-2 : goal.returns-then-f-2
unfolding fixed_rows
returns-then-f-2 c =
    let at = goal.at.returns-then-f-2 c in
    passed_given (fixed_rows c.args.validation c.args.f) 3 (past3 at.Else-f-sector_shift (past2 at.Else-unknown (past1 at.Else-f))) (unlike _ _ c.if-f-2.true)

pub returns-then-counts_dirs : goal.returns-then-counts_dirs
unfolding fixed_rows
returns-then-counts_dirs c =
    let at = goal.at.returns-then-counts_dirs c in
    passed_given (fixed_rows c.args.validation c.args.f) 4 (past4 at.Else-f-2 (past3 at.Else-f-sector_shift (past2 at.Else-unknown (past1 at.Else-f)))) (sym c.counts_dirs.ensures ∙ c.if-counts_dirs.true)

pub returns-then-f-ne-MINI_STREAM_CUTOFF : goal.returns-then-f-ne-MINI_STREAM_CUTOFF
unfolding fixed_rows
returns-then-f-ne-MINI_STREAM_CUTOFF c =
    let at = goal.at.returns-then-f-ne-MINI_STREAM_CUTOFF c in
    passed_given (fixed_rows c.args.validation c.args.f) 5 (past5 at.Else-counts_dirs (past4 at.Else-f-2 (past3 at.Else-f-sector_shift (past2 at.Else-unknown (past1 at.Else-f))))) (unlike _ _ c.if-f-ne-MINI_STREAM_CUTOFF.true)

pub returns : goal.returns
unfolding fixed_rows
returns c =
    let at = goal.at.returns c in
    passed_all (fixed_rows c.args.validation c.args.f) (past6 c (past5 at.Else-counts_dirs (past4 at.Else-f-2 (past3 at.Else-f-sector_shift (past2 at.Else-unknown (past1 at.Else-f))))))
