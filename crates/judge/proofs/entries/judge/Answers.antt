use mathlib.Core.Path.{refl}
use Rattle.std.proofs.lemmas.Result.{err_from_is_err_and}
use Rattle.consts.proofs.Refusals.{number_not}
use Rattle.judge.proofs.Judging.{judging_begun, judging_stops, judging_more, judging_ends}
use Rattle.judge.proofs.entries.judge.Goals as goal

pub loop-i-init : goal.loop-i-init
loop-i-init c = judging_begun _ _ _ c.requires.fat_len_bound c.requires.marks_value

pub returns-in_err-judge_one : goal.returns-in_err-judge_one
returns-in_err-judge_one c =
    let p = err_from_is_err_and c.from_residual.result c.from_residual.ensures.1 in
    rw (p.1, p.2) (judging_stops c.loop-i.invariant c.loop-i-test.true c.in_err-judge_one.ensures (number_not _))

pub loop-i-preserved : goal.loop-i-preserved
loop-i-preserved c = judging_more c.loop-i.invariant c.loop-i-test.true c.in_ok-judge_one.ensures refl

pub returns : goal.returns
returns c = judging_ends c.loop-i.invariant c.loop-i-test.false
