-- Each way out is one of the cases of an entry: reserved, special, past the end, pointing at a marked sector or at an unmarked one.
use Rattle.judge.proofs.Judging.{one_reserved, one_special, one_past_strict, one_past, one_twice, one_first}
use Rattle.judge.proofs.entries.judge_one.Goals as goal

pub returns-then-e : goal.returns-then-e
returns-then-e c = one_reserved _ _ _ _ c.if-e.true

pub returns-then-e-gt-MAX_REGULAR_SECTOR : goal.returns-then-e-gt-MAX_REGULAR_SECTOR
returns-then-e-gt-MAX_REGULAR_SECTOR c = one_special _ _ _ _ c.if-e.false c.if-e-gt-MAX_REGULAR_SECTOR.true

pub returns-then-strict : goal.returns-then-strict
returns-then-strict c = one_past_strict _ _ _ _ c.if-e-gt-MAX_REGULAR_SECTOR.false c.if-t-fat.true c.if-strict.true

pub returns-then-t-fat : goal.returns-then-t-fat
returns-then-t-fat c = one_past _ _ _ _ c.if-e-gt-MAX_REGULAR_SECTOR.false c.if-t-fat.true c.if-strict.false

pub returns-then-marks-t-eq1 : goal.returns-then-marks-t-eq1
returns-then-marks-t-eq1 c = one_twice _ _ _ _ c.if-e-gt-MAX_REGULAR_SECTOR.false c.if-t-fat.false c.if-marks-t-eq1.true

pub returns : goal.returns
returns c = one_first _ _ _ _ c.if-e-gt-MAX_REGULAR_SECTOR.false c.if-t-fat.false c.if-marks-t-eq1.false
