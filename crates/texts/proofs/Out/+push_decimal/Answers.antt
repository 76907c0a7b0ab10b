-- `Out::push_decimal` meets its contract: the digits of n / 10, where there are more than one, and the last digit. Assumes nothing.
use Rattle.std.proofs.Common.{ℕ, arith}
use Rattle.texts.specs.Text.{Pushed}
use Rattle.texts.proofs.Decimal.{decimal_length_more, front_of, front_one, front_more, decimal_front, front_length}
use Rattle.texts.proofs.Puts.{pushed_none, pushed_after}
use Rattle.texts.proofs.Out.+push_decimal.Goals as goal
use Rattle.texts.proofs.Out.+push_decimal.Goals.{Joined-n-ge10, then-n-ge10, else-n-ge10}

pub push_decimal-requires : goal.push_decimal-requires
push_decimal-requires t c = (omega arith, omega (arith, decimal_length_more _ c.if-n-ge10.true, c.requires))

-- the digits in front of the last one are put
fronted : (t : ℕ) (c : Joined-n-ge10 t) → Pushed c.args.self.now (front_of c.args.n) c.if-n-ge10.self
fronted t c =
    elim c.if-n-ge10.branch [
      | then-n-ge10 w ↦ rw (w.self-is, ← front_more c.args.n w.if-n-ge10.true) w.push_decimal.ensures
      | else-n-ge10 w ↦ rw (w.self-is, ← front_one c.args.n w.if-n-ge10.false) (pushed_none c.args.self.now (omega (arith, c.requires)))
    ]

pub push-requires : goal.push-requires
push-requires t c =
    let passed = goal.at.push-requires t c in
    omega (arith, c.requires, front_length c.args.n, (fronted t passed.Joined-n-ge10).put)

pub returns : goal.returns
returns t c =
    let passed = goal.at.returns t c in
    rw (← decimal_front c.args.n) (pushed_after (fronted t passed.Joined-n-ge10) c.push.ensures)
