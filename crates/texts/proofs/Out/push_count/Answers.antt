-- `Out::push_count` meets its contract: the number and a space are put unless the count is one, and then the word. Assumes nothing.
use Rattle.std.proofs.Common.{arith}
use Rattle.texts.specs.Text.{Pushed}
use Rattle.texts.proofs.Puts.{pushed_none, pushed_after}
use Rattle.texts.proofs.Texts.{ahead_of, ahead_one, ahead_many, count_ahead, ahead_length, count_length}
use Rattle.texts.proofs.Out.push_count.Goals as goal
use Rattle.texts.proofs.Out.push_count.Goals.{Joined-n-ne1, then-n-ne1, else-n-ne1}

-- what stands in front of the word is put
fronted : (c : Joined-n-ne1) → Pushed c.args.self.now (ahead_of c.args.n) c.if-n-ne1.self
fronted c =
    elim c.if-n-ne1.branch [
      | then-n-ne1 w ↦ rw (w.self-is, ← ahead_many c.args.n w.if-n-ne1.true) (pushed_after w.push_decimal.ensures w.push.ensures)
      | else-n-ne1 w ↦ rw (w.self-is, ← ahead_one c.args.n w.if-n-ne1.false) (pushed_none c.args.self.now (omega (arith, c.requires)))
    ]

pub push-requires-2 : goal.push-requires-2
push-requires-2 c =
    let passed = goal.at.push-requires-2 c in
    let word = c.args.word.now in
    omega (arith, c.requires, (fronted passed.Joined-n-ne1).put, ahead_length c.args.n word, count_length c.args.n word (omega arith))

pub returns : goal.returns
returns c =
    let passed = goal.at.returns c in
    let word = c.args.word.now in
    let put = rw (count_ahead c.args.n word) at (pushed_after (fronted passed.Joined-n-ne1) c.push-2.ensures) in
    record { put = put; short = omega (arith, put.put.place, count_length c.args.n word (omega arith)) }
