use Rattle.std.proofs.Common.{arith}
use Rattle.lists.proofs.Tab.{is_tab}
use Rattle.answers.specs.Answers.{before}
use Rattle.answers.proofs.put_before.Goals as goal

pub returns : goal.returns
unfolding before
returns c = is_tab _ _ _ (omega arith) (λ k h. c.loop-x.invariant.put k (omega arith))
