-- `after_line` meets its contract: a text was taken off the front, and then a line feed. Assumes nothing.
use Rattle.answers.proofs.Lined.{line_taken}
use Rattle.answers.proofs.after_line.Goals as goal

pub returns : goal.returns
returns c =
    let text = c.in_ok-strip_prefix.ensures.cases in
    line_taken _ _ _ c.strip_prefix-2.result text.0 text.1 c.strip_prefix-2.ensures.cases
