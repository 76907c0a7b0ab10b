-- Each test that fails is one of the definition's. What is left holds a state: each number is read where the definition reads it, and the header from the words behind them.
use mathlib.Core.Path.{◌≡◌, ◌∙◌, sym, ap}
use mathlib.Core.Bool.{true}
use Rattle.states.specs.States.{state_words, holds}
use Rattle.states.proofs.Again.{words_again}
use Rattle.states.proofs.Holding.{mode_high, version_none, words_fit, state_held}
use Rattle.states.proofs.state_of.Goals as goal
use Rattle.states.proofs.state_of.Goals.{then-words-gt1-via-then-words-gt1, then-words-gt1-via-else-words-gt1+then-not-is_version}

pub returns-then-words-gt1 : goal.returns-then-words-gt1
returns-then-words-gt1 c =
    elim c.then-words-gt1.branch [
      | then-words-gt1-via-then-words-gt1 w ↦ sym (mode_high _ w.if-words-gt1.true)
      | then-words-gt1-via-else-words-gt1+then-not-is_version w ↦ sym (version_none _ w.if-words-gt1.false (sym w.is_version.ensures ∙ w.if-not-is_version.true))
    ]

pub returns-in_err-held : goal.returns-in_err-held
returns-in_err-held c = rw c.from_residual.ensures (sym (words_fit _ c.if-words-gt1.false (sym c.is_version.ensures ∙ c.if-not-is_version.false)) ∙ c.in_err-held.ensures)

pub returns : goal.returns
returns c =
    let words = c.args.words.now in
    let held = state_held words _ c.in_ok-held.ensures.1 c.version_of-version.ensures c.header_with.ensures c.mode_of.ensures in
    let all : holds words ≡ true = sym (words_fit _ c.if-words-gt1.false (sym c.is_version.ensures ∙ c.if-not-is_version.false)) ∙ c.in_ok-held.ensures.0 in
    (all, held, ap state_words held ∙ words_again words c.told-words all)
