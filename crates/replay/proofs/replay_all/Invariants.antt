-- Each turn adds its record to the count, and its place is the count before it and 1. Assumes nothing.
use Rattle.std.proofs.Common.{◌≡◌, ◌+◌, ◌≤◌}
use Rattle.replay.specs.Agrees.{Replays}
use Rattle.replay.proofs.replay_all.Given as goal

abbrev pub invariant-loop-place : goal.invariant-loop-place
invariant-loop-place g l = record {
  place : l.place ≡ l.answers + 1;
  few : l.differ ≤ l.answers;
  counted : Replays l.answers l.differ;
}
