-- `put_before` meets its contract: so far the bytes below the index are put, and v is the next. Assumes nothing.
use Rattle.std.proofs.Common.{◌≡◌, ℕ, ◌+◌, ◌*◌, ◌%◌, ◌<◌, get_or}
use Rattle.answers.proofs.put_before.Given as goal

abbrev pub invariant-loop-x : goal.invariant-loop-x
invariant-loop-x l = record {
  put : (k : ℕ) → k < l.x-index → get_or l.buf k 0 ≡ (7 * k + 3) % 256;
  next : l.v ≡ (7 * l.x-index + 3) % 256;
}
