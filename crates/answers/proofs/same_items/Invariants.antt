-- `same_items` meets its contract: so many items are passed, and what is left to agree is the whole. Assumes nothing.
use Rattle.std.proofs.Common.{◌≡◌, length}
use Rattle.consts.specs.Pretty.{prettify_of}
use Rattle.answers.proofs.Lined.{Left}
use Rattle.answers.proofs.same_items.Given as goal

abbrev pub invariant-loop-item : goal.invariant-loop-item
invariant-loop-item l = record {
  count : l.items ≡ length l.yielded;
  left : Left l.initial.held (prettify_of l.sectors) (length l.yielded) l.held;
}
