-- `put_items` meets its contract: the lines of the items so far are put, each of at most 27 bytes. Assumes nothing.
use Rattle.std.proofs.Common.{◌+◌, ◌*◌, ◌≤◌, length}
use Rattle.texts.specs.Text.{Pushed}
use Rattle.lines.specs.Lines.{lines_of}
use Rattle.lines.proofs.put_items.Given as goal

abbrev pub invariant-loop-item : goal.invariant-loop-item
invariant-loop-item l = record {
  put : Pushed l.initial.out (lines_of l.yielded) l.out;
  short : l.out.len ≤ l.initial.out.len + 27 * length l.yielded;
}
