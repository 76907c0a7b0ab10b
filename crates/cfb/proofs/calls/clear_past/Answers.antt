-- Past what `unwrap_or` gives the list is zero, which is the definition by either case of the walk's answer.
use mathlib.Core.Path.{◌∙◌, ap}
use Prim.Native.Nat.{ℕ}
use lib.ListN.{length, take}
use Rattle.alloc.specs.Opening.{padded}
use Rattle.cfb.proofs.Clearing.{cleared_as}
use Rattle.cfb.proofs.calls.clear_past.Goals as goal

pub returns : goal.returns
returns c =
    c.zero_from.ensures ∙ ap (λ (k : ℕ). padded (take k c.args.ids.now) (length c.args.ids.now)) c.unwrap_or.ensures ∙ cleared_as c.args.walked c.args.ids.now
