-- The part that is lent is as long as the run, so it comes back as the run.
use Prim.Native.Nat.{◌+◌, ◌-◌}
use mathlib.Core.Path.{◌≡◌, ◌∙◌, ap}
use mathlib.Core.List.{List}
use native.Mathlib.Omega.{arith}
use lib.ListN.{length, length-take, length-drop}
use Rattle.lists.specs.Lists.{splice}
use Rattle.lists.proofs.Splice.{put_mid_splice, splice_whole}
use Rattle.stores.proofs.write_at.Goals as goal

pub returns : goal.returns
returns c =
    let run = c.copy.ensures ∙ splice_whole _ c.args.run.now (simp (length-take, length-drop) (omega arith)) in
    put_mid_splice _ _ _ _ (ap length run ∙ omega arith) ∙ ap (splice c.args.image.now _) run
