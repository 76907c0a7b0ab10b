-- `copy` meets its contract: a turn stores the next byte. Assumes nothing.
use Prim.Native.Nat.{ℕ, ◌≤◌}
use mathlib.Core.Path.{◌≡◌, refl, sym, ap, ◌∙◌}
use mathlib.Core.List.{List}
use native.Mathlib.Omega.{arith}
use lib.ListN.{length, get_or, set, length-set}
use lib.Seq.{take_all}
use Rattle.lists.proofs.Splice.{splice_nil}
use Rattle.words.proofs.Laws.{copied_more}
use Rattle.words.proofs.copy.Goals as goal

pub loop-i-init : goal.loop-i-init
loop-i-init c = (sym (splice_nil c.args.dst.now 0), refl)

pub loop-i-preserved : goal.loop-i-preserved
loop-i-preserved c =
    let l = c.loop-i in
    let src = c.args.src.now in (
      ap (λ (d : List ℕ). set d l.i (get_or src l.i 0)) l.invariant.0 ∙ copied_more src _ l.i c.loop-i-test.true c.requires,
      simp length-set l.invariant.1,
    )

pub returns : goal.returns
returns c =
    let e : length c.args.src.now ≤ c.loop-i.i = omega arith in
    c.loop-i.invariant.0 ∙ rw (take_all _ _ e)
