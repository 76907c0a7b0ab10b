-- The part that is lent comes back as zeros.
use Prim.Native.Nat.{ℕ, ◌-◌, ◌≤◌}
use mathlib.Core.Path.{◌≡◌, ◌∙◌, ap}
use mathlib.Core.List.{List}
use native.Mathlib.Omega.{arith}
use borrow.Rule.Slice.PartMut.{put_mid}
use lib.ListN.{length, take, drop, replicate, length-take, length-drop, length-replicate}
use Rattle.lists.specs.Lists.{splice}
use Rattle.lists.proofs.Splice.{put_mid_splice}
use Rattle.stores.proofs.zero_at.Goals as goal

zeros_back : (img out : List ℕ) (a b k : ℕ) → a ≤ b → b ≤ length img → b - a ≡ k → out ≡ replicate (length (take (b - a) (drop a img))) 0
    → put_mid a (b - a) img out ≡ splice img a (replicate k 0)
zeros_back img out a b k h l w e =
    let lent : length (take (b - a) (drop a img)) ≡ k = simp (length-take, length-drop) (omega arith) in
    let zeros : out ≡ replicate k 0 = rw lent at e in
    put_mid_splice a (b - a) img out (ap length zeros ∙ length-replicate {A = ℕ} k 0 ∙ omega arith) ∙ ap (splice img a) zeros

pub returns : goal.returns
returns c = zeros_back _ _ _ _ _ (omega arith) (omega arith) (omega arith) (c.fill.ensures.after (λ y e. e))
