-- A list with zeros from a place on. Assumes nothing.
use Prim.Native.Nat.{ℕ, ◌+◌, ◌-◌, ◌≤◌, min}
use mathlib.Core.Path.{◌≡◌, sym, ◌∙◌, ap}
use mathlib.Core.List.{List, [], append-nil}
use native.Mathlib.Omega.{arith}
use borrow.Rule.Slice.PartMut.{put_mid}
use Rattle.std.proofs.lemmas.List.{take_min}
use lib.ListN.{length, take, drop, replicate, length-replicate, length-take, length-drop, drop_of_length-le}
use lib.Seq.{length-take-le}
use Rattle.lists.specs.Lists.{splice}
use Rattle.lists.proofs.Splice.{put_mid_splice}
use Rattle.alloc.specs.Opening.{padded}

-- zeros put over all that lies past a place, if there is any
pub zeroed_past : (xs run : List ℕ) (from kept : ℕ) → kept ≡ min from (length xs) → run ≡ replicate (length (take (length xs - kept) (drop kept xs))) 0
    → put_mid kept (length xs - kept) xs run ≡ padded (take from xs) (length xs)
unfolding splice padded
zeroed_past xs run from kept k e =
    let low : kept ≤ length xs = omega (arith, k) in
    let l : length (take (length xs - kept) (drop kept xs)) ≡ length xs - kept = length-take-le (length xs - kept) (drop kept xs) (omega (arith, length-drop kept xs)) in
    let long : length run ≡ length xs - kept = ap length e ∙ length-replicate {A = ℕ} _ 0 ∙ l in
    let front : length (take from xs) ≡ kept = length-take from xs ∙ sym k in
    let same : take kept xs ≡ take from xs = ap (λ (n : ℕ). take n xs) k ∙ take_min from xs in
    let rest : drop (kept + length run) xs ≡ [] = drop_of_length-le xs {i = kept + length run} (omega (arith, low)) in
    put_mid_splice kept (length xs - kept) xs run long ∙ rw (rest, append-nil run, front, e, l, same)
