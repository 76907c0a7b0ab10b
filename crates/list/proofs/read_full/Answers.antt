-- A read puts its bytes behind those that were read before. Assumes nothing.
use Rattle.std.proofs.Common.{◌≡◌, ℕ, ◌+◌, ◌-◌, ◌≤◌, List, ◌++◌, length, take, drop, ap, sym, subst, ◌∙◌, arith}
use Rattle.std.specs.Io.KnownBytes.{Consumes}
use Rattle.std.proofs.KnownBytes.{Consumes-trans}
use borrow.Rule.Slice.PartMut.{put_mid}
use Rattle.std.proofs.Math.Seq.{length-take-le, take-append-add}
use Rattle.std.proofs.lemmas.List.{take-append-le}
use Rattle.lists.specs.Lists.{splice}
use Rattle.lists.proofs.Splice.{put_mid_splice}
use Rattle.list.proofs.read_full.Goals as goal

-- the first a + m bytes, once ys stands behind the first a of xs: those a, and m of ys
front : (a k m : ℕ) (xs ys : List ℕ) → a ≤ length xs → length ys ≡ k → m ≤ length ys → take (a + m) (put_mid a k xs ys) ≡ take a xs ++ take m ys
unfolding splice
front a k m xs ys within long few =
    let begun : length (take a xs) ≡ a = length-take-le a xs within in
    ap (take (a + m)) (put_mid_splice a k xs ys long)
    ∙ ap (λ (n : ℕ). take (n + m) (take a xs ++ (ys ++ drop (a + length ys) xs))) (sym begun)
    ∙ take-append-add (take a xs) (ys ++ drop (a + length ys) xs) m
    ∙ ap (λ (l : List ℕ). take a xs ++ l) (take-append-le m ys (drop (a + length ys) xs) few)

pub loop-n-preserved : goal.loop-n-preserved
loop-n-preserved g c =
    let before = c.loop-n in
    let placed = front before.done (length before.buf - before.done) c.in-Ok-1-to-max.n before.buf c.read.new.buf before.invariant.within (omega arith) (omega (arith, c.in-Ok-1-to-max.ensures.bound)) in
    let taken : List ℕ → Type 0 = λ bs. Consumes (g.R.Read.remaining c.args.input.now) (g.R.Read.remaining c.read.new.self) bs in
    record {
      within = omega (arith, c.in-Ok-1-to-max.ensures.bound);
      read = subst taken (sym placed) (Consumes-trans _ _ _ _ _ before.invariant.read c.in-Ok-1-to-max.ensures.bytes.0);
    }
