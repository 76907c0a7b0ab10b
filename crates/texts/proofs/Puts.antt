-- Texts put into a buffer, one after the other. Assumes nothing.
use Prim.Native.Nat.{ℕ, ◌+◌, ◌-◌, ◌≤◌}
use mathlib.Core.Path.{◌≡◌, refl, ◌∙◌, sym, ap}
use mathlib.Core.List.{List, [], ◌++◌}
use native.Mathlib.Omega.{arith}
use native.Mathlib.Nat.{add-zero}
use borrow.Rule.Slice.PartMut.{put_mid}
use lib.ListN.{length, length-append}
use Rattle.lists.specs.Lists.{splice}
use Rattle.lists.proofs.Splice.{length_splice, splice_nil, splice_append, put_mid_splice}
use Rattle.texts.specs.Text.{Put, Pushed}
use Rattle.texts.specs.declared.Out.{Out}

-- a text put past another
pub put_after : {b : List ℕ} {at : ℕ} {xs : List ℕ} {r : ℕ} {mid ys : List ℕ} {q : ℕ} {after : List ℕ} → Put b at xs r mid → Put mid r ys q after
    → at + (length xs + length ys) ≤ length b → Put b at (xs ++ ys) q after
put_after {b} {at} {xs} {r} {mid} {ys} {q} {after} p s fits =
    let w : r ≡ at + length xs = p.place in
    let e : q ≡ r + length ys = s.place in
    record {
      place = rw length-append (omega arith);
      kept = s.kept ∙ p.kept;
      buffer =
          s.buffer
          ∙ ap (λ (l : List ℕ). splice l r ys) p.buffer
          ∙ ap (λ (k : ℕ). splice (splice b at xs) k ys) w
          ∙ splice_append b at xs ys fits;
    }

-- a word that is copied over the part past what was put
pub put_word : (b : List ℕ) (at : ℕ) {word part : List ℕ} → at + length word ≤ length b → part ≡ word
    → Put b at word (at + length word) (put_mid at (at + length word - at) b part)
put_word b at {word} fits e =
    let k : at + length word - at ≡ length word = omega arith in
    let back : put_mid at (at + length word - at) b word ≡ splice b at word = rw k (put_mid_splice at (length word) b word refl) in
    record { place = refl; kept = rw e (ap length back ∙ length_splice b at word fits); buffer = rw e back }

-- nothing is put
pub pushed_none : (o : Out) → o.len ≤ length o.buf.now → Pushed o [] o
pushed_none o h = record { same = refl; put = record { place = sym (add-zero o.len); kept = refl; buffer = sym (splice_nil o.buf.now o.len) }; within = h }

-- a text past another
pub pushed_after : {o m n : Out} {xs ys : List ℕ} → Pushed o xs m → Pushed m ys n → Pushed o (xs ++ ys) n
pushed_after p q = record { same = q.same ∙ p.same; put = put_after p.put q.put (omega (arith, p.put.place, p.put.kept, q.put.place, q.put.kept, q.within)); within = q.within }

-- what is put into a buffer from its front on
pub put_begun : {o n : Out} {before xs after : List ℕ} {r : ℕ} → Pushed o xs n → o.buf.now ≡ before → o.len ≡ 0 → after ≡ n.buf.now → r ≡ n.len → Put before 0 xs r after
put_begun p b z e l = rw (e, l) (rw (b, z) at p.put)
