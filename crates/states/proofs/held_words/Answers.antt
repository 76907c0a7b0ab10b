-- A word that fits is stored; the first that does not ends the loop.
use Prim.Native.Nat.{◌<◌, ◌+◌, ℕ}
use mathlib.Core.Path.{◌≡◌, refl, sym}
use native.Mathlib.Omega.{arith}
use lib.ListN.{get_or, replicate}
use Rattle.std.specs.Prelude.{None, Some}
use Rattle.std.specs.declared.result.Result.{Result}
use Rattle.std.specs.declared.result.Result.TheVariants.{Ok, Err}
use Rattle.std.specs.declared.option.Option.{Option}
use Rattle.std.specs.Result.{OkIff, result_ok}
use Rattle.lists.proofs.Splice.{splice_nil}
use Rattle.layout.proofs.Placing.{taken_more, taken_list}
use Rattle.states.proofs.Holding.{fits_more, fits_stop, fits_end}
use Rattle.states.proofs.held_words.Goals as goal

-- a conversion that ends with a number, and one that ends with none
narrow_some : {E : Type 0} (r : Result ℕ E) (P : Type 0) (v y : ℕ) → OkIff r P v → Some y ≡ result_ok r → P × (y ≡ v)
narrow_some (Ok x) P v y h e = (h.0, let z : x ≡ v = h.1 in cc)
narrow_some (Err d) P v y h e = cc

narrow_none : {E : Type 0} (r : Result ℕ E) (P : Type 0) (v : ℕ) → OkIff r P v → ◌≡◌ {A = Option ℕ} None (result_ok r) → P → ⊥
narrow_none (Ok x) P v h e = cc
narrow_none (Err d) P v h e = h

pub loop-i-init : goal.loop-i-init
loop-i-init c = record { fit = refl; held = sym (splice_nil (replicate 117 0) 0) }

pub returns-in_err-held : goal.returns-in_err-held
returns-in_err-held c =
    let turn = c.loop-i in
    let high : get_or c.args.words.now (4 + turn.i) 0 < 4294967296 → ⊥ = narrow_none _ _ _ c.try_from.ensures c.in_err-held.ensures.value in
    rw c.from_residual.ensures (sym (fits_stop _ turn.i turn.invariant.fit (omega arith) (omega arith)))

pub loop-i-preserved : goal.loop-i-preserved
loop-i-preserved c =
    let turn = c.loop-i in
    let low = narrow_some _ _ _ _ c.try_from.ensures c.in_ok-held.ensures.value in
    record {
      fit = fits_more _ turn.i turn.invariant.fit (omega arith) (omega (arith, low.0));
      held = rw low.1 (taken_more 4 117 c.args.words.now turn.i turn.invariant.held c.told-words (omega arith));
    }

pub returns : goal.returns
returns c =
    let turn = c.loop-i in
    (sym (fits_end _ turn.i turn.invariant.fit (omega arith)), taken_list 4 117 c.args.words.now turn.i turn.invariant.held c.told-words (omega arith))
