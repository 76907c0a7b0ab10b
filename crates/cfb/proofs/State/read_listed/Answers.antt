-- A chain that is listed lies in the image, so that its bytes are there; an offset past its end is judged before.
use Prim.Native.Nat.{ℕ}
use mathlib.Core.Path.{sym, ◌∙◌, ap}
use native.Mathlib.Omega.{arith}
use lib.ListN.{replicate}
use Rattle.std.proofs.lemmas.Result.{err_from_is_err_and}
use Rattle.cfb.proofs.Answering.{reads_refused, reads_past, reads_done}
use Rattle.cfb.proofs.Lying.{read_own, past_own, within_own, listed_count, listed_within, listed_bytes, listed_readable}
use Rattle.cfb.proofs.State.read_listed.Goals as goal

pub returns-in_err-count : goal.returns-in_err-count
returns-in_err-count c =
    let e = err_from_is_err_and c.from_residual.result c.from_residual.ensures.1 in
    rw (e.1, e.2) (reads_refused _ _ _ _ _ _ _ c.chain_of.ensures _ _ _ c.in_err-count.was)

pub overflow_mul-s : goal.overflow_mul-s
overflow_mul-s c = omega (arith, listed_bytes _ _ _ _ _ _ _ c.chain_of.ensures _ c.in_ok-count.was c.len_of-s.ensures)

pub returns-then-s-count : goal.returns-then-s-count
returns-then-s-count c =
    reads_past _ _ _ _ _ _ _ c.chain_of.ensures _ _ _ c.in_ok-count.was _ (past_own _ c.len_of-s.ensures c.if-s-count.true) (c.fill.ensures.after (λ y e. e) ∙ ap (λ (n : ℕ). replicate n 0) c.chain_of.auto.ids)

pub slice_bounds-read-end : goal.slice_bounds-read-end
slice_bounds-read-end c = listed_within _ _ _ _ _ _ _ c.chain_of.ensures _ c.in_ok-count.was

pub slice_bounds-read-end-2 : goal.slice_bounds-read-end-2
slice_bounds-read-end-2 c = sym (listed_count _ _ _ _ _ _ _ c.chain_of.ensures _ c.in_ok-count.was)

pub read-bytes-requires : goal.read-bytes-requires
read-bytes-requires c = listed_readable _ _ _ _ _ _ _ c.chain_of.ensures _ c.in_ok-count.was c.len_of-s.ensures c.if-s-count.false

pub returns : goal.returns
returns c =
    reads_done _ _ _ _ _ _ _ c.chain_of.ensures _ _ _ c.in_ok-count.was _ _ (within_own _ c.len_of-s.ensures c.if-s-count.false) (read_own c.len_of-s.ensures c.read-bytes.ensures)
