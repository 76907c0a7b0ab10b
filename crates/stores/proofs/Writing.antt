-- The loop of `write`: where it stands, a turn of it, and what it leaves. Assumes nothing.
use Prim.Native.Nat.{ℕ, ◌+◌, ◌-◌, ◌/◌, ◌%◌, ◌≤◌, ◌<◌, min}
use mathlib.Core.Path.{◌≡◌, refl, ◌∙◌, sym, ap}
use mathlib.Core.List.{List, ◌++◌}
use native.Mathlib.Omega.{arith}
use lib.ListN.{length, get_or, take, drop, length-drop}
use lib.Seq.{length-take-le, take_all, take-add}
use Rattle.std.specs.Int.{div_ceil}
use Rattle.std.proofs.lemmas.List.{drop-drop}
use Rattle.lists.specs.Lists.{splice}
use Rattle.sectors.specs.Sectors.{start_of}
use Rattle.stores.specs.Stores.{write_bytes, Writable}
use Rattle.chain.proofs.Standing.{lent_ids, Turns, turns_begun, turns_done, turns_on, turns_over, turns_offset, turns_run, turns_stand, turns_id}
use Rattle.stores.proofs.Stored.{write_length, write_none, write_run, write_more_lem}

-- where the loop stands: the first done bytes of buf are written, and the rest is left
pub record Writing (S : ℕ) (before ids : List ℕ) (offset : ℕ) (buf : List ℕ) (end turn : ℕ) (image : List ℕ) (x : ℕ) (rest : List ℕ) : Type 0 where
  pub done : ℕ
  pub asks : Writable S (length before) ids offset (length buf)
  pub stands : Turns S ids offset (length buf) end turn x done
  pub left : rest ≡ drop done buf
  pub holds : image ≡ write_bytes S before ids offset (take done buf)

-- less of what can be written can be written
writable_less : {S len : ℕ} {ids : List ℕ} {offset count : ℕ} → Writable S len ids offset count → (k : ℕ) → k ≤ count → Writable S len ids offset k
writable_less w k h = record { lies = w.lies; apart = w.apart; fits = omega (arith, w.fits) }

pub writing_begun : (S : ℕ) (before ids : List ℕ) (offset : ℕ) (buf : List ℕ) (end : ℕ) → Writable S (length before) ids offset (length buf) → end ≡ div_ceil (offset + length buf) S
    → Writing S before ids offset buf end 0 before (offset % S) buf
writing_begun S before ids offset buf end w e = record {
  done = 0;
  asks = w;
  stands = turns_begun S ids offset (length buf) end w.lies.some w.fits e;
  left = refl;
  holds = sym (write_none S before ids offset (writable_less w 0 (omega arith)));
}

module _ {S : ℕ} {before ids : List ℕ} {offset : ℕ} {buf : List ℕ} {end turn : ℕ} {image : List ℕ} {x : ℕ} {rest : List ℕ}
    (g : Writing S before ids offset buf end turn image x rest) where
  done_long : length (take g.done buf) ≡ g.done
  done_long = length-take-le g.done buf (turns_done g.stands)

  rest_long : length rest ≡ length buf - g.done
  rest_long = ap length g.left ∙ length-drop g.done buf

  pub writing_length : length image ≡ length before
  writing_length =
      ap length g.holds ∙ write_length S before ids offset (take g.done buf) (writable_less g.asks (length (take g.done buf)) (omega (arith, done_long, turns_done g.stands)))

  -- all are written
  pub writing_over : length (lent_ids S offset end ids) ≤ turn → image ≡ write_bytes S before ids offset buf
  writing_over h = g.holds ∙ ap (write_bytes S before ids offset) (take_all g.done buf (omega (arith, turns_over g.stands h)))

  -- a turn: a run of what is left is put into the next sector
  pub writing_on : (step : ℕ) (run behind after : List ℕ) → turn < length (lent_ids S offset end ids) → step ≡ min (length rest) (S - x) → run ≡ take step rest → behind ≡ drop step rest
      → after ≡ splice image (start_of S (get_or (lent_ids S offset end ids) turn 0) + x) run
      → Writing S before ids offset buf end (turn + 1) after 0 behind
  writing_on step run behind after more short front back e = record {
    done = g.done + step;
    asks = g.asks;
    stands = rw next_done (turns_on g.stands);
    left = back ∙ ap (drop step) g.left ∙ drop-drop step g.done buf;
    holds =
        e
        ∙ ap (λ (i : ℕ). splice image (start_of S i + x) run) (turns_id g.stands more)
        ∙ ap (λ (k : ℕ). splice image (start_of S (get_or ids ((offset + g.done) / S) 0) + k) run) (sym (turns_offset g.stands more))
        ∙ write_run S image ids (offset + g.done) run (rw writing_length next_asks) place (turns_run g.stands more (length run) (omega (arith, run_long)))
        ∙ ap (λ (u : List ℕ). write_bytes S u ids (offset + g.done) run) g.holds
        ∙ ap (λ (k : ℕ). write_bytes S (write_bytes S before ids offset (take g.done buf)) ids (offset + k) run) (sym done_long)
        ∙ write_more_lem S before ids offset (take g.done buf) run (writable_less g.asks (length (take g.done buf) + length run) (omega (arith, done_long, run_long, rest_long, turns_done g.stands)))
        ∙ ap (write_bytes S before ids offset) (ap (λ (u : List ℕ). take g.done buf ++ u) (front ∙ ap (take step) g.left) ∙ sym (take-add g.done step buf));
  }
    where
      next_done : g.done + step ≡ min (length buf) (g.done + (S - x))
      next_done = omega (arith, rest_long, turns_done g.stands)

      run_long : length run ≡ step
      run_long = ap length front ∙ length-take-le step rest (omega arith)

      place : (offset + g.done) / S < length ids
      place = (turns_stand g.stands more g.asks.lies).place

      next_asks : Writable S (length before) ids (offset + g.done) (length run)
      next_asks = record { lies = g.asks.lies; apart = g.asks.apart; fits = omega (arith, g.asks.fits, run_long, rest_long, turns_done g.stands) }
