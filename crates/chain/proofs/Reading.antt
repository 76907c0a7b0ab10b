-- The loop of `read`: where it stands, a turn of it, and what it leaves. Assumes nothing.
use Prim.Native.Nat.{ℕ, ◌+◌, ◌-◌, ◌/◌, ◌%◌, ◌≤◌, ◌<◌, min}
use mathlib.Core.Path.{◌≡◌, ◌∙◌, sym, ap}
use mathlib.Core.List.{List}
use native.Mathlib.Omega.{arith}
use native.Mathlib.Nat.{zero-add}
use borrow.Rule.Slice.PartMut.{put_mid}
use lib.ListN.{length, get_or, take, drop}
use Rattle.lists.specs.Lists.{splice, part}
use Rattle.lists.proofs.Splice.{length_part, length_splice, splice_nil, splice_next, part_append, put_mid_splice}
use Rattle.std.specs.Int.{div_ceil}
use Rattle.sectors.specs.Sectors.{sector_of}
use Rattle.chain.specs.Bytes.{chain_bytes, read_count, read_bytes, Readable, ReadLeft}
use Rattle.chain.proofs.Bytes.{length_chain, chain_run, count_fits, count_within}
use Rattle.chain.proofs.Standing.{lent_ids, Turns, turns_begun, turns_done, turns_on, turns_over, turns_offset, turns_run, turns_stand, turns_id}

-- where the loop stands: done of the count bytes are over the buffer's front
pub record Reading (S : ℕ) (img ids : List ℕ) (offset : ℕ) (before : List ℕ) (count end turn : ℕ) (buf : List ℕ) (x done : ℕ) : Type 0 where
  pub asks : Readable S (length img) ids offset
  pub counted : count ≡ read_count S ids offset before
  pub stands : Turns S ids offset count end turn x done
  pub holds : buf ≡ splice before 0 (part (chain_bytes S img ids) offset done)

pub reading_begun : (S : ℕ) (img ids : List ℕ) (offset : ℕ) (before : List ℕ) (count end : ℕ) → Readable S (length img) ids offset → count ≡ read_count S ids offset before
    → end ≡ div_ceil (offset + count) S → Reading S img ids offset before count end 0 before (offset % S) 0
unfolding part
reading_begun S img ids offset before count end a c e = record {
  asks = a;
  counted = c;
  stands = turns_begun S ids offset count end a.lies.some (omega (arith, c, count_within S ids offset before a.seeks)) e;
  holds = sym (splice_nil before 0);
}

module _ {S : ℕ} {img ids : List ℕ} {offset : ℕ} {before : List ℕ} {count end turn : ℕ} {buf : List ℕ} {x done : ℕ}
    (g : Reading S img ids offset before count end turn buf x done) where
  pub reading_fits : count ≤ length before
  reading_fits = omega (arith, g.counted, count_fits S ids offset before)

  -- bytes that are read
  run_long : (o k : ℕ) → o + k ≤ offset + count → length (part (chain_bytes S img ids) o k) ≡ k
  run_long o k h = length_part (chain_bytes S img ids) o k (omega (arith, length_chain S img ids g.asks.lies, g.stands.few))

  pub reading_length : length buf ≡ length before
  reading_length =
      ap length g.holds
      ∙ length_splice before 0 (part (chain_bytes S img ids) offset done) (omega (arith, run_long offset done (omega (arith, turns_done g.stands)), turns_done g.stands, reading_fits))

  -- all are read
  pub reading_over : length (lent_ids S offset end ids) ≤ turn → ReadLeft S img ids offset before count buf
  unfolding read_bytes
  reading_over h =
      let all : done ≡ read_count S ids offset before = turns_over g.stands h ∙ g.counted in
      record { count = g.counted; bytes = g.holds ∙ ap (λ (k : ℕ). splice before 0 (part (chain_bytes S img ids) offset k)) all }

  -- a turn: a run of the next sector is put behind what is read
  pub reading_on : (stop : ℕ) (run : List ℕ) → turn < length (lent_ids S offset end ids) → stop ≡ min count (done + (S - x))
      → run ≡ part (sector_of S img (get_or (lent_ids S offset end ids) turn 0)) x (length (take (stop - done) (drop done buf)))
      → Reading S img ids offset before count end (turn + 1) (put_mid done (stop - done) buf run) 0 stop
  unfolding part
  reading_on stop run more step e = record {
    asks = g.asks;
    counted = g.counted;
    stands = rw step (turns_on g.stands);
    holds =
        splice_next before 0 sofar next g.holds put
        (omega (arith, sofar_long, next_long, reading_fits))
        ∙ ap (splice before 0) (sym (part_append (chain_bytes S img ids) offset done (stop - done)) ∙ ap (part (chain_bytes S img ids) offset) whole);
  }
    where
      sofar : List ℕ
      sofar = part (chain_bytes S img ids) offset done

      next : List ℕ
      next = part (chain_bytes S img ids) (offset + done) (stop - done)

      whole : done + (stop - done) ≡ stop
      whole = omega (arith, turns_done g.stands)

      sofar_long : length sofar ≡ done
      sofar_long = run_long offset done (omega (arith, turns_done g.stands))

      next_long : length next ≡ stop - done
      next_long = run_long (offset + done) (stop - done) (omega (arith, turns_done g.stands))

      lent : length (take (stop - done) (drop done buf)) ≡ stop - done
      lent = length_part buf done (stop - done) (omega (arith, reading_length, reading_fits, turns_done g.stands))

      ran : run ≡ next
      ran = e
          ∙ ap (part (sector_of S img (get_or (lent_ids S offset end ids) turn 0)) x) lent
          ∙ ap (λ (i : ℕ). part (sector_of S img i) x (stop - done)) (turns_id g.stands more)
          ∙ ap (λ (k : ℕ). part (sector_of S img (get_or ids ((offset + done) / S) 0)) k (stop - done)) (sym (turns_offset g.stands more))
          ∙ sym (chain_run S img ids g.asks.lies (offset + done) (stop - done) (turns_stand g.stands more g.asks.lies).place (turns_run g.stands more (stop - done) (omega arith)))

      put : put_mid done (stop - done) buf run ≡ splice buf (0 + length sofar) next
      put = put_mid_splice done (stop - done) buf run (ap length ran ∙ next_long)
          ∙ ap (splice buf done) ran
          ∙ ap (λ (k : ℕ). splice buf k next) (sym sofar_long ∙ sym (zero-add (length sofar)))
