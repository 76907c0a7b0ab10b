-- The laws of the zeros up to the end of a sector: they are a write that stays within the chain. Assumes nothing.
use Prim.Native.Nat.{ℕ, suc, ◌+◌, ◌-◌, ◌*◌, ◌/◌, ◌%◌, ◌≤◌, ◌<◌}
use mathlib.Core.Path.{◌≡◌, ◌∙◌, sym, ap}
use mathlib.Core.List.{List}
use mathlib.Core.Logic.{⊎_elim, ◌≢◌}
use native.Mathlib.Omega.{arith}
use native.Mathlib.Nat.{mul-suc, mul-le-mul_left, div-add-mod, mod-lt}
use borrow.Author.Tests.{eq-eqb, ne_eqb}
use lib.ListN.{length, get_or, replicate, length-replicate}
use Rattle.lists.specs.Lists.{splice}
use Rattle.lists.proofs.Cases.{below_or, same_or}
use Rattle.sectors.specs.Sectors.{start_of, sector_of}
use Rattle.chain.specs.Bytes.{chain_bytes}
use Rattle.stores.specs.Stores.{write_bytes, tail_of, zero_tail, Writable, Outside}
use Rattle.stores.proofs.Stored.{write_length, write_chain, write_apart, write_sector, write_none, write_run}
use Rattle.chain.proofs.Standing.{Stands, stands_byte}

pub tail_none : (S o : ℕ) → o % S ≡ 0 → tail_of S o ≡ 0
unfolding tail_of
tail_none S o e = rw (eq-eqb (o % S) 0 e)

pub tail_some : (S o : ℕ) → o % S ≢ 0 → tail_of S o ≡ S - o % S
unfolding tail_of
tail_some S o n = rw (ne_eqb (o % S) 0 n)

-- an offset within a sector of the chain: that sector is listed
pub tail_place : (S o n : ℕ) → o % S ≢ 0 → o ≤ S * n → o / S < n
tail_place S o n some h =
    ⊎_elim
    (λ (l : o / S < n). l)
    (λ (g : n ≤ o / S). let m : S * n ≤ S * (o / S) = mul-le-mul_left S g in absurd (omega (arith, div-add-mod o S)))
    (below_or (o / S) n)

-- the sector that has a byte of the chain belongs to it whole
pub tail_fits : (S o n : ℕ) → 0 < S → o ≤ S * n → o + tail_of S o ≤ S * n
tail_fits S o n pos h =
    ⊎_elim
    (λ (e : o % S ≡ 0). omega (arith, tail_none S o e))
    (λ (d : o % S ≢ 0).
    let m : S * suc (o / S) ≤ S * n = mul-le-mul_left S (tail_place S o n d h) in
    omega (arith, tail_some S o d, mul-suc S (o / S), div-add-mod o S, mod-lt o pos))
    (same_or (o % S) 0)

-- so what can be written up to an offset can be zeroed from it on
pub writable_tail : (S len : ℕ) (ids : List ℕ) (o : ℕ) → Writable S len ids o 0 → Writable S len ids o (length {A = ℕ} (replicate (tail_of S o) 0))
writable_tail S len ids o w = record {
  lies = w.lies;
  apart = w.apart;
  fits = rw (length-replicate {A = ℕ} (tail_of S o) 0) (tail_fits S o (length ids) w.lies.some (omega (arith, w.fits)));
}

-- an offset within a sector stands in one of the chain
pub zero_stands : {S len : ℕ} {ids : List ℕ} {o : ℕ} → Writable S len ids o 0 → o % S ≢ 0 → Stands S len ids o
zero_stands {S} {len} {ids} {o} w d = record { lies = w.lies; place = tail_place S o (length ids) d (omega (arith, w.fits)) }

-- the zeros: the image's length, the chain's bytes, and what they leave alone
module _ (S : ℕ) (img ids : List ℕ) (o : ℕ) (w : Writable S (length img) ids o 0) where
  pub zero_length : length (zero_tail S img ids o) ≡ length img
  unfolding zero_tail
  zero_length = write_length S img ids o (replicate (tail_of S o) 0) (writable_tail S (length img) ids o w)

  pub zero_chain : chain_bytes S (zero_tail S img ids o) ids ≡ splice (chain_bytes S img ids) o (replicate (tail_of S o) 0)
  unfolding zero_tail
  zero_chain = write_chain S img ids o (replicate (tail_of S o) 0) (writable_tail S (length img) ids o w)

  pub zero_apart : (b : ℕ) → Outside S ids b → get_or (zero_tail S img ids o) b 0 ≡ get_or img b 0
  unfolding zero_tail
  zero_apart = write_apart S img ids o (replicate (tail_of S o) 0) (writable_tail S (length img) ids o w)

  pub zero_sector : (j : ℕ) → start_of S j + S ≤ length img → ((i : ℕ) → i < length ids → get_or ids i 0 ≢ j) → sector_of S (zero_tail S img ids o) j ≡ sector_of S img j
  unfolding zero_tail
  zero_sector = write_sector S img ids o (replicate (tail_of S o) 0) (writable_tail S (length img) ids o w)

  -- where a sector begins nothing is zeroed
  pub zero_begins : o % S ≡ 0 → zero_tail S img ids o ≡ img
  unfolding zero_tail
  zero_begins e = ap (λ (k : ℕ). write_bytes S img ids o (replicate k 0)) (tail_none S o e) ∙ write_none S img ids o w

  -- elsewhere the zeros stand in one sector
  pub zero_run : o % S ≢ 0 → (after : List ℕ) → after ≡ splice img (start_of S (get_or ids (o / S) 0) + o % S) (replicate (S - o % S) 0) → after ≡ zero_tail S img ids o
  unfolding zero_tail
  zero_run d after e =
      e
      ∙ ap (λ (k : ℕ). splice img (start_of S (get_or ids (o / S) 0) + o % S) (replicate k 0)) (sym (tail_some S o d))
      ∙ write_run S img ids o (replicate (tail_of S o) 0) (writable_tail S (length img) ids o w)
      (zero_stands w d).place
      (rw (length-replicate {A = ℕ} (tail_of S o) 0) (omega (arith, tail_some S o d, stands_byte (zero_stands w d))))
