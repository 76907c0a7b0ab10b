-- Where byte o of a chain stands: in sector o / S of those listed, at o % S. And where a loop over the sectors stands that hold count bytes from an offset on. Assumes nothing.
use Prim.Native.Nat.{ℕ, ◌+◌, ◌-◌, ◌*◌, ◌/◌, ◌%◌, ◌≤◌, ◌<◌, min}
use mathlib.Core.Path.{◌≡◌}
use mathlib.Core.List.{List}
use mathlib.Core.Logic.{⊎_elim}
use native.Mathlib.Omega.{arith}
use native.Mathlib.Nat.{div-add-mod, mod-lt, mul-le-mul_right}
use lib.ListN.{length, get_or, take, drop, length-take, length-drop}
use Rattle.std.specs.Int.{div_ceil}
use Rattle.std.proofs.lemmas.Grind.{div_ceil_times}
use Rattle.std.proofs.lemmas.List.{get_or-take, get_or-drop}
use Rattle.std.proofs.lemmas.Nat.{div-mul-add, mod-mul-add}
use Rattle.lists.proofs.Cases.{below_or}
use Rattle.sectors.specs.Sectors.{start_of}
use Rattle.sectors.proofs.Laws.{scaled}
use Rattle.chain.specs.Bytes.{Lies}

-- byte o is in one of the sectors listed, which lie in an image of len bytes
pub record Stands (S len : ℕ) (ids : List ℕ) (o : ℕ) : Type 0 where
  pub lies : Lies S len ids
  pub place : o / S < length ids

module _ {S len : ℕ} {ids : List ℕ} {o : ℕ} (b : Stands S len ids o) where
  -- its sector lies in the image, and has a number below the image's length
  pub stands_inside : start_of S (get_or ids (o / S) 0) + S ≤ len
  stands_inside = b.lies.inside (o / S) b.place

  pub stands_id : get_or ids (o / S) 0 < len
  stands_id = omega (arith, stands_inside, scaled (get_or ids (o / S) 0 + 1) S b.lies.some)

  -- and it has a place within that sector
  pub stands_byte : o % S < S
  stands_byte = mod-lt o b.lies.some

  -- a run that ends with that sector or with the last of count elements leaves fewer to do
  pub run_less : (count done step : ℕ) → done < count → step ≡ min (S - o % S) (count - done) → count - (done + step) < count - done
  run_less count done step more e = omega (arith, stands_byte)

-- the ids of the sectors that hold the bytes from an offset on, up to sector end of those listed
abbrev pub lent_ids : ℕ → ℕ → ℕ → List ℕ → List ℕ
lent_ids S offset end ids = take (end - offset / S) (drop (offset / S) ids)

-- a loop over the sectors that hold count bytes from an offset on: turn of them are behind it, and done of the bytes; the next byte is byte x of the next sector
pub record Turns (S : ℕ) (ids : List ℕ) (offset count end turn x done : ℕ) : Type 0 where
  pub some : 0 < S
  pub few : offset + count ≤ S * length ids
  pub ends : end ≡ div_ceil (offset + count) S
  pub byte : x ≡ offset - (offset / S + turn) * S
  pub most : done ≡ min count ((offset / S + turn) * S - offset)

pub turns_begun : (S : ℕ) (ids : List ℕ) (offset count end : ℕ) → 0 < S → offset + count ≤ S * length ids → end ≡ div_ceil (offset + count) S
    → Turns S ids offset count end 0 (offset % S) 0
turns_begun S ids offset count end some few ends =
    record { some = some; few = few; ends = ends; byte = omega (arith, div-add-mod offset S); most = omega (arith, div-add-mod offset S) }

module _ {S : ℕ} {ids : List ℕ} {offset count end turn x done : ℕ} (b : Turns S ids offset count end turn x done) where
  ends_within : (offset + count ≤ end * S) × (end * S < offset + count + S)
  ends_within = rw b.ends (div_ceil_times (offset + count) S b.some)

  -- the chain has these sectors
  turns_few : end ≤ length ids
  turns_few =
      ⊎_elim
      (λ (l : end < length ids + 1). omega arith)
      (λ (g : length ids + 1 ≤ end). absurd (omega (arith, ends_within, b.few, mul-le-mul_right S g)))
      (below_or end (length ids + 1))

  turns_byte : x < S
  turns_byte = omega (arith, b.some, b.byte, div-add-mod offset S, mod-lt offset b.some)

  pub turns_done : done ≤ count
  turns_done = omega (arith, b.most)

  -- behind the last sector are all of the bytes
  pub turns_over : length (lent_ids S offset end ids) ≤ turn → done ≡ count
  turns_over h =
      let last : end ≤ offset / S + turn = omega (arith, simp (length-take, length-drop) at h, turns_few) in
      omega (arith, b.most, ends_within, mul-le-mul_right S last)

  pub turns_on : Turns S ids offset count end (turn + 1) 0 (min count (done + (S - x)))
  turns_on = record {
    some = b.some;
    few = b.few;
    ends = b.ends;
    byte = omega (arith, div-add-mod offset S, mod-lt offset b.some);
    most = omega (arith, b.byte, b.most, turns_byte);
  }

  -- and before it the next byte stands in the next sector
  module _ (more : turn < length (lent_ids S offset end ids)) where
    turns_low : offset / S + turn < end
    turns_low = omega (arith, simp (length-take, length-drop) at more)

    turns_at : offset + done ≡ (offset / S + turn) * S + x
    turns_at =
        let next : offset / S + turn + 1 ≤ end = omega (arith, turns_low) in
        omega (arith, b.byte, b.most, ends_within, mul-le-mul_right S next)

    turns_place : (offset + done) / S ≡ offset / S + turn
    turns_place = rw turns_at (div-mul-add (offset / S + turn) S x turns_byte)

    pub turns_offset : (offset + done) % S ≡ x
    turns_offset = rw turns_at (mod-mul-add (offset / S + turn) S x turns_byte)

    -- and a run from there goes no further than that sector
    pub turns_run : (k : ℕ) → k ≤ S - x → (offset + done) % S + k ≤ S
    turns_run k h = omega (arith, turns_offset, turns_byte)

    pub turns_stand : {len : ℕ} → Lies S len ids → Stands S len ids (offset + done)
    turns_stand l = record { lies = l; place = omega (arith, turns_place, turns_low, turns_few) }

    pub turns_id : get_or (lent_ids S offset end ids) turn 0 ≡ get_or ids ((offset + done) / S) 0
    turns_id =
        let near : turn < end - offset / S = omega (arith, turns_low) in
        rw (get_or-take, get_or-drop, turns_place)
