-- The laws of a chain resized and written. Assumes nothing.
use Prim.Native.Nat.{ℕ, ◌+◌, ◌-◌, ◌*◌, ◌≤◌, ◌<◌}
use mathlib.Core.Path.{◌≡◌, refl, ◌∙◌, sym, ap}
use mathlib.Core.List.{List, []}
use mathlib.Core.Logic.{⊎_elim}
use native.Mathlib.Omega.{arith}
use native.Mathlib.Nat.{mul_comm, add-mul, mul-le-mul_left, mul-le-mul_right}
use borrow.Author.Tests.{lt-ltb, le-ltb}
use lib.ListN.{length, get_or}
use lib.Seq.{get_or-take, length-take-le}
use Rattle.lists.proofs.Cases.{below_or}
use Rattle.sectors.proofs.Laws.{sector_within}
use Rattle.fat.specs.Lists.{most, ceil}
use Rattle.fat.proofs.Listing.{ceil_enough}
use Rattle.chain.specs.Bytes.{Lies}
use Rattle.stores.specs.Stores.{write_bytes, zero_tail, Writable}
use Rattle.stores.proofs.Stored.{write_length, write_none}
use Rattle.stores.proofs.Zeroed.{zero_length}
use Rattle.room.specs.Needed.{resize_more, write_more}
use Rattle.room.proofs.Needing.{write_within}
use Rattle.hand.specs.Hand.{Chain, extend}
use Rattle.hand.specs.Fits.{FitsChain}
use Rattle.moves.specs.Change.{shrink, with_image, ids_of, resized, written, Apart, FitsShrink, FitsResize, FitsWrite}
use Rattle.moves.proofs.Shrinking.{shrink_fits, shrink_count, shrink_ids, shrink_long}
use Rattle.moves.proofs.Staying.{extend_apart}
use Rattle.hand.proofs.Linking.{ChainLong}
use Rattle.moves.proofs.Extending.{extend_none, extend_fits, extend_count, extend_long}

-- numbers of a chain in hand are small
module _ (S R : ℕ) (c : Chain) (f : FitsChain S R c) where
  pub chain_few : c.count ≤ R
  chain_few = omega (arith, f.few, f.fits.disk.inside)

  pub chain_small : c.count + c.hand.free ≤ most
  chain_small = omega (arith, f.few, f.fits.disk.inside, f.fits.disk.few)

  pub chain_bytes_small : S * c.count ≤ 1073741824
  chain_bytes_small =
      omega (arith, mul-le-mul_right c.count f.fits.disk.short, mul-le-mul_left 65536 chain_few, mul-le-mul_left 65536 f.fits.disk.few)

  pub chain_room : c.count ≤ length c.ids
  chain_room = omega (arith, chain_few, f.ids_long)

  pub chain_listed : length (ids_of c) ≡ c.count
  unfolding ids_of
  chain_listed = length-take-le c.count c.ids chain_room

  pub chain_id : (j : ℕ) → j < c.count → get_or (ids_of c) j 0 ≡ get_or c.ids j 0
  unfolding ids_of
  chain_id j l = get_or-take c.count c.ids j 0 l

  -- its sectors lie in the image
  pub chain_lies : Lies S (length c.hand.disk.image) (ids_of c)
  chain_lies =
      record {
        some = omega (arith, f.fits.disk.header);
        inside = λ j l.
            let b : j < c.count = rw chain_listed at l in
            rw (chain_id j b) (sector_within S R (length c.hand.disk.image) (get_or c.ids j 0) f.fits.disk.holds (omega (arith, f.within j b, f.fits.disk.inside)));
        all = rw chain_listed (omega (arith, mul-le-mul_left S chain_few, f.fits.disk.holds.fits, add-mul R 1 S, mul_comm S R));
      }

  -- where no id stands twice they can be written
  pub once_writable : ((i j : ℕ) → i < c.count → j < c.count → get_or c.ids i 0 ≡ get_or c.ids j 0 → i ≡ j) → (offset bytes : ℕ) → offset + bytes ≤ S * c.count
      → Writable S (length c.hand.disk.image) (ids_of c) offset bytes
  once_writable once offset bytes h =
      record {
        lies = chain_lies;
        apart = λ i j hi hj e.
            let bi : i < c.count = rw chain_listed at hi in
            let bj : j < c.count = rw chain_listed at hj in
            once i j bi bj (sym (chain_id i bi) ∙ e ∙ chain_id j bj);
        fits = rw chain_listed h;
      }

  pub chain_writable : Apart c → (offset bytes : ℕ) → offset + bytes ≤ S * c.count → Writable S (length c.hand.disk.image) (ids_of c) offset bytes
  chain_writable a = once_writable a.ids_once

  -- and stay in hand where the image holds other bytes
  pub with_fits : (img : List ℕ) → length img ≡ length c.hand.disk.image → FitsChain S R (with_image c img)
  unfolding with_image
  with_fits img e =
      record {
        fits = record {
          disk = record {
            holds = rw e f.fits.disk.holds;
            header = f.fits.disk.header;
            short = f.fits.disk.short;
            few = f.fits.disk.few;
            inside = f.fits.disk.inside;
            fat_long = f.fits.disk.fat_long;
            fats_long = f.fits.disk.fats_long;
            difats_long = f.fits.disk.difats_long;
            fats_many = f.fits.disk.fats_many;
            difats_many = f.fits.disk.difats_many;
            fats_below = f.fits.disk.fats_below;
            difats_below = f.fits.disk.difats_below;
          };
          frees_long = f.fits.frees_long;
          marks_long = f.fits.marks_long;
          free_few = f.fits.free_few;
          frees_below = f.fits.frees_below;
        };
        ids_long = f.ids_long;
        within = f.within;
        few = f.few;
      }

pub with_long : (c e : Chain) (img : List ℕ) → ChainLong c e → length img ≡ length e.hand.disk.image → ChainLong c (with_image e img)
unfolding with_image
with_long c e img l h =
    record {
      hand = record {
        disk = record {
          image_same = h ∙ l.hand.disk.image_same;
          fat_same_lem = l.hand.disk.fat_same_lem;
          fats_same = l.hand.disk.fats_same;
          difats_same = l.hand.disk.difats_same;
        };
        frees_same_lem = l.hand.frees_same_lem;
        marks_same = l.hand.marks_same;
      };
      ids_same = l.ids_same;
    }

pub with_count : (c : Chain) (img : List ℕ) → (with_image c img).count ≡ c.count
unfolding with_image
with_count c img = refl

-- document 01, Resize, by whether sectors are asked for
pub resized_more : (S : ℕ) (c : Chain) (len : ℕ) → c.count < ceil len S → resized S c len ≡ extend S c (resize_more S c.count len)
unfolding resized
resized_more S c len h = rw (lt-ltb c.count (ceil len S) h)

pub resized_fewer : (S : ℕ) (c : Chain) (len : ℕ) → ceil len S ≤ c.count
    → resized S c len ≡ with_image (shrink S c (ceil len S)) (zero_tail S (shrink S c (ceil len S)).hand.disk.image (ids_of (shrink S c (ceil len S))) len)
unfolding resized
resized_fewer S c len h = rw (le-ltb c.count (ceil len S) h)

-- a chain that is cut can be zeroed from its new length on
pub shrunk_writable : (S R len : ℕ) (c : Chain) → FitsShrink S R (ceil len S) c → Apart c
    → Writable S (length (shrink S c (ceil len S)).hand.disk.image) (ids_of (shrink S c (ceil len S))) len 0
shrunk_writable S R len c f a =
    let k : (shrink S c (ceil len S)).count ≡ ceil len S = shrink_count S R (ceil len S) c f in
    let g : FitsChain S R (shrink S c (ceil len S)) = shrink_fits S R (ceil len S) c f in
    once_writable S R (shrink S c (ceil len S)) g
    (λ i j hi hj e.
    let bi : i < ceil len S = rw k at hi in
    let bj : j < ceil len S = rw k at hj in
    a.ids_once i j (omega (arith, bi, f.within)) (omega (arith, bj, f.within))
    (sym (shrink_ids S R (ceil len S) c f i bi) ∙ e ∙ shrink_ids S R (ceil len S) c f j bj))
    len 0
    (rw k (omega (arith, (ceil_enough len S (omega (arith, f.fits.fits.disk.header))).0, mul_comm S (ceil len S))))

-- a chain that can be resized
module _ (S R len : ℕ) (c : Chain) (f : FitsResize S R len c) where
  pub resize_fits : FitsChain S R c
  resize_fits = f.fits.fits

  -- it can be cut behind the sectors that it keeps
  pub resize_shrink : (need : ℕ) → need ≤ c.count → FitsShrink S R need c
  resize_shrink need h = record { fits = f.fits.fits; within = h }

  -- what is left is a chain in hand, of which everything is as long, and of as many sectors as the new length asks for
  zeroed_long : (g : ceil len S ≤ c.count)
      → length (zero_tail S (shrink S c (ceil len S)).hand.disk.image (ids_of (shrink S c (ceil len S))) len) ≡ length (shrink S c (ceil len S)).hand.disk.image
  zeroed_long g =
      zero_length S (shrink S c (ceil len S)).hand.disk.image (ids_of (shrink S c (ceil len S))) len
      (shrunk_writable S R len c (resize_shrink (ceil len S) g) f.apart)

  pub resized_fits : FitsChain S R (resized S c len)
  resized_fits =
      ⊎_elim
      (λ (l : c.count < ceil len S). rw (resized_more S c len l) (extend_fits S R (resize_more S c.count len) c f.fits))
      (λ (g : ceil len S ≤ c.count).
      rw (resized_fewer S c len g)
      (with_fits S R (shrink S c (ceil len S)) (shrink_fits S R (ceil len S) c (resize_shrink (ceil len S) g)) _ (zeroed_long g)))
      (below_or c.count (ceil len S))

  pub resized_long : ChainLong c (resized S c len)
  resized_long =
      ⊎_elim
      (λ (l : c.count < ceil len S). rw (resized_more S c len l) (extend_long S R (resize_more S c.count len) c f.fits))
      (λ (g : ceil len S ≤ c.count).
      rw (resized_fewer S c len g)
      (with_long c (shrink S c (ceil len S)) _ (shrink_long S R (ceil len S) c (resize_shrink (ceil len S) g)) (zeroed_long g)))
      (below_or c.count (ceil len S))

  pub resized_count : (resized S c len).count ≡ ceil len S
  unfolding resize_more
  resized_count =
      ⊎_elim
      (λ (l : c.count < ceil len S). rw (resized_more S c len l) (extend_count S c (resize_more S c.count len) ∙ omega arith))
      (λ (g : ceil len S ≤ c.count). rw (resized_fewer S c len g, with_count) (shrink_count S R (ceil len S) c (resize_shrink (ceil len S) g)))
      (below_or c.count (ceil len S))

-- a chain that can be written
module _ (S R offset bytes : ℕ) (c : Chain) (f : FitsWrite S R offset bytes c) where
  -- with the sectors that it asks for it covers what is written
  pub write_covers : offset + bytes ≤ S * (c.count + write_more S c.count offset bytes)
  unfolding write_more
  write_covers =
      let h : ceil (offset + bytes) S ≤ c.count + (ceil (offset + bytes) S - c.count) = omega arith in
      omega (arith, mul-le-mul_left S h, mul_comm S (ceil (offset + bytes) S), (ceil_enough (offset + bytes) S (omega (arith, f.fits.fits.fits.disk.header))).0)

-- what is left is a chain in hand, of which everything is as long, and of as many sectors as there were and are asked for
module _ (S R offset : ℕ) (buf : List ℕ) (c : Chain) (f : FitsWrite S R offset (length buf) c) where
  abbrev wide : Chain
  wide = extend S c (write_more S c.count offset (length buf))

  wide_fits : FitsChain S R wide
  wide_fits = extend_fits S R (write_more S c.count offset (length buf)) c f.fits

  wide_long : length (write_bytes S wide.hand.disk.image (ids_of wide) offset buf) ≡ length wide.hand.disk.image
  wide_long =
      write_length S wide.hand.disk.image (ids_of wide) offset buf
      (chain_writable S R wide wide_fits (extend_apart S R (write_more S c.count offset (length buf)) c f.fits f.apart) offset (length buf)
      (rw (extend_count S c (write_more S c.count offset (length buf))) (write_covers S R offset (length buf) c f)))

  pub written_fits : FitsChain S R (written S c offset buf)
  unfolding written
  written_fits = with_fits S R wide wide_fits (write_bytes S wide.hand.disk.image (ids_of wide) offset buf) wide_long

  pub written_long : ChainLong c (written S c offset buf)
  unfolding written
  written_long =
      with_long c wide (write_bytes S wide.hand.disk.image (ids_of wide) offset buf) (extend_long S R (write_more S c.count offset (length buf)) c f.fits) wide_long

pub written_count : (S : ℕ) (c : Chain) (offset : ℕ) (buf : List ℕ) → (written S c offset buf).count ≡ c.count + write_more S c.count offset (length buf)
unfolding written with_image
written_count S c offset buf = extend_count S c (write_more S c.count offset (length buf))

-- document 01, Write: an empty buffer does nothing
with_own : (c : Chain) → with_image c c.hand.disk.image ≡ c
unfolding with_image
with_own c = refl

pub written_none : (S R offset : ℕ) (c : Chain) → FitsWrite S R offset 0 c → written S c offset [] ≡ c
unfolding written
written_none S R offset c f =
    let g : FitsChain S R c = f.fits.fits in
    let e : write_more S c.count offset 0 ≡ 0 = sym (write_within S c.count offset 0 (omega (arith, g.fits.disk.header)) f.seeks (omega arith)) in
    ap (λ (k : Chain). with_image k (write_bytes S k.hand.disk.image (ids_of k) offset [])) (ap (extend S c) e ∙ extend_none S c)
    ∙ ap (with_image c) (write_none S c.hand.disk.image (ids_of c) offset (chain_writable S R c g f.apart offset 0 (omega (arith, f.seeks))))
    ∙ with_own c
