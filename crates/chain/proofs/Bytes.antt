-- The laws of a chain's bytes and of a read: first over any lists of S elements each, as mini sectors are too, then over sectors. Assumes nothing.
use Prim.Native.Nat.{ℕ, zero, suc, ◌+◌, ◌-◌, ◌*◌, ◌/◌, ◌%◌, ◌≤◌, ◌<◌}
use mathlib.Core.Path.{◌≡◌, refl, ◌∙◌, sym, ap}
use mathlib.Core.List.{List, [], ◌∷◌, ◌++◌, flat_map}
use native.Mathlib.Omega.{arith}
use native.Mathlib.Nat.{zero-add, mul-zero, mul-suc, mul_comm, add-mul, mul-le-mul_left, div-add-mod, mod-lt, div-lt_iff_lt-mul, min-le_left, min-le_right}
use lib.ListN.{length, get_or, length-append, get_or-append}
use lib.Seq.{ext_get_or, get_or-append-add}
use Rattle.lists.specs.Lists.{splice, part}
use Rattle.lists.proofs.Splice.{length_part, get_d_part, length_splice, splice_inside, splice_above}
use Rattle.sectors.specs.Sectors.{start_of, sector_of, Holds}
use Rattle.sectors.proofs.Laws.{sector_within}
use Rattle.chain.specs.Bytes.{chain_bytes, read_count, read_bytes, Lies}

-- lists of S elements, one after the other
module _ (S : ℕ) (f : ℕ → List ℕ) where
  -- each listed one has S elements
  abbrev Each : List ℕ → Type 0
  Each ids = (j : ℕ) → j < length ids → length (f (get_or ids j 0)) ≡ S

  length_joined : (ids : List ℕ) → Each ids → length (flat_map f ids) ≡ S * length ids
  unfolding flat_map
  length_joined [] h = sym (mul-zero S)
  length_joined (i ∷ is) h =
      length-append (f i) (flat_map f is)
      ∙ omega (arith, h 0 (omega arith), length_joined is (λ j l. h (suc j) (omega arith)), mul-suc S (length is))

  get_or_joined : (ids : List ℕ) → Each ids → (q x : ℕ) → q < length ids → x < S → get_or (flat_map f ids) (S * q + x) 0 ≡ get_or (f (get_or ids q 0)) x 0
  unfolding flat_map
  get_or_joined [] h q x hq hx = absurd (omega arith)
  get_or_joined (i ∷ is) h zero x hq hx =
      let first : S * 0 + x ≡ x = omega (arith, mul-zero S) in
      ap (λ (k : ℕ). get_or (f i ++ flat_map f is) k 0) first ∙ get_or-append (f i) (flat_map f is) 0 x (omega (arith, h 0 (omega arith)))
  get_or_joined (i ∷ is) h (suc q) x hq hx =
      let later : S * suc q + x ≡ length (f i) + (S * q + x) = omega (arith, mul-suc S q, h 0 (omega arith)) in
      ap (λ (k : ℕ). get_or (f i ++ flat_map f is) k 0) later
      ∙ get_or-append-add (f i) (flat_map f is) (S * q + x) 0
      ∙ get_or_joined is (λ j l. h (suc j) (omega arith)) q x (omega arith) hx

-- the bytes of a chain whose sectors lie in the image
module _ (S : ℕ) (img ids : List ℕ) (l : Lies S (length img) ids) where
  sector_long : (j : ℕ) → j < length ids → length (sector_of S img (get_or ids j 0)) ≡ S
  unfolding sector_of
  sector_long j h = length_part img (start_of S (get_or ids j 0)) S (l.inside j h)

  -- their number
  pub length_chain : length (chain_bytes S img ids) ≡ S * length ids
  unfolding chain_bytes
  length_chain = length_joined S (sector_of S img) ids sector_long

  -- the sector that a byte stands in
  pub chain_place : (o : ℕ) → o < S * length ids → o / S < length ids
  chain_place o h = (div-lt_iff_lt-mul l.some).1 (rw (mul_comm S (length ids)) at h)

  pub chain_in : (q x : ℕ) → q < length ids → x < S → get_or (chain_bytes S img ids) (S * q + x) 0 ≡ get_or (sector_of S img (get_or ids q 0)) x 0
  unfolding chain_bytes
  chain_in = get_or_joined S (sector_of S img) ids sector_long

  -- byte o of the chain is byte o % S of its o / S-th sector
  pub chain_at : (o : ℕ) → o < S * length ids → get_or (chain_bytes S img ids) o 0 ≡ get_or (sector_of S img (get_or ids (o / S) 0)) (o % S) 0
  chain_at o h =
      ap (λ (k : ℕ). get_or (chain_bytes S img ids) k 0) (sym (div-add-mod o S)) ∙ chain_in (o / S) (o % S) (chain_place o h) (mod-lt o l.some)

  -- a run from o on that ends within its sector ends within the chain
  run_fits : (o k : ℕ) → o / S < length ids → o % S + k ≤ S → o + k ≤ length (chain_bytes S img ids)
  run_fits o k h r =
      let most : S * suc (o / S) ≤ S * length ids = mul-le-mul_left S h in
      omega (arith, length_chain, mul-suc S (o / S), div-add-mod o S)

  -- and is a run of that sector
  pub chain_run : (o k : ℕ) → o / S < length ids → o % S + k ≤ S
      → part (chain_bytes S img ids) o k ≡ part (sector_of S img (get_or ids (o / S) 0)) (o % S) k
  chain_run o k h r =
      ext_get_or 0 (part (chain_bytes S img ids) o k) (part sector (o % S) k) (chain_long ∙ sym (length_part sector (o % S) k sector_fits))
      (λ i hi.
      let low : i < k = rw chain_long at hi in
      let here : o + i ≡ S * (o / S) + (o % S + i) = omega (arith, div-add-mod o S) in
      get_d_part (chain_bytes S img ids) o k i low
      ∙ ap (λ (p : ℕ). get_or (chain_bytes S img ids) p 0) here
      ∙ chain_in (o / S) (o % S + i) h (omega arith)
      ∙ sym (get_d_part sector (o % S) k i low))
    where
      sector : List ℕ
      sector = sector_of S img (get_or ids (o / S) 0)

      sector_fits : o % S + k ≤ length sector
      sector_fits = omega (arith, sector_long (o / S) h)

      chain_long : length (part (chain_bytes S img ids) o k) ≡ k
      chain_long = length_part (chain_bytes S img ids) o k (run_fits o k h r)

-- sectors of a table lie in an image that holds as many as it has entries
pub sectors_lie : (S len : ℕ) (fat ids : List ℕ) → Holds S (length fat) len → length ids ≤ length fat → ((j : ℕ) → j < length ids → get_or ids j 0 < length fat) → Lies S len ids
sectors_lie S len fat ids h few within = record {
  some = omega (arith, h.entries, h.two);
  inside = λ j l. sector_within S (length fat) len (get_or ids j 0) h (within j l);
  all =
      let most : S * length ids ≤ S * length fat = mul-le-mul_left S few in
      omega (arith, h.fits, add-mul (length fat) 1 S, mul_comm S (length fat));
}

-- the count that a read gives stays within the buffer and within the chain
pub count_fits : (S : ℕ) (ids : List ℕ) (offset : ℕ) (buf : List ℕ) → read_count S ids offset buf ≤ length buf
unfolding read_count
count_fits S ids offset buf = min-le_left (length buf) (S * length ids - offset)

pub count_within : (S : ℕ) (ids : List ℕ) (offset : ℕ) (buf : List ℕ) → offset ≤ S * length ids → offset + read_count S ids offset buf ≤ S * length ids
unfolding read_count
count_within S ids offset buf h = omega (arith, min-le_right (length buf) (S * length ids - offset))

-- a read gives exactly the chain's bytes from the offset on, and leaves the rest of the buffer
module _ (S : ℕ) (img ids : List ℕ) (offset : ℕ) (buf : List ℕ) (l : Lies S (length img) ids) (seeks : offset ≤ S * length ids) where
  read_long : length (part (chain_bytes S img ids) offset (read_count S ids offset buf)) ≡ read_count S ids offset buf
  read_long = length_part (chain_bytes S img ids) offset (read_count S ids offset buf) (rw (length_chain S img ids l) (count_within S ids offset buf seeks))

  read_fits : 0 + length (part (chain_bytes S img ids) offset (read_count S ids offset buf)) ≤ length buf
  read_fits = omega (arith, read_long, count_fits S ids offset buf)

  read_is : read_bytes S img ids offset buf ≡ splice buf 0 (part (chain_bytes S img ids) offset (read_count S ids offset buf))
  unfolding read_bytes
  read_is = refl

  pub read_length : length (read_bytes S img ids offset buf) ≡ length buf
  read_length = ap length read_is ∙ length_splice buf 0 (part (chain_bytes S img ids) offset (read_count S ids offset buf)) read_fits

  pub read_gives : (i : ℕ) → i < read_count S ids offset buf → get_or (read_bytes S img ids offset buf) i 0 ≡ get_or (chain_bytes S img ids) (offset + i) 0
  read_gives i h =
      ap (λ (b : List ℕ). get_or b i 0) read_is
      ∙ ap (λ (k : ℕ). get_or (splice buf 0 (part (chain_bytes S img ids) offset (read_count S ids offset buf))) k 0) (sym (zero-add i))
      ∙ splice_inside buf 0 (part (chain_bytes S img ids) offset (read_count S ids offset buf)) read_fits i (omega (arith, read_long))
      ∙ get_d_part (chain_bytes S img ids) offset (read_count S ids offset buf) i h

  pub read_keeps : (i : ℕ) → read_count S ids offset buf ≤ i → get_or (read_bytes S img ids offset buf) i 0 ≡ get_or buf i 0
  read_keeps i h =
      ap (λ (b : List ℕ). get_or b i 0) read_is
      ∙ splice_above buf 0 (part (chain_bytes S img ids) offset (read_count S ids offset buf)) read_fits i (omega (arith, read_long))
