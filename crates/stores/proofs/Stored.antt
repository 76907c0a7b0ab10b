-- The laws of bytes put into a chain's sectors: the image keeps its length and every byte of other sectors, the chain then has what was put, and these three facts say all of it. Assumes nothing.
use Prim.Native.Nat.{ℕ, suc, ◌+◌, ◌*◌, ◌/◌, ◌%◌, ◌≤◌, ◌<◌}
use mathlib.Core.Path.{◌≡◌, refl, ◌∙◌, sym, ap}
use mathlib.Core.List.{List, [], ◌∷◌, ◌++◌, flat_map}
use mathlib.Core.Logic.{◌⊎◌, inl, inr, ⊎_elim, ◌≢◌}
use native.Mathlib.Omega.{arith}
use native.Mathlib.Nat.{mul-zero, mul-suc, mul-le-mul_left, add_assoc, div-add-mod, mod-lt}
use lib.ListN.{length, get_or, take, drop, length-append, length-take, length-drop, take-append-drop, get_or-eq_default}
use lib.Seq.{ext_get_or}
use Rattle.lists.specs.Lists.{splice, part}
use Rattle.lists.proofs.Cases.{below_or, same_or}
use Rattle.lists.proofs.Splice.{length_part, get_d_part, length_splice, splice_below, splice_inside, splice_above, is_splice, splice_nil, splice_append}
use Rattle.sectors.specs.Sectors.{start_of, sector_of}
use Rattle.chain.specs.Bytes.{chain_bytes, Lies}
use Rattle.stores.specs.Stores.{put_chain, write_bytes, Writable, Outside}
use Rattle.stores.proofs.Apart.{sector_other, other_outside, chain_byte, same_image}
use Rattle.chain.proofs.Bytes.{length_chain, chain_place}

-- a run put into one sector of the chain
module _ (S : ℕ) (img ids : List ℕ) (w : Writable S (length img) ids 0 0) (q x : ℕ) (ys : List ℕ) (hq : q < length ids) (hx : x + length ys ≤ S) where
  run_fits : start_of S (get_or ids q 0) + x + length ys ≤ length img
  run_fits = omega (arith, w.lies.inside q hq)

  abbrev run : List ℕ
  run = splice img (start_of S (get_or ids q 0) + x) ys

  run_length : length run ≡ length img
  run_length = length_splice img (start_of S (get_or ids q 0) + x) ys run_fits

  run_keeps : (p : ℕ) → (p < start_of S (get_or ids q 0) + x) ⊎ (start_of S (get_or ids q 0) + x + length ys ≤ p) → get_or run p 0 ≡ get_or img p 0
  run_keeps p out =
      ⊎_elim
      (λ (l : p < start_of S (get_or ids q 0) + x). splice_below img (start_of S (get_or ids q 0) + x) ys run_fits p l)
      (λ (g : start_of S (get_or ids q 0) + x + length ys ≤ p). splice_above img (start_of S (get_or ids q 0) + x) ys run_fits p g)
      out

  run_outside : (p : ℕ) → Outside S ids p → get_or run p 0 ≡ get_or img p 0
  run_outside p o =
      run_keeps p
      (⊎_elim
      (λ (l : p < start_of S (get_or ids q 0)). inl (omega arith))
      (λ (g : start_of S (get_or ids q 0) + S ≤ p). inr (omega arith))
      (o.each q hq))

  -- in the chain it is the same run
  run_chain : chain_bytes S run ids ≡ splice (chain_bytes S img ids) (S * q + x) ys
  run_chain =
      is_splice (chain_bytes S img ids) (S * q + x) ys chain_fits (chain_bytes S run ids) (length_chain S run ids lies ∙ sym (length_chain S img ids w.lies))
      (λ i hi.
      ap (λ (k : ℕ). get_or (chain_bytes S run ids) k 0) (add_assoc (S * q) x i)
      ∙ chain_byte S run ids lies q (x + i) hq (omega arith)
      ∙ ap (λ (k : ℕ). get_or run k 0) (sym (add_assoc (start_of S (get_or ids q 0)) x i))
      ∙ splice_inside img (start_of S (get_or ids q 0) + x) ys run_fits i hi)
      (λ i out. ⊎_elim
      (λ (l : i < S * length ids). other i out l)
      (λ (g : S * length ids ≤ i). past i g)
      (below_or i (S * length ids)))
    where
      lies : Lies S (length run) ids
      lies = rw run_length w.lies

      chain_fits : S * q + x + length ys ≤ length (chain_bytes S img ids)
      chain_fits =
          let most : S * suc q ≤ S * length ids = mul-le-mul_left S hq in
          omega (arith, length_chain S img ids w.lies, mul-suc S q)

      past : (i : ℕ) → S * length ids ≤ i → get_or (chain_bytes S run ids) i 0 ≡ get_or (chain_bytes S img ids) i 0
      past i g =
          get_or-eq_default (chain_bytes S run ids) 0 {n = i} (rw (length_chain S run ids lies) g)
          ∙ sym (get_or-eq_default (chain_bytes S img ids) 0 {n = i} (rw (length_chain S img ids w.lies) g))

      apart : (r y : ℕ) → (r ≡ q) ⊎ (r ≢ q) → r < length ids → y < S → (S * r + y < S * q + x) ⊎ (S * q + x + length ys ≤ S * r + y)
          → get_or run (start_of S (get_or ids r 0) + y) 0 ≡ get_or img (start_of S (get_or ids r 0) + y) 0
      apart r y (inl e) l hy out =
          let m : S * r ≡ S * q = ap (λ (k : ℕ). S * k) e in
          let n : start_of S (get_or ids r 0) ≡ start_of S (get_or ids q 0) = ap (λ (k : ℕ). start_of S (get_or ids k 0)) e in
          run_keeps (start_of S (get_or ids r 0) + y) (⊎_elim (λ (u : S * r + y < S * q + x). inl (omega arith)) (λ (u : S * q + x + length ys ≤ S * r + y). inr (omega arith)) out)
      apart r y (inr e) l hy out =
          let d : get_or ids q 0 ≢ get_or ids r 0 = λ v. e (w.apart r q l hq (sym v)) in
          run_keeps (start_of S (get_or ids r 0) + y)
          (⊎_elim
          (λ (u : start_of S (get_or ids r 0) + y < start_of S (get_or ids q 0)). inl (omega arith))
          (λ (u : start_of S (get_or ids q 0) + S ≤ start_of S (get_or ids r 0) + y). inr (omega arith))
          (sector_other S (get_or ids q 0) (get_or ids r 0) y d hy))

      other : (i : ℕ) → (i < S * q + x) ⊎ (S * q + x + length ys ≤ i) → i < S * length ids → get_or (chain_bytes S run ids) i 0 ≡ get_or (chain_bytes S img ids) i 0
      other i out l =
          let here : S * (i / S) + i % S ≡ i = div-add-mod i S in
          let low : i / S < length ids = chain_place S img ids w.lies i l in
          let small : i % S < S = mod-lt i w.lies.some in
          ap (λ (k : ℕ). get_or (chain_bytes S run ids) k 0) (sym here)
          ∙ chain_byte S run ids lies (i / S) (i % S) low small
          ∙ apart (i / S) (i % S) (same_or (i / S) q) low small (rw here out)
          ∙ sym (chain_byte S img ids w.lies (i / S) (i % S) low small)
          ∙ ap (λ (k : ℕ). get_or (chain_bytes S img ids) k 0) here

-- a chain without its first sector
writable_rest : {S len i : ℕ} {is : List ℕ} → Writable S len (i ∷ is) 0 0 → Writable S len is 0 0
writable_rest {S} {len} {i} {is} w = record {
  lies = record {
    some = w.lies.some;
    inside = λ j l. w.lies.inside (suc j) (omega arith);
    all = omega (arith, w.lies.all, mul-suc S (length is));
  };
  apart = λ j k hj hk e. let z : suc j ≡ suc k = w.apart (suc j) (suc k) (omega arith) (omega arith) e in omega arith;
  fits = omega arith;
}

-- a byte of the first sector stands in none of the others
first_outside : (S len i : ℕ) (is : List ℕ) → Writable S len (i ∷ is) 0 0 → (x : ℕ) → x < S → Outside S is (start_of S i + x)
first_outside S len i is w x hx =
    other_outside S is i x (λ j l e. let z : suc j ≡ 0 = w.apart (suc j) 0 (omega arith) (omega arith) e in absurd (omega arith)) hx

-- a sector's length of bytes fits into the first sector
first_fits : (S len i : ℕ) (is bytes : List ℕ) → Writable S len (i ∷ is) 0 0 → start_of S i + length (take S bytes) ≤ len
first_fits S len i is bytes w = omega (arith, w.lies.inside 0 (omega arith), length-take S bytes)

put_length : (S : ℕ) (img ids bytes : List ℕ) → Writable S (length img) ids 0 0 → length (put_chain S img ids bytes) ≡ length img
unfolding put_chain
put_length S img [] bytes w = refl
put_length S img (i ∷ is) bytes w =
    let e : length (splice img (start_of S i) (take S bytes)) ≡ length img = length_splice img (start_of S i) (take S bytes) (first_fits S (length img) i is bytes w) in
    put_length S (splice img (start_of S i) (take S bytes)) is (drop S bytes) (rw e (writable_rest w)) ∙ e

put_outside : (S : ℕ) (img ids bytes : List ℕ) → Writable S (length img) ids 0 0 → (p : ℕ) → Outside S ids p → get_or (put_chain S img ids bytes) p 0 ≡ get_or img p 0
unfolding put_chain
put_outside S img [] bytes w p o = refl
put_outside S img (i ∷ is) bytes w p o =
    let fits : start_of S i + length (take S bytes) ≤ length img = first_fits S (length img) i is bytes w in
    let e : length (splice img (start_of S i) (take S bytes)) ≡ length img = length_splice img (start_of S i) (take S bytes) fits in
    put_outside S (splice img (start_of S i) (take S bytes)) is (drop S bytes) (rw e (writable_rest w)) p (record { each = λ j l. o.each (suc j) (omega arith) })
    ∙ ⊎_elim
    (λ (u : p < start_of S i). splice_below img (start_of S i) (take S bytes) fits p u)
    (λ (u : start_of S i + S ≤ p). splice_above img (start_of S i) (take S bytes) fits p (omega (arith, length-take S bytes)))
    (o.each 0 (omega arith))

-- what was put is what the chain then has
put_chain_lem : (S : ℕ) (img ids bytes : List ℕ) → Writable S (length img) ids 0 0 → length bytes ≡ S * length ids → chain_bytes S (put_chain S img ids bytes) ids ≡ bytes
unfolding put_chain chain_bytes flat_map sector_of
put_chain_lem S img [] [] w l = refl
put_chain_lem S img [] (c ∷ cs) w l = absurd (omega (arith, mul-zero S))
put_chain_lem S img (i ∷ is) bytes w l =
    let fits : start_of S i + length (take S bytes) ≤ length img = first_fits S (length img) i is bytes w in
    let e : length (splice img (start_of S i) (take S bytes)) ≡ length img = length_splice img (start_of S i) (take S bytes) fits in
    let w' : Writable S (length (splice img (start_of S i) (take S bytes))) is 0 0 = rw e (writable_rest w) in
    let r : List ℕ = put_chain S (splice img (start_of S i) (take S bytes)) is (drop S bytes) in
    let er : length r ≡ length img = put_length S (splice img (start_of S i) (take S bytes)) is (drop S bytes) w' ∙ e in
    let front : length (take S bytes) ≡ S = simp length-take (omega (arith, mul-suc S (length is))) in
    let rest : length (drop S bytes) ≡ S * length is = simp length-drop (omega (arith, mul-suc S (length is))) in
    let long : length (part r (start_of S i) S) ≡ S = length_part r (start_of S i) S (rw er (w.lies.inside 0 (omega arith))) in
    let first : part r (start_of S i) S ≡ take S bytes =
    ext_get_or 0 (part r (start_of S i) S) (take S bytes) (long ∙ sym front)
    (λ x hx. let h_s : x < S = omega arith in
    get_d_part r (start_of S i) S x h_s
    ∙ put_outside S (splice img (start_of S i) (take S bytes)) is (drop S bytes) w' (start_of S i + x) (first_outside S (length img) i is w x h_s)
    ∙ splice_inside img (start_of S i) (take S bytes) fits x (omega arith)) in
    ap (λ (u : List ℕ). u ++ chain_bytes S r is) first
    ∙ ap (λ (u : List ℕ). take S bytes ++ u) (put_chain_lem S (splice img (start_of S i) (take S bytes)) is (drop S bytes) w' rest)
    ∙ take-append-drop S bytes

-- where a run can be written, an empty one can be written at the chain's start
pub writable_none : {S len : ℕ} {ids : List ℕ} {offset count : ℕ} → Writable S len ids offset count → Writable S len ids 0 0
writable_none w = record { lies = w.lies; apart = w.apart; fits = omega arith }

-- two functions that agree on what is listed give the same lists joined
joined_ext : (f g : ℕ → List ℕ) (ids : List ℕ) → ((j : ℕ) → j < length ids → f (get_or ids j 0) ≡ g (get_or ids j 0)) → flat_map f ids ≡ flat_map g ids
unfolding flat_map
joined_ext f g [] h = refl
joined_ext f g (i ∷ is) h =
    ap (λ (u : List ℕ). u ++ flat_map f is) (h 0 (omega arith)) ∙ ap (λ (u : List ℕ). g i ++ u) (joined_ext f g is (λ j l. h (suc j) (omega arith)))

-- a write: its length, the chain's bytes, and what it leaves alone
module _ (S : ℕ) (img ids : List ℕ) (offset : ℕ) (xs : List ℕ) (w : Writable S (length img) ids offset (length xs)) where
  edit_fits : offset + length xs ≤ length (chain_bytes S img ids)
  edit_fits = omega (arith, w.fits, length_chain S img ids w.lies)

  pub write_length : length (write_bytes S img ids offset xs) ≡ length img
  unfolding write_bytes
  write_length = put_length S img ids (splice (chain_bytes S img ids) offset xs) (writable_none w)

  pub write_chain : chain_bytes S (write_bytes S img ids offset xs) ids ≡ splice (chain_bytes S img ids) offset xs
  unfolding write_bytes
  write_chain =
      put_chain_lem S img ids (splice (chain_bytes S img ids) offset xs) (writable_none w)
      (length_splice (chain_bytes S img ids) offset xs edit_fits ∙ length_chain S img ids w.lies)

  pub write_apart : (b : ℕ) → Outside S ids b → get_or (write_bytes S img ids offset xs) b 0 ≡ get_or img b 0
  unfolding write_bytes
  write_apart = put_outside S img ids (splice (chain_bytes S img ids) offset xs) (writable_none w)

  -- a sector that is not listed keeps its bytes
  pub write_sector : (j : ℕ) → start_of S j + S ≤ length img → ((i : ℕ) → i < length ids → get_or ids i 0 ≢ j)
      → sector_of S (write_bytes S img ids offset xs) j ≡ sector_of S img j
  unfolding sector_of
  write_sector j h n =
      let after : length (part (write_bytes S img ids offset xs) (start_of S j) S) ≡ S = length_part (write_bytes S img ids offset xs) (start_of S j) S (rw write_length h) in
      ext_get_or 0 (part (write_bytes S img ids offset xs) (start_of S j) S) (part img (start_of S j) S) (after ∙ sym (length_part img (start_of S j) S h))
      (λ x hx.
      let small : x < S = rw after at hx in
      get_d_part (write_bytes S img ids offset xs) (start_of S j) S x small
      ∙ write_apart (start_of S j + x) (other_outside S ids j x n small)
      ∙ sym (get_d_part img (start_of S j) S x small))

  -- and so does a chain that has no sector in common
  pub write_other : (others : List ℕ) → Lies S (length img) others
      → ((i j : ℕ) → i < length ids → j < length others → get_or ids i 0 ≢ get_or others j 0)
      → chain_bytes S (write_bytes S img ids offset xs) others ≡ chain_bytes S img others
  unfolding chain_bytes
  write_other others l n =
      joined_ext (sector_of S (write_bytes S img ids offset xs)) (sector_of S img) others
      (λ j hj. write_sector (get_or others j 0) (l.inside j hj) (λ i hi. n i j hi hj))

  -- an image that is as long, agrees outside the sectors and has the edit in the chain is the write
  pub is_write : (l : List ℕ) → length l ≡ length img
      → ((b : ℕ) → Outside S ids b → get_or l b 0 ≡ get_or img b 0)
      → chain_bytes S l ids ≡ splice (chain_bytes S img ids) offset xs
      → l ≡ write_bytes S img ids offset xs
  is_write l same out c =
      same_image S ids l (write_bytes S img ids offset xs) (same ∙ sym write_length) (rw write_length w.lies)
      (λ b o. out b o ∙ sym (write_apart b o))
      (c ∙ sym write_chain)

-- nothing written is nothing changed
pub write_none : (S : ℕ) (img ids : List ℕ) (offset : ℕ) → Writable S (length img) ids offset 0 → write_bytes S img ids offset [] ≡ img
write_none S img ids offset w = sym (is_write S img ids offset [] w img refl (λ b o. refl) (sym (splice_nil (chain_bytes S img ids) offset)))

-- a run within one sector, put there, is a write
pub write_run : (S : ℕ) (img ids : List ℕ) (offset : ℕ) (ys : List ℕ) → Writable S (length img) ids offset (length ys) → offset / S < length ids → offset % S + length ys ≤ S
    → splice img (start_of S (get_or ids (offset / S) 0) + offset % S) ys ≡ write_bytes S img ids offset ys
write_run S img ids offset ys w hq hx =
    let w' : Writable S (length img) ids 0 0 = writable_none w in
    is_write S img ids offset ys w (splice img (start_of S (get_or ids (offset / S) 0) + offset % S) ys)
    (run_length S img ids w' (offset / S) (offset % S) ys hq hx)
    (run_outside S img ids w' (offset / S) (offset % S) ys hq hx)
    (run_chain S img ids w' (offset / S) (offset % S) ys hq hx
    ∙ ap (λ (k : ℕ). splice (chain_bytes S img ids) k ys) (div-add-mod offset S))

-- two runs, one right after the other, are one write
pub write_more_lem : (S : ℕ) (img ids : List ℕ) (offset : ℕ) (xs ys : List ℕ) → Writable S (length img) ids offset (length xs + length ys)
    → write_bytes S (write_bytes S img ids offset xs) ids (offset + length xs) ys ≡ write_bytes S img ids offset (xs ++ ys)
write_more_lem S img ids offset xs ys w =
    is_write S img ids offset (xs ++ ys) (rw length-append w) (write_bytes S one ids (offset + length xs) ys)
    (write_length S one ids (offset + length xs) ys later ∙ write_length S img ids offset xs first)
    (λ b o. write_apart S one ids (offset + length xs) ys later b o ∙ write_apart S img ids offset xs first b o)
    (write_chain S one ids (offset + length xs) ys later
    ∙ ap (λ (u : List ℕ). splice u (offset + length xs) ys) (write_chain S img ids offset xs first)
    ∙ splice_append (chain_bytes S img ids) offset xs ys (omega (arith, w.fits, length_chain S img ids w.lies)))
  where
    one : List ℕ
    one = write_bytes S img ids offset xs

    first : Writable S (length img) ids offset (length xs)
    first = record { lies = w.lies; apart = w.apart; fits = omega (arith, w.fits) }

    later : Writable S (length one) ids (offset + length xs) (length ys)
    later = rw (write_length S img ids offset xs first) (record { lies = w.lies; apart = w.apart; fits = omega (arith, w.fits) })
