-- Where the sectors of a chain stand in an image, and which bytes stand in none of them: an image is what it has outside the chain and in it. Assumes nothing.
use Prim.Native.Nat.{ℕ, zero, suc, ◌+◌, ◌-◌, ◌*◌, ◌≤◌, ◌<◌}
use mathlib.Core.Path.{◌≡◌, ◌∙◌, sym, ap}
use mathlib.Core.List.{List, [], ◌∷◌}
use mathlib.Core.Logic.{◌⊎◌, inl, inr, ⊎_elim, ◌≢◌}
use native.Mathlib.Omega.{arith}
use native.Mathlib.Nat.{add-mul, one-mul, mul-le-mul_right}
use lib.ListN.{length, get_or}
use lib.Seq.{ext_get_or}
use Rattle.lists.proofs.Cases.{below_or}
use Rattle.lists.proofs.Splice.{get_d_part}
use Rattle.sectors.specs.Sectors.{start_of, sector_of}
use Rattle.chain.specs.Bytes.{chain_bytes, Lies}
use Rattle.stores.specs.Stores.{Outside}
use Rattle.chain.proofs.Bytes.{chain_in}

-- a sector ends where the next one begins, or before
pub sector_before : (S a b : ℕ) → a < b → start_of S a + S ≤ start_of S b
sector_before S a b h =
    let m : (a + 1 + 1) * S ≤ (b + 1) * S = mul-le-mul_right S (omega arith) in
    omega (arith, add-mul (a + 1) 1 S, one-mul S)

-- a byte of a sector stands in no other
pub sector_other : (S a b x : ℕ) → a ≢ b → x < S → (start_of S b + x < start_of S a) ⊎ (start_of S a + S ≤ start_of S b + x)
sector_other S a b x n hx =
    ⊎_elim
    (λ (l : a < b). inr (omega (arith, sector_before S a b l)))
    (λ (g : b ≤ a). let l : b < a = omega arith in inl (omega (arith, sector_before S b a l)))
    (below_or a b)

pub other_outside : (S : ℕ) (ids : List ℕ) (j x : ℕ) → ((i : ℕ) → i < length ids → get_or ids i 0 ≢ j) → x < S → Outside S ids (start_of S j + x)
other_outside S ids j x n hx = record { each = λ i l. sector_other S (get_or ids i 0) j x (n i l) hx }

-- the header's place is before every sector
pub header_outside : (S : ℕ) (ids : List ℕ) (b : ℕ) → b < S → Outside S ids b
header_outside S ids b h = record { each = λ i l. inl (omega (arith, add-mul (get_or ids i 0) 1 S, one-mul S)) }

-- byte b is byte x of sector q of those listed
record Within (S : ℕ) (ids : List ℕ) (b : ℕ) : Type 0 where
  q : ℕ
  x : ℕ
  low : q < length ids
  small : x < S
  place : b ≡ start_of S (get_or ids q 0) + x

-- a byte stands in one of the sectors listed, or in none
within_or : (S : ℕ) (ids : List ℕ) (b : ℕ) → Within S ids b ⊎ Outside S ids b
within_or S [] b = inr (record { each = λ i l. absurd (omega arith) })
within_or S (i ∷ is) b =
    ⊎_elim
    (λ (l : b < start_of S i). later (inl l) (within_or S is b))
    (λ (g : start_of S i ≤ b). ⊎_elim
    (λ (l : b < start_of S i + S). inl (record { q = 0; x = b - start_of S i; low = omega arith; small = omega arith; place = omega arith }))
    (λ (h : start_of S i + S ≤ b). later (inr h) (within_or S is b))
    (below_or b (start_of S i + S)))
    (below_or b (start_of S i))
  where
    each : (b < start_of S i) ⊎ (start_of S i + S ≤ b) → Outside S is b → (j : ℕ) → j < length (i ∷ is) → (b < start_of S (get_or (i ∷ is) j 0)) ⊎ (start_of S (get_or (i ∷ is) j 0) + S ≤ b)
    each h o zero l = h
    each h o (suc j) l = o.each j (omega arith)

    later : (b < start_of S i) ⊎ (start_of S i + S ≤ b) → Within S is b ⊎ Outside S is b → Within S (i ∷ is) b ⊎ Outside S (i ∷ is) b
    later h r =
        ⊎_elim
        (λ (w : Within S is b). inl (record { q = suc w.q; x = w.x; low = omega (arith, w.low); small = w.small; place = w.place }))
        (λ (o : Outside S is b). inr (record { each = each h o }))
        r

-- byte x of the chain's sector q, as a byte of the image
pub chain_byte : (S : ℕ) (img ids : List ℕ) → Lies S (length img) ids → (q x : ℕ) → q < length ids → x < S
    → get_or (chain_bytes S img ids) (S * q + x) 0 ≡ get_or img (start_of S (get_or ids q 0) + x) 0
unfolding sector_of
chain_byte S img ids l q x hq hx = chain_in S img ids l q x hq hx ∙ get_d_part img (start_of S (get_or ids q 0)) S x hx

-- two images that are as long, agree outside the sectors and have the same bytes in the chain are one image
pub same_image : (S : ℕ) (ids a b : List ℕ) → length a ≡ length b → Lies S (length b) ids
    → ((p : ℕ) → Outside S ids p → get_or a p 0 ≡ get_or b p 0)
    → chain_bytes S a ids ≡ chain_bytes S b ids → a ≡ b
same_image S ids a b e l out c =
    ext_get_or 0 a b e (λ p hp. ⊎_elim
    (λ (w : Within S ids p).
    ap (λ (k : ℕ). get_or a k 0) w.place
    ∙ sym (chain_byte S a ids (rw e l) w.q w.x w.low w.small)
    ∙ ap (λ (u : List ℕ). get_or u (S * w.q + w.x) 0) c
    ∙ chain_byte S b ids l w.q w.x w.low w.small
    ∙ ap (λ (k : ℕ). get_or b k 0) (sym w.place))
    (λ (o : Outside S ids p). out p o)
    (within_or S ids p))
