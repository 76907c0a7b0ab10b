-- The laws of a chain extended. Assumes nothing.
use Prim.Native.Nat.{ℕ, zero, suc, ◌+◌, ◌-◌, ◌≤◌, ◌<◌}
use mathlib.Core.Path.{◌≡◌, refl, ◌∙◌, sym, ap}
use mathlib.Core.List.{List}
use native.Mathlib.Omega.{arith}
use lib.ListN.{length}
use Rattle.fat.specs.Lists.{most, room_of}
use Rattle.disk.specs.Disk.{count_after}
use Rattle.disk.specs.declared.disk.Hand as lent
use Rattle.disk.proofs.Fitting.{count_none}
use Rattle.hand.specs.Hand.{Chain, extend_one, extend}
use Rattle.hand.specs.Fits.{FitsChain, FitsMore}
use Rattle.hand.proofs.Holding.{same_then}
use Rattle.hand.proofs.Pointing.{long_none, long_then}
use Rattle.hand.proofs.Linking.{ChainLong, one_count, one_free, one_fits, one_long, one_counted, more_one}
use Rattle.moves.specs.Held.{chain_in, ChainBecomes}

-- no sector more, and one and the others
pub extend_none : (S : ℕ) (c : Chain) → extend S c 0 ≡ c
unfolding extend
extend_none S c = refl

pub extend_more : (S : ℕ) (c : Chain) (m : ℕ) → extend S c (suc m) ≡ extend S (extend_one S c) m
unfolding extend
extend_more S c m = refl

-- extending leaves what the code asks for
pub extend_fits : (S R m : ℕ) (c : Chain) → FitsMore S R m c → FitsChain S R (extend S c m)
extend_fits S R zero c f = rw extend_none f.fits
extend_fits S R (suc m) c f = rw extend_more (extend_fits S R m (extend_one S c) (one_fits f))

-- how many ids the chain has, how many sectors there are, and how many of them are FREE
pub extend_count : (S : ℕ) (c : Chain) (m : ℕ) → (extend S c m).count ≡ c.count + m
extend_count S c zero = rw extend_none (omega arith)
extend_count S c (suc m) = rw extend_more (extend_count S (extend_one S c) m ∙ omega (arith, one_count S c))

pub extend_free : (S : ℕ) (c : Chain) (m : ℕ) → (extend S c m).hand.free ≡ c.hand.free - m
extend_free S c zero = rw extend_none (omega arith)
extend_free S c (suc m) = rw extend_more (extend_free S (extend_one S c) m ∙ omega (arith, one_free S c))

pub extend_sectors : (S : ℕ) (c : Chain) (m : ℕ) → (extend S c m).hand.disk.sectors ≡ count_after S c.hand.disk.sectors (m - c.hand.free)
extend_sectors S c zero =
    let z : 0 - c.hand.free ≡ 0 = omega arith in
    rw (extend_none, z, count_none)
extend_sectors S c (suc m) = rw extend_more (extend_sectors S (extend_one S c) m ∙ one_counted S m c)

-- everything that is lent stays as long
same_chain : (c : Chain) → ChainLong c c
same_chain c = record { hand = long_none c.hand; ids_same = refl }

chain_then : {c d e : Chain} → ChainLong c d → ChainLong d e → ChainLong c e
chain_then p q = record { hand = long_then p.hand q.hand; ids_same = q.ids_same ∙ p.ids_same }

pub extend_long : (S R m : ℕ) (c : Chain) → FitsMore S R m c → ChainLong c (extend S c m)
extend_long S R zero c f = rw extend_none (same_chain c)
extend_long S R (suc m) c f = rw extend_more (chain_then (one_long f) (extend_long S R m (extend_one S c) (one_fits f)))

-- one sector more is behind the others
extend_last : (S : ℕ) (c : Chain) (m : ℕ) → extend S c (suc m) ≡ extend_one S (extend S c m)
extend_last S c zero = extend_more S c 0 ∙ extend_none S (extend_one S c) ∙ ap (extend_one S) (sym (extend_none S c))
extend_last S c (suc m) = extend_more S c (suc m) ∙ extend_last S (extend_one S c) m ∙ ap (extend_one S) (sym (extend_more S c m))

-- where m + k can be taken, k can when m are
extend_left : (S R m k : ℕ) (c : Chain) → FitsMore S R (m + k) c → FitsMore S R k (extend S c m)
extend_left S R zero k c f = let z : 0 + k ≡ k = omega arith in rw extend_none (rw z at f)
extend_left S R (suc m) k c f =
    let z : suc m + k ≡ suc (m + k) = omega arith in
    rw extend_more (extend_left S R m k (extend_one S c) (one_fits (rw z at f)))

-- the count of ids stays small
pub extend_small : (S R m : ℕ) (c : Chain) → FitsMore S R m c → c.count + m ≤ most
extend_small S R m c f =
    let g : FitsChain S R (extend S c m) = extend_fits S R m c f in
    omega (arith, extend_count S c m, g.few, g.fits.disk.inside, g.fits.disk.few)

-- a turn of the loop that extends
module _ {a b : lent.Hand} {ids ids' : List ℕ} {count more listed : ℕ} (f : FitsMore a.len (room_of a.len (length a.image.now)) more (chain_in a ids count))
    (m : ChainBecomes a b ids' listed (extend a.len (chain_in a ids count) (listed - count))) where
  pub turn_one : count ≤ listed → listed < count + more → FitsMore b.len (room_of b.len (length b.image.now)) 1 (chain_in b ids' listed)
  turn_one low l =
      let e : more ≡ listed - count + suc (count + more - listed - 1) = omega (arith, low, l) in
      rw (m.same.len, m.same.image_long, m.chain)
      (more_one (extend_left a.len (room_of a.len (length a.image.now)) (listed - count) (suc (count + more - listed - 1)) (chain_in a ids count) (rw e at f)))

  pub turn_on : count ≤ listed → {d : lent.Hand} {ids'' : List ℕ} → ChainBecomes b d ids'' (listed + 1) (extend_one b.len (chain_in b ids' listed))
      → ChainBecomes a d ids'' (listed + 1) (extend a.len (chain_in a ids count) (listed + 1 - count))
  turn_on low q =
      let e : listed + 1 - count ≡ suc (listed - count) = omega (arith, low) in
      record { same = same_then m.same q.same; chain = rw (e, extend_last, sym m.chain, sym m.same.len) q.chain }
