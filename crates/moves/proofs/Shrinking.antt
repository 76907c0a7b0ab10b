-- The laws of a chain cut and its tail freed. Assumes nothing.
use Prim.Native.Nat.{ℕ, ◌+◌, ◌-◌, ◌≤◌, ◌<◌}
use mathlib.Core.Path.{◌≡◌, refl, ◌∙◌}
use mathlib.Core.List.{List}
use mathlib.Core.Logic.{⊎_elim}
use native.Mathlib.Omega.{arith}
use borrow.Author.Tests.{lt-ltb, le-ltb}
use lib.ListN.{length, get_or, take, replicate, length-append, length-replicate, get_or-append}
use lib.Seq.{get_or-take, length-take-le, take_at}
use Rattle.lists.proofs.Cases.{below_or}
use Rattle.consts.specs.Consts.{end_of_chain}
use Rattle.alloc.specs.Opening.{padded}
use Rattle.hand.specs.Hand.{Hand, Chain, free_run}
use Rattle.hand.specs.Fits.{FitsHand, FitsFrees, FitsLast, FitsChain}
use Rattle.moves.specs.Change.{cut, shrink, ids_of, FitsShrink}
use Rattle.hand.proofs.Pointing.{long_none, long_then}
use Rattle.hand.proofs.Freeing.{free_run_count, free_run_sectors, free_run_long, chain_frees, chain_freed}
use Rattle.hand.proofs.Linking.{ChainLong, last_fits, linked_fits, linked_counts, linked_long}

-- a list that is zero from place m on: it is as long, and what stands before m stays
pub padded_long : (xs : List ℕ) (m : ℕ) → m ≤ length xs → length (padded (take m xs) (length xs)) ≡ length xs
unfolding padded
padded_long xs m h =
    let front : length (take m xs) ≡ m = length-take-le m xs h in
    length-append (take m xs) (replicate (length xs - length (take m xs)) 0)
    ∙ omega (arith, front, length-replicate {A = ℕ} (length xs - length (take m xs)) 0)

pub padded_at : (xs : List ℕ) (m j : ℕ) → m ≤ length xs → j < m → get_or (padded (take m xs) (length xs)) j 0 ≡ get_or xs j 0
unfolding padded
padded_at xs m j h l =
    get_or-append (take m xs) (replicate (length xs - length (take m xs)) 0) 0 j (omega (arith, length-take-le m xs h)) ∙ get_or-take m xs j 0 l

pub padded_front : (xs : List ℕ) (m : ℕ) → m ≤ length xs → take m (padded (take m xs) (length xs)) ≡ take m xs
unfolding padded
padded_front xs m h = take_at (take m xs) (replicate (length xs - length (take m xs)) 0) m (length-take-le m xs h)

-- a chain that is as long as it has to be, and one that is longer
pub shrink_none : (S : ℕ) (c : Chain) (m : ℕ) → c.count ≤ m → shrink S c m ≡ c
unfolding shrink
shrink_none S c m h = rw (le-ltb m c.count h)

pub shrink_some : (S : ℕ) (c : Chain) (m : ℕ) → m < c.count
    → shrink S c m
    ≡ record { hand = free_run S (cut S c.hand c.ids m) c.ids m (c.count - m); ids = padded (take m c.ids) (length c.ids); count = m }
unfolding shrink
shrink_some S c m h = rw (lt-ltb m c.count h)

-- a chain that can be cut behind m of its sectors
module _ (S R m : ℕ) (c : Chain) (f : FitsShrink S R m c) where
  pub shrink_place : m ≤ length c.ids
  shrink_place = omega (arith, f.within, f.fits.few, f.fits.fits.disk.inside, f.fits.ids_long)

  pub shrink_last : 0 < m → get_or c.ids (m - 1) 0 < c.hand.disk.sectors
  shrink_last e = f.fits.within (m - 1) (omega (arith, e, f.within))

  pub shrink_cut : FitsLast S c.hand.disk.sectors (length c.hand.disk.image) (length c.hand.disk.fat) c.hand.disk.fats (length c.hand.marks) c.ids m
  shrink_cut = last_fits S R c.hand c.ids m f.fits.fits shrink_place shrink_last

  abbrev cut_of : Hand
  cut_of = cut S c.hand c.ids m

  pub cut_fits : FitsHand S R cut_of
  cut_fits = linked_fits S c.hand c.ids m end_of_chain R shrink_last f.fits.fits

  pub cut_counts : (cut_of.disk.sectors ≡ c.hand.disk.sectors) × (cut_of.free ≡ c.hand.free)
  cut_counts = linked_counts S c.hand c.ids m end_of_chain

  cut_chain : FitsChain S R (record { hand = cut_of; ids = c.ids; count = c.count })
  cut_chain =
      record {
        fits = cut_fits;
        ids_long = f.fits.ids_long;
        within = λ j l. rw cut_counts.0 (f.fits.within j l);
        few = rw (cut_counts.0, cut_counts.1) f.fits.few;
      }

  -- its tail can be freed
  pub shrink_frees : FitsFrees S R m (c.count - m) c.ids cut_of
  shrink_frees = chain_frees S R m (c.count - m) (record { hand = cut_of; ids = c.ids; count = c.count }) cut_chain (omega (arith, f.within))

  -- what is left is a chain in hand
  shrunk_fits : FitsChain S R (record { hand = free_run S cut_of c.ids m (c.count - m); ids = padded (take m c.ids) (length c.ids); count = m })
  shrunk_fits =
      let g : FitsChain S R (record { hand = free_run S cut_of c.ids m (c.count - m); ids = c.ids; count = m })
      = chain_freed S R m (c.count - m) (record { hand = cut_of; ids = c.ids; count = c.count }) cut_chain (omega (arith, f.within)) in
      record {
        fits = g.fits;
        ids_long = rw (padded_long c.ids m shrink_place) g.ids_long;
        within = λ j l. rw (padded_at c.ids m j shrink_place l) (g.within j l);
        few = g.few;
      }

  pub shrink_fits : FitsChain S R (shrink S c m)
  shrink_fits =
      ⊎_elim
      (λ (l : m < c.count). rw (shrink_some S c m l) shrunk_fits)
      (λ (g : c.count ≤ m). rw (shrink_none S c m g) f.fits)
      (below_or m c.count)

  -- how many ids it has, how many sectors there are, and how many of them are FREE
  pub shrink_count : (shrink S c m).count ≡ m
  shrink_count =
      ⊎_elim
      (λ (l : m < c.count). rw (shrink_some S c m l))
      (λ (g : c.count ≤ m). rw (shrink_none S c m g) (omega (arith, f.within)))
      (below_or m c.count)

  pub shrink_sectors : (shrink S c m).hand.disk.sectors ≡ c.hand.disk.sectors
  shrink_sectors =
      ⊎_elim
      (λ (l : m < c.count). rw (shrink_some S c m l) (free_run_sectors S cut_of c.ids m (c.count - m) ∙ cut_counts.0))
      (λ (g : c.count ≤ m). rw (shrink_none S c m g))
      (below_or m c.count)

  pub shrink_free : (shrink S c m).hand.free ≡ c.hand.free + (c.count - m)
  shrink_free =
      ⊎_elim
      (λ (l : m < c.count). rw (shrink_some S c m l) (free_run_count S cut_of c.ids m (c.count - m) ∙ omega (arith, cut_counts.1)))
      (λ (g : c.count ≤ m). rw (shrink_none S c m g) (omega arith))
      (below_or m c.count)

  -- its ids are the first m
  pub shrink_ids : (j : ℕ) → j < m → get_or (shrink S c m).ids j 0 ≡ get_or c.ids j 0
  shrink_ids j b =
      ⊎_elim
      (λ (l : m < c.count). rw (shrink_some S c m l) (padded_at c.ids m j shrink_place b))
      (λ (g : c.count ≤ m). rw (shrink_none S c m g))
      (below_or m c.count)

  pub shrink_ids_of : ids_of (shrink S c m) ≡ take m c.ids
  unfolding ids_of
  shrink_ids_of =
      ⊎_elim
      (λ (l : m < c.count). rw (shrink_some S c m l) (padded_front c.ids m shrink_place))
      (λ (g : c.count ≤ m). let e : c.count ≡ m = omega (arith, f.within) in rw (shrink_none S c m g, e))
      (below_or m c.count)

  -- everything that is lent stays as long
  pub shrink_long : ChainLong c (shrink S c m)
  shrink_long =
      ⊎_elim
      (λ (l : m < c.count). rw (shrink_some S c m l)
      (record {
        hand = long_then (linked_long S c.hand c.ids m end_of_chain R shrink_last f.fits.fits) (free_run_long S R m (c.count - m) c.ids cut_of shrink_frees);
        ids_same = padded_long c.ids m shrink_place;
      }))
      (λ (g : c.count ≤ m). rw (shrink_none S c m g) (record { hand = long_none c.hand; ids_same = refl }))
      (below_or m c.count)
