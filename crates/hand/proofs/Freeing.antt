-- The laws of sectors freed, one and a run of them. Assumes nothing.
use Prim.Native.Nat.{ℕ, zero, suc, ◌+◌, ◌-◌, ◌*◌, ◌/◌, ◌≤◌, ◌<◌}
use mathlib.Core.Path.{◌≡◌, refl, ◌∙◌, sym, ap}
use mathlib.Core.List.{List}
use mathlib.Core.Logic.{⊎_elim, ◌≢◌}
use native.Mathlib.Omega.{arith}
use lib.ListN.{length, get_or, set, take, drop, length-set, length-drop}
use lib.Seq.{get_or-set_same, get_or-set_other, get_or-take, get_or-drop, length-take-le}
use Rattle.lists.proofs.Cases.{same_or}
use Rattle.consts.specs.Consts.{free_sector}
use Rattle.sectors.specs.Sectors.{start_of, per_sector}
use Rattle.fat.specs.Lists.{most}
use Rattle.disk.specs.Disk.{set_fat}
use Rattle.hand.specs.Hand.{Hand, Chain, with_difats, point, free_sector_of, free_run}
use Rattle.hand.specs.Fits.{FitsHand, FitsFrees, FitsChain}
use Rattle.hand.proofs.Pointing.{hand_of, HandLong, long_none, long_then, point_inside, point_fits, point_long}

-- freeing leaves what the code asks for
pub free_fits : (S R : ℕ) (h : Hand) (i : ℕ) → FitsHand S R h → i < h.disk.sectors → h.free < h.disk.sectors → FitsHand S R (free_sector_of S h i)
unfolding free_sector_of point set_fat
free_fits S R h i f b room =
    let p : FitsHand S R (point S h i free_sector) = point_fits S R h i free_sector f b in
    record {
      disk = p.disk;
      frees_long = rw length-set f.frees_long;
      marks_long = p.marks_long;
      free_few = omega (arith, room);
      frees_below = λ q l. ⊎_elim
          (λ (e : q ≡ h.free). rw (e, get_or-set_same h.frees h.free i 0 (omega (arith, room, f.disk.inside, f.frees_long))) b)
          (λ (e : q ≢ h.free). rw (get_or-set_other h.frees h.free q i 0 e) (f.frees_below q (omega (arith, l, e))))
          (same_or q h.free);
    }

-- the first of a run freed: the others can be
pub frees_more : (S R i c : ℕ) (ids : List ℕ) (h : Hand) → FitsFrees S R i (suc c) ids h → FitsFrees S R (suc i) c ids (free_sector_of S h (get_or ids i 0))
unfolding free_sector_of point set_fat
frees_more S R i c ids h f =
    record {
      fits = free_fits S R h (get_or ids i 0) f.fits (f.within i (omega arith)) (omega (arith, f.room));
      listed = omega (arith, f.listed);
      within = λ j l. f.within j (omega (arith, l));
      room = omega (arith, f.room);
    }

-- a run of none, and of one and the others
pub free_none : (S : ℕ) (h : Hand) (ids : List ℕ) (i : ℕ) → free_run S h ids i 0 ≡ h
unfolding free_run
free_none S h ids i = refl

pub free_more : (S : ℕ) (h : Hand) (ids : List ℕ) (i c : ℕ) → free_run S h ids i (suc c) ≡ free_run S (free_sector_of S h (get_or ids i 0)) ids (suc i) c
unfolding free_run
free_more S h ids i c = refl

-- a run freed leaves what the code asks for
pub free_run_fits : (S R i c : ℕ) (ids : List ℕ) (h : Hand) → FitsFrees S R i c ids h → FitsHand S R (free_run S h ids i c)
free_run_fits S R i zero ids h f = rw free_none f.fits
free_run_fits S R i (suc c) ids h f = rw free_more (free_run_fits S R (suc i) c ids (free_sector_of S h (get_or ids i 0)) (frees_more S R i c ids h f))

-- one freed: how many are FREE then, and how many sectors there are
pub free_one_count : (S : ℕ) (h : Hand) (i : ℕ) → (free_sector_of S h i).free ≡ suc h.free
unfolding free_sector_of
free_one_count S h i = refl

pub free_one_sectors : (S : ℕ) (h : Hand) (i : ℕ) → (free_sector_of S h i).disk.sectors ≡ h.disk.sectors
unfolding free_sector_of point set_fat
free_one_sectors S h i = refl

-- and a run
pub free_run_count : (S : ℕ) (h : Hand) (ids : List ℕ) (i c : ℕ) → (free_run S h ids i c).free ≡ h.free + c
free_run_count S h ids i zero = rw free_none (omega arith)
free_run_count S h ids i (suc c) =
    rw free_more (free_run_count S (free_sector_of S h (get_or ids i 0)) ids (suc i) c ∙ omega (arith, free_one_count S h (get_or ids i 0)))

pub free_run_sectors : (S : ℕ) (h : Hand) (ids : List ℕ) (i c : ℕ) → (free_run S h ids i c).disk.sectors ≡ h.disk.sectors
free_run_sectors S h ids i zero = rw free_none
free_run_sectors S h ids i (suc c) =
    rw free_more (free_run_sectors S (free_sector_of S h (get_or ids i 0)) ids (suc i) c ∙ free_one_sectors S h (get_or ids i 0))

-- everything that is lent stays as long
pub free_long : (S R : ℕ) (h : Hand) (i : ℕ) → FitsHand S R h → i < h.disk.sectors → HandLong h (free_sector_of S h i)
unfolding free_sector_of
free_long S R h i f b =
    let p = point_long S R h i free_sector f b in
    record { disk = p.disk; frees_same_lem = length-set h.frees h.free i; marks_same = p.marks_same }

pub free_run_long : (S R i c : ℕ) (ids : List ℕ) (h : Hand) → FitsFrees S R i c ids h → HandLong h (free_run S h ids i c)
free_run_long S R i zero ids h f = rw free_none (long_none h)
free_run_long S R i (suc c) ids h f =
    rw free_more
    (long_then (free_long S R h (get_or ids i 0) f.fits (f.within i (omega arith)))
    (free_run_long S R (suc i) c ids (free_sector_of S h (get_or ids i 0)) (frees_more S R i c ids h f)))

-- sectors of a chain in hand can be freed, and what is left of the chain is one in hand then
pub chain_frees : (S R i m : ℕ) (c : Chain) → FitsChain S R c → i + m ≤ c.count → FitsFrees S R i m c.ids c.hand
chain_frees S R i m c f b =
    record {
      fits = f.fits;
      listed = omega (arith, b, f.few, f.fits.disk.inside, f.ids_long);
      within = λ j l. f.within j (omega (arith, l, b));
      room = omega (arith, b, f.few);
    }

pub chain_freed : (S R i m : ℕ) (c : Chain) → FitsChain S R c → i + m ≤ c.count
    → FitsChain S R (record { hand = free_run S c.hand c.ids i m; ids = c.ids; count = i })
chain_freed S R i m c f b =
    record {
      fits = free_run_fits S R i m c.ids c.hand (chain_frees S R i m c f b);
      ids_long = f.ids_long;
      within = λ j l. rw free_run_sectors (f.within j (omega (arith, l, b)));
      few = rw (free_run_sectors, free_run_count) (omega (arith, b, f.few));
    }

-- a run of one more frees its last
pub free_last : (S : ℕ) (h : Hand) (ids : List ℕ) (i c : ℕ) → free_run S h ids i (suc c) ≡ free_sector_of S (free_run S h ids i c) (get_or ids (i + c) 0)
free_last S h ids i zero =
    let e : i + 0 ≡ i = omega arith in
    rw e (free_more S h ids i 0 ∙ free_none S (free_sector_of S h (get_or ids i 0)) ids (suc i) ∙ ap (λ (k : Hand). free_sector_of S k (get_or ids i 0)) (sym (free_none S h ids i)))
free_last S h ids i (suc c) =
    let e : suc i + c ≡ i + suc c = omega arith in
    free_more S h ids i (suc c)
    ∙ free_last S (free_sector_of S h (get_or ids i 0)) ids (suc i) c
    ∙ ap (λ (k : ℕ). free_sector_of S (free_run S (free_sector_of S h (get_or ids i 0)) ids (suc i) c) (get_or ids k 0)) e
    ∙ ap (λ (k : Hand). free_sector_of S k (get_or ids (i + suc c) 0)) (sym (free_more S h ids i c))

-- a run of some of those that can be freed
frees_some : (S R i k c : ℕ) (ids : List ℕ) (h : Hand) → FitsFrees S R i c ids h → k ≤ c → FitsFrees S R i k ids h
frees_some S R i k c ids h f b =
    record { fits = f.fits; listed = omega (arith, f.listed, b); within = λ j l. f.within j (omega (arith, l, b)); room = omega (arith, f.room, b) }

-- what can be freed can be freed by its own list of DIFAT sectors
pub frees_own : (S R i c : ℕ) (ids : List ℕ) (h : Hand) → FitsFrees S R i c ids h → FitsFrees S R i c ids (with_difats h.disk.difats h)
unfolding with_difats
frees_own S R i c ids h f = f

-- a sector whose entry was made FREE, and which joined the free list
freed_of : (S : ℕ) (h pointed : Hand) (i : ℕ) → pointed ≡ point S h i free_sector
    → record { disk = pointed.disk; frees = set pointed.frees pointed.free i; free = pointed.free + 1; marks = pointed.marks } ≡ free_sector_of S h i
unfolding free_sector_of point
freed_of S h pointed i e =
    let more : pointed.free + 1 ≡ suc pointed.free = omega arith in
    rw more (ap (λ (g : Hand). record { disk = g.disk; frees = set g.frees g.free i; free = suc g.free; marks = g.marks }) e)

-- the sectors of a run
abbrev run_of : List ℕ → ℕ → ℕ → List ℕ
run_of ids i c = take (i + c - i) (drop i ids)

-- k of a run are freed, whatever list of DIFAT sectors is in hand
pub record Freed (S n free : ℕ) (image₀ fat₀ fats frees₀ marks₀ ids : List ℕ) (i k : ℕ) (image fat frees marks : List ℕ) : Type 0 where
  pub whole : (difats : List ℕ)
      → hand_of n image fat fats difats frees (free + k) marks ≡ free_run S (hand_of n image₀ fat₀ fats difats frees₀ free marks₀) ids i k

pub freed_none : (S n free : ℕ) (image fat fats frees marks ids : List ℕ) (i : ℕ) → Freed S n free image fat fats frees marks ids i 0 image fat frees marks
freed_none S n free image fat fats frees marks ids i =
    let none : free + 0 ≡ free = omega arith in
    record { whole = λ difats. rw none (sym (free_none S (hand_of n image fat fats difats frees free marks) ids i)) }

-- all of it are, once the loop is over
pub freed_all : {S n free : ℕ} {image₀ fat₀ fats frees₀ marks₀ ids : List ℕ} {i k : ℕ} {image fat frees marks : List ℕ} (c : ℕ)
    → Freed S n free image₀ fat₀ fats frees₀ marks₀ ids i k image fat frees marks → i + c ≤ length ids → k ≡ length (run_of ids i c)
    → (difats : List ℕ)
    → hand_of n image fat fats difats frees (free + c) marks ≡ free_run S (hand_of n image₀ fat₀ fats difats frees₀ free marks₀) ids i c
freed_all {ids = ids} {i = i} {k = k} c w l e difats =
    let all : c ≡ k = omega (arith, e, length-take-le (i + c - i) (drop i ids) (omega (arith, length-drop i ids, l))) in
    rw all (w.whole difats)

-- a turn of the loop that frees, where k are freed
module _ {S R n free i c k : ℕ} {image₀ fat₀ fats frees₀ marks₀ ids image fat frees marks difats : List ℕ}
    (f : FitsFrees S R i c ids (hand_of n image₀ fat₀ fats difats frees₀ free marks₀))
    (w : Freed S n free image₀ fat₀ fats frees₀ marks₀ ids i k image fat frees marks) (l : k < length (run_of ids i c)) where
  turn_some : k < c
  turn_some = omega (arith, l, length-take-le (i + c - i) (drop i ids) (omega (arith, length-drop i ids, f.listed)))

  turn_id : get_or (run_of ids i c) k 0 ≡ get_or ids (i + k) 0
  turn_id = get_or-take (i + c - i) (drop i ids) k 0 (omega (arith, turn_some)) ∙ get_or-drop i ids k 0

  turn_fits : FitsHand S R (hand_of n image fat fats difats frees (free + k) marks)
  turn_fits =
      let begun = hand_of n image₀ fat₀ fats difats frees₀ free marks₀ in
      rw (w.whole difats) (free_run_fits S R i k ids begun (frees_some S R i k c ids begun f (omega (arith, turn_some))))

  -- the entry of the next one can be set
  pub turn_point : ((S ≡ 4 * per_sector S) × (1 ≤ per_sector S) × (n ≤ length marks))
      × (((get_or (run_of ids i c) k 0 < length fat) × (get_or (run_of ids i c) k 0 / per_sector S < length fats))
      × (start_of S (get_or fats (get_or (run_of ids i c) k 0 / per_sector S) 0) + S ≤ length image))
  turn_point =
      point_inside S R (hand_of n image fat fats difats frees (free + k) marks) (get_or (run_of ids i c) k 0) turn_fits
      (rw turn_id (f.within (i + k) (omega (arith, turn_some))))

  -- the free list has room for it
  pub turn_place : free + k < length frees
  turn_place = omega (arith, turn_some, turn_fits.frees_long, f.room, f.fits.disk.inside)

  pub turn_small : free + k < most
  turn_small = omega (arith, turn_some, f.room, f.fits.disk.inside, f.fits.disk.few)

  -- and then one more is freed
  pub turn_on : (image' fat' marks' : List ℕ)
      → ((difats frees : List ℕ) (free : ℕ)
      → hand_of n image' fat' fats difats frees free marks' ≡ point S (hand_of n image fat fats difats frees free marks) (get_or (run_of ids i c) k 0) free_sector)
      → Freed S n free image₀ fat₀ fats frees₀ marks₀ ids i (k + 1) image' fat' (set frees (free + k) (get_or (run_of ids i c) k 0)) marks'
  turn_on image' fat' marks' p =
      let id = get_or (run_of ids i c) k 0 in
      let one : suc k ≡ k + 1 = omega arith in
      let more : free + (k + 1) ≡ free + k + 1 = omega arith in
      record {
        whole = λ difats.
            let begun = hand_of n image₀ fat₀ fats difats frees₀ free marks₀ in
            ap (λ (m : ℕ). hand_of n image' fat' fats difats (set frees (free + k) id) m marks') more
            ∙ freed_of S (hand_of n image fat fats difats frees (free + k) marks) (hand_of n image' fat' fats difats frees (free + k) marks') id (p difats frees (free + k))
            ∙ ap (λ (h : Hand). free_sector_of S h id) (w.whole difats)
            ∙ ap (free_sector_of S (free_run S begun ids i k)) turn_id
            ∙ sym (free_last S begun ids i k)
            ∙ ap (free_run S begun ids i) one;
      }
