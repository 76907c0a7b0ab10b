-- The bytes of an image after a chain is extended: its chain is zero from its old end on, and what belongs to no part of it stays. Assumes nothing.
use Prim.Native.Nat.{ℕ, zero, suc, ◌+◌, ◌-◌, ◌*◌, ◌≤◌, ◌<◌}
use mathlib.Core.Path.{◌≡◌, refl, ◌∙◌, sym, ap}
use mathlib.Core.List.{List, [], ◌∷◌, ◌++◌, append_assoc, append-nil}
use mathlib.Core.Logic.{⊎_elim, ◌≢◌}
use native.Mathlib.Omega.{arith}
use native.Mathlib.Nat.{mul-suc, mul-zero}
use lib.ListN.{length, get_or, replicate, length-replicate, get_or-replicate, replicate-append-replicate}
use lib.Seq.{ext_get_or, take-suc-set}
use Rattle.stores.specs.Stores.{Beside}
use Rattle.lists.specs.Lists.{part}
use Rattle.lists.proofs.Cases.{below_or, same_or}
use Rattle.lists.proofs.Splice.{length_part, get_d_part}
use Rattle.sectors.specs.Sectors.{start_of, sector_of}
use Rattle.chain.specs.Bytes.{chain_bytes}
use Rattle.stores.proofs.Apart.{sector_other}
use Rattle.disk.proofs.Keeping.{sectors_inside}
use Rattle.hand.specs.Hand.{Chain, taken_id, extend_one, extend}
use Rattle.hand.specs.Fits.{FitsMore}
use Rattle.moves.specs.Change.{ids_of}
use Rattle.hand.proofs.Taking.{id_new, id_last, take_sectors_grow, taken_below}
use Rattle.hand.proofs.Linking.{one_count, one_free, one_sectors, one_fits, one_long, more_place, more_room}
use Rattle.moves.proofs.Extending.{extend_none, extend_more}
use Rattle.moves.proofs.Changing.{chain_listed, chain_id}
use Rattle.moves.proofs.Staying.{ready_least, taken_other, one_ids_at, one_ids_last, one_frees_at}
use Rattle.edits.specs.Order.{added_fat, added_difat}
use Rattle.edits.specs.Roles.{Roles, fats_held, difats_held}
use Rattle.edits.specs.Untouched.{UnnamedFrom, Unlisted, Other}
use Rattle.edits.proofs.Listed.{listed_stays, listed_none}
use Rattle.edits.proofs.Growing.{one_grown}
use Rattle.edits.proofs.Named.{unnamed_within, unnamed_past}
use Rattle.edits.proofs.Taking.{one_spares, one_zero}
use Rattle.edits.proofs.Roles.{one_roles, one_listed}
use Rattle.edits.proofs.Joining.{chain_append, chain_single, sector_stays, chain_stays, sector_past, other_aside}

-- one sector more
module _ (S R m : ℕ) (c : Chain) (f : FitsMore S R (suc m) c) (r : Roles S R c) where
  big : 512 ≤ S
  big = r.fits.fits.disk.header

  r1 : Roles S R (extend_one S c)
  r1 = one_roles S R m c f r

  last_id : get_or (extend_one S c).ids c.count 0 ≡ taken_id S c.hand
  last_id = one_ids_last S c (more_place f)

  taken_inside : start_of S (taken_id S c.hand) + S ≤ length c.hand.disk.image
  taken_inside =
      sectors_inside S R _ _ c.hand.disk r.fits.fits.disk (taken_id S c.hand)
      (omega (arith, taken_below S R c.hand f.fits.fits (more_room f), one_sectors S c, r1.fits.fits.disk.inside))

  one_image : length (extend_one S c).hand.disk.image ≡ length c.hand.disk.image
  one_image = (one_long f).hand.disk.image_same

  -- the sectors that the chain has keep their bytes
  one_sector_stays : (j : ℕ) → j < c.count → sector_of S (extend_one S c).hand.disk.image (get_or c.ids j 0) ≡ sector_of S c.hand.disk.image (get_or c.ids j 0)
  one_sector_stays j l =
      let same : get_or (extend_one S c).ids j 0 ≡ get_or c.ids j 0 = one_ids_at S c j l in
      let low : j < (extend_one S c).count = omega (arith, l, one_count S c) in
      sector_stays S c.hand.disk.image (extend_one S c).hand.disk.image (get_or c.ids j 0) one_image
      (sectors_inside S R _ _ c.hand.disk r.fits.fits.disk (get_or c.ids j 0) (omega (arith, r.fits.within j l, r.fits.fits.disk.inside)))
      (λ x hx.
      let past : 512 ≤ start_of S (get_or c.ids j 0) + x = sector_past S (get_or c.ids j 0) x big in
      one_spares f (start_of S (get_or c.ids j 0) + x) (unnamed_past past)
      (other_aside S (extend_one S c).hand.disk (get_or c.ids j 0) x hx
      (λ p h e. r1.ids_fats j p low h (same ∙ sym e)) (λ p h e. r1.ids_difats j p low h (same ∙ sym e)))
      (sector_other S (taken_id S c.hand) (get_or c.ids j 0) x (λ e. taken_other S R c f.fits r.apart j l (sym e)) hx))

  -- and the new one is zero
  one_sector_zero : sector_of S (extend_one S c).hand.disk.image (taken_id S c.hand) ≡ replicate S 0
  unfolding sector_of
  one_sector_zero =
      let img : List ℕ = (extend_one S c).hand.disk.image in
      let long : length (part img (start_of S (taken_id S c.hand)) S) ≡ S = length_part img (start_of S (taken_id S c.hand)) S (rw one_image taken_inside) in
      ext_get_or 0 (part img (start_of S (taken_id S c.hand)) S) (replicate S 0) (long ∙ sym (length-replicate {A = ℕ} S 0))
      (λ x hx.
      let small : x < S = rw long at hx in
      get_d_part img (start_of S (taken_id S c.hand)) S x small
      ∙ one_zero f x small
      (λ p l. sector_other S (get_or (extend_one S c).hand.disk.fats p 0) (taken_id S c.hand) x
      (λ e. r1.ids_fats c.count p (omega (arith, one_count S c)) l (last_id ∙ sym e)) small)
      ∙ sym (get_or-replicate S x 0 0 small))

  one_ids_of : ids_of (extend_one S c) ≡ ids_of c ++ (taken_id S c.hand ∷ [])
  unfolding ids_of extend_one
  one_ids_of = take-suc-set c.ids c.count (taken_id S c.hand) (more_place f)

  pub one_bytes : chain_bytes S (extend_one S c).hand.disk.image (ids_of (extend_one S c)) ≡ chain_bytes S c.hand.disk.image (ids_of c) ++ replicate S 0
  one_bytes =
      let img : List ℕ = (extend_one S c).hand.disk.image in
      let old : chain_bytes S img (ids_of c) ≡ chain_bytes S c.hand.disk.image (ids_of c)
      = chain_stays S c.hand.disk.image img (ids_of c)
      (λ j l. let low : j < c.count = rw (chain_listed S R c r.fits) at l in
      rw (chain_id S R c r.fits j low) (one_sector_stays j low)) in
      ap (chain_bytes S img) one_ids_of
      ∙ chain_append S img (ids_of c) (taken_id S c.hand ∷ [])
      ∙ ap (λ (u : List ℕ). u ++ chain_bytes S img (taken_id S c.hand ∷ [])) old
      ∙ ap (λ (u : List ℕ). chain_bytes S c.hand.disk.image (ids_of c) ++ u) (chain_single S img (taken_id S c.hand) ∙ one_sector_zero)

-- m sectors more
pub extended_bytes : (S R m : ℕ) (c : Chain) → FitsMore S R m c → Roles S R c
    → chain_bytes S (extend S c m).hand.disk.image (ids_of (extend S c m)) ≡ chain_bytes S c.hand.disk.image (ids_of c) ++ replicate (S * m) 0
extended_bytes S R zero c f r =
    let z : S * 0 ≡ 0 = mul-zero S in
    rw (extend_none, z) (sym (append-nil (chain_bytes S c.hand.disk.image (ids_of c))))
extended_bytes S R (suc m) c f r =
    let old : List ℕ = chain_bytes S c.hand.disk.image (ids_of c) in
    let more : S + S * m ≡ S * suc m = omega (arith, mul-suc S m) in
    rw extend_more
    (extended_bytes S R m (extend_one S c) (one_fits f) (one_roles S R m c f r)
    ∙ ap (λ (u : List ℕ). u ++ replicate (S * m) 0) (one_bytes S R m c f r)
    ∙ append_assoc old (replicate S 0) (replicate (S * m) 0)
    ∙ ap (λ (u : List ℕ). old ++ u) (replicate-append-replicate S (S * m) 0 ∙ ap (λ (k : ℕ). replicate k 0) more))

-- the lists of one chain begin those of another
pub record Begins (S : ℕ) (c e : Chain) : Type 0 where
  pub fats_more : fats_held S c.hand.disk ≤ fats_held S e.hand.disk
  pub difats_more : difats_held S c.hand.disk ≤ difats_held S e.hand.disk
  pub ids_more : c.count ≤ e.count
  pub fats_stay : (p : ℕ) → p < fats_held S c.hand.disk → get_or e.hand.disk.fats p 0 ≡ get_or c.hand.disk.fats p 0
  pub difats_stay : (p : ℕ) → p < difats_held S c.hand.disk → get_or e.hand.disk.difats p 0 ≡ get_or c.hand.disk.difats p 0
  pub ids_stay : (p : ℕ) → p < c.count → get_or e.ids p 0 ≡ get_or c.ids p 0

begins_then : {S : ℕ} {c d e : Chain} → Begins S c d → Begins S d e → Begins S c e
begins_then a b =
    record {
      fats_more = omega (arith, a.fats_more, b.fats_more);
      difats_more = omega (arith, a.difats_more, b.difats_more);
      ids_more = omega (arith, a.ids_more, b.ids_more);
      fats_stay = λ p l. b.fats_stay p (omega (arith, l, a.fats_more)) ∙ a.fats_stay p l;
      difats_stay = λ p l. b.difats_stay p (omega (arith, l, a.difats_more)) ∙ a.difats_stay p l;
      ids_stay = λ p l. b.ids_stay p (omega (arith, l, a.ids_more)) ∙ a.ids_stay p l;
    }

one_begins : {S R m : ℕ} {c : Chain} → FitsMore S R (suc m) c → Begins S c (extend_one S c)
one_begins {S} {R} {m} {c} f =
    let g = one_grown f in
    record {
      fats_more = g.fats_more;
      difats_more = g.difats_more;
      ids_more = omega (arith, one_count S c);
      fats_stay = listed_stays g.fats g.fats_more;
      difats_stay = listed_stays g.difats g.difats_more;
      ids_stay = one_ids_at S c;
    }

pub extend_begins : (S R m : ℕ) (c : Chain) → FitsMore S R m c → Begins S c (extend S c m)
extend_begins S R zero c f =
    rw extend_none
    (record { fats_more = omega arith; difats_more = omega arith; ids_more = omega arith; fats_stay = λ p l. refl; difats_stay = λ p l. refl; ids_stay = λ p l. refl })
extend_begins S R (suc m) c f = rw extend_more (begins_then (one_begins f) (extend_begins S R m (extend_one S c) (one_fits f)))

-- the sectors that the FAT and the DIFAT get stand where document 01 says
pub extended_fats : (S R m : ℕ) (c : Chain) → FitsMore S R m c → (p : ℕ) → fats_held S c.hand.disk ≤ p → p < fats_held S (extend S c m).hand.disk
    → get_or (extend S c m).hand.disk.fats p 0 ≡ added_fat S p
extended_fats S R zero c f p h l = let l' : p < fats_held S c.hand.disk = rw extend_none at l in absurd (omega (arith, h, l'))
extended_fats S R (suc m) c f p h l =
    let l' : p < fats_held S (extend S (extend_one S c) m).hand.disk = rw extend_more at l in
    rw extend_more
    (⊎_elim
    (λ (k : p < fats_held S (extend_one S c).hand.disk).
    let g = one_grown f in
    (extend_begins S R m (extend_one S c) (one_fits f)).fats_stay p k
    ∙ ⊎_elim
    (λ (a : (p < fats_held S c.hand.disk) × (get_or (extend_one S c).hand.disk.fats p 0 ≡ get_or c.hand.disk.fats p 0)). absurd (omega (arith, h, a.0)))
    (λ (a : (p ≡ fats_held S c.hand.disk) × (get_or (extend_one S c).hand.disk.fats p 0 ≡ g.fat)).
    a.1 ∙ g.fat_place (omega (arith, a.0, k)) ∙ ap (added_fat S) (sym a.0))
    (g.fats.at p k))
    (λ (k : fats_held S (extend_one S c).hand.disk ≤ p). extended_fats S R m (extend_one S c) (one_fits f) p k l')
    (below_or p (fats_held S (extend_one S c).hand.disk)))

pub extended_difats : (S R m : ℕ) (c : Chain) → FitsMore S R m c → (q : ℕ) → difats_held S c.hand.disk ≤ q → q < difats_held S (extend S c m).hand.disk
    → get_or (extend S c m).hand.disk.difats q 0 ≡ added_difat S q
extended_difats S R zero c f q h l = let l' : q < difats_held S c.hand.disk = rw extend_none at l in absurd (omega (arith, h, l'))
extended_difats S R (suc m) c f q h l =
    let l' : q < difats_held S (extend S (extend_one S c) m).hand.disk = rw extend_more at l in
    rw extend_more
    (⊎_elim
    (λ (k : q < difats_held S (extend_one S c).hand.disk).
    let g = one_grown f in
    (extend_begins S R m (extend_one S c) (one_fits f)).difats_stay q k
    ∙ ⊎_elim
    (λ (a : (q < difats_held S c.hand.disk) × (get_or (extend_one S c).hand.disk.difats q 0 ≡ get_or c.hand.disk.difats q 0)). absurd (omega (arith, h, a.0)))
    (λ (a : (q ≡ difats_held S c.hand.disk) × (get_or (extend_one S c).hand.disk.difats q 0 ≡ g.difat)).
    a.1 ∙ g.difat_place_lem (omega (arith, a.0, k)) ∙ ap (added_difat S) (sym a.0))
    (g.difats.at q k))
    (λ (k : difats_held S (extend_one S c).hand.disk ≤ q). extended_difats S R m (extend_one S c) (one_fits f) q k l')
    (below_or q (difats_held S (extend_one S c).hand.disk)))

-- what is in no listed sector after more is listed was in none before
unlisted_before : (S : ℕ) (c e : Chain) (b : ℕ) → Begins S c e → Unlisted S e b → Unlisted S c b
unlisted_before S c e b g u =
    record {
      aside = record {
        in_no_fat = λ p l. rw (← g.fats_stay p l) (u.aside.in_no_fat p (omega (arith, l, g.fats_more)));
        in_no_difat = λ p l. rw (← g.difats_stay p l) (u.aside.in_no_difat p (omega (arith, l, g.difats_more)));
      };
      in_no_id = λ p l. rw (← g.ids_stay p l) (u.in_no_id p (omega (arith, l, g.ids_more)));
    }

-- the bytes that are neither named nor in a listed sector stay
pub extended_spares : (S R m : ℕ) (c : Chain) → FitsMore S R m c → (b : ℕ) → UnnamedFrom S c.hand.disk (extend S c m).hand.disk b → Unlisted S (extend S c m) b
    → get_or (extend S c m).hand.disk.image b 0 ≡ get_or c.hand.disk.image b 0
extended_spares S R zero c f b n u = rw extend_none
extended_spares S R (suc m) c f b n u =
    let first = one_begins f in
    let rest = extend_begins S R m (extend_one S c) (one_fits f) in
    let n' : UnnamedFrom S c.hand.disk (extend S (extend_one S c) m).hand.disk b = rw extend_more at n in
    let u' : Unlisted S (extend S (extend_one S c) m) b = rw extend_more at u in
    let one : Unlisted S (extend_one S c) b = unlisted_before S (extend_one S c) (extend S (extend_one S c) m) b rest u' in
    let id : Beside S (taken_id S c.hand) b = rw (← one_ids_last S c (more_place f)) (one.in_no_id c.count (omega (arith, one_count S c))) in
    rw extend_more
    (extended_spares S R m (extend_one S c) (one_fits f) b (unnamed_within n' first.fats_more (omega arith) first.difats_more (omega arith)) u'
    ∙ one_spares f b (unnamed_within n' (omega arith) rest.fats_more (omega arith) rest.difats_more) one.aside id)

-- a sector that belongs to another does so then
taken_not : (S R : ℕ) (c : Chain) (i : ℕ) → Other S c i → taken_id S c.hand ≢ i
taken_not S R c i o =
    ⊎_elim
    (λ (e : c.hand.free ≡ 0). omega (arith, id_new S c.hand e, ready_least S c.hand.disk, o.inside))
    (λ (e : c.hand.free ≢ 0). λ (q : taken_id S c.hand ≡ i). o.no_free (c.hand.free - 1) (omega (arith, e)) (sym (id_last S c.hand e) ∙ q))
    (same_or c.hand.free 0)

one_other : {S R m : ℕ} {c : Chain} → FitsMore S R (suc m) c → (i : ℕ) → Other S c i → Other S (extend_one S c) i
one_other {S} {R} {m} {c} f i o =
    let g = one_grown f in
    record {
      inside = omega (arith, o.inside, one_sectors S c, take_sectors_grow S c.hand);
      no_fat = listed_none g.fats i (omega (arith, o.inside, g.fat_new)) o.no_fat;
      no_difat = listed_none g.difats i (omega (arith, o.inside, g.difat_new)) o.no_difat;
      no_id = listed_none (one_listed S c (more_place f)) i (taken_not S R c i o) o.no_id;
      no_free = λ p l e. o.no_free p (omega (arith, l, one_free S c)) (sym (one_frees_at S c p (omega (arith, l, one_free S c))) ∙ e);
    }

pub extended_other : (S R m : ℕ) (c : Chain) → FitsMore S R m c → (i : ℕ) → Other S c i → Other S (extend S c m) i
extended_other S R zero c f i o = rw extend_none o
extended_other S R (suc m) c f i o = rw extend_more (extended_other S R m (extend_one S c) (one_fits f) i (one_other f i o))
