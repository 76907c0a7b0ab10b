-- A chain that is cut leaves the tables well formed: its tail is FREE and listed, and nothing points at it. Assumes nothing.
use Prim.Native.Nat.{ℕ, zero, suc, ◌+◌, ◌-◌, ◌≤◌, ◌<◌}
use mathlib.Core.Path.{◌≡◌, ◌∙◌, sym, ap}
use mathlib.Core.List.{List}
use mathlib.Core.Logic.{◌⊎◌, inl, inr, ⊎_elim, ◌≢◌}
use native.Mathlib.Omega.{arith}
use lib.ListN.{length, get_or}
use Rattle.lists.proofs.Cases.{below_or, same_or}
use Rattle.consts.specs.Consts.{end_of_chain, free_sector}
use Rattle.fat.specs.Lists.{fat_count, difat_count}
use Rattle.hand.specs.Hand.{Hand, Chain, free_sector_of, free_run}
use Rattle.moves.specs.Change.{shrink, FitsShrink}
use Rattle.hand.proofs.Freeing.{free_more}
use Rattle.hand.proofs.Linking.{linked_none, linked_last}
use Rattle.moves.proofs.Shrinking.{shrink_none, shrink_some, shrink_last, shrink_frees, cut_counts, shrink_free, shrink_sectors}
use Rattle.edits.specs.Roles.{Roles, fats_held, difats_held}
use Rattle.edits.proofs.Order.{shrink_frees_stay, shrink_freed}
use Rattle.edits.proofs.Roles.{Freed, freed_from, shrink_roles, shrink_lists}
use Rattle.promises.specs.Tails.{Blank}
use Rattle.promises.specs.Whole.{Formed, Held}
use Rattle.promises.proofs.Entries.{free_entry, free_length, free_run_others}
use Rattle.promises.proofs.Graph.{StrungIn, held_strung, cut_hand, cut_other, cut_here, shrunk_fat}
use Rattle.promises.proofs.Forming.{PointersIn, Bare, point_pointers, end_target, run_pointers, hand_few}
use Rattle.promises.proofs.Parts.{Listings, formed_pointers, formed_listings, parts_formed}

-- a number is one of c from place i on, or none of them
found : (ids : List ℕ) (x i c : ℕ) → ((j : ℕ) × (i ≤ j) × (j < i + c) × (x ≡ get_or ids j 0)) ⊎ ((j : ℕ) → i ≤ j → j < i + c → x ≢ get_or ids j 0)
found ids x i zero = inr (λ j l u. absurd (omega (arith, l, u)))
found ids x i (suc c) =
    ⊎_elim
    (λ (e : x ≡ get_or ids i 0). inl (i, omega arith, omega arith, e))
    (λ (d : x ≢ get_or ids i 0).
    ⊎_elim
    (λ a. inl (a.0, omega (arith, a.1), omega (arith, a.2), a.3))
    (λ (a : (j : ℕ) → suc i ≤ j → j < suc i + c → x ≢ get_or ids j 0).
    inr (λ j l u. ⊎_elim
    (λ (e : j ≡ i). λ (q : x ≡ get_or ids j 0). d (q ∙ ap (λ (y : ℕ). get_or ids y 0) e))
    (λ (b : j ≢ i). a j (omega (arith, l, b)) (omega (arith, u)))
    (same_or j i)))
    (found ids x (suc i) c))
    (same_or x (get_or ids i 0))

-- the entry of a freed sector is FREE
freed_entry : (S : ℕ) (h : Hand) (ids : List ℕ) (i c j : ℕ) → i ≤ j → j < i + c → ((x y : ℕ) → x < i + c → y < i + c → get_or ids x 0 ≡ get_or ids y 0 → x ≡ y)
    → ((x : ℕ) → x < i + c → get_or ids x 0 < length h.disk.fat) → get_or (free_run S h ids i c).disk.fat (get_or ids j 0) 0 ≡ free_sector
freed_entry S h ids i zero j l u once low = absurd (omega (arith, l, u))
freed_entry S h ids i (suc c) j l u once low =
    rw (free_more S h ids i c)
    (⊎_elim
    (λ (e : j ≡ i).
    free_run_others S (free_sector_of S h (get_or ids i 0)) ids (suc i) c (get_or ids j 0) (λ k a b q. let s : j ≡ k = once j k u (omega (arith, b)) q in omega (arith, s, e, a))
    ∙ ap (λ (x : ℕ). get_or (free_sector_of S h (get_or ids i 0)).disk.fat (get_or ids x 0) 0) e
    ∙ free_entry S h (get_or ids i 0) (low i (omega arith)))
    (λ (d : j ≢ i).
    freed_entry S (free_sector_of S h (get_or ids i 0)) ids (suc i) c j (omega (arith, l, d)) (omega (arith, u)) (λ x y hx hy e. once x y (omega (arith, hx)) (omega (arith, hy)) e)
    (λ x hx. omega (arith, low x (omega (arith, hx)), free_length S h (get_or ids i 0))))
    (same_or j i))

module _ (S R m : ℕ) (c : Chain) (f : FitsShrink S R m c) (r : Roles S R c) (s : StrungIn c) (l : m < c.count) where
  abbrev cut_off : Hand
  cut_off = cut_hand S R m c f r s l

  abbrev last_kept : ℕ
  last_kept = get_or c.ids (m - 1) 0

  tail_once : (x y : ℕ) → x < m + (c.count - m) → y < m + (c.count - m) → get_or c.ids x 0 ≡ get_or c.ids y 0 → x ≡ y
  tail_once x y hx hy e = r.apart.ids_once x y (omega (arith, hx, l)) (omega (arith, hy, l)) e

  -- the entries and marks
  module _ (g : PointersIn c.hand) where
    cut_pointers : PointersIn cut_off
    cut_pointers =
        ⊎_elim
        (λ (z : m ≡ 0). rw (linked_none S c.hand c.ids m end_of_chain z) g)
        (λ (z : m ≢ 0).
        rw (linked_last S c.hand c.ids m end_of_chain z)
        (point_pointers S R c.hand f.fits.fits g last_kept end_of_chain (shrink_last S R m c f (omega (arith, z))) (end_target S R c.hand f.fits.fits g)
        (λ e. absurd (omega (arith, e)))))
        (same_or m 0)

    cut_bare : Bare cut_off (get_or c.ids m 0)
    cut_bare x h e =
        let b : x < c.hand.disk.sectors = omega (arith, h, (cut_counts S R m c f).0) in
        let few : c.hand.disk.sectors ≤ 16384 = hand_few S R c.hand f.fits.fits g in
        ⊎_elim
        (λ (z : m ≡ 0).
        s.none (omega (arith, l)) x b (sym (cut_other S R m c f r s l x (λ p. absurd (omega (arith, p, z)))) ∙ e ∙ ap (λ (y : ℕ). get_or c.ids y 0) z))
        (λ (z : m ≢ 0).
        let p : 0 < m = omega (arith, z) in
        let k : suc (m - 1) ≡ m = omega (arith, z) in
        let link : get_or c.hand.disk.fat last_kept 0 ≡ get_or c.ids m 0 = s.next (m - 1) (omega (arith, k, l)) ∙ ap (λ (y : ℕ). get_or c.ids y 0) k in
        ⊎_elim
        (λ (q : x ≡ last_kept). omega (arith, few, f.fits.within m l, sym e ∙ ap (λ (y : ℕ). get_or cut_off.disk.fat y 0) q ∙ cut_here S R m c f r s l p))
        (λ (q : x ≢ last_kept).
        let was : get_or c.hand.disk.fat x 0 ≡ get_or c.ids m 0 = sym (cut_other S R m c f r s l x (λ y. q)) ∙ e in
        q (g.points_once x last_kept b (shrink_last S R m c f p) (omega (arith, was, few, f.fits.within m l)) (was ∙ sym link)))
        (same_or x last_kept))
        (same_or m 0)

    shrunk_pointers : PointersIn (shrink S c m).hand
    shrunk_pointers =
        rw (shrink_some S c m l)
        (run_pointers S R m (c.count - m) c.ids cut_off (shrink_frees S R m c f) tail_once
        (λ j a u.
        cut_other S R m c f r s l (get_or c.ids j 0) (λ p q. let k : j ≡ m - 1 = r.apart.ids_once j (m - 1) (omega (arith, u, l)) (omega (arith, l)) q in omega (arith, k, a, p))
        ∙ s.next j (omega (arith, u, l)))
        (λ p. cut_bare) cut_pointers)

  -- the entry of a sector that is none of the tail's and not the last that is kept stays
  entry_stays : (x : ℕ) → ((j : ℕ) → m ≤ j → j < m + (c.count - m) → x ≢ get_or c.ids j 0) → (0 < m → x ≢ last_kept)
      → get_or (shrink S c m).hand.disk.fat x 0 ≡ get_or c.hand.disk.fat x 0
  entry_stays x d k =
      ap (λ (xs : List ℕ). get_or xs x 0) (shrunk_fat S R m c f r s l) ∙ free_run_others S cut_off c.ids m (c.count - m) x d ∙ cut_other S R m c f r s l x k

  no_id_stays : (x : ℕ) → ((j : ℕ) → j < c.count → x ≢ get_or c.ids j 0) → get_or (shrink S c m).hand.disk.fat x 0 ≡ get_or c.hand.disk.fat x 0
  no_id_stays x d = entry_stays x (λ j a u. d j (omega (arith, u, l))) (λ p. d (m - 1) (omega (arith, l)))

  tail_free_lem : (j : ℕ) → m ≤ j → j < c.count → get_or (shrink S c m).hand.disk.fat (get_or c.ids j 0) 0 ≡ free_sector
  tail_free_lem j a u =
      let fits = shrink_frees S R m c f in
      ap (λ (xs : List ℕ). get_or xs (get_or c.ids j 0) 0) (shrunk_fat S R m c f r s l)
      ∙ freed_entry S cut_off c.ids m (c.count - m) j a (omega (arith, u, l)) tail_once
      (λ x h. omega (arith, fits.within x h, fits.fits.disk.inside, fits.fits.disk.fat_long))

  -- what is listed
  module _ (ls : Listings S c.hand) where
    shrunk_frees_free : (p : ℕ) → Freed S R m c f r p → get_or (shrink S c m).hand.disk.fat (get_or (shrink S c m).hand.frees p 0) 0 ≡ free_sector
    shrunk_frees_free p (inl a) =
        ap (λ (x : ℕ). get_or (shrink S c m).hand.disk.fat x 0) a.1
        ∙ no_id_stays (get_or c.hand.frees p 0) (λ j h e. r.apart.ids_frees j p h a.0 (sym e)) ∙ ls.frees_free p a.0
    shrunk_frees_free p (inr a) =
        ap (λ (x : ℕ). get_or (shrink S c m).hand.disk.fat x 0) a.2 ∙ tail_free_lem (m + (p - c.hand.free)) (omega arith) a.0

    shrunk_frees_all : (i : ℕ) → i < c.hand.disk.sectors → get_or (shrink S c m).hand.disk.fat i 0 ≡ free_sector
        → (j : ℕ) × (j < (shrink S c m).hand.free) × (get_or (shrink S c m).hand.frees j 0 ≡ i)
    shrunk_frees_all i h e =
        ⊎_elim
        (λ (a : (j : ℕ) × (m ≤ j) × (j < m + (c.count - m)) × (i ≡ get_or c.ids j 0)).
        let k : m + (a.0 - m) ≡ a.0 = omega (arith, a.1) in (
          c.hand.free + (a.0 - m),
          omega (arith, a.1, a.2, shrink_free S R m c f),
          shrink_freed S R m c f (a.0 - m) (omega (arith, a.1, a.2)) ∙ ap (λ (x : ℕ). get_or c.ids x 0) k ∙ sym a.3,
        ))
        (λ (a : (j : ℕ) → m ≤ j → j < m + (c.count - m) → i ≢ get_or c.ids j 0).
        let no_last : 0 < m → i ≢ last_kept = λ p q.
        let v : get_or (shrink S c m).hand.disk.fat i 0 ≡ end_of_chain
        = ap (λ (xs : List ℕ). get_or xs i 0) (shrunk_fat S R m c f r s l) ∙ free_run_others S cut_off c.ids m (c.count - m) i a
        ∙ ap (λ (y : ℕ). get_or cut_off.disk.fat y 0) q ∙ cut_here S R m c f r s l p in
        omega (arith, v, e) in
        let b = ls.frees_all i h (sym (entry_stays i a no_last) ∙ e) in
        (b.0, omega (arith, b.1, shrink_free S R m c f), shrink_frees_stay S R m c f b.0 b.1 ∙ b.2))
        (found c.ids i m (c.count - m))

    shrunk_listings : Listings S (shrink S c m).hand
    shrunk_listings =
        let same = shrink_lists S R m c f in
        record {
          fats_marked = λ p u.
              let b : p < fats_held S c.hand.disk = omega (arith, u, ap (fat_count S) same.sectors) in
              ap (λ (xs : List ℕ). get_or (shrink S c m).hand.disk.fat (get_or xs p 0) 0) same.fats
              ∙ no_id_stays (get_or c.hand.disk.fats p 0) (λ j h e. r.ids_fats j p h b (sym e)) ∙ ls.fats_marked p b;
          difats_marked = λ p u.
              let b : p < difats_held S c.hand.disk = omega (arith, u, ap (λ (n : ℕ). difat_count S (fat_count S n)) same.sectors) in
              ap (λ (xs : List ℕ). get_or (shrink S c m).hand.disk.fat (get_or xs p 0) 0) same.difats
              ∙ no_id_stays (get_or c.hand.disk.difats p 0) (λ j h e. r.ids_difats j p h b (sym e)) ∙ ls.difats_marked p b;
          frees_free = λ p u. shrunk_frees_free p (freed_from S R m c f r p u);
          frees_all = λ i h e. shrunk_frees_all i (omega (arith, h, shrink_sectors S R m c f)) e;
        }

-- document 01, 12 and 14 to 18: a chain that is cut leaves the tables well formed
pub formed_shrunk : (S R m : ℕ) (c : Chain) → FitsShrink S R m c → Roles S R c → Held c → Formed S c.hand → Blank c.hand
    → Formed S (shrink S c m).hand × Blank (shrink S c m).hand
formed_shrunk S R m c f r h w blank =
    ⊎_elim
    (λ (l : m < c.count).
    let s = held_strung S R c f.fits h in
    let g = shrunk_pointers S R m c f r s l (formed_pointers S R c.hand f.fits.fits w blank) in
    (parts_formed S R (shrink S c m) (shrink_roles S R m c f r) g (shrunk_listings S R m c f r s l (formed_listings S R c.hand f.fits.fits w)), g.marks_rest))
    (λ (g : c.count ≤ m). rw (shrink_none S c m g) (w, blank))
    (below_or m c.count)
