-- Well-formed tables in parts, over the lent lists: what the entries point at, and what is listed. Assumes nothing.
use Prim.Native.Nat.{ℕ, ◌<◌}
use mathlib.Core.Path.{◌≡◌, refl, ◌∙◌, sym, ap}
use mathlib.Core.Bool.{Bool, true, false}
use mathlib.Core.Logic.{⊎_elim}
use native.Mathlib.Omega.{arith}
use lib.ListN.{length, get_or, take}
use lib.Seq.{get_or-take, length-take-le, ext_get_or}
use Rattle.lists.proofs.Cases.{true_or, not_both}
use Rattle.consts.specs.Consts.{difat_sector, fat_sector, free_sector}
use Rattle.fat.specs.Lists.{difat_count}
use Rattle.judge.specs.Judge.{pointed, marks_of}
use Rattle.judge.proofs.Judging.{pointed_by, pointer_of, mark_of, mark_at}
use Rattle.alloc.proofs.Filled.{length_marks}
use Rattle.hand.specs.Hand.{Hand, Chain}
use Rattle.hand.specs.Fits.{FitsHand}
use Rattle.edits.specs.Roles.{Roles, fats_held, difats_held}
use Rattle.promises.specs.Tails.{Blank}
use Rattle.promises.specs.Whole.{Formed, fat_held, fats_list, difats_list}
use Rattle.promises.proofs.Forming.{PointersIn}

-- document 01, 14, and the free list: the entries of the listed sectors
pub record Listings (S : ℕ) (h : Hand) : Type 0 where
  pub fats_marked : (p : ℕ) → p < fats_held S h.disk → get_or h.disk.fat (get_or h.disk.fats p 0) 0 ≡ fat_sector
  pub difats_marked : (p : ℕ) → p < difats_held S h.disk → get_or h.disk.fat (get_or h.disk.difats p 0) 0 ≡ difat_sector
  pub frees_free : (p : ℕ) → p < h.free → get_or h.disk.fat (get_or h.frees p 0) 0 ≡ free_sector
  pub frees_all : (i : ℕ) → i < h.disk.sectors → get_or h.disk.fat i 0 ≡ free_sector → (j : ℕ) × (j < h.free) × (get_or h.frees j 0 ≡ i)

module _ (S R : ℕ) (h : Hand) (f : FitsHand S R h) where
  fat_at : (i : ℕ) → i < h.disk.sectors → get_or (fat_held h.disk) i 0 ≡ get_or h.disk.fat i 0
  fat_at i l = get_or-take h.disk.sectors h.disk.fat i 0 l

  fat_many : length (fat_held h.disk) ≡ h.disk.sectors
  fat_many = length-take-le h.disk.sectors h.disk.fat (omega (arith, f.disk.inside, f.disk.fat_long))

  fats_at_lem : (p : ℕ) → p < fats_held S h.disk → get_or (fats_list S h.disk) p 0 ≡ get_or h.disk.fats p 0
  fats_at_lem p l = get_or-take (fats_held S h.disk) h.disk.fats p 0 l

  fats_many : length (fats_list S h.disk) ≡ fats_held S h.disk
  fats_many = length-take-le (fats_held S h.disk) h.disk.fats (omega (arith, f.disk.fats_many, f.disk.fats_long))

  difats_at_lem : (p : ℕ) → p < difats_held S h.disk → get_or (difats_list S h.disk) p 0 ≡ get_or h.disk.difats p 0
  difats_at_lem p l = get_or-take (difats_held S h.disk) h.disk.difats p 0 l

  difats_many : length (difats_list S h.disk) ≡ difats_held S h.disk
  difats_many = length-take-le (difats_held S h.disk) h.disk.difats (omega (arith, f.disk.difats_many, f.disk.difats_long))

  frees_at : (p : ℕ) → p < h.free → get_or (take h.free h.frees) p 0 ≡ get_or h.frees p 0
  frees_at p l = get_or-take h.free h.frees p 0 l

  frees_many : length (take h.free h.frees) ≡ h.free
  frees_many = length-take-le h.free h.frees (omega (arith, f.free_few, f.disk.inside, f.frees_long))

  marks_at : (i : ℕ) → i < h.disk.sectors → get_or (take h.disk.sectors h.marks) i 0 ≡ get_or h.marks i 0
  marks_at i l = get_or-take h.disk.sectors h.marks i 0 l

  marks_many : length (take h.disk.sectors h.marks) ≡ h.disk.sectors
  marks_many = length-take-le h.disk.sectors h.marks (omega (arith, f.disk.inside, f.marks_long))

  abbrev is_pointed : ℕ → Bool
  is_pointed i = pointed (fat_held h.disk) h.disk.sectors i

  -- the parts of well-formed tables
  module _ (w : Formed S h) where
    mark_is : (i : ℕ) → i < h.disk.sectors → get_or h.marks i 0 ≡ mark_of (is_pointed i)
    mark_is i l = sym (marks_at i l) ∙ mark_at h.disk.sectors (fat_held h.disk) (take h.disk.sectors h.marks) i w.marks l

    pub formed_pointers : Blank h → PointersIn h
    formed_pointers blank = record {
      points_below = λ i l u. let b = w.tables.points_below i l (omega (arith, fat_at i l, u)) in omega (arith, b, fat_at i l);
      points_once = λ i j hi hj u e. w.tables.points_once i j hi hj (omega (arith, fat_at i hi, u)) (fat_at i hi ∙ e ∙ sym (fat_at j hj));
      none_reserved = λ i l e. w.tables.none_reserved i l (fat_at i l ∙ e);
      none_dangles = λ i l u q.
          w.tables.none_dangles i l (omega (arith, fat_at i l, u)) (ap (λ (x : ℕ). get_or (fat_held h.disk) x 0) (fat_at i l) ∙ fat_at (get_or h.disk.fat i 0) u ∙ q);
      marks_set = λ i x hi hx e. mark_is i hi ∙ ap mark_of (pointed_by (fat_held h.disk) h.disk.sectors i x hx (fat_at x hx ∙ e));
      marks_clear = λ i hi none. ⊎_elim
          (λ (t : is_pointed i ≡ true).
          let a = pointer_of (fat_held h.disk) h.disk.sectors i t in
          absurd (none a.0 a.1 (sym (fat_at a.0 a.1) ∙ a.2)))
          (λ (t : is_pointed i ≡ false). mark_is i hi ∙ ap mark_of t)
          (true_or (is_pointed i));
      marks_rest = blank;
    }

    pub formed_listings : Listings S h
    formed_listings = record {
      fats_marked = λ p l.
          sym (ap (λ (x : ℕ). get_or (fat_held h.disk) x 0) (fats_at_lem p l) ∙ fat_at (get_or h.disk.fats p 0) (f.disk.fats_below p l))
          ∙ w.tables.fats_marked p (omega (arith, l, fats_many));
      difats_marked = λ p l.
          sym (ap (λ (x : ℕ). get_or (fat_held h.disk) x 0) (difats_at_lem p l) ∙ fat_at (get_or h.disk.difats p 0) (f.disk.difats_below p l))
          ∙ w.tables.difats_marked p (omega (arith, l, difats_many));
      frees_free = λ p l.
          sym (ap (λ (x : ℕ). get_or (fat_held h.disk) x 0) (frees_at p l) ∙ fat_at (get_or h.frees p 0) (f.frees_below p l))
          ∙ w.frees.free p (omega (arith, l, frees_many));
      frees_all = λ i l e.
          let a = w.frees.all i l (fat_at i l ∙ e) in
          let b : a.0 < h.free = omega (arith, a.1, frees_many) in
          (a.0, b, sym (frees_at a.0 b) ∙ a.2);
    }

-- and well-formed tables of their parts
pub parts_formed : (S R : ℕ) (c : Chain) → Roles S R c → PointersIn c.hand → Listings S c.hand → Formed S c.hand
parts_formed S R c r g ls = record {
  tables = record {
    fat_length = fat_many S R h f;
    fats_length = fats_many S R h f;
    difats_length = difats_many S R h f ∙ ap (difat_count S) (sym (fats_many S R h f));
    fats_below = λ p l. let b = fat_place p l in omega (arith, fats_at_lem S R h f p b, f.disk.fats_below p b);
    difats_below = λ p l. let b = difat_place_lem p l in omega (arith, difats_at_lem S R h f p b, f.disk.difats_below p b);
    fats_differ = λ i j hi hj e. r.fats_once i j (fat_place i hi) (fat_place j hj) (sym (fats_at_lem S R h f i (fat_place i hi)) ∙ e ∙ fats_at_lem S R h f j (fat_place j hj));
    difats_differ = λ i j hi hj e. r.difats_once i j (difat_place_lem i hi) (difat_place_lem j hj) (sym (difats_at_lem S R h f i (difat_place_lem i hi)) ∙ e ∙ difats_at_lem S R h f j (difat_place_lem j hj));
    fats_marked = λ p l.
        let b = fat_place p l in
        ap (λ (x : ℕ). get_or (fat_held h.disk) x 0) (fats_at_lem S R h f p b) ∙ at (get_or h.disk.fats p 0) (f.disk.fats_below p b) ∙ ls.fats_marked p b;
    difats_marked = λ p l.
        let b = difat_place_lem p l in
        ap (λ (x : ℕ). get_or (fat_held h.disk) x 0) (difats_at_lem S R h f p b) ∙ at (get_or h.disk.difats p 0) (f.disk.difats_below p b) ∙ ls.difats_marked p b;
    points_below = λ i l u. let b = g.points_below i l (omega (arith, at i l, u)) in omega (arith, b, at i l);
    points_once = λ i j hi hj u e. g.points_once i j hi hj (omega (arith, at i hi, u)) (sym (at i hi) ∙ e ∙ at j hj);
    none_reserved = λ i l e. g.none_reserved i l (sym (at i l) ∙ e);
    none_dangles = λ i l u q.
        let b : get_or h.disk.fat i 0 < h.disk.sectors = omega (arith, at i l, u) in
        g.none_dangles i l b (sym (ap (λ (x : ℕ). get_or (fat_held h.disk) x 0) (at i l) ∙ at (get_or h.disk.fat i 0) b) ∙ q);
  };
  marks =
      ext_get_or 0 (take h.disk.sectors h.marks) (marks_of h.disk.sectors (fat_held h.disk))
      (marks_many S R h f ∙ sym (length_marks h.disk.sectors (fat_held h.disk)))
      (λ i l. let b : i < h.disk.sectors = omega (arith, l, marks_many S R h f) in
      marks_at S R h f i b ∙ mark i b ∙ sym (mark_at h.disk.sectors (fat_held h.disk) (marks_of h.disk.sectors (fat_held h.disk)) i refl b));
  frees = record {
    below = λ p l. let b = free_place p l in omega (arith, frees_at S R h f p b, f.frees_below p b);
    free = λ p l.
        let b = free_place p l in
        ap (λ (x : ℕ). get_or (fat_held h.disk) x 0) (frees_at S R h f p b) ∙ at (get_or h.frees p 0) (f.frees_below p b) ∙ ls.frees_free p b;
    once = λ i j hi hj e. r.apart.frees_once i j (free_place i hi) (free_place j hj) (sym (frees_at S R h f i (free_place i hi)) ∙ e ∙ frees_at S R h f j (free_place j hj));
    all = λ i l e.
        let a = ls.frees_all i l (sym (at i l) ∙ e) in
        (a.0, omega (arith, a.1, frees_many S R h f), frees_at S R h f a.0 a.1 ∙ a.2);
  };
}
  where
    h : Hand
    h = c.hand

    f : FitsHand S R c.hand
    f = r.fits.fits

    at : (i : ℕ) → i < c.hand.disk.sectors → get_or (fat_held c.hand.disk) i 0 ≡ get_or c.hand.disk.fat i 0
    at i l = fat_at S R c.hand r.fits.fits i l

    fat_place : (p : ℕ) → p < length (fats_list S c.hand.disk) → p < fats_held S c.hand.disk
    fat_place p l = omega (arith, l, fats_many S R c.hand r.fits.fits)

    difat_place_lem : (p : ℕ) → p < length (difats_list S c.hand.disk) → p < difats_held S c.hand.disk
    difat_place_lem p l = omega (arith, l, difats_many S R c.hand r.fits.fits)

    free_place : (p : ℕ) → p < length (take c.hand.free c.hand.frees) → p < c.hand.free
    free_place p l = omega (arith, l, frees_many S R c.hand r.fits.fits)

    mark : (i : ℕ) → i < c.hand.disk.sectors → get_or c.hand.marks i 0 ≡ mark_of (pointed (fat_held c.hand.disk) c.hand.disk.sectors i)
    mark i l =
        ⊎_elim
        (λ (t : pointed (fat_held c.hand.disk) c.hand.disk.sectors i ≡ true).
        let a = pointer_of (fat_held c.hand.disk) c.hand.disk.sectors i t in
        g.marks_set i a.0 l a.1 (sym (at a.0 a.1) ∙ a.2) ∙ sym (ap mark_of t))
        (λ (t : pointed (fat_held c.hand.disk) c.hand.disk.sectors i ≡ false).
        g.marks_clear i l (λ x hx e. not_both (pointed_by (fat_held c.hand.disk) c.hand.disk.sectors i x hx (at x hx ∙ e)) t) ∙ sym (ap mark_of t))
        (true_or (pointed (fat_held c.hand.disk) c.hand.disk.sectors i))
