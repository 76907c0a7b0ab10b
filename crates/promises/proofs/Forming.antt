-- An entry set, sectors freed and a sector taken leave the FAT's entries well formed and the marks right. Assumes nothing.
use Prim.Native.Nat.{ℕ, zero, suc, ◌+◌, ◌≤◌, ◌<◌}
use mathlib.Core.Path.{◌≡◌, refl, ◌∙◌, sym, ap}
use mathlib.Core.List.{List}
use mathlib.Core.Logic.{◌⊎◌, inl, inr, ⊎_elim, ◌≢◌}
use native.Mathlib.Omega.{arith}
use lib.ListN.{length, get_or, set}
use lib.Seq.{get_or-set_same, get_or-set_other}
use Rattle.lists.proofs.Cases.{below_or, same_or}
use Rattle.consts.specs.Consts.{max_regular, invalid_sector, end_of_chain, free_sector}
use Rattle.disk.specs.Disk.{set_fat}
use Rattle.hand.specs.Hand.{Hand, marked, point, free_sector_of, free_run}
use Rattle.hand.specs.Fits.{FitsHand, FitsFrees}
use Rattle.hand.proofs.Pointing.{marked_below, marked_past, length_marked}
use Rattle.hand.proofs.Freeing.{free_none, free_more, free_one_sectors, frees_more}
use Rattle.promises.proofs.Entries.{free_others, free_entry, Taken}

-- document 01, 15 to 18: the first n entries of a lent FAT are well formed, and the lent marks are theirs, zero past them
pub record Pointers (n : ℕ) (fat marks : List ℕ) : Type 0 where
  pub points_below : (i : ℕ) → i < n → get_or fat i 0 ≤ max_regular → get_or fat i 0 < n
  pub points_once : (i j : ℕ) → i < n → j < n → get_or fat i 0 ≤ max_regular → get_or fat i 0 ≡ get_or fat j 0 → i ≡ j
  pub none_reserved : (i : ℕ) → i < n → get_or fat i 0 ≢ invalid_sector
  pub none_dangles : (i : ℕ) → i < n → get_or fat i 0 < n → get_or fat (get_or fat i 0) 0 ≢ free_sector
  pub marks_set : (i x : ℕ) → i < n → x < n → get_or fat x 0 ≡ i → get_or marks i 0 ≡ 1
  pub marks_clear : (i : ℕ) → i < n → ((x : ℕ) → x < n → get_or fat x 0 ≢ i) → get_or marks i 0 ≡ 0
  pub marks_rest : (i : ℕ) → n ≤ i → get_or marks i 0 ≡ 0

-- the mark of one sector
marked_here : (n : ℕ) (marks : List ℕ) (t v : ℕ) → t < n → n ≤ length marks → get_or (marked n marks t v) t 0 ≡ v
marked_here n marks t v l h = ap (λ (xs : List ℕ). get_or xs t 0) (sym (marked_below n marks t v l)) ∙ get_or-set_same marks t v 0 (omega (arith, l, h))

marked_other : (n : ℕ) (marks : List ℕ) (t v x : ℕ) → x ≢ t → get_or (marked n marks t v) x 0 ≡ get_or marks x 0
marked_other n marks t v x d =
    ⊎_elim
    (λ (l : t < n). ap (λ (xs : List ℕ). get_or xs x 0) (sym (marked_below n marks t v l)) ∙ get_or-set_other marks t x v 0 d)
    (λ (g : n ≤ t). ap (λ (xs : List ℕ). get_or xs x 0) (sym (marked_past n marks t v g)))
    (below_or t n)

marked_rest : (n : ℕ) (marks : List ℕ) (t v x : ℕ) → n ≤ x → get_or (marked n marks t v) x 0 ≡ get_or marks x 0
marked_rest n marks t v x h =
    ⊎_elim
    (λ (l : t < n). marked_other n marks t v x (omega (arith, l, h)))
    (λ (g : n ≤ t). ap (λ (xs : List ℕ). get_or xs x 0) (sym (marked_past n marks t v g)))
    (below_or t n)

-- what an entry can become: no reserved number, and no sector but one that nothing points at and that is not FREE
pub record Target (n : ℕ) (fat : List ℕ) (v : ℕ) : Type 0 where
  pub whole : v ≢ invalid_sector
  pub within : v ≤ max_regular → v < n
  pub fresh : v ≤ max_regular → (x : ℕ) → x < n → get_or fat x 0 ≢ v
  pub used : v ≤ max_regular → get_or fat v 0 ≢ free_sector

-- entry i becomes v
module _ (n : ℕ) (fat marks : List ℕ) (i v : ℕ) (g : Pointers n fat marks) (few : n ≤ 16384) (long : n ≤ length fat) (wide : n ≤ length marks) (low : i < n)
    (t : Target n fat v) (gone : v ≡ free_sector → (x : ℕ) → x < n → get_or fat x 0 ≢ i) where
  abbrev fat' : List ℕ
  fat' = set fat i v

  abbrev old : ℕ
  old = get_or fat i 0

  abbrev marks' : List ℕ
  marks' = marked n (marked n marks old 0) v 1

  here : (x : ℕ) → x ≡ i → get_or fat' x 0 ≡ v
  here x e = ap (λ (y : ℕ). get_or fat' y 0) e ∙ get_or-set_same fat i v 0 (omega (arith, low, long))

  other : (x : ℕ) → x ≢ i → get_or fat' x 0 ≡ get_or fat x 0
  other x d = get_or-set_other fat i x v 0 d

  set_below : (x : ℕ) → x < n → get_or fat' x 0 ≤ max_regular → get_or fat' x 0 < n
  set_below x h l =
      ⊎_elim
      (λ (e : x ≡ i). omega (arith, here x e, t.within (omega (arith, here x e, l))))
      (λ (d : x ≢ i). omega (arith, other x d, g.points_below x h (omega (arith, other x d, l))))
      (same_or x i)

  set_once : (x y : ℕ) → x < n → y < n → get_or fat' x 0 ≤ max_regular → get_or fat' x 0 ≡ get_or fat' y 0 → x ≡ y
  set_once x y hx hy l q =
      ⊎_elim
      (λ (e : x ≡ i).
      ⊎_elim
      (λ (e' : y ≡ i). e ∙ sym e')
      (λ (d : y ≢ i). absurd (t.fresh (omega (arith, here x e, l)) y hy (sym (other y d) ∙ sym q ∙ here x e)))
      (same_or y i))
      (λ (d : x ≢ i).
      ⊎_elim
      (λ (e : y ≡ i). absurd (t.fresh (omega (arith, here y e, l, q)) x hx (sym (other x d) ∙ q ∙ here y e)))
      (λ (d' : y ≢ i). g.points_once x y hx hy (omega (arith, other x d, l)) (sym (other x d) ∙ q ∙ other y d'))
      (same_or y i))
      (same_or x i)

  set_whole : (x : ℕ) → x < n → get_or fat' x 0 ≢ invalid_sector
  set_whole x h q =
      ⊎_elim (λ (e : x ≡ i). t.whole (sym (here x e) ∙ q)) (λ (d : x ≢ i). g.none_reserved x h (sym (other x d) ∙ q)) (same_or x i)

  -- where an entry points at: v, or what it pointed at before
  at_v : v < n → get_or fat' v 0 ≢ free_sector
  at_v l q =
      ⊎_elim
      (λ (e : v ≡ i). omega (arith, few, l, here v e, q))
      (λ (d : v ≢ i). t.used (omega (arith, few, l)) (sym (other v d) ∙ q))
      (same_or v i)

  at_old : (x : ℕ) → x < n → get_or fat x 0 < n → get_or fat' (get_or fat x 0) 0 ≢ free_sector
  at_old x h l q =
      ⊎_elim
      (λ (e : get_or fat x 0 ≡ i). gone (sym (here (get_or fat x 0) e) ∙ q) x h e)
      (λ (d : get_or fat x 0 ≢ i). g.none_dangles x h l (sym (other (get_or fat x 0) d) ∙ q))
      (same_or (get_or fat x 0) i)

  set_dangles : (x : ℕ) → x < n → get_or fat' x 0 < n → get_or fat' (get_or fat' x 0) 0 ≢ free_sector
  set_dangles x h l q =
      ⊎_elim
      (λ (e : x ≡ i). at_v (omega (arith, l, here x e)) (ap (λ (y : ℕ). get_or fat' y 0) (sym (here x e)) ∙ q))
      (λ (d : x ≢ i). at_old x h (omega (arith, l, other x d)) (ap (λ (y : ℕ). get_or fat' y 0) (sym (other x d)) ∙ q))
      (same_or x i)

  mark_v : (y : ℕ) → y < n → y ≡ v → get_or marks' y 0 ≡ 1
  mark_v y h e =
      ap (λ (w : ℕ). get_or marks' w 0) e ∙ marked_here n (marked n marks old 0) v 1 (omega (arith, h, e)) (omega (arith, wide, length_marked n marks old 0))

  mark_not : (y : ℕ) → y ≢ v → get_or marks' y 0 ≡ get_or (marked n marks old 0) y 0
  mark_not y d = marked_other n (marked n marks old 0) v 1 y d

  set_marks : (y x : ℕ) → y < n → x < n → get_or fat' x 0 ≡ y → get_or marks' y 0 ≡ 1
  set_marks y x hy hx q =
      ⊎_elim
      (λ (e : y ≡ v). mark_v y hy e)
      (λ (d : y ≢ v).
      let a : x ≢ i = λ e. d (sym q ∙ here x e) in
      let was : get_or fat x 0 ≡ y = sym (other x a) ∙ q in
      let b : y ≢ old = λ e. a (g.points_once x i hx low (omega (arith, was, hy, few)) (was ∙ e)) in
      mark_not y d ∙ marked_other n marks old 0 y b ∙ g.marks_set y x hy hx was)
      (same_or y v)

  set_clear : (y : ℕ) → y < n → ((x : ℕ) → x < n → get_or fat' x 0 ≢ y) → get_or marks' y 0 ≡ 0
  set_clear y h none =
      ⊎_elim
      (λ (e : y ≡ v). absurd (none i low (here i refl ∙ sym e)))
      (λ (d : y ≢ v).
      mark_not y d
      ∙ ⊎_elim
      (λ (e : y ≡ old). ap (λ (w : ℕ). get_or (marked n marks old 0) w 0) e ∙ marked_here n marks old 0 (omega (arith, h, e)) wide)
      (λ (b : y ≢ old).
      marked_other n marks old 0 y b
      ∙ g.marks_clear y h (λ x hx q. ⊎_elim
      (λ (e : x ≡ i). b (sym q ∙ ap (λ (w : ℕ). get_or fat w 0) e))
      (λ (a : x ≢ i). none x hx (other x a ∙ q))
      (same_or x i)))
      (same_or y old))
      (same_or y v)

  pub set_pointers : Pointers n fat' marks'
  set_pointers = record {
    points_below = set_below;
    points_once = set_once;
    none_reserved = set_whole;
    none_dangles = set_dangles;
    marks_set = set_marks;
    marks_clear = set_clear;
    marks_rest = λ y h. marked_rest n (marked n marks old 0) v 1 y h ∙ marked_rest n marks old 0 y h ∙ g.marks_rest y h;
  }

-- the entries and marks in hand
abbrev pub PointersIn : Hand → Type 0
PointersIn h = Pointers h.disk.sectors h.disk.fat h.marks

-- nothing in hand points at a sector
abbrev pub Bare : Hand → ℕ → Type 0
Bare h v = (x : ℕ) → x < h.disk.sectors → get_or h.disk.fat x 0 ≢ v

module _ (S R : ℕ) (h : Hand) (f : FitsHand S R h) (g : PointersIn h) where
  pub hand_few : h.disk.sectors ≤ 16384
  hand_few = omega (arith, f.disk.inside, f.disk.few)

  -- an entry set to what it can become
  pub point_pointers : (i v : ℕ) → i < h.disk.sectors → Target h.disk.sectors h.disk.fat v → (v ≡ free_sector → Bare h i) → PointersIn (point S h i v)
  unfolding point set_fat
  point_pointers i v l t gone =
      set_pointers h.disk.sectors h.disk.fat h.marks i v g hand_few (omega (arith, f.disk.inside, f.disk.fat_long)) (omega (arith, f.disk.inside, f.marks_long)) l t gone

  -- the chain's end is one of these, and so is FREE
  pub end_target : Target h.disk.sectors h.disk.fat end_of_chain
  end_target = record { whole = omega arith; within = λ l. absurd (omega (arith, l)); fresh = λ l. absurd (omega (arith, l)); used = λ l. absurd (omega (arith, l)) }

  free_target : Target h.disk.sectors h.disk.fat free_sector
  free_target = record { whole = omega arith; within = λ l. absurd (omega (arith, l)); fresh = λ l. absurd (omega (arith, l)); used = λ l. absurd (omega (arith, l)) }

  -- a sector that nothing points at is freed
  pub free_pointers : (i : ℕ) → i < h.disk.sectors → Bare h i → PointersIn (free_sector_of S h i)
  unfolding free_sector_of point set_fat
  free_pointers i l bare =
      set_pointers h.disk.sectors h.disk.fat h.marks i free_sector g hand_few (omega (arith, f.disk.inside, f.disk.fat_long)) (omega (arith, f.disk.inside, f.marks_long)) l
      free_target (λ e. bare)

-- the tail of a chain is freed, in chain order: when one is freed, nothing points at the next
pub run_pointers : (S R i c : ℕ) (ids : List ℕ) (h : Hand) → FitsFrees S R i c ids h
    → ((x y : ℕ) → x < i + c → y < i + c → get_or ids x 0 ≡ get_or ids y 0 → x ≡ y)
    → ((j : ℕ) → i ≤ j → suc j < i + c → get_or h.disk.fat (get_or ids j 0) 0 ≡ get_or ids (suc j) 0)
    → (0 < c → Bare h (get_or ids i 0)) → PointersIn h → PointersIn (free_run S h ids i c)
run_pointers S R i zero ids h f once next bare g = rw (free_none S h ids i) g
run_pointers S R i (suc c) ids h f once next bare g =
    rw (free_more S h ids i c)
    (run_pointers S R (suc i) c ids freed (frees_more S R i c ids h f)
    (λ x y hx hy e. once x y (omega (arith, hx)) (omega (arith, hy)) e)
    (λ j l u. free_others S h (get_or ids i 0) (get_or ids j 0) (λ e. let k : j ≡ i = once j i (omega (arith, u)) (omega arith) e in omega (arith, k, l)) ∙ next j (omega (arith, l)) (omega (arith, u)))
    (λ p x l e.
    let b : x < h.disk.sectors = omega (arith, l, free_one_sectors S h (get_or ids i 0)) in
    let link : get_or h.disk.fat (get_or ids i 0) 0 ≡ get_or ids (suc i) 0 = next i (omega arith) (omega (arith, p)) in
    let low : get_or ids (suc i) 0 < h.disk.sectors = f.within (suc i) (omega (arith, p)) in
    ⊎_elim
    (λ (s : x ≡ get_or ids i 0).
    omega (arith, few, low, sym e ∙ ap (λ (y : ℕ). get_or freed.disk.fat y 0) s ∙ free_entry S h (get_or ids i 0) (omega (arith, here, f.fits.disk.inside, f.fits.disk.fat_long))))
    (λ (d : x ≢ get_or ids i 0).
    let was : get_or h.disk.fat x 0 ≡ get_or ids (suc i) 0 = sym (free_others S h (get_or ids i 0) x d) ∙ e in
    d (g.points_once x (get_or ids i 0) b here (omega (arith, was, low, few)) (was ∙ sym link)))
    (same_or x (get_or ids i 0)))
    (free_pointers S R h f.fits g (get_or ids i 0) here (bare (omega arith))))
  where
    freed : Hand
    freed = free_sector_of S h (get_or ids i 0)

    here : get_or ids i 0 < h.disk.sectors
    here = f.within i (omega arith)

    few : h.disk.sectors ≤ 16384
    few = hand_few S R h f.fits g

-- a sector that nothing pointed at is taken, new or FREE
module _ (n n' id : ℕ) (fat fat' marks : List ℕ) (g : Pointers n fat marks) (t : Taken n n' id fat fat') (few : n' ≤ 16384)
    (bare : (x : ℕ) → x < n → get_or fat x 0 ≢ id) (was : id < n → get_or fat id 0 ≡ free_sector) where
  -- an entry then is one of before, or no pointer
  abbrev Kind : ℕ → Type 0
  Kind x = ((x < n) × (x ≢ id) × (get_or fat' x 0 ≡ get_or fat x 0)) ⊎ ((max_regular < get_or fat' x 0) × (get_or fat' x 0 ≢ invalid_sector))

  kind : (x : ℕ) → x < n' → Kind x
  kind x h =
      ⊎_elim
      (λ (e : x ≡ id). let q : get_or fat' x 0 ≡ end_of_chain = ap (λ (y : ℕ). get_or fat' y 0) e ∙ t.ends in inr (omega (arith, q), omega (arith, q)))
      (λ (d : x ≢ id).
      ⊎_elim
      (λ (l : x < n). inl (l, d, t.stays x l d))
      (λ (l : n ≤ x). ⊎_elim (λ a. inr (omega (arith, a.1), omega (arith, a.1))) (λ a. inr (omega (arith, a.1), omega (arith, a.1))) (t.adds x l h d))
      (below_or x n))
      (same_or x id)

  pointing : (x : ℕ) → x < n' → get_or fat' x 0 ≤ max_regular → (x < n) × (x ≢ id) × (get_or fat' x 0 ≡ get_or fat x 0)
  pointing x h l = ⊎_elim (λ a. a) (λ a. absurd (omega (arith, a.0, l))) (kind x h)

  target_low : (x : ℕ) (h : x < n') (l : get_or fat' x 0 ≤ max_regular) → get_or fat x 0 < n
  target_low x h l = let a = pointing x h l in g.points_below x a.0 (omega (arith, a.2, l))

  pub taken_pointers : Pointers n' fat' marks
  taken_pointers = record {
    points_below = λ x h l. omega (arith, target_low x h l, (pointing x h l).2, t.grows);
    points_once = λ x y hx hy l e.
        let a = pointing x hx l in
        let b = pointing y hy (omega (arith, l, e)) in
        g.points_once x y a.0 b.0 (omega (arith, a.2, l)) (sym a.2 ∙ e ∙ b.2);
    none_reserved = λ x h e. ⊎_elim (λ a. g.none_reserved x a.0 (sym a.2 ∙ e)) (λ a. a.1 e) (kind x h);
    none_dangles = λ x h l q.
        let m : get_or fat' x 0 ≤ max_regular = omega (arith, l, few) in
        let a = pointing x h m in
        g.none_dangles x a.0 (target_low x h m)
        (sym (t.stays (get_or fat x 0) (target_low x h m) (bare x a.0)) ∙ ap (λ (y : ℕ). get_or fat' y 0) (sym a.2) ∙ q);
    marks_set = λ y x hy hx e.
        let m : get_or fat' x 0 ≤ max_regular = omega (arith, e, hy, few) in
        let a = pointing x hx m in
        g.marks_set y x (omega (arith, target_low x hx m, a.2, e)) a.0 (sym a.2 ∙ e);
    marks_clear = λ y h none. ⊎_elim
        (λ (l : y < n).
        g.marks_clear y l (λ x hx e. ⊎_elim
        (λ (s : x ≡ id).
        let q : get_or fat x 0 ≡ free_sector = ap (λ (w : ℕ). get_or fat w 0) s ∙ was (omega (arith, s, hx)) in
        omega (arith, q, e, h, few))
        (λ (d : x ≢ id). none x (omega (arith, hx, t.grows)) (t.stays x hx d ∙ e))
        (same_or x id)))
        (λ (l : n ≤ y). g.marks_rest y l)
        (below_or y n);
    marks_rest = λ y h. g.marks_rest y (omega (arith, h, t.grows));
  }
