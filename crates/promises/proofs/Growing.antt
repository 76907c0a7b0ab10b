-- A chain that grows leaves the tables well formed: what is taken is linked, and what the FAT and the DIFAT get is marked. Assumes nothing.
use Prim.Native.Nat.{ℕ, zero, suc, ◌-◌, ◌≤◌, ◌<◌}
use mathlib.Core.Path.{◌≡◌, ◌∙◌, sym, ap}
use mathlib.Core.List.{List}
use mathlib.Core.Logic.{⊎_elim, ◌≢◌}
use native.Mathlib.Omega.{arith}
use lib.ListN.{length, get_or}
use Rattle.lists.proofs.Cases.{below_or, same_or}
use Rattle.consts.specs.Consts.{difat_sector, fat_sector, free_sector}
use Rattle.fat.specs.Lists.{ceil}
use Rattle.room.specs.Needed.{resize_more, write_more}
use Rattle.hand.specs.Hand.{Hand, Chain, taken_id, take_sector, extend_one, extend}
use Rattle.hand.specs.Fits.{FitsMore}
use Rattle.moves.specs.Change.{shrink, with_image, resized, written, FitsResize, FitsWrite}
use Rattle.hand.proofs.Taking.{take_none, take_one, id_new, id_last}
use Rattle.hand.proofs.Linking.{linked_none, linked_last, one_sectors, one_free, one_fits, more_room, more_taken, more_last}
use Rattle.moves.proofs.Extending.{extend_none, extend_more}
use Rattle.moves.proofs.Staying.{ready_least, one_frees_at}
use Rattle.moves.proofs.Changing.{resized_more, resized_fewer, resize_shrink}
use Rattle.edits.specs.Roles.{Roles, fats_held, difats_held}
use Rattle.edits.proofs.Growing.{GrownTo, one_grown}
use Rattle.edits.proofs.Roles.{one_roles, extend_roles}
use Rattle.promises.specs.Tails.{Blank}
use Rattle.promises.specs.Whole.{Formed, Held}
use Rattle.promises.proofs.Entries.{Taken, take_taken}
use Rattle.promises.proofs.Graph.{StrungIn, held_strung, taken_none, link_other, link_here, one_strung}
use Rattle.promises.proofs.Forming.{Pointers, PointersIn, Target, Bare, point_pointers, taken_pointers}
use Rattle.promises.proofs.Parts.{Listings, formed_pointers, formed_listings, parts_formed}
use Rattle.promises.proofs.Shrinking.{formed_shrunk}

-- a sector taken leaves the marks
take_marks : (S : ℕ) (h : Hand) → (take_sector S h).marks ≡ h.marks
take_marks S h =
    ⊎_elim
    (λ (e : h.free ≡ 0). rw (take_none S h e))
    (λ (e : h.free ≢ 0). rw (take_one S h e))
    (same_or h.free 0)

pointers_at : (n : ℕ) (fat marks marks' : List ℕ) → marks' ≡ marks → Pointers n fat marks → Pointers n fat marks'
pointers_at n fat marks marks' e g = rw e g

-- one sector more
module _ (S R m : ℕ) (c : Chain) (f : FitsMore S R (suc m) c) (r : Roles S R c) (s : StrungIn c) (g : PointersIn c.hand) (ls : Listings S c.hand) where
  abbrev id : ℕ
  id = taken_id S c.hand

  abbrev last_id : ℕ
  last_id = get_or c.ids (c.count - 1) 0

  step : Taken c.hand.disk.sectors (take_sector S c.hand).disk.sectors (taken_id S c.hand) c.hand.disk.fat (take_sector S c.hand).disk.fat
  step = take_taken S R c.hand f.fits.fits (more_room f)

  small : (take_sector S c.hand).disk.sectors ≤ 16384
  small = omega (arith, (more_taken f).disk.inside, (more_taken f).disk.few)

  -- document 01, 15 and 18: nothing points at the sector that is taken, and it is FREE or new
  was_free : id < c.hand.disk.sectors → get_or c.hand.disk.fat id 0 ≡ free_sector
  was_free l =
      ⊎_elim
      (λ (z : c.hand.free ≡ 0). absurd (omega (arith, l, id_new S c.hand z, ready_least S c.hand.disk)))
      (λ (d : c.hand.free ≢ 0). ap (λ (x : ℕ). get_or c.hand.disk.fat x 0) (id_last S c.hand d) ∙ ls.frees_free (c.hand.free - 1) (omega (arith, d)))
      (same_or c.hand.free 0)

  pub bare : Bare c.hand id
  bare x h e =
      ⊎_elim
      (λ (l : id < c.hand.disk.sectors).
      g.none_dangles x h (omega (arith, e, l)) (ap (λ (y : ℕ). get_or c.hand.disk.fat y 0) e ∙ was_free l))
      (λ (l : c.hand.disk.sectors ≤ id). omega (arith, l, e, g.points_below x h (omega (arith, e, step.inside, small))))
      (below_or id c.hand.disk.sectors)

  take_pointers : PointersIn (take_sector S c.hand)
  take_pointers =
      pointers_at (take_sector S c.hand).disk.sectors (take_sector S c.hand).disk.fat c.hand.marks (take_sector S c.hand).marks (take_marks S c.hand)
      (taken_pointers c.hand.disk.sectors (take_sector S c.hand).disk.sectors id c.hand.disk.fat (take_sector S c.hand).disk.fat c.hand.marks g step small bare was_free)

  taken_target : Target (take_sector S c.hand).disk.sectors (take_sector S c.hand).disk.fat id
  taken_target = record {
    whole = omega (arith, small, step.inside);
    within = λ l. step.inside;
    fresh = λ l. taken_none S R m c f r s (λ z. bare) id step.inside bare;
    used = λ l. omega (arith, step.ends);
  }

  one_pointers : PointersIn (extend_one S c).hand
  unfolding extend_one
  one_pointers =
      ⊎_elim
      (λ (z : c.count ≡ 0). rw (linked_none S (take_sector S c.hand) c.ids c.count id z) take_pointers)
      (λ (z : c.count ≢ 0).
      rw (linked_last S (take_sector S c.hand) c.ids c.count id z)
      (point_pointers S R (take_sector S c.hand) (more_taken f) take_pointers last_id id (more_last f (omega (arith, z))) taken_target
      (λ e. absurd (omega (arith, e, small, step.inside)))))
      (same_or c.count 0)

  -- entries that stay, and new ones
  one_stays : (x : ℕ) → x < c.hand.disk.sectors → x ≢ id → (0 < c.count → x ≢ last_id) → get_or (extend_one S c).hand.disk.fat x 0 ≡ get_or c.hand.disk.fat x 0
  one_stays x l d k = link_other S R m c f r s (λ z. bare) x k ∙ step.stays x l d

  one_adds : (x : ℕ) → c.hand.disk.sectors ≤ x → get_or (extend_one S c).hand.disk.fat x 0 ≡ get_or (take_sector S c.hand).disk.fat x 0
  one_adds x l = link_other S R m c f r s (λ z. bare) x (λ p. omega (arith, l, f.fits.within (c.count - 1) (omega (arith, p))))

  grown : GrownTo S c.hand.disk (extend_one S c).hand.disk id
  grown = one_grown f

  one_fats : (p : ℕ) → p < fats_held S (extend_one S c).hand.disk → get_or (extend_one S c).hand.disk.fat (get_or (extend_one S c).hand.disk.fats p 0) 0 ≡ fat_sector
  one_fats p u =
      ⊎_elim
      (λ (a : (p < fats_held S c.hand.disk) × (get_or (extend_one S c).hand.disk.fats p 0 ≡ get_or c.hand.disk.fats p 0)).
      let low = f.fits.fits.disk.fats_below p a.0 in
      let mark = ls.fats_marked p a.0 in
      ap (λ (x : ℕ). get_or (extend_one S c).hand.disk.fat x 0) a.1
      ∙ one_stays (get_or c.hand.disk.fats p 0) low
      (λ e. omega (arith, mark, ap (λ (x : ℕ). get_or c.hand.disk.fat x 0) e, was_free (omega (arith, e, low))))
      (λ q e. r.ids_fats (c.count - 1) p (omega (arith, q)) a.0 (sym e))
      ∙ mark)
      (λ (a : (p ≡ fats_held S c.hand.disk) × (get_or (extend_one S c).hand.disk.fats p 0 ≡ grown.fat)).
      let first : grown.fat ≡ c.hand.disk.sectors = grown.fat_first (omega (arith, u, a.0)) in
      let low : grown.fat < (take_sector S c.hand).disk.sectors = omega (arith, (one_fits f).fits.fits.disk.fats_below p u, a.1, one_sectors S c) in
      ap (λ (x : ℕ). get_or (extend_one S c).hand.disk.fat x 0) a.1 ∙ one_adds grown.fat grown.fat_new
      ∙ ⊎_elim (λ b. b.1) (λ b. absurd (omega (arith, b.0, first))) (step.adds grown.fat grown.fat_new low grown.fat_id))
      (grown.fats.at p u)

  one_difats : (p : ℕ) → p < difats_held S (extend_one S c).hand.disk → get_or (extend_one S c).hand.disk.fat (get_or (extend_one S c).hand.disk.difats p 0) 0 ≡ difat_sector
  one_difats p u =
      ⊎_elim
      (λ (a : (p < difats_held S c.hand.disk) × (get_or (extend_one S c).hand.disk.difats p 0 ≡ get_or c.hand.disk.difats p 0)).
      let low = f.fits.fits.disk.difats_below p a.0 in
      let mark = ls.difats_marked p a.0 in
      ap (λ (x : ℕ). get_or (extend_one S c).hand.disk.fat x 0) a.1
      ∙ one_stays (get_or c.hand.disk.difats p 0) low
      (λ e. omega (arith, mark, ap (λ (x : ℕ). get_or c.hand.disk.fat x 0) e, was_free (omega (arith, e, low))))
      (λ q e. r.ids_difats (c.count - 1) p (omega (arith, q)) a.0 (sym e))
      ∙ mark)
      (λ (a : (p ≡ difats_held S c.hand.disk) × (get_or (extend_one S c).hand.disk.difats p 0 ≡ grown.difat)).
      let second : grown.difat ≡ suc c.hand.disk.sectors = grown.difat_second (omega (arith, u, a.0)) in
      let low : grown.difat < (take_sector S c.hand).disk.sectors = omega (arith, (one_fits f).fits.fits.disk.difats_below p u, a.1, one_sectors S c) in
      ap (λ (x : ℕ). get_or (extend_one S c).hand.disk.fat x 0) a.1 ∙ one_adds grown.difat grown.difat_new
      ∙ ⊎_elim (λ b. absurd (omega (arith, b.0, second))) (λ b. b.1) (step.adds grown.difat grown.difat_new low grown.difat_id))
      (grown.difats.at p u)

  -- the free list
  left_free : (p : ℕ) → p < c.hand.free - 1 → get_or (extend_one S c).hand.disk.fat (get_or c.hand.frees p 0) 0 ≡ free_sector
  left_free p u =
      let d : c.hand.free ≢ 0 = omega (arith, u) in
      one_stays (get_or c.hand.frees p 0) (f.fits.fits.frees_below p (omega (arith, u)))
      (λ e. let k : p ≡ c.hand.free - 1 = r.apart.frees_once p (c.hand.free - 1) (omega (arith, u)) (omega (arith, u)) (e ∙ id_last S c.hand d) in omega (arith, k, u))
      (λ q e. r.apart.ids_frees (c.count - 1) p (omega (arith, q)) (omega (arith, u)) (sym e))
      ∙ ls.frees_free p (omega (arith, u))

  one_frees_all : (i : ℕ) → i < (take_sector S c.hand).disk.sectors → get_or (extend_one S c).hand.disk.fat i 0 ≡ free_sector
      → (j : ℕ) × (j < (extend_one S c).hand.free) × (get_or (extend_one S c).hand.frees j 0 ≡ i)
  one_frees_all i h e =
      let start : c.count ≡ 0 → Bare c.hand id = λ z. bare in
      let no_last : 0 < c.count → i ≢ last_id = λ p q.
      omega (arith, small, step.inside, sym (link_here S R m c f r s start p) ∙ ap (λ (x : ℕ). get_or (extend_one S c).hand.disk.fat x 0) (sym q) ∙ e) in
      let now : get_or (take_sector S c.hand).disk.fat i 0 ≡ free_sector = sym (link_other S R m c f r s start i no_last) ∙ e in
      let other : i ≢ id = λ q. omega (arith, step.ends, ap (λ (x : ℕ). get_or (take_sector S c.hand).disk.fat x 0) (sym q) ∙ now) in
      ⊎_elim
      (λ (l : i < c.hand.disk.sectors).
      let a = ls.frees_all i l (sym (step.stays i l other) ∙ now) in
      let d : c.hand.free ≢ 0 = omega (arith, a.1) in
      let k : a.0 ≢ c.hand.free - 1 = λ q. other (sym a.2 ∙ ap (λ (x : ℕ). get_or c.hand.frees x 0) q ∙ sym (id_last S c.hand d)) in
      let b : a.0 < c.hand.free - 1 = omega (arith, a.1, k) in
      (a.0, omega (arith, b, one_free S c), one_frees_at S c a.0 b ∙ a.2))
      (λ (l : c.hand.disk.sectors ≤ i).
      ⊎_elim (λ b. absurd (omega (arith, b.1, now))) (λ b. absurd (omega (arith, b.1, now))) (step.adds i l h other))
      (below_or i c.hand.disk.sectors)

  one_listings : Listings S (extend_one S c).hand
  one_listings = record {
    fats_marked = one_fats;
    difats_marked = one_difats;
    frees_free = λ p u.
        let b : p < c.hand.free - 1 = omega (arith, u, one_free S c) in
        ap (λ (x : ℕ). get_or (extend_one S c).hand.disk.fat x 0) (one_frees_at S c p b) ∙ left_free p b;
    frees_all = λ i h e. one_frees_all i (omega (arith, h, one_sectors S c)) e;
  }

-- a chain that grows
extend_parts : (S R m : ℕ) (c : Chain) → FitsMore S R m c → Roles S R c → StrungIn c → PointersIn c.hand → Listings S c.hand
    → PointersIn (extend S c m).hand × Listings S (extend S c m).hand
extend_parts S R zero c f r s g ls = rw extend_none (g, ls)
extend_parts S R (suc m) c f r s g ls =
    rw extend_more
    (extend_parts S R m (extend_one S c) (one_fits f) (one_roles S R m c f r) (one_strung S R m c f r s (λ z. bare S R m c f r s g ls))
    (one_pointers S R m c f r s g ls) (one_listings S R m c f r s g ls))

-- document 01, 12 and 14 to 18: it leaves the tables well formed
pub formed_extended : (S R m : ℕ) (c : Chain) → FitsMore S R m c → Roles S R c → Held c → Formed S c.hand → Blank c.hand
    → Formed S (extend S c m).hand × Blank (extend S c m).hand
formed_extended S R m c f r h w blank =
    let a = extend_parts S R m c f r (held_strung S R c f.fits h) (formed_pointers S R c.hand f.fits.fits w blank) (formed_listings S R c.hand f.fits.fits w) in
    (parts_formed S R (extend S c m) (extend_roles S R m c f r) a.0 a.1, a.0.marks_rest)

-- the bytes do not matter
formed_with : (S : ℕ) (c : Chain) (img : List ℕ) → Formed S c.hand × Blank c.hand → Formed S (with_image c img).hand × Blank (with_image c img).hand
unfolding with_image
formed_with S c img w = (record { tables = w.0.tables; marks = w.0.marks; frees = w.0.frees }, w.1)

-- document 01, Resize
pub formed_resized : (S R len : ℕ) (c : Chain) → FitsResize S R len c → Roles S R c → Held c → Formed S c.hand → Blank c.hand
    → Formed S (resized S c len).hand × Blank (resized S c len).hand
formed_resized S R len c f r h w blank =
    ⊎_elim
    (λ (l : c.count < ceil len S). rw (resized_more S c len l) (formed_extended S R (resize_more S c.count len) c f.fits r h w blank))
    (λ (g : ceil len S ≤ c.count).
    rw (resized_fewer S c len g)
    (formed_with S (shrink S c (ceil len S)) _ (formed_shrunk S R (ceil len S) c (resize_shrink S R len c f (ceil len S) g) r h w blank)))
    (below_or c.count (ceil len S))

-- document 01, Write
pub formed_written : (S R offset : ℕ) (buf : List ℕ) (c : Chain) → FitsWrite S R offset (length buf) c → Roles S R c → Held c → Formed S c.hand → Blank c.hand
    → Formed S (written S c offset buf).hand × Blank (written S c offset buf).hand
unfolding written
formed_written S R offset buf c f r h w blank =
    formed_with S (extend S c (write_more S c.count offset (length buf))) _ (formed_extended S R (write_more S c.count offset (length buf)) c f.fits r h w blank)
