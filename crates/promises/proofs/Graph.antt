-- The chain in hand stays one of the FAT's, with nothing pointing at its first sector, under each move. Assumes nothing.
use Prim.Native.Nat.{ℕ, zero, suc, ◌-◌, ◌≤◌, ◌<◌}
use mathlib.Core.Path.{◌≡◌, refl, ◌∙◌, sym, ap}
use mathlib.Core.List.{List}
use mathlib.Core.Logic.{⊎_elim, ◌≢◌}
use native.Mathlib.Omega.{arith}
use lib.ListN.{length, get_or, take, get_or-eq_default}
use lib.Seq.{get_or-take, length-take-le}
use Rattle.lists.proofs.Cases.{below_or, same_or}
use Rattle.consts.specs.Consts.{end_of_chain, free_sector}
use Rattle.fat.specs.Lists.{ceil}
use Rattle.room.specs.Needed.{resize_more, write_more}
use Rattle.hand.specs.Hand.{Hand, Chain, taken_id, take_sector, free_run, extend_one, extend}
use Rattle.hand.specs.Fits.{FitsChain, FitsMore}
use Rattle.walk.proofs.Chains.{get_d_any}
use Rattle.moves.specs.Change.{cut, shrink, with_image, ids_of, resized, written, FitsShrink, FitsResize, FitsWrite}
use Rattle.hand.proofs.Taking.{id_new, id_last}
use Rattle.hand.proofs.Linking.{linked_none, linked_last, one_count, one_sectors, one_fits, more_room, more_taken, more_place, more_last}
use Rattle.moves.proofs.Extending.{extend_none, extend_more, extend_fits}
use Rattle.moves.proofs.Shrinking.{shrink_none, shrink_some, shrink_fits, shrink_count, shrink_sectors, shrink_ids, shrink_last}
use Rattle.moves.proofs.Staying.{ready_least, one_ids_at, one_ids_last, taken_other}
use Rattle.moves.proofs.Changing.{chain_listed, chain_id, resized_more, resized_fewer, resize_shrink}
use Rattle.edits.specs.Roles.{Roles}
use Rattle.edits.proofs.Roles.{one_roles}
use Rattle.promises.specs.Whole.{Formed, Held, fat_held}
use Rattle.promises.proofs.Entries.{Taken, point_entry, point_others, point_length, free_run_others, free_run_either, take_taken}

-- a chain that is held, over the lent lists
pub record Strung (n : ℕ) (fat : List ℕ) (count : ℕ) (ids : List ℕ) : Type 0 where
  pub next : (j : ℕ) → suc j < count → get_or fat (get_or ids j 0) 0 ≡ get_or ids (suc j) 0
  pub last : (j : ℕ) → suc j ≡ count → get_or fat (get_or ids j 0) 0 ≡ end_of_chain
  pub none : 0 < count → (i : ℕ) → i < n → get_or fat i 0 ≢ get_or ids 0 0

abbrev pub StrungIn : Chain → Type 0
StrungIn c = Strung c.hand.disk.sectors c.hand.disk.fat c.count c.ids

module _ (S R : ℕ) (c : Chain) (f : FitsChain S R c) where
  pub held_length : length (fat_held c.hand.disk) ≡ c.hand.disk.sectors
  held_length = length-take-le c.hand.disk.sectors c.hand.disk.fat (omega (arith, f.fits.disk.inside, f.fits.disk.fat_long))

  held_at : (i : ℕ) → i < c.hand.disk.sectors → get_or (fat_held c.hand.disk) i 0 ≡ get_or c.hand.disk.fat i 0
  held_at i l = get_or-take c.hand.disk.sectors c.hand.disk.fat i 0 l

  id_entry : (j : ℕ) → j < c.count → get_or (fat_held c.hand.disk) (get_or (ids_of c) j 0) 0 ≡ get_or c.hand.disk.fat (get_or c.ids j 0) 0
  id_entry j l = ap (λ (x : ℕ). get_or (fat_held c.hand.disk) x 0) (chain_id S R c f j l) ∙ held_at (get_or c.ids j 0) (f.within j l)

  pub held_strung : Held c → StrungIn c
  held_strung h = record {
    next = λ j l.
        sym (id_entry j (omega (arith, l))) ∙ h.linked.next j (omega (arith, l, chain_listed S R c f))
        ∙ get_d_any (ids_of c) (suc j) end_of_chain 0 (omega (arith, l, chain_listed S R c f)) ∙ chain_id S R c f (suc j) l;
    last = λ j l.
        sym (id_entry j (omega (arith, l))) ∙ h.linked.next j (omega (arith, l, chain_listed S R c f))
        ∙ get_or-eq_default (ids_of c) end_of_chain (omega (arith, l, chain_listed S R c f));
    none = λ p i l e. (h.unpointed p).none i (omega (arith, l, held_length)) (held_at i l ∙ e);
  }

  strung_held : StrungIn c → Held c
  strung_held s = record {
    linked = record {
      first = refl;
      within = λ j l.
          let b : j < c.count = omega (arith, l, chain_listed S R c f) in
          omega (arith, chain_id S R c f j b, f.within j b, held_length);
      next = λ j l.
          let b : j < c.count = omega (arith, l, chain_listed S R c f) in
          ⊎_elim
          (λ (u : suc j < c.count).
          id_entry j b ∙ s.next j u ∙ sym (chain_id S R c f (suc j) u) ∙ get_d_any (ids_of c) (suc j) 0 end_of_chain (omega (arith, u, chain_listed S R c f)))
          (λ (g : c.count ≤ suc j).
          id_entry j b ∙ s.last j (omega (arith, g, b)) ∙ sym (get_or-eq_default (ids_of c) end_of_chain (omega (arith, g, chain_listed S R c f))))
          (below_or (suc j) c.count);
    };
    unpointed = λ p. record { none = λ i l e. let b : i < c.hand.disk.sectors = omega (arith, l, held_length) in s.none p i b (sym (held_at i b) ∙ e) };
  }

-- one sector more: the last id's entry is the one that is taken, whose entry is END
module _ (S R m : ℕ) (c : Chain) (f : FitsMore S R (suc m) c) (r : Roles S R c) (s : StrungIn c)
    (start : c.count ≡ 0 → (i : ℕ) → i < c.hand.disk.sectors → get_or c.hand.disk.fat i 0 ≢ taken_id S c.hand) where
  abbrev id : ℕ
  id = taken_id S c.hand

  abbrev last_id : ℕ
  last_id = get_or c.ids (c.count - 1) 0

  pub taken : Taken c.hand.disk.sectors (take_sector S c.hand).disk.sectors (taken_id S c.hand) c.hand.disk.fat (take_sector S c.hand).disk.fat
  taken = take_taken S R c.hand f.fits.fits (more_room f)

  small : (take_sector S c.hand).disk.sectors ≤ 16384
  small = omega (arith, (more_taken f).disk.inside, (more_taken f).disk.few)

  pub link_other : (x : ℕ) → (0 < c.count → x ≢ last_id) → get_or (extend_one S c).hand.disk.fat x 0 ≡ get_or (take_sector S c.hand).disk.fat x 0
  unfolding extend_one
  link_other x d =
      ⊎_elim
      (λ (e : c.count ≡ 0). ap (λ (h : Hand). get_or h.disk.fat x 0) (linked_none S (take_sector S c.hand) c.ids c.count id e))
      (λ (e : c.count ≢ 0).
      ap (λ (h : Hand). get_or h.disk.fat x 0) (linked_last S (take_sector S c.hand) c.ids c.count id e)
      ∙ point_others S (take_sector S c.hand) last_id id x (d (omega (arith, e))))
      (same_or c.count 0)

  pub link_here : 0 < c.count → get_or (extend_one S c).hand.disk.fat last_id 0 ≡ id
  unfolding extend_one
  link_here p =
      ap (λ (h : Hand). get_or h.disk.fat last_id 0) (linked_last S (take_sector S c.hand) c.ids c.count id (omega (arith, p)))
      ∙ point_entry S (take_sector S c.hand) last_id id (omega (arith, more_last f p, (more_taken f).disk.inside, (more_taken f).disk.fat_long))

  -- what nothing pointed at, nothing points at when a sector is taken
  pub taken_none : (v : ℕ) → v < (take_sector S c.hand).disk.sectors → ((i : ℕ) → i < c.hand.disk.sectors → get_or c.hand.disk.fat i 0 ≢ v)
      → (i : ℕ) → i < (take_sector S c.hand).disk.sectors → get_or (take_sector S c.hand).disk.fat i 0 ≢ v
  taken_none v l u i h e =
      ⊎_elim
      (λ (q : i ≡ id). omega (arith, l, small, sym e ∙ ap (λ (x : ℕ). get_or (take_sector S c.hand).disk.fat x 0) q ∙ taken.ends))
      (λ (q : i ≢ id).
      ⊎_elim
      (λ (b : i < c.hand.disk.sectors). u i b (sym (taken.stays i b q) ∙ e))
      (λ (g : c.hand.disk.sectors ≤ i). ⊎_elim (λ a. omega (arith, l, small, sym e ∙ a.1)) (λ a. omega (arith, l, small, sym e ∙ a.1)) (taken.adds i g h q))
      (below_or i c.hand.disk.sectors))
      (same_or i id)

  one_next : (j : ℕ) → j < c.count → get_or (extend_one S c).hand.disk.fat (get_or c.ids j 0) 0 ≡ get_or (extend_one S c).ids (suc j) 0
  one_next j l =
      ⊎_elim
      (λ (u : suc j < c.count).
      link_other (get_or c.ids j 0) (λ p q. let k : j ≡ c.count - 1 = r.apart.ids_once j (c.count - 1) l (omega (arith, p)) q in omega (arith, k, u))
      ∙ taken.stays (get_or c.ids j 0) (f.fits.within j l) (taken_other S R c f.fits r.apart j l)
      ∙ s.next j u ∙ sym (one_ids_at S c (suc j) u))
      (λ (g : c.count ≤ suc j).
      let k : j ≡ c.count - 1 = omega (arith, l, g) in
      let e : suc j ≡ c.count = omega (arith, l, g) in
      ap (λ (x : ℕ). get_or (extend_one S c).hand.disk.fat (get_or c.ids x 0) 0) k ∙ link_here (omega (arith, l)) ∙ sym (one_ids_last S c (more_place f))
      ∙ ap (λ (x : ℕ). get_or (extend_one S c).ids x 0) (sym e))
      (below_or (suc j) c.count)

  one_last : get_or (extend_one S c).hand.disk.fat id 0 ≡ end_of_chain
  one_last = link_other id (λ p q. taken_other S R c f.fits r.apart (c.count - 1) (omega (arith, p)) (sym q)) ∙ taken.ends

  one_none : (i : ℕ) → i < (take_sector S c.hand).disk.sectors → get_or (extend_one S c).hand.disk.fat i 0 ≢ get_or (extend_one S c).ids 0 0
  one_none i l e =
      ⊎_elim
      (λ (z : c.count ≡ 0).
      let first : get_or (extend_one S c).ids 0 0 ≡ id = ap (λ (x : ℕ). get_or (extend_one S c).ids x 0) (sym z) ∙ one_ids_last S c (more_place f) in
      taken_none id taken.inside (start z) i l (sym (link_other i (λ p. absurd (omega (arith, p, z)))) ∙ e ∙ first))
      (λ (d : c.count ≢ 0).
      let p : 0 < c.count = omega (arith, d) in
      let first : get_or (extend_one S c).ids 0 0 ≡ get_or c.ids 0 0 = one_ids_at S c 0 p in
      ⊎_elim
      (λ (q : i ≡ last_id).
      taken_other S R c f.fits r.apart 0 p (sym (e ∙ first) ∙ ap (λ (x : ℕ). get_or (extend_one S c).hand.disk.fat x 0) q ∙ link_here p))
      (λ (q : i ≢ last_id).
      taken_none (get_or c.ids 0 0) (omega (arith, f.fits.within 0 p, taken.grows)) (s.none p) i l (sym (link_other i (λ x. q)) ∙ e ∙ first))
      (same_or i last_id))
      (same_or c.count 0)

  pub one_strung : StrungIn (extend_one S c)
  one_strung = record {
    next = λ j l.
        let b : j < c.count = omega (arith, l, one_count S c) in
        ap (λ (x : ℕ). get_or (extend_one S c).hand.disk.fat x 0) (one_ids_at S c j b) ∙ one_next j b;
    last = λ j l.
        let k : j ≡ c.count = omega (arith, l, one_count S c) in
        ap (λ (x : ℕ). get_or (extend_one S c).hand.disk.fat (get_or (extend_one S c).ids x 0) 0) k
        ∙ ap (λ (x : ℕ). get_or (extend_one S c).hand.disk.fat x 0) (one_ids_last S c (more_place f)) ∙ one_last;
    none = λ p i l. one_none i (omega (arith, l, one_sectors S c));
  }

extend_strung : (S R m : ℕ) (c : Chain) → FitsMore S R m c → Roles S R c → StrungIn c
    → (c.count ≡ 0 → (i : ℕ) → i < c.hand.disk.sectors → get_or c.hand.disk.fat i 0 ≢ taken_id S c.hand) → StrungIn (extend S c m)
extend_strung S R zero c f r s u = rw extend_none s
extend_strung S R (suc m) c f r s u =
    rw extend_more (extend_strung S R m (extend_one S c) (one_fits f) (one_roles S R m c f r) (one_strung S R m c f r s u) (λ e. absurd (omega (arith, e, one_count S c))))

-- document 01, 15 and 18: nothing points at the sector that is taken next
untaken : (S R m : ℕ) (c : Chain) → FitsMore S R (suc m) c → Formed S c.hand → (i : ℕ) → i < c.hand.disk.sectors → get_or c.hand.disk.fat i 0 ≢ taken_id S c.hand
untaken S R m c f w i l e =
    ⊎_elim
    (λ (z : c.hand.free ≡ 0).
    let k : get_or (fat_held c.hand.disk) i 0 ≡ taken_id S c.hand = at i l ∙ e in
    let t = take_taken S R c.hand f.fits.fits (more_room f) in
    let low : get_or (fat_held c.hand.disk) i 0 < c.hand.disk.sectors
    = w.tables.points_below i l (omega (arith, k, t.inside, (more_taken f).disk.inside, (more_taken f).disk.few)) in
    omega (arith, low, k, id_new S c.hand z, ready_least S c.hand.disk))
    (λ (d : c.hand.free ≢ 0).
    let b : c.hand.free - 1 < c.hand.free = omega (arith, d) in
    let many : length (take c.hand.free c.hand.frees) ≡ c.hand.free
    = length-take-le c.hand.free c.hand.frees (omega (arith, f.fits.fits.free_few, f.fits.fits.disk.inside, f.fits.fits.frees_long)) in
    let k : get_or (fat_held c.hand.disk) i 0 ≡ get_or (take c.hand.free c.hand.frees) (c.hand.free - 1) 0
    = at i l ∙ e ∙ id_last S c.hand d ∙ sym (get_or-take c.hand.free c.hand.frees (c.hand.free - 1) 0 b) in
    let low : get_or (fat_held c.hand.disk) i 0 < c.hand.disk.sectors = omega (arith, k, w.frees.below (c.hand.free - 1) (omega (arith, b, many))) in
    w.tables.none_dangles i l low (ap (λ (x : ℕ). get_or (fat_held c.hand.disk) x 0) k ∙ w.frees.free (c.hand.free - 1) (omega (arith, b, many))))
    (same_or c.hand.free 0)
  where
    at : (x : ℕ) → x < c.hand.disk.sectors → get_or (fat_held c.hand.disk) x 0 ≡ get_or c.hand.disk.fat x 0
    at x h = get_or-take c.hand.disk.sectors c.hand.disk.fat x 0 h

-- document 01, Resize and Write: a chain that grows stays one of the FAT's
pub held_extended : (S R m : ℕ) (c : Chain) → FitsMore S R m c → Roles S R c → Formed S c.hand → Held c → Held (extend S c m)
held_extended S R zero c f r w h = rw extend_none h
held_extended S R (suc m) c f r w h =
    strung_held S R (extend S c (suc m)) (extend_fits S R (suc m) c f)
    (extend_strung S R (suc m) c f r (held_strung S R c f.fits h) (λ z. untaken S R m c f w))

-- a chain cut behind m sectors: the last of them has END, and the rest is FREE
module _ (S R m : ℕ) (c : Chain) (f : FitsShrink S R m c) (r : Roles S R c) (s : StrungIn c) (l : m < c.count) where
  abbrev pub cut_id : ℕ
  cut_id = get_or c.ids (m - 1) 0

  abbrev pub cut_hand : Hand
  cut_hand = cut S c.hand c.ids m

  pub cut_other : (x : ℕ) → (0 < m → x ≢ cut_id) → get_or cut_hand.disk.fat x 0 ≡ get_or c.hand.disk.fat x 0
  cut_other x d =
      ⊎_elim
      (λ (e : m ≡ 0). ap (λ (h : Hand). get_or h.disk.fat x 0) (linked_none S c.hand c.ids m end_of_chain e))
      (λ (e : m ≢ 0).
      ap (λ (h : Hand). get_or h.disk.fat x 0) (linked_last S c.hand c.ids m end_of_chain e) ∙ point_others S c.hand cut_id end_of_chain x (d (omega (arith, e))))
      (same_or m 0)

  pub cut_here : 0 < m → get_or cut_hand.disk.fat cut_id 0 ≡ end_of_chain
  cut_here p =
      ap (λ (h : Hand). get_or h.disk.fat cut_id 0) (linked_last S c.hand c.ids m end_of_chain (omega (arith, p)))
      ∙ point_entry S c.hand cut_id end_of_chain (omega (arith, shrink_last S R m c f p, f.fits.fits.disk.inside, f.fits.fits.disk.fat_long))

  pub shrunk_fat : (shrink S c m).hand.disk.fat ≡ (free_run S cut_hand c.ids m (c.count - m)).disk.fat
  shrunk_fat = ap (λ (x : Chain). x.hand.disk.fat) (shrink_some S c m l)

  kept_entry : (j : ℕ) → j < m → get_or (shrink S c m).hand.disk.fat (get_or (shrink S c m).ids j 0) 0 ≡ get_or cut_hand.disk.fat (get_or c.ids j 0) 0
  kept_entry j h =
      ap (λ (x : ℕ). get_or (shrink S c m).hand.disk.fat x 0) (shrink_ids S R m c f j h)
      ∙ ap (λ (xs : List ℕ). get_or xs (get_or c.ids j 0) 0) shrunk_fat
      ∙ free_run_others S cut_hand c.ids m (c.count - m) (get_or c.ids j 0)
      (λ k g u q. let e : j ≡ k = r.apart.ids_once j k (omega (arith, h, l)) (omega (arith, u, l)) q in omega (arith, e, h, g))

  shrunk_none : 0 < m → (i : ℕ) → i < c.hand.disk.sectors → get_or (shrink S c m).hand.disk.fat i 0 ≢ get_or c.ids 0 0
  shrunk_none p i h e =
      let low : get_or c.ids 0 0 < 16384 = omega (arith, f.fits.within 0 (omega (arith, l)), f.fits.fits.disk.inside, f.fits.fits.disk.few) in
      let q : get_or (free_run S cut_hand c.ids m (c.count - m)).disk.fat i 0 ≡ get_or c.ids 0 0 = ap (λ (xs : List ℕ). get_or xs i 0) (sym shrunk_fat) ∙ e in
      ⊎_elim
      (λ (a : get_or (free_run S cut_hand c.ids m (c.count - m)).disk.fat i 0 ≡ free_sector). omega (arith, low, q, a))
      (λ (a : get_or (free_run S cut_hand c.ids m (c.count - m)).disk.fat i 0 ≡ get_or cut_hand.disk.fat i 0).
      ⊎_elim
      (λ (b : i ≡ cut_id). omega (arith, low, sym q ∙ a ∙ ap (λ (x : ℕ). get_or cut_hand.disk.fat x 0) b ∙ cut_here p))
      (λ (b : i ≢ cut_id). s.none (omega (arith, l)) i h (sym (cut_other i (λ x. b)) ∙ sym a ∙ q))
      (same_or i cut_id))
      (free_run_either S cut_hand c.ids m (c.count - m) i (λ j u. inside j (omega (arith, u, l))))
    where
      long : length cut_hand.disk.fat ≡ length c.hand.disk.fat
      long =
          ⊎_elim
          (λ (z : m ≡ 0). ap (λ (x : Hand). length x.disk.fat) (linked_none S c.hand c.ids m end_of_chain z))
          (λ (z : m ≢ 0). ap (λ (x : Hand). length x.disk.fat) (linked_last S c.hand c.ids m end_of_chain z) ∙ point_length S c.hand cut_id end_of_chain)
          (same_or m 0)

      inside : (j : ℕ) → j < c.count → get_or c.ids j 0 < length cut_hand.disk.fat
      inside j u = omega (arith, f.fits.within j u, f.fits.fits.disk.inside, f.fits.fits.disk.fat_long, long)

  shrunk_strung : StrungIn (shrink S c m)
  shrunk_strung = record {
    next = λ j h.
        let b : suc j < m = omega (arith, h, shrink_count S R m c f) in
        kept_entry j (omega (arith, b))
        ∙ cut_other (get_or c.ids j 0) (λ p q. let k : j ≡ m - 1 = r.apart.ids_once j (m - 1) (omega (arith, b, l)) (omega (arith, b, l)) q in omega (arith, k, b))
        ∙ s.next j (omega (arith, b, l)) ∙ sym (shrink_ids S R m c f (suc j) b);
    last = λ j h.
        let b : suc j ≡ m = omega (arith, h, shrink_count S R m c f) in
        let k : j ≡ m - 1 = omega (arith, b) in
        kept_entry j (omega (arith, b)) ∙ ap (λ (x : ℕ). get_or cut_hand.disk.fat (get_or c.ids x 0) 0) k ∙ cut_here (omega (arith, b));
    none = λ p i h e.
        let b : 0 < m = omega (arith, p, shrink_count S R m c f) in
        shrunk_none b i (omega (arith, h, shrink_sectors S R m c f)) (e ∙ shrink_ids S R m c f 0 b);
  }

-- document 01, Resize: a chain that is cut stays one of the FAT's
pub held_shrunk : (S R m : ℕ) (c : Chain) → FitsShrink S R m c → Roles S R c → Held c → Held (shrink S c m)
held_shrunk S R m c f r h =
    ⊎_elim
    (λ (l : m < c.count). strung_held S R (shrink S c m) (shrink_fits S R m c f) (shrunk_strung S R m c f r (held_strung S R c f.fits h) l))
    (λ (g : c.count ≤ m). rw (shrink_none S c m g) h)
    (below_or m c.count)

-- the bytes do not matter
pub held_with : (c : Chain) (img : List ℕ) → Held c → Held (with_image c img)
unfolding with_image ids_of
held_with c img h = record { linked = h.linked; unpointed = h.unpointed }

-- document 01, Resize
pub held_resized : (S R len : ℕ) (c : Chain) → FitsResize S R len c → Roles S R c → Formed S c.hand → Held c → Held (resized S c len)
held_resized S R len c f r w h =
    ⊎_elim
    (λ (l : c.count < ceil len S). rw (resized_more S c len l) (held_extended S R (resize_more S c.count len) c f.fits r w h))
    (λ (g : ceil len S ≤ c.count).
    rw (resized_fewer S c len g) (held_with (shrink S c (ceil len S)) _ (held_shrunk S R (ceil len S) c (resize_shrink S R len c f (ceil len S) g) r h)))
    (below_or c.count (ceil len S))

-- document 01, Write
pub held_written : (S R offset : ℕ) (buf : List ℕ) (c : Chain) → FitsWrite S R offset (length buf) c → Roles S R c → Formed S c.hand → Held c → Held (written S c offset buf)
unfolding written
held_written S R offset buf c f r w h =
    held_with (extend S c (write_more S c.count offset (length buf))) _ (held_extended S R (write_more S c.count offset (length buf)) c f.fits r w h)
