-- How each move changes the entries of the FAT, place by place, over the lent lists. Assumes nothing.
use Prim.Native.Nat.{ℕ, zero, suc, ◌+◌, ◌-◌, ◌/◌, ◌%◌, ◌≤◌, ◌<◌}
use mathlib.Core.Path.{◌≡◌, refl, ◌∙◌, sym, ap}
use mathlib.Core.Bool.{true, false}
use mathlib.Core.List.{List}
use mathlib.Core.Logic.{◌⊎◌, inl, inr, ⊎_elim, ◌≢◌}
use native.Mathlib.Omega.{arith}
use borrow.Author.Tests.{lt-ltb, le-ltb}
use lib.ListN.{length, get_or, set, length-set}
use lib.Seq.{get_or-set_same, get_or-set_other}
use Rattle.lists.proofs.Cases.{below_or, same_or, true_or}
use Rattle.consts.specs.Consts.{difat_sector, fat_sector, end_of_chain, free_sector}
use Rattle.sectors.specs.Sectors.{per_sector}
use Rattle.disk.specs.Disk.{Disk, store, set_fat, push_fat, list_fat, list_difat, append_difat, needs_difat, store_place, hold_place, list_place, append_fat, after_fat, one_more, ready, new_sector, reused}
use Rattle.disk.specs.Fits.{FitsNew}
use Rattle.disk.proofs.Counting.{after_needs, after_not}
use Rattle.disk.proofs.Fitting.{append_sectors, ready_full, ready_part, ready_sectors, ready_room, new_sectors, reused_sectors}
use Rattle.hand.specs.Hand.{Hand, point, taken_id, take_sector, free_sector_of, free_run}
use Rattle.hand.specs.Fits.{FitsHand}
use Rattle.hand.proofs.Taking.{take_none, take_one, id_new, id_last}
use Rattle.hand.proofs.Freeing.{free_none, free_more}
use Rattle.edits.proofs.Growing.{needs_far}

-- an entry set: it is v then, and the others stay
pub point_fat : (S : ℕ) (h : Hand) (i v : ℕ) → (point S h i v).disk.fat ≡ set h.disk.fat i v
unfolding point set_fat
point_fat S h i v = refl

pub point_entry : (S : ℕ) (h : Hand) (i v : ℕ) → i < length h.disk.fat → get_or (point S h i v).disk.fat i 0 ≡ v
point_entry S h i v l = ap (λ (xs : List ℕ). get_or xs i 0) (point_fat S h i v) ∙ get_or-set_same h.disk.fat i v 0 l

pub point_others : (S : ℕ) (h : Hand) (i v x : ℕ) → x ≢ i → get_or (point S h i v).disk.fat x 0 ≡ get_or h.disk.fat x 0
point_others S h i v x d = ap (λ (xs : List ℕ). get_or xs x 0) (point_fat S h i v) ∙ get_or-set_other h.disk.fat i x v 0 d

pub point_length : (S : ℕ) (h : Hand) (i v : ℕ) → length (point S h i v).disk.fat ≡ length h.disk.fat
point_length S h i v = ap length (point_fat S h i v) ∙ length-set h.disk.fat i v

-- a sector freed: its entry is FREE then, and the others stay
pub free_fat : (S : ℕ) (h : Hand) (i : ℕ) → (free_sector_of S h i).disk.fat ≡ set h.disk.fat i free_sector
unfolding free_sector_of point set_fat
free_fat S h i = refl

pub free_entry : (S : ℕ) (h : Hand) (i : ℕ) → i < length h.disk.fat → get_or (free_sector_of S h i).disk.fat i 0 ≡ free_sector
free_entry S h i l = ap (λ (xs : List ℕ). get_or xs i 0) (free_fat S h i) ∙ get_or-set_same h.disk.fat i free_sector 0 l

pub free_others : (S : ℕ) (h : Hand) (i x : ℕ) → x ≢ i → get_or (free_sector_of S h i).disk.fat x 0 ≡ get_or h.disk.fat x 0
free_others S h i x d = ap (λ (xs : List ℕ). get_or xs x 0) (free_fat S h i) ∙ get_or-set_other h.disk.fat i x free_sector 0 d

pub free_length : (S : ℕ) (h : Hand) (i : ℕ) → length (free_sector_of S h i).disk.fat ≡ length h.disk.fat
free_length S h i = ap length (free_fat S h i) ∙ length-set h.disk.fat i free_sector

-- sectors freed: the entries of others stay, and theirs are FREE
pub free_run_others : (S : ℕ) (h : Hand) (ids : List ℕ) (i c x : ℕ) → ((j : ℕ) → i ≤ j → j < i + c → x ≢ get_or ids j 0)
    → get_or (free_run S h ids i c).disk.fat x 0 ≡ get_or h.disk.fat x 0
free_run_others S h ids i zero x d = rw (free_none S h ids i)
free_run_others S h ids i (suc c) x d =
    rw (free_more S h ids i c)
    (free_run_others S (free_sector_of S h (get_or ids i 0)) ids (suc i) c x (λ j l u. d j (omega (arith, l)) (omega (arith, u)))
    ∙ free_others S h (get_or ids i 0) x (d i (omega arith) (omega arith)))

pub free_run_either : (S : ℕ) (h : Hand) (ids : List ℕ) (i c x : ℕ) → ((j : ℕ) → j < i + c → get_or ids j 0 < length h.disk.fat)
    → (get_or (free_run S h ids i c).disk.fat x 0 ≡ free_sector) ⊎ (get_or (free_run S h ids i c).disk.fat x 0 ≡ get_or h.disk.fat x 0)
free_run_either S h ids i zero x w = rw (free_none S h ids i) (inr refl)
free_run_either S h ids i (suc c) x w =
    rw (free_more S h ids i c)
    (⊎_elim
    (λ (e : get_or (free_run S next ids (suc i) c).disk.fat x 0 ≡ free_sector). inl e)
    (λ (e : get_or (free_run S next ids (suc i) c).disk.fat x 0 ≡ get_or next.disk.fat x 0).
    ⊎_elim
    (λ (s : x ≡ get_or ids i 0). inl (e ∙ ap (λ (y : ℕ). get_or next.disk.fat y 0) s ∙ free_entry S h (get_or ids i 0) (w i (omega arith))))
    (λ (d : x ≢ get_or ids i 0). inr (e ∙ free_others S h (get_or ids i 0) x d))
    (same_or x (get_or ids i 0)))
    (free_run_either S next ids (suc i) c x (λ j l. omega (arith, w j (omega (arith, l)), free_length S h (get_or ids i 0)))))
  where
    next : Hand
    next = free_sector_of S h (get_or ids i 0)

-- a sector taken of n, so that there are n': its entry is END, those of the others stay, and what else is new is marked FAT or DIFAT
pub record Taken (n n' id : ℕ) (fat fat' : List ℕ) : Type 0 where
  pub grows : n ≤ n'
  pub inside : id < n'
  pub ends : get_or fat' id 0 ≡ end_of_chain
  pub stays : (i : ℕ) → i < n → i ≢ id → get_or fat' i 0 ≡ get_or fat i 0
  pub adds : (i : ℕ) → n ≤ i → i < n' → i ≢ id → ((i ≡ n) × (get_or fat' i 0 ≡ fat_sector)) ⊎ ((i ≡ n + 1) × (get_or fat' i 0 ≡ difat_sector))

taken_at_lem : {n m m' id id' : ℕ} {fat fat' fat'' : List ℕ} → m' ≡ m → id' ≡ id → fat'' ≡ fat' → Taken n m id fat fat' → Taken n m' id' fat fat''
taken_at_lem a b c t = rw (a, b, c) t

-- the last of the free list
taken_free : (fat : List ℕ) (n id : ℕ) → id < n → n ≤ length fat → Taken n n id fat (set fat id end_of_chain)
taken_free fat n id l h = record {
  grows = omega arith;
  inside = l;
  ends = get_or-set_same fat id end_of_chain 0 (omega (arith, l, h));
  stays = λ i u d. get_or-set_other fat id i end_of_chain 0 d;
  adds = λ i g u d. absurd (omega (arith, g, u));
}

-- a new one alone,
taken_new : (fat : List ℕ) (n : ℕ) → n < length fat → Taken n (n + 1) n fat (set fat n end_of_chain)
taken_new fat n h = record {
  grows = omega arith;
  inside = omega arith;
  ends = get_or-set_same fat n end_of_chain 0 h;
  stays = λ i u d. get_or-set_other fat n i end_of_chain 0 d;
  adds = λ i g u d. absurd (d (omega (arith, g, u)));
}

-- behind a FAT sector,
taken_fat : (fat : List ℕ) (n : ℕ) → n + 1 < length fat → Taken n (n + 2) (n + 1) fat (set (set fat n fat_sector) (n + 1) end_of_chain)
taken_fat fat n h = record {
  grows = omega arith;
  inside = omega arith;
  ends = get_or-set_same (set fat n fat_sector) (n + 1) end_of_chain 0 (omega (arith, h, length-set fat n fat_sector));
  stays = λ i u d. get_or-set_other (set fat n fat_sector) (n + 1) i end_of_chain 0 d ∙ get_or-set_other fat n i fat_sector 0 (omega (arith, u));
  adds = λ i g u d.
      let s : i ≡ n = omega (arith, g, u, d) in
      inl (s, get_or-set_other (set fat n fat_sector) (n + 1) i end_of_chain 0 d ∙ ap (λ (x : ℕ). get_or (set fat n fat_sector) x 0) s ∙ get_or-set_same fat n fat_sector 0 (omega (arith, h)));
}

-- and behind a FAT sector and a DIFAT sector
taken_difat : (fat : List ℕ) (n : ℕ) → n + 2 < length fat → Taken n (n + 3) (n + 2) fat (set (set (set fat n fat_sector) (n + 1) difat_sector) (n + 2) end_of_chain)
taken_difat fat n h = record {
  grows = omega arith;
  inside = omega arith;
  ends = get_or-set_same two (n + 2) end_of_chain 0 (omega (arith, h, length-set one (n + 1) difat_sector, length-set fat n fat_sector));
  stays = λ i u d.
      get_or-set_other two (n + 2) i end_of_chain 0 d ∙ get_or-set_other one (n + 1) i difat_sector 0 (omega (arith, u)) ∙ get_or-set_other fat n i fat_sector 0 (omega (arith, u));
  adds = λ i g u d. ⊎_elim
      (λ (s : i ≡ n).
      inl (
        s,
        get_or-set_other two (n + 2) i end_of_chain 0 d ∙ get_or-set_other one (n + 1) i difat_sector 0 (omega (arith, s)) ∙ ap (λ (x : ℕ). get_or one x 0) s
            ∙ get_or-set_same fat n fat_sector 0 (omega (arith, h)),
      ))
      (λ (o : i ≢ n).
      let s : i ≡ n + 1 = omega (arith, g, u, d, o) in
      inr (s, get_or-set_other two (n + 2) i end_of_chain 0 d ∙ ap (λ (x : ℕ). get_or two x 0) s ∙ get_or-set_same one (n + 1) difat_sector 0 (omega (arith, h, length-set fat n fat_sector))))
      (same_or i n);
}
  where
    one : List ℕ
    one = set fat n fat_sector

    two : List ℕ
    two = set one (n + 1) difat_sector

-- the FAT after a FAT sector is added, without a DIFAT sector and with one
place_fat_same : (S p id : ℕ) (d : Disk) → needs_difat S p ≡ false → (list_place S d p id).fat ≡ d.fat
unfolding list_place store_place store hold_place
place_fat_same S p id d t =
    ⊎_elim (λ (near : p < 109). rw (lt-ltb p 109 near) refl) (λ (far : 109 ≤ p). rw (le-ltb p 109 far, t) refl) (below_or p 109)

place_fat_more : (S p id : ℕ) (d : Disk) → needs_difat S p ≡ true → (list_place S d p id).fat ≡ set d.fat d.sectors difat_sector
unfolding list_place store_place store hold_place append_difat push_fat list_difat
place_fat_more S p id d t = rw (le-ltb p 109 (needs_far S p t), t) refl

pub append_fat_same : (S : ℕ) (d : Disk) → needs_difat S (d.sectors / per_sector S) ≡ false → (append_fat S d).fat ≡ set d.fat d.sectors fat_sector
unfolding append_fat store push_fat list_fat
append_fat_same S d t = place_fat_same S (d.sectors / per_sector S) d.sectors _ t

pub append_fat_more : (S : ℕ) (d : Disk) → needs_difat S (d.sectors / per_sector S) ≡ true
    → (append_fat S d).fat ≡ set (set d.fat d.sectors fat_sector) (suc d.sectors) difat_sector
unfolding append_fat store push_fat list_fat
append_fat_more S d t = place_fat_more S (d.sectors / per_sector S) d.sectors _ t

-- a new sector's entry
pub new_fat : (S : ℕ) (d : Disk) → (new_sector S d).fat ≡ set (ready S d).fat (ready S d).sectors end_of_chain
unfolding new_sector store push_fat
new_fat S d = refl

pub reused_fat : (S : ℕ) (d : Disk) (id : ℕ) → (reused S d id).fat ≡ set d.fat id end_of_chain
unfolding reused store set_fat
reused_fat S d id = refl

module _ (S R : ℕ) (d : Disk) (f : FitsNew S R d) where
  new_count : (new_sector S d).sectors ≡ (ready S d).sectors + 1
  new_count = omega (arith, new_sectors S d, ready_sectors S d)

  long : (ready S d).sectors < length d.fat
  long = omega (arith, ready_room S R d f, f.fits.fat_long)

  new_at : (k : ℕ) (fat : List ℕ) → (ready S d).sectors ≡ k → (ready S d).fat ≡ fat → Taken d.sectors (k + 1) k d.fat (set fat k end_of_chain)
      → Taken d.sectors (new_sector S d).sectors (ready S d).sectors d.fat (new_sector S d).fat
  new_at k fat a b t = taken_at_lem (new_count ∙ ap (λ (x : ℕ). x + 1) a) a (new_fat S d ∙ rw (a, b) refl) t

  pub new_taken : Taken d.sectors (new_sector S d).sectors (ready S d).sectors d.fat (new_sector S d).fat
  new_taken =
      ⊎_elim
      (λ (e : d.sectors % per_sector S ≡ 0).
      let full : ready S d ≡ append_fat S d = ready_full S d e in
      let last : (ready S d).sectors ≡ after_fat S d.sectors = ap (λ (x : Disk). x.sectors) full ∙ append_sectors S d in
      ⊎_elim
      (λ (t : needs_difat S (d.sectors / per_sector S) ≡ true).
      let here : (ready S d).sectors ≡ d.sectors + 2 = last ∙ after_needs S d.sectors t in
      let next : suc d.sectors ≡ d.sectors + 1 = omega arith in
      let many : d.sectors + 3 ≡ d.sectors + 2 + 1 = omega arith in
      new_at (d.sectors + 2) _ here (ap (λ (x : Disk). x.fat) full ∙ append_fat_more S d t ∙ ap (λ (x : ℕ). set (set d.fat d.sectors fat_sector) x difat_sector) next)
      (taken_at_lem (sym many) refl refl (taken_difat d.fat d.sectors (omega (arith, here, long)))))
      (λ (t : needs_difat S (d.sectors / per_sector S) ≡ false).
      let here : (ready S d).sectors ≡ d.sectors + 1 = last ∙ after_not S d.sectors t in
      let many : d.sectors + 2 ≡ d.sectors + 1 + 1 = omega arith in
      new_at (d.sectors + 1) _ here (ap (λ (x : Disk). x.fat) full ∙ append_fat_same S d t)
      (taken_at_lem (sym many) refl refl (taken_fat d.fat d.sectors (omega (arith, here, long)))))
      (true_or (needs_difat S (d.sectors / per_sector S))))
      (λ (e : d.sectors % per_sector S ≢ 0).
      let part : ready S d ≡ d = ready_part S d e in
      let here : (ready S d).sectors ≡ d.sectors = ap (λ (x : Disk). x.sectors) part in
      new_at d.sectors d.fat here (ap (λ (x : Disk). x.fat) part) (taken_new d.fat d.sectors (omega (arith, here, long))))
      (same_or (d.sectors % per_sector S) 0)

-- a sector is taken, either way
pub take_taken : (S R : ℕ) (h : Hand) → FitsHand S R h → (h.free ≡ 0 → one_more S h.disk.sectors ≤ R)
    → Taken h.disk.sectors (take_sector S h).disk.sectors (taken_id S h) h.disk.fat (take_sector S h).disk.fat
take_taken S R h f room =
    ⊎_elim
    (λ (e : h.free ≡ 0). rw (take_none S h e, id_new S h e) (new_taken S R h.disk (record { fits = f.disk; room = room e })))
    (λ (e : h.free ≢ 0).
    let id = get_or h.frees (h.free - 1) 0 in
    rw (take_one S h e, id_last S h e)
    (taken_at_lem (reused_sectors S h.disk (get_or h.frees (h.free - 1) 0)) refl (reused_fat S h.disk (get_or h.frees (h.free - 1) 0))
    (taken_free h.disk.fat h.disk.sectors (get_or h.frees (h.free - 1) 0) (f.frees_below (h.free - 1) (omega (arith, e))) (omega (arith, f.disk.inside, f.disk.fat_long)))))
    (same_or h.free 0)
