-- An accepted change leaves every other chain its sectors, in their order, and their bytes. Assumes nothing.
use Prim.Native.Nat.{ℕ, zero, suc, ◌-◌, ◌≤◌, ◌<◌}
use mathlib.Core.Path.{◌≡◌, refl, ◌∙◌, sym, ap}
use mathlib.Core.List.{List}
use mathlib.Core.Logic.{⊎_elim, ◌≢◌}
use native.Mathlib.Omega.{arith}
use lib.ListN.{length, get_or, take, get_or-eq_default}
use lib.Seq.{get_or-take}
use Rattle.lists.proofs.Cases.{below_or, same_or}
use Rattle.consts.specs.Consts.{difat_sector, fat_sector, end_of_chain, free_sector}
use Rattle.fat.specs.Lists.{room_of, ceil}
use Rattle.alloc.specs.Opening.{Tables}
use Rattle.walk.specs.Steps.{Linked}
use Rattle.walk.specs.Walk.{lists, walk_of}
use Rattle.walk.proofs.Chains.{get_d_any, lists_exactly}
use Rattle.chain.specs.Bytes.{chain_bytes}
use Rattle.room.specs.Needed.{resize_more, write_more}
use Rattle.hand.specs.Hand.{Hand, Chain, taken_id, take_sector, linked, extend_one, extend}
use Rattle.hand.specs.Fits.{FitsChain, FitsMore}
use Rattle.moves.specs.Change.{shrink, with_image, resized, written, edited, FitsShrink, FitsResize, FitsWrite, FitsEdit}
use Rattle.moves.specs.declared.change.Edit.{Edit}
use Rattle.moves.specs.declared.change.Edit.TheVariants.{Write, Resize}
use Rattle.hand.proofs.Taking.{id_new, id_last, take_sectors_grow}
use Rattle.hand.proofs.Linking.{linked_none, linked_last, one_count, one_free, one_sectors, one_fits, more_room, more_place}
use Rattle.moves.proofs.Extending.{extend_none, extend_more}
use Rattle.moves.proofs.Shrinking.{shrink_none, shrink_some, shrink_sectors}
use Rattle.moves.proofs.Staying.{ready_least, one_frees_at, one_ids_at, one_ids_last}
use Rattle.moves.proofs.Changing.{resized_more, resized_fewer, resize_shrink}
use Rattle.moves.proofs.Editing.{edit_write, edit_resize, edited_fits}
use Rattle.edits.specs.Untouched.{Others}
use Rattle.cfb.specs.Calls.{state_len, chain_ids}
use Rattle.cfb.specs.Changes.{change_no, edit_no, chain_from}
use Rattle.cfb.specs.declared.State.{State}
use Rattle.cfb.proofs.Refusing.{padded_front}
use Rattle.promises.specs.Whole.{Formed, Held, fat_held}
use Rattle.promises.proofs.Base.{roles_of}
use Rattle.promises.proofs.Calls.{edit_rows, edit_fits, edit_keeps}
use Rattle.promises.proofs.Entries.{point_others, free_run_others, take_taken}
use Rattle.promises.proofs.Graph.{held_strung, held_length}
use Rattle.promises.proofs.Parts.{Listings, formed_listings}
use Rattle.promises.proofs.Walks.{held_of, formed_of}

-- The entries that a change leaves alone.

-- sector x is neither one of the chain in hand nor listed as FREE
pub record Aloof (c : Chain) (x : ℕ) : Type 0 where
  pub inside : x < c.hand.disk.sectors
  pub no_id : (p : ℕ) → p < c.count → get_or c.ids p 0 ≢ x
  pub no_free : (p : ℕ) → p < c.hand.free → get_or c.hand.frees p 0 ≢ x

-- an entry linked behind a list of ids leaves those of sectors that are not its last
linked_others : (S : ℕ) (h : Hand) (ids : List ℕ) (count id x : ℕ) → (0 < count → x ≢ get_or ids (count - 1) 0)
    → get_or (linked S h ids count id).disk.fat x 0 ≡ get_or h.disk.fat x 0
linked_others S h ids count id x d =
    ⊎_elim
    (λ (e : count ≡ 0). ap (λ (k : Hand). get_or k.disk.fat x 0) (linked_none S h ids count id e))
    (λ (e : count ≢ 0).
    ap (λ (k : Hand). get_or k.disk.fat x 0) (linked_last S h ids count id e) ∙ point_others S h (get_or ids (count - 1) 0) id x (d (omega (arith, e))))
    (same_or count 0)

-- one sector more: the one that is taken was FREE or is new
module _ (S R m : ℕ) (c : Chain) (f : FitsMore S R (suc m) c) (x : ℕ) (a : Aloof c x) where
  taken_none : taken_id S c.hand ≢ x
  taken_none =
      ⊎_elim
      (λ (e : c.hand.free ≡ 0). omega (arith, id_new S c.hand e, ready_least S c.hand.disk, a.inside))
      (λ (e : c.hand.free ≢ 0). λ (q : taken_id S c.hand ≡ x). a.no_free (c.hand.free - 1) (omega (arith, e)) (sym (id_last S c.hand e) ∙ q))
      (same_or c.hand.free 0)

  one_aloof : Aloof (extend_one S c) x
  one_aloof = record {
    inside = omega (arith, a.inside, one_sectors S c, take_sectors_grow S c.hand);
    no_id = λ p l. ⊎_elim
        (λ (b : p < c.count). λ (q : get_or (extend_one S c).ids p 0 ≡ x). a.no_id p b (sym (one_ids_at S c p b) ∙ q))
        (λ (g : c.count ≤ p). λ (q : get_or (extend_one S c).ids p 0 ≡ x).
        let k : c.count ≡ p = omega (arith, l, g, one_count S c) in
        taken_none (sym (one_ids_last S c (more_place f)) ∙ ap (λ (y : ℕ). get_or (extend_one S c).ids y 0) k ∙ q))
        (below_or p c.count);
    no_free = λ p l q.
        let b : p < c.hand.free - 1 = omega (arith, l, one_free S c) in
        a.no_free p (omega (arith, b)) (sym (one_frees_at S c p b) ∙ q);
  }

  one_entry : get_or (extend_one S c).hand.disk.fat x 0 ≡ get_or c.hand.disk.fat x 0
  unfolding extend_one
  one_entry =
      linked_others S (take_sector S c.hand) c.ids c.count (taken_id S c.hand) x (λ p q. a.no_id (c.count - 1) (omega (arith, p)) (sym q))
      ∙ (take_taken S R c.hand f.fits.fits (more_room f)).stays x a.inside (λ q. taken_none (sym q))

-- document 01: a chain that grows leaves the entries of sectors that are neither its own nor FREE
pub extend_entries : (S R m : ℕ) (c : Chain) → FitsMore S R m c → (x : ℕ) → Aloof c x → get_or (extend S c m).hand.disk.fat x 0 ≡ get_or c.hand.disk.fat x 0
extend_entries S R zero c f x a = rw extend_none refl
extend_entries S R (suc m) c f x a = rw extend_more (extend_entries S R m (extend_one S c) (one_fits f) x (one_aloof S R m c f x a) ∙ one_entry S R m c f x a)

-- document 01: a chain that grows leaves no fewer sectors
extend_least : (S m : ℕ) (c : Chain) → c.hand.disk.sectors ≤ (extend S c m).hand.disk.sectors
extend_least S zero c = rw extend_none (omega arith)
extend_least S (suc m) c = rw extend_more (omega (arith, extend_least S m (extend_one S c), one_sectors S c, take_sectors_grow S c.hand))

-- document 01: and so does a chain that is cut
pub shrink_entries : (S R m : ℕ) (c : Chain) → FitsShrink S R m c → (x : ℕ) → Aloof c x → get_or (shrink S c m).hand.disk.fat x 0 ≡ get_or c.hand.disk.fat x 0
shrink_entries S R m c f x a =
    ⊎_elim
    (λ (l : m < c.count).
    rw (shrink_some S c m l)
    (free_run_others S _ c.ids m (c.count - m) x (λ j h u q. a.no_id j (omega (arith, u, l)) (sym q))
    ∙ linked_others S c.hand c.ids m end_of_chain x (λ p q. a.no_id (m - 1) (omega (arith, p, l)) (sym q))))
    (λ (g : c.count ≤ m). rw (shrink_none S c m g) refl)
    (below_or m c.count)

-- the number of sectors does not fall, and the entries of sectors that are neither the chain's nor FREE stay
pub record Spares (c e : Chain) : Type 0 where
  pub least : c.hand.disk.sectors ≤ e.hand.disk.sectors
  pub stays : (x : ℕ) → Aloof c x → get_or e.hand.disk.fat x 0 ≡ get_or c.hand.disk.fat x 0

-- the bytes do not matter
spares_with : (c e : Chain) (img : List ℕ) → Spares c e → Spares c (with_image e img)
unfolding with_image
spares_with c e img s = record { least = s.least; stays = s.stays }

extended_spares : (S R m : ℕ) (c : Chain) → FitsMore S R m c → Spares c (extend S c m)
extended_spares S R m c f = record { least = extend_least S m c; stays = extend_entries S R m c f }

shrunk_spares : (S R m : ℕ) (c : Chain) → FitsShrink S R m c → Spares c (shrink S c m)
shrunk_spares S R m c f = record { least = omega (arith, shrink_sectors S R m c f); stays = shrink_entries S R m c f }

-- document 01, Resize: it leaves the entries of sectors that are neither the chain's nor FREE
resized_spares : (S R len : ℕ) (c : Chain) → FitsResize S R len c → Spares c (resized S c len)
resized_spares S R len c f =
    ⊎_elim
    (λ (l : c.count < ceil len S). rw (resized_more S c len l) (extended_spares S R (resize_more S c.count len) c f.fits))
    (λ (g : ceil len S ≤ c.count).
    rw (resized_fewer S c len g) (spares_with c (shrink S c (ceil len S)) _ (shrunk_spares S R (ceil len S) c (resize_shrink S R len c f (ceil len S) g))))
    (below_or c.count (ceil len S))

-- document 01, Write: and so does a write
written_spares : (S R offset : ℕ) (buf : List ℕ) (c : Chain) → FitsWrite S R offset (length buf) c → Spares c (written S c offset buf)
unfolding written
written_spares S R offset buf c f =
    spares_with c (extend S c (write_more S c.count offset (length buf))) _ (extended_spares S R (write_more S c.count offset (length buf)) c f.fits)

-- so any edit does
edited_spares : (S R : ℕ) (e : Edit) (buf : List ℕ) (c : Chain) → FitsEdit S R e (length buf) c → Spares c (edited S c e buf)
edited_spares S R (Write offset) buf c f = written_spares S R offset buf c (edit_write S R offset (length buf) c f)
edited_spares S R (Resize len) buf c f = resized_spares S R len c (edit_resize S R len (length buf) c f)

-- The chains that begin outside the chain in hand.

module _ (S R : ℕ) (c : Chain) (f : FitsChain S R c) (w : Formed S c.hand) (h : Held c) (x : ℕ) (ys : List ℕ)
    (first : (p : ℕ) → p < c.count → get_or c.ids p 0 ≢ x) (l : Linked (fat_held c.hand.disk) x ys) where
  few : c.hand.disk.sectors ≤ 16384
  few = omega (arith, f.fits.disk.inside, f.fits.disk.few)

  listed : Listings S c.hand
  listed = formed_listings S R c.hand f.fits w

  inside : (j : ℕ) → j < length ys → get_or ys j 0 < c.hand.disk.sectors
  inside j u = omega (arith, l.within j u, held_length S R c f)

  -- the entry of each is the next, or END at the last
  entry : (j : ℕ) → j < length ys → get_or c.hand.disk.fat (get_or ys j 0) 0 ≡ get_or ys (suc j) end_of_chain
  entry j u = sym (get_or-take c.hand.disk.sectors c.hand.disk.fat (get_or ys j 0) 0 (inside j u)) ∙ l.next j u

  next_entry : (j : ℕ) → suc j < length ys → get_or c.hand.disk.fat (get_or ys j 0) 0 ≡ get_or ys (suc j) 0
  next_entry j u = entry j (omega (arith, u)) ∙ get_d_any ys (suc j) end_of_chain 0 u

  -- so it is neither FREE nor a mark of the FAT or the DIFAT
  no_mark : (j v : ℕ) → j < length ys → 16384 ≤ v → v ≢ end_of_chain → get_or c.hand.disk.fat (get_or ys j 0) 0 ≢ v
  no_mark j v u big d e =
      ⊎_elim
      (λ (b : suc j < length ys). omega (arith, few, big, inside (suc j) b, next_entry j b, e))
      (λ (g : length ys ≤ suc j). d (sym e ∙ entry j u ∙ get_or-eq_default ys end_of_chain g))
      (below_or (suc j) (length ys))

  -- document 01, 16 and 25: it never enters the chain in hand: no two entries point at one sector, and none at the chain's first
  never_enters : (j : ℕ) → j < length ys → (p : ℕ) → p < c.count → get_or c.ids p 0 ≢ get_or ys j 0
  never_enters zero u p k e = first p k (e ∙ get_d_any ys 0 0 end_of_chain u ∙ l.first)
  never_enters (suc j) u zero k e = (held_strung S R c f h).none k (get_or ys j 0) (inside j (omega (arith, u))) (next_entry j u ∙ sym e)
  never_enters (suc j) u (suc p) k e =
      never_enters j (omega (arith, u)) p (omega (arith, k))
      (w.tables.points_once (get_or c.ids p 0) (get_or ys j 0) low (inside j (omega (arith, u))) (omega (arith, few, here, f.within (suc p) k)) (here ∙ e ∙ sym there))
    where
      low : get_or c.ids p 0 < c.hand.disk.sectors
      low = f.within p (omega (arith, k))

      here : get_or (fat_held c.hand.disk) (get_or c.ids p 0) 0 ≡ get_or c.ids (suc p) 0
      here = get_or-take c.hand.disk.sectors c.hand.disk.fat (get_or c.ids p 0) 0 low ∙ (held_strung S R c f h).next p k

      there : get_or (fat_held c.hand.disk) (get_or ys j 0) 0 ≡ get_or ys (suc j) 0
      there = get_or-take c.hand.disk.sectors c.hand.disk.fat (get_or ys j 0) 0 (inside j (omega (arith, u))) ∙ next_entry j u

  never_free : (j : ℕ) → j < length ys → (p : ℕ) → p < c.hand.free → get_or c.hand.frees p 0 ≢ get_or ys j 0
  never_free j u p k e = no_mark j free_sector u (omega arith) (omega arith) (ap (λ (y : ℕ). get_or c.hand.disk.fat y 0) (sym e) ∙ listed.frees_free p k)

  aloof : (j : ℕ) → j < length ys → Aloof c (get_or ys j 0)
  aloof j u = record { inside = inside j u; no_id = never_enters j u; no_free = never_free j u }

  -- its sectors belong to others
  pub others_of : Others S c ys
  others_of = record {
    each = λ j u. record {
      inside = inside j u;
      no_fat = λ p k e. no_mark j fat_sector u (omega arith) (omega arith) (ap (λ (y : ℕ). get_or c.hand.disk.fat y 0) (sym e) ∙ listed.fats_marked p k);
      no_difat = λ p k e. no_mark j difat_sector u (omega arith) (omega arith) (ap (λ (y : ℕ). get_or c.hand.disk.fat y 0) (sym e) ∙ listed.difats_marked p k);
      no_id = never_enters j u;
      no_free = never_free j u;
    };
  }

  -- and it is a chain of the FAT then, too
  pub linked_then : (e : Chain) → FitsChain S R e → Spares c e → Linked (fat_held e.hand.disk) x ys
  linked_then e g s = record {
    first = l.first;
    within = λ j u. omega (arith, inside j u, s.least, held_length S R e g);
    next = λ j u.
        get_or-take e.hand.disk.sectors e.hand.disk.fat (get_or ys j 0) 0 (omega (arith, inside j u, s.least))
        ∙ s.stays (get_or ys j 0) (aloof j u) ∙ entry j u;
  }

-- The calls.

-- x is none of a list's numbers
abbrev pub Absent : List ℕ → ℕ → Type 0
Absent ids x = (j : ℕ) → j < length ids → get_or ids j 0 ≢ x

module _ (s : State) (img : List ℕ) (t : Tables) (room start : ℕ) where
  -- the chain before a change
  abbrev before : Chain
  before = chain_from s img t room start

  -- its room
  abbrev R : ℕ
  R = room_of (state_len s) (length img)

  module _ (z : change_no s img t room start ≡ 0) where
    before_fits : FitsChain (state_len s) R before
    before_fits = (roles_of s img t room start z).fits

    no_id_before : (x : ℕ) → Absent (chain_ids s t start) x → (p : ℕ) → p < before.count → get_or before.ids p 0 ≢ x
    unfolding chain_from
    no_id_before x a p k e = a p k (sym (padded_front (chain_ids s t start) room p k) ∙ e)

    aloof_before : (x : ℕ) → x < s.sectors → get_or t.fat x 0 ≢ free_sector → Absent (chain_ids s t start) x → Aloof before x
    unfolding chain_from
    aloof_before x l d a = record {
      inside = l;
      no_id = no_id_before x a;
      no_free = λ p k e. d (ap (λ (y : ℕ). get_or t.fat y 0) (sym e) ∙ (formed_listings (state_len s) R before.hand before_fits.fits (formed_of s img t room start z)).frees_free p k);
    }

    -- a chain that begins elsewhere
    module _ (x : ℕ) (ys : List ℕ) (a : Absent (chain_ids s t start) x) (walk : walk_of (take s.sectors t.fat) x ≡ lists ys) where
      linked_before : Linked (fat_held before.hand.disk) x ys
      unfolding chain_from
      linked_before = (lists_exactly (take s.sectors t.fat) x ys (omega (arith, held_length (state_len s) R before before_fits, before_fits.fits.disk.inside, before_fits.fits.disk.few))).0 walk

      others_before : Others (state_len s) before ys
      others_before = others_of (state_len s) R before before_fits (formed_of s img t room start z) (held_of s img t room start z) x ys (no_id_before x a) linked_before

      walk_then : (e : Chain) → FitsChain (state_len s) R e → Spares before e → walk_of (fat_held e.hand.disk) x ≡ lists ys
      walk_then e g k =
          (lists_exactly (fat_held e.hand.disk) x ys (omega (arith, held_length (state_len s) R e g, g.fits.disk.inside, g.fits.disk.few))).1
          (linked_then (state_len s) R before before_fits (formed_of s img t room start z) (held_of s img t room start z) x ys (no_id_before x a) linked_before e g k)

  -- an accepted edit
  module _ (e : Edit) (buf : List ℕ) (z : edit_no s img t room start e (length buf) ≡ 0) where
    abbrev after : Chain
    after = edited (state_len s) before e buf

    rows : change_no s img t room start ≡ 0
    rows = edit_rows s img t room start e (length buf) z

    after_spares : Spares before after
    after_spares = edited_spares (state_len s) R e buf before (edit_fits s img t room start e buf z)

    -- document 01, Write and Resize: the entry of a sector that is neither FREE before nor in the chain stays
    pub edit_entries : (x : ℕ) → x < s.sectors → get_or t.fat x 0 ≢ free_sector → Absent (chain_ids s t start) x → get_or after.hand.disk.fat x 0 ≡ get_or t.fat x 0
    unfolding chain_from
    edit_entries x l d a = after_spares.stays x (aloof_before rows x l d a)

    -- document 01, Write and Resize: a walk that begins outside the chain lists the same sectors then, in the same order,
    pub edit_others_walk : (x : ℕ) (ys : List ℕ) → Absent (chain_ids s t start) x → walk_of (take s.sectors t.fat) x ≡ lists ys → walk_of (fat_held after.hand.disk) x ≡ lists ys
    edit_others_walk x ys a walk = walk_then rows x ys a walk after (edited_fits (state_len s) R e buf before (edit_fits s img t room start e buf z)) after_spares

    -- and they have the same bytes
    pub edit_others_bytes : (x : ℕ) (ys : List ℕ) → Absent (chain_ids s t start) x → walk_of (take s.sectors t.fat) x ≡ lists ys
        → chain_bytes (state_len s) after.hand.disk.image ys ≡ chain_bytes (state_len s) img ys
    edit_others_bytes x ys a walk = edit_keeps s img t room start e buf z ys (others_before rows x ys a walk)
