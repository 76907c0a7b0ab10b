-- The laws of a chain edited: sectors are taken or freed, and then its bytes are stored. Assumes nothing.
use Prim.Native.Nat.{ℕ, ◌+◌, ◌-◌, ◌*◌, ◌≤◌, ◌<◌}
use mathlib.Core.Path.{◌≡◌, refl, ◌∙◌, sym, ap}
use mathlib.Core.List.{List}
use mathlib.Core.Logic.{⊎_elim}
use native.Mathlib.Omega.{arith}
use native.Mathlib.Nat.{mul_comm}
use borrow.Author.Tests.{lt-ltb, le-ltb}
use lib.Dec.{ltb}
use lib.ListN.{length, get_or, take}
use Rattle.lists.specs.Lists.{choose}
use Rattle.lists.proofs.Cases.{below_or}
use Rattle.fat.specs.Lists.{ceil}
use Rattle.fat.proofs.Listing.{ceil_enough}
use Rattle.disk.specs.Held.{SameHand}
use Rattle.disk.specs.declared.disk.Hand as lent
use Rattle.stores.specs.Stores.{write_bytes, zero_tail, Writable}
use Rattle.room.specs.Needed.{resize_more, write_more}
use Rattle.hand.specs.Hand.{Hand, Chain, extend}
use Rattle.hand.specs.Fits.{FitsChain, FitsMore}
use Rattle.hand.specs.Held.{hand_in}
use Rattle.hand.proofs.Holding.{same_then}
use Rattle.moves.specs.Held.{chain_in, ChainBecomes}
use Rattle.moves.specs.Change.{shrink, with_image, ids_of, written, edited, seek_of, edit_more, edit_need, place_of, bytes_of, stored, FitsShrink, FitsResize, FitsWrite, FitsEdit}
use Rattle.moves.specs.declared.change.Edit.{Edit}
use Rattle.moves.specs.declared.change.Edit.TheVariants.{Write, Resize}
use Rattle.moves.proofs.Changing.{chain_small, chain_bytes_small, chain_room, once_writable, resized_more, resized_fewer, resized_fits, write_covers, written_fits}
use Rattle.moves.proofs.Extending.{extend_none, extend_fits, extend_count}
use Rattle.moves.proofs.Shrinking.{shrink_none, shrink_fits, shrink_count, shrink_ids}
use Rattle.moves.proofs.Staying.{extend_apart}

-- each kind of edit, as what it is
pub edit_write : (S R offset bytes : ℕ) (c : Chain) → FitsEdit S R (Write offset) bytes c → FitsWrite S R offset bytes c
unfolding edit_more seek_of
edit_write S R offset bytes c f = record { fits = f.fits; apart = f.apart; seeks = f.seeks }

pub edit_resize : (S R len bytes : ℕ) (c : Chain) → FitsEdit S R (Resize len) bytes c → FitsResize S R len c
unfolding edit_more
edit_resize S R len bytes c f = record { fits = f.fits; apart = f.apart }

-- what an edit leaves is a chain in hand
pub edited_fits : (S R : ℕ) (e : Edit) (buf : List ℕ) (c : Chain) → FitsEdit S R e (length buf) c → FitsChain S R (edited S c e buf)
edited_fits S R (Write offset) buf c f = written_fits S R offset buf c (edit_write S R offset (length buf) c f)
edited_fits S R (Resize len) buf c f = resized_fits S R len c (edit_resize S R len (length buf) c f)

-- the sectors that the chain has then are those that it has and those that are asked for, or fewer
need_more : (S count : ℕ) (e : Edit) (bytes : ℕ) → edit_need S count e bytes - count ≡ edit_more S count e bytes
unfolding edit_need edit_more resize_more
need_more S count (Write offset) bytes = omega arith
need_more S count (Resize len) bytes = refl

-- a chain that is extended or cut to so many sectors
unfoldable pub fitted : ℕ → Chain → ℕ → Chain
unfolding extend shrink
fitted S c need = choose (ltb c.count need) (extend S c (need - c.count)) (shrink S c need)

fitted_more : (S : ℕ) (c : Chain) (need : ℕ) → c.count < need → fitted S c need ≡ extend S c (need - c.count)
unfolding fitted
fitted_more S c need l = rw (lt-ltb c.count need l)

fitted_fewer : (S : ℕ) (c : Chain) (need : ℕ) → need ≤ c.count → fitted S c need ≡ shrink S c need
unfolding fitted
fitted_fewer S c need g = rw (le-ltb c.count need g)

-- it is what the code leaves
abbrev pub Fitted : lent.Hand → lent.Hand → List ℕ → List ℕ → ℕ → ℕ → Type 0
Fitted a b ids ids' count need = ChainBecomes a b ids' need (fitted a.len (chain_in a ids count) need)

pub grown_fitted : {a b : lent.Hand} (ids : List ℕ) {ids' : List ℕ} {count need : ℕ} → count < need
    → ChainBecomes a b ids' (count + (need - count)) (extend a.len (chain_in a ids count) (need - count)) → Fitted a b ids ids' count need
grown_fitted {a = a} {b = b} ids {ids' = ids'} {count = count} {need = need} l x =
    let k : need ≡ count + (need - count) = omega (arith, l) in
    record { same = x.same; chain = ap (chain_in b ids') k ∙ x.chain ∙ sym (fitted_more a.len (chain_in a ids count) need l) }

pub cut_fitted : {a b : lent.Hand} (ids : List ℕ) {ids' : List ℕ} {count need : ℕ} → need ≤ count
    → ChainBecomes a b ids' need (shrink a.len (chain_in a ids count) need) → Fitted a b ids ids' count need
cut_fitted {a = a} ids {count = count} {need = need} g x = rw (fitted_fewer a.len (chain_in a ids count) need g) x

-- a chain that can be edited: numbers that the count of its sectors is made of
pub edit_asks : (S R : ℕ) (e : Edit) (bytes : ℕ) (c : Chain) → FitsEdit S R e bytes c
    → (2 ≤ S) × (S ≤ 65536) × (seek_of e ≤ S * c.count) × (S * c.count < 18446744073709551616) × (c.count + edit_more S c.count e bytes < 18446744073709551616)
edit_asks S R e bytes c f =
    let g : FitsChain S R c = f.fits.fits in
    let grown : FitsChain S R (extend S c (edit_more S c.count e bytes)) = extend_fits S R (edit_more S c.count e bytes) c f.fits in (
      omega (arith, g.fits.disk.header),
      g.fits.disk.short,
      f.seeks,
      omega (arith, chain_bytes_small S R c g),
      omega (arith, extend_count S c (edit_more S c.count e bytes), chain_small S R (extend S c (edit_more S c.count e bytes)) grown),
    )

need_covers : (S R : ℕ) (e : Edit) (bytes : ℕ) (c : Chain) → FitsEdit S R e bytes c → place_of e + bytes_of e bytes ≤ S * edit_need S c.count e bytes
unfolding place_of edit_need
need_covers S R (Write offset) bytes c f = write_covers S R offset bytes c (edit_write S R offset bytes c f)
need_covers S R (Resize len) bytes c f = omega (arith, (ceil_enough len S (omega (arith, f.fits.fits.fits.disk.header))).0, mul_comm S (ceil len S))

module _ (S R : ℕ) (e : Edit) (bytes : ℕ) (c : Chain) (f : FitsEdit S R e bytes c) (need : ℕ) (q : need ≡ edit_need S c.count e bytes) where
  -- it can be extended or cut to the sectors that it has then
  pub edit_grow : FitsMore S R (need - c.count) c
  edit_grow = rw (q, need_more S c.count e bytes) f.fits

  pub edit_cut : need ≤ c.count → FitsShrink S R need c
  edit_cut h = record { fits = f.fits.fits; within = h }

  fitted_fits : FitsChain S R (fitted S c need)
  fitted_fits =
      ⊎_elim
      (λ (l : c.count < need). rw (fitted_more S c need l) (extend_fits S R (need - c.count) c edit_grow))
      (λ (g : need ≤ c.count). rw (fitted_fewer S c need g) (shrink_fits S R need c (edit_cut g)))
      (below_or c.count need)

  fitted_count : (fitted S c need).count ≡ need
  fitted_count =
      ⊎_elim
      (λ (l : c.count < need). rw (fitted_more S c need l) (extend_count S c (need - c.count) ∙ omega arith))
      (λ (g : need ≤ c.count). rw (fitted_fewer S c need g) (shrink_count S R need c (edit_cut g)))
      (below_or c.count need)

  -- no id stands twice in it then
  fitted_once : (i j : ℕ) → i < (fitted S c need).count → j < (fitted S c need).count → get_or (fitted S c need).ids i 0 ≡ get_or (fitted S c need).ids j 0 → i ≡ j
  fitted_once =
      ⊎_elim
      (λ (l : c.count < need). rw (fitted_more S c need l) (extend_apart S R (need - c.count) c edit_grow f.apart).ids_once)
      (λ (g : need ≤ c.count). rw (fitted_fewer S c need g) (cut_once g))
      (below_or c.count need)
    where
      cut_once : need ≤ c.count → (i j : ℕ) → i < (shrink S c need).count → j < (shrink S c need).count → get_or (shrink S c need).ids i 0 ≡ get_or (shrink S c need).ids j 0 → i ≡ j
      cut_once g i j hi hj x =
          let k : (shrink S c need).count ≡ need = shrink_count S R need c (edit_cut g) in
          let bi : i < need = rw k at hi in
          let bj : j < need = rw k at hj in
          f.apart.ids_once i j (omega (arith, bi, g)) (omega (arith, bj, g)) (sym (shrink_ids S R need c (edit_cut g) i bi) ∙ x ∙ shrink_ids S R need c (edit_cut g) j bj)

  -- and it covers what is stored
  edit_covers : place_of e + bytes_of e bytes ≤ S * need
  edit_covers = rw q (need_covers S R e bytes c f)

  -- so its bytes can be stored
  module _ (after : Chain) (x : after ≡ fitted S c need) where
    after_fits : FitsChain S R after
    after_fits = rw x fitted_fits

    after_count : after.count ≡ need
    after_count = ap (λ (k : Chain). k.count) x ∙ fitted_count

    pub edit_storable : (need ≤ length after.ids) × Writable S (length after.hand.disk.image) (take need after.ids) (place_of e) (bytes_of e bytes)
    unfolding ids_of
    edit_storable =
        let once : (i j : ℕ) → i < after.count → j < after.count → get_or after.ids i 0 ≡ get_or after.ids j 0 → i ≡ j = rw x fitted_once in
        let w : Writable S (length after.hand.disk.image) (take after.count after.ids) (place_of e) (bytes_of e bytes)
        = once_writable S R after after_fits once (place_of e) (bytes_of e bytes) (rw after_count edit_covers) in
        (omega (arith, after_count, chain_room S R after after_fits), rw after_count at w)

-- a chain in hand whose bytes are stored
pub edited_of : (S R : ℕ) (e : Edit) (buf : List ℕ) (c : Chain) → FitsEdit S R e (length buf) c → (need : ℕ) → need ≡ edit_need S c.count e (length buf)
    → (h : Hand) (ids : List ℕ) → record { hand = h; ids = ids; count = need } ≡ fitted S c need
    → (img : List ℕ) → img ≡ stored S c.count need h.disk.image (take need ids) e buf → with_image (record { hand = h; ids = ids; count = need }) img ≡ edited S c e buf
unfolding with_image ids_of edit_need resize_more stored written
edited_of S R (Write offset) buf c f need q h ids x img z =
    ap (with_image (record { hand = h; ids = ids; count = need })) z
    ∙ ap (λ (k : Chain). with_image k (write_bytes S k.hand.disk.image (ids_of k) offset buf)) (x ∙ ap (fitted S c) q ∙ wide)
  where
    wide : fitted S c (c.count + write_more S c.count offset (length buf)) ≡ extend S c (write_more S c.count offset (length buf))
    wide =
        ⊎_elim
        (λ (l : c.count < c.count + write_more S c.count offset (length buf)).
        let k : c.count + write_more S c.count offset (length buf) - c.count ≡ write_more S c.count offset (length buf) = omega arith in
        fitted_more S c _ l ∙ ap (extend S c) k)
        (λ (g : c.count + write_more S c.count offset (length buf) ≤ c.count).
        let z : write_more S c.count offset (length buf) ≡ 0 = omega arith in
        fitted_fewer S c _ g ∙ shrink_none S c _ (omega arith) ∙ sym (ap (extend S c) z ∙ extend_none S c))
        (below_or c.count (c.count + write_more S c.count offset (length buf)))
edited_of S R (Resize len) buf c f need q h ids x img z =
    ⊎_elim
    (λ (l : c.count < need).
    let same : img ≡ h.disk.image = rw (lt-ltb c.count need l) at z in
    ap (with_image (record { hand = h; ids = ids; count = need })) same
    ∙ x ∙ fitted_more S c need l ∙ ap (λ (k : ℕ). extend S c (k - c.count)) q ∙ sym (resized_more S c len (rw q at l)))
    (λ (g : need ≤ c.count).
    let zeros : img ≡ zero_tail S h.disk.image (take need ids) len = rw (le-ltb c.count need g) at z in
    ap (with_image (record { hand = h; ids = ids; count = need })) zeros
    ∙ ap (λ (k : Chain). with_image k (zero_tail S k.hand.disk.image (ids_of k) len)) (x ∙ fitted_fewer S c need g ∙ ap (shrink S c) q)
    ∙ sym (resized_fewer S c len (rw q at g)))
    (below_or c.count need)

-- what is in hand then, where only the image holds other bytes
pub edited_on : {a b d : lent.Hand} {R : ℕ} {e : Edit} (buf ids : List ℕ) {ids' : List ℕ} {count need : ℕ} → FitsEdit a.len R e (length buf) (chain_in a ids count)
    → need ≡ edit_need a.len count e (length buf) → Fitted a b ids ids' count need
    → SameHand b d → chain_in d ids' need ≡ with_image (chain_in b ids' need) d.image.now → d.image.now ≡ stored a.len count need b.image.now (take need ids') e buf
    → ChainBecomes a d ids' need (edited a.len (chain_in a ids count) e buf)
edited_on {a = a} {b = b} {d = d} {R = R} {e = e} buf ids {ids' = ids'} {count = count} {need = need} f q m s k z =
    record { same = same_then m.same s; chain = k ∙ edited_of a.len R e buf (chain_in a ids count) f need q (hand_in b) ids' m.chain d.image.now z }
