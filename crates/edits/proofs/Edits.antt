-- What a change makes of a chain and of an image (document 01, "Calls on a chain"): which sectors are taken and freed, what bytes the chain has then, and that nothing else changes. That each sector keeps one role is shown in Roles. Assumes nothing.
use Prim.Native.Nat.{ℕ, ◌+◌, ◌-◌, ◌*◌, ◌≤◌, ◌<◌}
use mathlib.Core.Path.{◌≡◌, sym}
use mathlib.Core.List.{List, ◌++◌}
use mathlib.Core.Logic.{inl, inr}
use native.Mathlib.Omega.{arith}
use native.Mathlib.Nat.{add-mul, one-mul}
use lib.ListN.{length, get_or, take, replicate}
use Rattle.stores.specs.Stores.{Beside}
use Rattle.lists.specs.Lists.{splice}
use Rattle.sectors.specs.Sectors.{start_of, sector_of}
use Rattle.fat.specs.Lists.{ceil}
use Rattle.alloc.specs.Opening.{padded}
use Rattle.chain.specs.Bytes.{chain_bytes}
use Rattle.stores.proofs.Apart.{sector_before, sector_other}
use Rattle.room.specs.Needed.{resize_more, write_more}
use Rattle.hand.specs.Hand.{Chain, extend}
use Rattle.hand.specs.Fits.{FitsChain, FitsMore}
use Rattle.moves.specs.Change.{shrink, with_image, ids_of, resized, written, edited, FitsShrink, FitsResize, FitsWrite, FitsEdit}
use Rattle.moves.specs.declared.change.Edit.{Edit}
use Rattle.moves.specs.declared.change.Edit.TheVariants.{Write, Resize}
use Rattle.moves.proofs.Shrinking.{shrink_ids}
use Rattle.moves.proofs.Changing.{resized_more, resized_fewer, resize_shrink, resized_long, written_long}
use Rattle.moves.proofs.Editing.{edit_write, edit_resize}
use Rattle.edits.specs.Order.{taken_at, added_fat, added_difat}
use Rattle.edits.specs.Roles.{Roles, fats_held, difats_held}
use Rattle.edits.specs.Untouched.{UnnamedFrom, Unlisted, Others}
use Rattle.edits.proofs.Order.{extend_ids_stay, extend_taken, extend_frees_stay, extend_frees_zero, shrink_freed}
use Rattle.edits.proofs.Joining.{other_aside}
use Rattle.edits.proofs.Extended.{extend_begins, extended_fats, extended_difats}
use Rattle.edits.proofs.Shrunk.{shrunk_sector}
use Rattle.edits.proofs.Changed.{resize_asks, others_stay, resized_holds, resized_spares, resized_other, freed_sector, written_holds, written_spares, written_other}

-- Which sectors are taken, and in which order.

module _ (S R m : ℕ) (c : Chain) (f : FitsMore S R m c) where
  -- the sectors that the chain has stay where they are listed
  pub ids_stay : (j : ℕ) → j < c.count → get_or (extend S c m).ids j 0 ≡ get_or c.ids j 0
  ids_stay = extend_ids_stay S c m

  -- document 01: sectors are taken from the end of the free list; when it is empty, id n, behind the FAT and DIFAT sectors that it needs: the i-th that is taken comes i places behind the chain's old end
  pub taken_order : (i : ℕ) → i < m → get_or (extend S c m).ids (c.count + i) 0 ≡ taken_at S c.hand.disk.sectors c.hand.frees c.hand.free i
  taken_order = extend_taken S R m c f

  -- document 01: where n is a multiple of E, sector n first becomes a FAT sector, and where its place in the DIFAT needs one, the sector after it a DIFAT sector: those that the lists have stay,
  pub fats_stay : (p : ℕ) → p < fats_held S c.hand.disk → get_or (extend S c m).hand.disk.fats p 0 ≡ get_or c.hand.disk.fats p 0
  fats_stay = (extend_begins S R m c f).fats_stay

  pub difats_stay : (q : ℕ) → q < difats_held S c.hand.disk → get_or (extend S c m).hand.disk.difats q 0 ≡ get_or c.hand.disk.difats q 0
  difats_stay = (extend_begins S R m c f).difats_stay

  -- and those that they get are these
  pub fats_added : (p : ℕ) → fats_held S c.hand.disk ≤ p → p < fats_held S (extend S c m).hand.disk → get_or (extend S c m).hand.disk.fats p 0 ≡ added_fat S p
  fats_added = extended_fats S R m c f

  pub difats_added : (q : ℕ) → difats_held S c.hand.disk ≤ q → q < difats_held S (extend S c m).hand.disk → get_or (extend S c m).hand.disk.difats q 0 ≡ added_difat S q
  difats_added = extended_difats S R m c f

  -- the free list keeps its first places,
  pub frees_left : (j : ℕ) → j < c.hand.free - m → get_or (extend S c m).hand.frees j 0 ≡ get_or c.hand.frees j 0
  frees_left = extend_frees_stay S c m

  -- and those that it gives up are zero
  pub frees_given : (j : ℕ) → c.hand.free - m ≤ j → j < c.hand.free → get_or (extend S c m).hand.frees j 0 ≡ 0
  frees_given = extend_frees_zero S R m c f

-- Which sectors are freed, and in which order.

module _ (S R m : ℕ) (c : Chain) (f : FitsShrink S R m c) where
  -- the first m sectors of the chain stay where they are listed
  pub ids_kept : (j : ℕ) → j < m → get_or (shrink S c m).ids j 0 ≡ get_or c.ids j 0
  ids_kept = shrink_ids S R m c f

  -- document 01: freed sectors join the list in chain order
  pub freed_order : (i : ℕ) → i < c.count - m → get_or (shrink S c m).hand.frees (c.hand.free + i) 0 ≡ get_or c.ids (m + i) 0
  freed_order = shrink_freed S R m c f

-- The same of a chain that is resized and of one that is written: what is stored in its bytes moves no sector.

-- document 01, Resize: more sectors are taken in this order,
pub resized_taken : (S R len : ℕ) (c : Chain) → FitsResize S R len c → (i : ℕ) → i < resize_more S c.count len
    → get_or (resized S c len).ids (c.count + i) 0 ≡ taken_at S c.hand.disk.sectors c.hand.frees c.hand.free i
resized_taken S R len c f i l = rw (resized_more S c len (resize_asks S c len i l)) (taken_order S R (resize_more S c.count len) c f.fits i l)

-- and the tail is freed in this one
pub resized_freed : (S R len : ℕ) (c : Chain) → FitsResize S R len c → (i : ℕ) → i < c.count - ceil len S
    → get_or (resized S c len).hand.frees (c.hand.free + i) 0 ≡ get_or c.ids (ceil len S + i) 0
unfolding with_image
resized_freed S R len c f i l =
    let fewer : ceil len S ≤ c.count = omega (arith, l) in
    rw (resized_fewer S c len fewer) (freed_order S R (ceil len S) c (resize_shrink S R len c f (ceil len S) fewer) i l)

-- document 01, Write
pub written_taken : (S R offset : ℕ) (buf : List ℕ) (c : Chain) → FitsWrite S R offset (length buf) c → (i : ℕ) → i < write_more S c.count offset (length buf)
    → get_or (written S c offset buf).ids (c.count + i) 0 ≡ taken_at S c.hand.disk.sectors c.hand.frees c.hand.free i
unfolding written with_image
written_taken S R offset buf c f i l = taken_order S R (write_more S c.count offset (length buf)) c f.fits i l

-- The bytes of the chain.

-- document 01, Resize: what it had below the new length, and zeros from there to the end of the last sector, whether it grows or not
pub resized_bytes : (S R len : ℕ) (c : Chain) → FitsResize S R len c → Roles S R c
    → chain_bytes S (resized S c len).hand.disk.image (ids_of (resized S c len)) ≡ padded (take len (chain_bytes S c.hand.disk.image (ids_of c))) (S * ceil len S)
resized_bytes = resized_holds

-- document 01, Write: the chain grows to cover offset plus buffer, new bytes past the end are zero, all bytes are written
pub written_bytes : (S R offset : ℕ) (buf : List ℕ) (c : Chain) → FitsWrite S R offset (length buf) c → Roles S R c
    → chain_bytes S (written S c offset buf).hand.disk.image (ids_of (written S c offset buf))
    ≡ splice (chain_bytes S c.hand.disk.image (ids_of c) ++ replicate (S * write_more S c.count offset (length buf)) 0) offset buf
written_bytes = written_holds

-- Nothing else of the image changes: a byte that is none of the header's that document 01 names for the change, and in no sector of the FAT, the DIFAT and the chain, as they are after it, stays.
pub edited_spares : (S R : ℕ) (e : Edit) (buf : List ℕ) (c : Chain) → FitsEdit S R e (length buf) c → Roles S R c → (b : ℕ)
    → UnnamedFrom S c.hand.disk (edited S c e buf).hand.disk b → Unlisted S (edited S c e buf) b → get_or (edited S c e buf).hand.disk.image b 0 ≡ get_or c.hand.disk.image b 0
edited_spares S R (Write offset) buf c f r = written_spares S R offset buf c (edit_write S R offset (length buf) c f) r
edited_spares S R (Resize len) buf c f r = resized_spares S R len c (edit_resize S R len (length buf) c f) r

-- Which bytes these are: those of the header, where the change does not name them, for it stands before every sector,
pub header_unlisted : (S : ℕ) (c : Chain) (b : ℕ) → b < S → Unlisted S c b
header_unlisted S c b h =
    let before : (i : ℕ) → Beside S i b = λ i. inl (omega (arith, add-mul i 1 S, one-mul S, h)) in
    record {
      aside = record { in_no_fat = λ p l. before (get_or c.hand.disk.fats p 0); in_no_difat = λ p l. before (get_or c.hand.disk.difats p 0) };
      in_no_id = λ p l. before (get_or c.ids p 0);
    }

-- the lent image past the used length after the call,
pub past_unlisted : (S R : ℕ) (c : Chain) → FitsChain S R c → (b : ℕ) → start_of S c.hand.disk.sectors ≤ b → Unlisted S c b
past_unlisted S R c f b h =
    let past : (i : ℕ) → i < c.hand.disk.sectors → Beside S i b = λ i l. inr (omega (arith, sector_before S i c.hand.disk.sectors l, h)) in
    record {
      aside = record {
        in_no_fat = λ p l. past (get_or c.hand.disk.fats p 0) (f.fits.disk.fats_below p l);
        in_no_difat = λ p l. past (get_or c.hand.disk.difats p 0) (f.fits.disk.difats_below p l);
      };
      in_no_id = λ p l. past (get_or c.ids p 0) (f.within p l);
    }

-- and the sectors that are FREE then
pub free_unlisted : (S R : ℕ) (c : Chain) → Roles S R c → (q x : ℕ) → q < c.hand.free → x < S → Unlisted S c (start_of S (get_or c.hand.frees q 0) + x)
free_unlisted S R c r q x l h =
    record {
      aside = other_aside S c.hand.disk (get_or c.hand.frees q 0) x h (λ p k e. r.frees_fats q p l k (sym e)) (λ p k e. r.frees_difats q p l k (sym e));
      in_no_id = λ p k. sector_other S (get_or c.ids p 0) (get_or c.hand.frees q 0) x (r.apart.ids_frees p q k l) h;
    }

-- Document 01: freed sectors keep their bytes.

pub freed_bytes : (S R m : ℕ) (c : Chain) → FitsShrink S R m c → Roles S R c → (i : ℕ) → i < c.count - m
    → sector_of S (shrink S c m).hand.disk.image (get_or c.ids (m + i) 0) ≡ sector_of S c.hand.disk.image (get_or c.ids (m + i) 0)
freed_bytes S R m c f r i l = shrunk_sector S R m c f r (m + i) (omega (arith, l))

pub resized_freed_bytes : (S R len : ℕ) (c : Chain) → FitsResize S R len c → Roles S R c → (i : ℕ) → i < c.count - ceil len S
    → sector_of S (resized S c len).hand.disk.image (get_or c.ids (ceil len S + i) 0) ≡ sector_of S c.hand.disk.image (get_or c.ids (ceil len S + i) 0)
resized_freed_bytes S R len c f r i l = freed_sector S R len c f r (omega (arith, l)) i l

-- Sectors of others keep their bytes: those that were neither FAT, DIFAT, the chain's nor FREE.

pub resized_others : (S R len : ℕ) (c : Chain) → FitsResize S R len c → Roles S R c → (others : List ℕ) → Others S c others
    → chain_bytes S (resized S c len).hand.disk.image others ≡ chain_bytes S c.hand.disk.image others
resized_others S R len c f r =
    others_stay S R c (resized S c len) r.fits (resized_long S R len c f).hand.disk.image_same (resized_spares S R len c f r) (resized_other S R len c f r)

pub written_others : (S R offset : ℕ) (buf : List ℕ) (c : Chain) → FitsWrite S R offset (length buf) c → Roles S R c → (others : List ℕ) → Others S c others
    → chain_bytes S (written S c offset buf).hand.disk.image others ≡ chain_bytes S c.hand.disk.image others
written_others S R offset buf c f r =
    others_stay S R c (written S c offset buf) r.fits (written_long S R offset buf c f).hand.disk.image_same (written_spares S R offset buf c f r) (written_other S R offset buf c f r)
