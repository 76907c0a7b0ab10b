-- What a change makes of a chain in hand (document 01, Write, Resize and Free), over the sector's length S. Assumes nothing.
use Rattle.std.specs.Prelude.{ℕ, ◌+◌, ◌-◌, ◌*◌, ◌≤◌, ◌<◌, ◌≡◌, ◌≢◌, List, ltb, length, get_or, take}
use Rattle.lists.specs.Lists.{choose}
use Rattle.consts.specs.Consts.{end_of_chain}
use Rattle.fat.specs.Lists.{ceil}
use Rattle.alloc.specs.Opening.{padded}
use Rattle.stores.specs.Stores.{write_bytes, zero_tail}
use Rattle.room.specs.Needed.{resize_more, write_more}
use Rattle.hand.specs.Fits.{FitsChain, FitsMore}
use Rattle.hand.specs.Hand.{Hand, Chain, linked, free_run, extend}
use Rattle.moves.specs.declared.change.Edit.{Edit}
use Rattle.moves.specs.declared.change.Edit.TheVariants.{Write, Resize}

-- the last of the first m sectors ends the chain
abbrev pub cut : ℕ → Hand → List ℕ → ℕ → Hand
cut S h ids m = linked S h ids m end_of_chain

-- document 01, Resize: the tail behind m sectors is freed, in chain order
unfoldable pub shrink : ℕ → Chain → ℕ → Chain
unfolding linked free_run padded
shrink S c m =
    choose (ltb m c.count)
    (record { hand = free_run S (cut S c.hand c.ids m) c.ids m (c.count - m); ids = padded (take m c.ids) (length c.ids); count = m })
    c

-- a chain whose image holds other bytes
unfoldable pub with_image : Chain → List ℕ → Chain
with_image c img =
    record {
      hand =
          record {
            disk = record { image = img; fat = c.hand.disk.fat; fats = c.hand.disk.fats; difats = c.hand.disk.difats; sectors = c.hand.disk.sectors };
            frees = c.hand.frees;
            free = c.hand.free;
            marks = c.hand.marks;
          };
      ids = c.ids;
      count = c.count;
    }

-- the ids of a chain in hand
unfoldable pub ids_of : Chain → List ℕ
ids_of c = take c.count c.ids

-- document 01, Resize: more: zero sectors; fewer or as many: the tail is freed, and bytes from the new length to the end of its sector are zeroed
unfoldable pub resized : ℕ → Chain → ℕ → Chain
unfolding ceil shrink extend with_image ids_of zero_tail resize_more
resized S c len =
    choose (ltb c.count (ceil len S)) (extend S c (resize_more S c.count len))
    (with_image (shrink S c (ceil len S)) (zero_tail S (shrink S c (ceil len S)).hand.disk.image (ids_of (shrink S c (ceil len S))) len))

-- document 01, Write: the chain grows to cover offset plus buffer, new bytes past the end are zero, all bytes are written
unfoldable pub written : ℕ → Chain → ℕ → List ℕ → Chain
unfolding extend with_image ids_of write_bytes write_more
written S c offset buf =
    let grown = extend S c (write_more S c.count offset (length buf)) in
    with_image grown (write_bytes S grown.hand.disk.image (ids_of grown) offset buf)

-- document 01: what an edit makes of a chain; a resize has no use for the buffer
abbrev pub edited : ℕ → Chain → Edit → List ℕ → Chain
edited S c (Write offset) buf = written S c offset buf
edited S c (Resize len) buf = resized S c len

-- document 01, 23: the byte that an edit begins at, which must not lie past the chain's end: a write's offset
unfoldable pub seek_of : Edit → ℕ
seek_of (Write offset) = offset
seek_of (Resize len) = 0

-- document 01, 24: how many sectors an edit of so many bytes asks for more than there are
unfoldable pub edit_more : ℕ → ℕ → Edit → ℕ → ℕ
unfolding resize_more write_more
edit_more S count (Write offset) bytes = write_more S count offset bytes
edit_more S count (Resize len) bytes = resize_more S count len

-- how many sectors the chain has then: a write leaves it no shorter
unfoldable pub edit_need : ℕ → ℕ → Edit → ℕ → ℕ
unfolding ceil write_more
edit_need S count (Write offset) bytes = count + write_more S count offset bytes
edit_need S count (Resize len) bytes = ceil len S

-- from where on an edit stores in the chain's bytes
unfoldable pub place_of : Edit → ℕ
place_of (Write offset) = offset
place_of (Resize len) = len

-- how many bytes of the buffer it writes: a write all, a resize none
abbrev pub bytes_of : Edit → ℕ → ℕ
bytes_of (Write offset) bytes = bytes
bytes_of (Resize len) bytes = 0

-- what it stores there, in a chain that had so many sectors and has count
unfoldable pub stored : ℕ → ℕ → ℕ → List ℕ → List ℕ → Edit → List ℕ → List ℕ
unfolding write_bytes zero_tail
stored S had count img ids (Write offset) buf = write_bytes S img ids offset buf
stored S had count img ids (Resize len) buf = choose (ltb had count) img (zero_tail S img ids len)

-- no sector is listed twice, in the chain, in the free list, or in both
pub record Apart (c : Chain) : Type 0 where
  pub ids_once : (i j : ℕ) → i < c.count → j < c.count → get_or c.ids i 0 ≡ get_or c.ids j 0 → i ≡ j
  pub frees_once : (i j : ℕ) → i < c.hand.free → j < c.hand.free → get_or c.hand.frees i 0 ≡ get_or c.hand.frees j 0 → i ≡ j
  pub ids_frees : (i j : ℕ) → i < c.count → j < c.hand.free → get_or c.ids i 0 ≢ get_or c.hand.frees j 0

-- a chain that can be cut behind m of its sectors
pub record FitsShrink (S R m : ℕ) (c : Chain) : Type 0 where
  pub fits : FitsChain S R c
  pub within : m ≤ c.count

-- a chain that can be resized: 24 was decided by the sectors that there are then
pub record FitsResize (S R len : ℕ) (c : Chain) : Type 0 where
  pub fits : FitsMore S R (resize_more S c.count len) c
  pub apart : Apart c

-- a chain that can be written, likewise, from an offset that is not past its end
pub record FitsWrite (S R offset bytes : ℕ) (c : Chain) : Type 0 where
  pub fits : FitsMore S R (write_more S c.count offset bytes) c
  pub apart : Apart c
  pub seeks : offset ≤ S * c.count

-- a chain that can be edited, likewise
pub record FitsEdit (S R : ℕ) (edit : Edit) (bytes : ℕ) (c : Chain) : Type 0 where
  pub fits : FitsMore S R (edit_more S c.count edit bytes) c
  pub apart : Apart c
  pub seeks : seek_of edit ≤ S * c.count
