-- What an accepted edit, a resize or a write, does to its chain and to the rest of the image: the edit, and nothing else. Assumes nothing.
use Prim.Native.Nat.{ℕ, ◌+◌, ◌≤◌, ◌<◌}
use mathlib.Core.Path.{◌≡◌, ◌∙◌, ap}
use mathlib.Core.List.{List}
use native.Mathlib.Omega.{arith}
use lib.ListN.{length, get_or}
use Rattle.sectors.specs.Sectors.{start_of}
use Rattle.fat.specs.Lists.{room_of}
use Rattle.alloc.specs.Opening.{Tables}
use Rattle.walk.specs.Walk.{lists, walk_of}
use Rattle.chain.specs.Bytes.{chain_bytes}
use Rattle.hand.specs.Hand.{Chain}
use Rattle.moves.specs.Change.{edited, ids_of, FitsEdit}
use Rattle.moves.specs.declared.change.Edit.{Edit}
use Rattle.moves.specs.declared.change.Edit.TheVariants.{Write, Resize}
use Rattle.moves.proofs.Editing.{edit_write, edit_resize, edited_fits}
use Rattle.edits.specs.Roles.{Roles}
use Rattle.edits.specs.Untouched.{UnnamedFrom, Unlisted, Others}
use Rattle.edits.proofs.Joining.{sector_past}
use Rattle.edits.proofs.Named.{unnamed_past}
use Rattle.edits.proofs.Roles.{edited_roles}
use Rattle.edits.proofs.Edits.{resized_bytes, written_bytes, edited_spares, past_unlisted, free_unlisted, resized_others, written_others}
use Rattle.cfb.specs.Calls.{state_len, chain_ids}
use Rattle.cfb.specs.Changes.{change_no, resize_rows, resize_no, write_rows, write_no, edit_no, chain_from, state_from, start_in}
use Rattle.cfb.specs.declared.State.{State}
use Rattle.cfb.proofs.Judging.{rows_passed}
use Rattle.cfb.proofs.Changing.{edit_ready}
use Rattle.promises.specs.Demand.{bytes_after}
use Rattle.promises.specs.Tails.{Blank}
use Rattle.promises.specs.Whole.{Formed, Held, fat_held}
use Rattle.promises.proofs.Base.{roles_of}
use Rattle.promises.proofs.Graph.{held_resized, held_written}
use Rattle.promises.proofs.Growing.{formed_resized, formed_written}
use Rattle.promises.proofs.Walks.{before_ids, held_of, formed_of, blank_of, held_walk}

-- document 01, Walk: the ids of a chain in hand are what the walk of its FAT lists, from the start that a change answers
abbrev pub Walks : Chain → Type 0
Walks c = walk_of (fat_held c.hand.disk) (start_in c.ids c.count) ≡ lists (ids_of c)

-- what holds of a chain resized and of one written, once over the edit: its bytes,
edited_bytes : (S R : ℕ) (e : Edit) (buf : List ℕ) (c : Chain) → FitsEdit S R e (length buf) c → Roles S R c
    → chain_bytes S (edited S c e buf).hand.disk.image (ids_of (edited S c e buf)) ≡ bytes_after S e buf (chain_bytes S c.hand.disk.image (ids_of c)) c.count
edited_bytes S R (Write offset) buf c f r = written_bytes S R offset buf c (edit_write S R offset (length buf) c f) r
edited_bytes S R (Resize len) buf c f r = resized_bytes S R len c (edit_resize S R len (length buf) c f) r

-- those of other sectors,
edited_others : (S R : ℕ) (e : Edit) (buf : List ℕ) (c : Chain) → FitsEdit S R e (length buf) c → Roles S R c → (others : List ℕ) → Others S c others
    → chain_bytes S (edited S c e buf).hand.disk.image others ≡ chain_bytes S c.hand.disk.image others
edited_others S R (Write offset) buf c f r = written_others S R offset buf c (edit_write S R offset (length buf) c f) r
edited_others S R (Resize len) buf c f r = resized_others S R len c (edit_resize S R len (length buf) c f) r

-- that it is a chain of the FAT,
edited_held : (S R : ℕ) (e : Edit) (buf : List ℕ) (c : Chain) → FitsEdit S R e (length buf) c → Roles S R c → Formed S c.hand → Held c → Held (edited S c e buf)
edited_held S R (Write offset) buf c f r w h = held_written S R offset buf c (edit_write S R offset (length buf) c f) r w h
edited_held S R (Resize len) buf c f r w h = held_resized S R len c (edit_resize S R len (length buf) c f) r w h

-- and that its tables are well formed
edited_formed : (S R : ℕ) (e : Edit) (buf : List ℕ) (c : Chain) → FitsEdit S R e (length buf) c → Roles S R c → Held c → Formed S c.hand → Blank c.hand → Formed S (edited S c e buf).hand
edited_formed S R (Write offset) buf c f r h w b = (formed_written S R offset buf c (edit_write S R offset (length buf) c f) r h w b).0
edited_formed S R (Resize len) buf c f r h w b = (formed_resized S R len c (edit_resize S R len (length buf) c f) r h w b).0

module _ (s : State) (img : List ℕ) (t : Tables) (room start : ℕ) where
  -- the chain before a change, and the bytes of a chain in hand
  abbrev before : Chain
  before = chain_from s img t room start

  abbrev bytes_of : Chain → List ℕ
  bytes_of c = chain_bytes (state_len s) c.hand.disk.image (ids_of c)

  before_bytes : bytes_of before ≡ chain_bytes (state_len s) img (chain_ids s t start)
  unfolding chain_from
  before_bytes = ap (chain_bytes (state_len s) img) (before_ids s img t room start)

  -- an accepted edit passes the rows that every change has
  pub edit_rows : (e : Edit) (bytes : ℕ) → edit_no s img t room start e bytes ≡ 0 → change_no s img t room start ≡ 0
  unfolding resize_no resize_rows write_no write_rows
  edit_rows (Write offset) bytes z = (rows_passed s img t room start _ z).0
  edit_rows (Resize len) bytes z = (rows_passed s img t room start _ z).0

  module _ (e : Edit) (buf : List ℕ) (z : edit_no s img t room start e (length buf) ≡ 0) where
    abbrev after : Chain
    after = edited (state_len s) before e buf

    pub edit_roles : Roles (state_len s) (room_of (state_len s) (length img)) before
    edit_roles = roles_of s img t room start (edit_rows e (length buf) z)

    pub edit_fits : FitsEdit (state_len s) (room_of (state_len s) (length img)) e (length buf) before
    edit_fits = edit_ready s img t room start e (length buf) z

    -- document 01, Write and Resize: the chain has its old bytes, edited as asked and in no other way
    pub edit_bytes : bytes_of after ≡ bytes_after (state_len s) e buf (chain_bytes (state_len s) img (chain_ids s t start)) (length (chain_ids s t start))
    unfolding chain_from
    edit_bytes =
        edited_bytes (state_len s) _ e buf before edit_fits edit_roles
        ∙ ap (λ (old : List ℕ). bytes_after (state_len s) e buf old (length (chain_ids s t start))) before_bytes

    -- sectors that are neither of the FAT, of the DIFAT, of the chain nor FREE keep their bytes
    pub edit_keeps : (others : List ℕ) → Others (state_len s) before others → chain_bytes (state_len s) after.hand.disk.image others ≡ chain_bytes (state_len s) img others
    unfolding chain_from
    edit_keeps others o = edited_others (state_len s) _ e buf before edit_fits edit_roles others o

    -- the ids that it leaves are the walk of the FAT that it leaves
    pub edit_walks : Walks after
    edit_walks =
        let rows = edit_rows e (length buf) z in
        held_walk (state_len s) _ after (edited_fits (state_len s) _ e buf before edit_fits)
        (edited_held (state_len s) _ e buf before edit_fits edit_roles (formed_of s img t room start rows) (held_of s img t room start rows))

    -- document 01, 12 and 14 to 18: the tables that it leaves are well formed
    pub edit_forms : Formed (state_len s) after.hand
    edit_forms =
        let rows = edit_rows e (length buf) z in
        edited_formed (state_len s) _ e buf before edit_fits edit_roles (held_of s img t room start rows) (formed_of s img t room start rows) (blank_of s img t room start rows)

    -- document 01: a byte that is none of the header's that are named for it, and in no sector of the FAT, the DIFAT or the chain after it, stays
    pub edit_leaves : (b : ℕ) → UnnamedFrom (state_len s) before.hand.disk after.hand.disk b → Unlisted (state_len s) after b → get_or after.hand.disk.image b 0 ≡ get_or img b 0
    unfolding chain_from
    edit_leaves b n u = edited_spares (state_len s) _ e buf before edit_fits edit_roles b n u

    -- document 01: so the image past the used length after it stays,
    pub edit_past : (b : ℕ) → (state_from s after).used ≤ b → get_or after.hand.disk.image b 0 ≡ get_or img b 0
    unfolding state_from
    edit_past b h =
        let fits = edited_fits (state_len s) _ e buf before edit_fits in
        edit_leaves b (unnamed_past (omega (arith, h, sector_past (state_len s) after.hand.disk.sectors 0 fits.fits.disk.header))) (past_unlisted (state_len s) _ after fits b h)

    -- and so does a sector that is FREE then
    pub edit_free_stays : (q x : ℕ) → q < after.hand.free → x < state_len s
        → get_or after.hand.disk.image (start_of (state_len s) (get_or after.hand.frees q 0) + x) 0 ≡ get_or img (start_of (state_len s) (get_or after.hand.frees q 0) + x) 0
    edit_free_stays q x l h =
        edit_leaves _ (unnamed_past (sector_past (state_len s) (get_or after.hand.frees q 0) x edit_roles.fits.fits.disk.header))
        (free_unlisted (state_len s) _ after (edited_roles (state_len s) _ e buf before edit_fits edit_roles) q x l h)
