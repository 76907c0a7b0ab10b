-- After an accepted edit, a resize or a write, state, image and tables agree again: a strict opening of the bytes finds them. Assumes nothing.
use Prim.Native.Nat.{ℕ}
use mathlib.Core.Path.{◌≡◌, sym, ◌∙◌, ap}
use mathlib.Core.List.{List}
use mathlib.Core.Logic.{inl}
use native.Mathlib.Omega.{arith}
use lib.ListN.{length}
use Rattle.header.specs.Versions.{length_of}
use Rattle.header.specs.Read.{header_of}
use Rattle.header.specs.declared.Header.{Header}
use Rattle.header.specs.declared.Validation.TheVariants.{Strict}
use Rattle.header.proofs.Given.{strict}
use Rattle.fat.specs.Lists.{room_of}
use Rattle.alloc.specs.Opening.{Tables}
use Rattle.agree.specs.Agrees.{Agrees}
use Rattle.hand.specs.Hand.{Chain}
use Rattle.hand.specs.Fits.{FitsChain}
use Rattle.moves.specs.Change.{edited, FitsEdit}
use Rattle.moves.specs.declared.change.Edit.{Edit}
use Rattle.moves.specs.declared.change.Edit.TheVariants.{Write, Resize}
use Rattle.moves.proofs.Changing.{resized_long, written_long}
use Rattle.moves.proofs.Editing.{edit_write, edit_resize, edited_fits}
use Rattle.edits.specs.Roles.{Roles}
use Rattle.edits.proofs.Edits.{header_unlisted}
use Rattle.edits.proofs.Named.{unnamed_outside}
use Rattle.cfb.specs.Calls.{state_len}
use Rattle.cfb.specs.Changes.{change_no, edit_no, chain_from, state_from, tables_in}
use Rattle.cfb.specs.declared.State.{State}
use Rattle.cfb.proofs.Ready.{agrees, strict_mode}
use Rattle.promises.specs.Coded.{Coded}
use Rattle.promises.specs.Tails.{Tailed}
use Rattle.promises.proofs.Calls.{edit_rows, edit_roles, edit_fits, edit_forms, edit_leaves}
use Rattle.promises.proofs.Coding.{coded_resized, coded_written}
use Rattle.promises.proofs.Encoding.{coded_list}
use Rattle.promises.proofs.Reopening.{Alike, Headed, headed, before_headed, before_coded, before_tailed, reopens_at}
use Rattle.promises.proofs.Tailing.{tailed_resized, tailed_written}

-- document 01, 19: state and tables of a chain in hand agree with its image
abbrev pub AgreesAfter : State → Chain → Type 0
AgreesAfter s c =
    Agrees Strict c.hand.disk.image (state_from s c).used (state_from s c).sectors (state_from s c).free (state_from s c).header (tables_in c)

-- what holds of a chain resized and of one written, once over the edit: its image is as long as before,
edited_long : (S R : ℕ) (e : Edit) (buf : List ℕ) (c : Chain) → FitsEdit S R e (length buf) c → length (edited S c e buf).hand.disk.image ≡ length c.hand.disk.image
edited_long S R (Write offset) buf c f = (written_long S R offset buf c (edit_write S R offset (length buf) c f)).hand.disk.image_same
edited_long S R (Resize len) buf c f = (resized_long S R len c (edit_resize S R len (length buf) c f)).hand.disk.image_same

-- the bytes that it leaves say what the tables that it leaves say,
edited_coded : (S R : ℕ) (e : Edit) (buf : List ℕ) (c : Chain) → FitsEdit S R e (length buf) c → Roles S R c → Coded S c.hand.disk → Coded S (edited S c e buf).hand.disk
edited_coded S R (Write offset) buf c f r w = coded_written S R offset buf c (edit_write S R offset (length buf) c f) r w
edited_coded S R (Resize len) buf c f r w = coded_resized S R len c (edit_resize S R len (length buf) c f) r w

-- and past its count each table holds zero then
edited_tailed : (S R : ℕ) (e : Edit) (buf : List ℕ) (c : Chain) → FitsEdit S R e (length buf) c → Tailed S c.hand → Tailed S (edited S c e buf).hand
edited_tailed S R (Write offset) buf c f w = tailed_written S R offset buf c (edit_write S R offset (length buf) c f) w
edited_tailed S R (Resize len) buf c f w = tailed_resized S R len c (edit_resize S R len (length buf) c f) w

-- an accepted edit
module _ (s : State) (img : List ℕ) (t : Tables) (room start : ℕ) (e : Edit) (buf : List ℕ) (z : edit_no s img t room start e (length buf) ≡ 0) where
  abbrev before : Chain
  before = chain_from s img t room start

  abbrev after : Chain
  after = edited (state_len s) before e buf

  abbrev R : ℕ
  R = room_of (state_len s) (length img)

  rows : change_no s img t room start ≡ 0
  rows = edit_rows s img t room start e (length buf) z

  can : FitsEdit (state_len s) R e (length buf) before
  can = edit_fits s img t room start e buf z

  -- what it leaves is a chain in hand, in an image as long as before, whose bytes say what its tables say
  after_fits : FitsChain (state_len s) R after
  after_fits = edited_fits (state_len s) R e buf before can

  after_long : length after.hand.disk.image ≡ length img
  unfolding chain_from
  after_long = edited_long (state_len s) R e buf before can

  after_coded : Coded (state_len s) after.hand.disk
  after_coded = edited_coded (state_len s) R e buf before can (edit_roles s img t room start e buf z) (before_coded s img t room start rows)

  -- MS-CFB 2.2: the header's other fields stay
  after_alike : Alike img after.hand.disk.image
  after_alike = record {
    long = after_long;
    bytes = λ b apart l. edit_leaves s img t room start e buf z b (unnamed_outside apart (inl l)) (header_unlisted (state_len s) after b (omega (arith, l, after_fits.fits.disk.header)));
  }

  after_headed : Headed img after.hand.disk.image
  after_headed = headed img after.hand.disk.image after_alike (before_headed s img t room start rows) (coded_list (state_len s) R after.hand.disk after_fits.fits.disk after_coded)

  -- document 01, S: a sector is as long as before
  pub edit_len : length_of (header_of after.hand.disk.image).version ≡ state_len s
  edit_len = ap length_of after_headed.version ∙ ap (λ (h : Header). length_of h.version) (sym (agrees s img t room start rows).header)

  -- document 01, 19: the state, the image and the tables that it leaves agree
  pub edit_agrees : AgreesAfter s after
  unfolding state_from tables_in
  edit_agrees =
      reopens_at after.hand (state_len s) R edit_len after_fits.fits (omega (arith, ap (room_of (state_len s)) after_long)) (edit_forms s img t room start e buf z) after_coded
      (edited_tailed (state_len s) R e buf before can (before_tailed s img t room start rows)) after_headed.rows

  -- and the state is strict
  pub edit_strict : (state_from s after).mode ≡ Strict
  unfolding state_from
  edit_strict = strict s.mode (strict_mode s img t room start rows)
