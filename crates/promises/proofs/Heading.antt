-- Which header bytes an accepted change can store: those that document 01 names ("Calls on a chain": header bytes not named stay). Assumes nothing.
use Prim.Native.Nat.{ℕ, ◌≤◌, ◌<◌}
use mathlib.Core.Path.{◌≡◌, ap}
use mathlib.Core.List.{List}
use native.Mathlib.Omega.{arith}
use lib.ListN.{length, get_or}
use Rattle.fields.specs.Fields.{difat_at, entries_at, offset_of}
use Rattle.fat.specs.Lists.{fat_count, difat_count}
use Rattle.alloc.specs.Opening.{Tables}
use Rattle.hand.specs.Hand.{Chain}
use Rattle.moves.specs.Change.{edited}
use Rattle.moves.specs.declared.change.Edit.{Edit}
use Rattle.edits.specs.Roles.{fats_held, difats_held}
use Rattle.edits.specs.Untouched.{Unnamed}
use Rattle.edits.proofs.Edits.{header_unlisted}
use Rattle.edits.proofs.Named.{unnamed_same, unnamed_difat}
use Rattle.cfb.specs.Calls.{state_len}
use Rattle.cfb.specs.Changes.{edit_no, chain_from}
use Rattle.cfb.specs.declared.State.{State}
use Rattle.promises.proofs.Calls.{edit_roles, edit_leaves}

-- an accepted edit
module _ (s : State) (img : List ℕ) (t : Tables) (room start : ℕ) (e : Edit) (buf : List ℕ) (z : edit_no s img t room start e (length buf) ≡ 0) where
  abbrev after : Chain
  after = edited (state_len s) (chain_from s img t room start) e buf

  -- document 01, k and d: how many FAT sectors and DIFAT sectors there are before it, and after it
  abbrev fats : ℕ
  fats = fat_count (state_len s) s.sectors

  abbrev difats : ℕ
  difats = difat_count (state_len s) fats

  abbrev fats_after : ℕ
  fats_after = fats_held (state_len s) after.hand.disk

  abbrev difats_after : ℕ
  difats_after = difats_held (state_len s) after.hand.disk

  -- document 01: header bytes not named stay
  pub edit_names : (b : ℕ) → b < state_len s → Unnamed fats fats_after difats difats_after b → get_or after.hand.disk.image b 0 ≡ get_or img b 0
  unfolding chain_from
  edit_names b low n = edit_leaves s img t room start e buf z b n (header_unlisted (state_len s) after b low)

  -- so one that adds no FAT sector stores nothing in the header,
  pub edit_header : fats_after ≡ fats → (b : ℕ) → b < state_len s → get_or after.hand.disk.image b 0 ≡ get_or img b 0
  edit_header same b low = edit_names b low (unnamed_same same (ap (difat_count (state_len s)) same))

  -- and one that adds no DIFAT sector leaves header 68 to 75, the first DIFAT sector and their number, as they were
  pub edit_difat_stays : difats_after ≡ difats → (b : ℕ) → offset_of difat_at ≤ b → b < offset_of entries_at → get_or after.hand.disk.image b 0 ≡ get_or img b 0
  edit_difat_stays same b low high = edit_names b (omega (arith, high, (edit_roles s img t room start e buf z).fits.fits.disk.header)) (unnamed_difat same low high)
