-- A change whose chain is listed is judged by the rows behind those that every change has (document 01, rows 23 and 24). Assumes nothing.
use Prim.Native.Nat.{ℕ, ◌*◌, ◌≤◌, ◌<◌}
use mathlib.Core.Path.{◌≡◌, refl, sym, ◌∙◌, ap}
use mathlib.Core.Bool.{Bool, true, false}
use mathlib.Core.List.{List, [], ◌∷◌, ◌++◌}
use mathlib.Core.Logic.{⊎_elim, ◌≢◌}
use native.Mathlib.Omega.{arith}
use borrow.Author.Tests.{ne_eqb, lt-ltb, le-ltb}
use lib.Dec.{ltb}
use lib.ListN.{length, replicate}
use Rattle.lists.specs.Rows.{Row, row, refusal, distinct, fresh}
use Rattle.lists.proofs.Cases.{true_or}
use Rattle.lists.proofs.Rows.{stop, pass, append_given, append_none, append_accepts}
use Rattle.alloc.specs.Opening.{Tables}
use Rattle.std.specs.Prelude.{Result, Ok, Err}
use Rattle.consts.specs.Refusals.{number_of}
use Rattle.consts.specs.declared.refusal.Refusal.{Refusal}
use Rattle.consts.specs.declared.refusal.Refusal.TheVariants.{Offset, NoRoom}
use Rattle.consts.proofs.Refusals.{refusal_ends, value_ends, ends_refused, ends_accepted, ends_same, number_not}
use Rattle.room.specs.Needed.{resize_more, write_more}
use Rattle.cfb.specs.Calls.{state_len, agreed_rows, walk_rows, chain_ids, ids_left}
use Rattle.moves.specs.Change.{seek_of, edit_more}
use Rattle.moves.specs.declared.change.Edit.{Edit}
use Rattle.moves.specs.declared.change.Edit.TheVariants.{Write, Resize}
use Rattle.cfb.specs.Changes.{change_rows, change_no, no_room, resize_rows, resize_no, write_rows, write_no, edit_no, Listing, Judged}
use Rattle.cfb.specs.declared.State.{State}
use Rattle.cfb.proofs.Answering.{left_zero}

-- the byte that an edit begins at, by its kind
pub seek_write : (edit : Edit) (offset : ℕ) → edit ≡ Write offset → offset ≡ seek_of edit
unfolding seek_of
seek_write edit offset e = rw e

pub seek_resize : (edit : Edit) (len : ℕ) → edit ≡ Resize len → 0 ≡ seek_of edit
unfolding seek_of
seek_resize edit len e = rw e

pub seeks_past : (edit : Edit) (at end : ℕ) → at ≡ seek_of edit → end < at → end < seek_of edit
seeks_past edit at end e h = rw e at h

pub seeks_within : (edit : Edit) (at end : ℕ) → at ≡ seek_of edit → at ≤ end → seek_of edit ≤ end
seeks_within edit at end e h = rw e at h

-- a table that refuses nothing passes over its first row
pub row_passed : (n : ℕ) (b : Bool) (rows : List Row) → n ≢ 0 → refusal (row n b ∷ rows) ≡ 0 → (b ≡ false) × (refusal rows ≡ 0)
row_passed n b rows some z =
    ⊎_elim (λ (h : b ≡ true). absurd (some (sym (stop n b rows h) ∙ z))) (λ (h : b ≡ false). (h, sym (pass n b rows h) ∙ z)) (true_or b)

-- the rows that every change has, and those behind them
module _ (s : State) (img : List ℕ) (t : Tables) (room start : ℕ) (rows : List Row) where
  early_rows : change_no s img t room start ≢ 0 → refusal (change_rows s img t room start ++ rows) ≡ change_no s img t room start
  unfolding change_no
  early_rows n = append_given (change_rows s img t room start) rows n

  last_rows : change_no s img t room start ≡ 0 → refusal (change_rows s img t room start ++ rows) ≡ refusal rows
  unfolding change_no change_rows agreed_rows walk_rows distinct fresh
  last_rows z = append_none (change_rows s img t room start) rows refl z

  pub rows_passed : refusal (change_rows s img t room start ++ rows) ≡ 0 → (change_no s img t room start ≡ 0) × (refusal rows ≡ 0)
  unfolding change_no change_rows agreed_rows walk_rows distinct fresh
  rows_passed z = (append_accepts (change_rows s img t room start) rows refl).0 z

module _ (s : State) (lent : ℕ) (w : Result ℕ Refusal) (ids : List ℕ) (l : Listing s lent w ids) where
  abbrev own_rows : List Row
  own_rows = change_rows s l.image l.tables (length l.before) l.start

  abbrev chain : List ℕ
  chain = chain_ids s l.tables l.start

  -- a refusal before them is handed on
  judged_early : (rows : List Row) (j : Refusal) → w ≡ Err j → Judged (refusal (own_rows ++ rows)) l.before chain w ids
  judged_early rows j e =
      let same = early_rows s l.image l.tables (length l.before) l.start rows (ends_refused l.listed.answer j e).0 in
      record {
        answer = ends_same (sym same) l.listed.answer;
        list = l.listed.list ∙ ap (λ (k : ℕ). ids_left k l.before chain) (sym same);
      }

  abbrev number : Edit → ℕ → ℕ
  number edit bytes = edit_no s l.image l.tables (length l.before) l.start edit bytes

  pub edit_early : (edit : Edit) (bytes : ℕ) (j : Refusal) → w ≡ Err j → Judged (number edit bytes) l.before chain w ids
  unfolding resize_no resize_rows write_no write_rows
  edit_early (Write offset) bytes j e = judged_early _ j e
  edit_early (Resize len) bytes j e = judged_early _ j e

  module _ (c : ℕ) (e : w ≡ Ok c) where
    done : (change_no s l.image l.tables (length l.before) l.start ≡ 0) × (c ≡ length chain)
    done = ends_accepted l.listed.answer c e

    -- rows that ask for the image's length and the number of ids
    module _ (rows : ℕ → ℕ → List Row) where
      behind : refusal (own_rows ++ rows (length l.image) (length chain)) ≡ refusal (rows lent c)
      behind =
          last_rows s l.image l.tables (length l.before) l.start _ done.0
          ∙ ap (λ (n : ℕ). refusal (rows n (length chain))) l.long ∙ ap (λ (n : ℕ). refusal (rows lent n)) (sym done.1)

      judged_refused : (refused : Refusal) (ids' : List ℕ) → number_of refused ≢ 11 → refusal (rows lent c) ≡ number_of refused → ids' ≡ replicate (length ids) 0
          → Judged (refusal (own_rows ++ rows (length l.image) (length chain))) l.before chain (Err refused) ids'
      judged_refused refused ids' m q z =
          let mine = behind ∙ q in
          record {
            answer = refusal_ends refused (sym mine);
            list = z ∙ ap (λ (k : ℕ). replicate k 0) l.kept ∙ left_zero (number_of refused) l.before chain (number_not refused) m ∙ ap (λ (k : ℕ). ids_left k l.before chain) (sym mine);
          }

      judged_listed : refusal (rows lent c) ≡ 0 → Judged (refusal (own_rows ++ rows (length l.image) (length chain))) l.before chain (Ok c) ids
      judged_listed q =
          let none = behind ∙ q in
          record {
            answer = value_ends c none done.1;
            list = l.listed.list ∙ ap (λ (k : ℕ). ids_left k l.before chain) (done.0 ∙ sym none);
          }

    -- by a length that is that of the state's sectors
    module _ (S : ℕ) (own : S ≡ state_len s) where
      -- the rows of a resize and of a write
      abbrev resize_last : ℕ → ℕ → ℕ → List Row
      resize_last len n count = row 24 (no_room s n (resize_more (state_len s) count len)) ∷ []

      abbrev write_last : ℕ → ℕ → ℕ → ℕ → List Row
      write_last offset bytes n count = row 23 (ltb (state_len s * count) offset) ∷ row 24 (no_room s n (write_more (state_len s) count offset bytes)) ∷ []

      room_row : (more : ℕ → ℕ) → no_room s lent (more (state_len s)) ≡ no_room s lent (more S)
      room_row more = ap (λ (x : ℕ). no_room s lent (more x)) (sym own)

      within : (offset bytes : ℕ) → offset ≤ S * c → refusal (write_last offset bytes lent c) ≡ refusal (row 24 (no_room s lent (write_more (state_len s) c offset bytes)) ∷ [])
      within offset bytes h = pass 23 _ _ (le-ltb _ offset (rw (sym own) h))

      -- an edit that begins past the end
      pub edit_past : (edit : Edit) (bytes : ℕ) (ids' : List ℕ) → S * c < seek_of edit → ids' ≡ replicate (length ids) 0 → Judged (number edit bytes) l.before chain (Err Offset) ids'
      unfolding seek_of write_no write_rows
      edit_past (Write offset) bytes ids' h z =
          judged_refused (write_last offset bytes) Offset ids' (λ q. omega arith) (stop 23 _ _ (lt-ltb _ offset (rw (sym own) h))) z
      edit_past (Resize len) bytes ids' h z = absurd (omega (arith, h))

      -- one that has no room
      pub edit_full : (edit : Edit) (bytes : ℕ) (ids' : List ℕ) → seek_of edit ≤ S * c → no_room s lent (edit_more S c edit bytes) ≡ true → ids' ≡ replicate (length ids) 0
          → Judged (number edit bytes) l.before chain (Err NoRoom) ids'
      unfolding seek_of edit_more resize_no resize_rows write_no write_rows
      edit_full (Write offset) bytes ids' i h z =
          judged_refused (write_last offset bytes) NoRoom ids' (λ q. omega arith)
          (within offset bytes i ∙ stop 24 _ [] (room_row (λ (x : ℕ). write_more x c offset bytes) ∙ h)) z
      edit_full (Resize len) bytes ids' i h z =
          judged_refused (resize_last len) NoRoom ids' (λ q. omega arith) (stop 24 _ [] (room_row (λ (x : ℕ). resize_more x c len) ∙ h)) z

      -- one that nothing stands against
      pub edit_listed : (edit : Edit) (bytes : ℕ) → seek_of edit ≤ S * c → no_room s lent (edit_more S c edit bytes) ≡ false → Judged (number edit bytes) l.before chain (Ok c) ids
      unfolding seek_of edit_more resize_no resize_rows write_no write_rows refusal
      edit_listed (Write offset) bytes i h = judged_listed (write_last offset bytes) (within offset bytes i ∙ pass 24 _ [] (room_row (λ (x : ℕ). write_more x c offset bytes) ∙ h))
      edit_listed (Resize len) bytes i h = judged_listed (resize_last len) (pass 24 _ [] (room_row (λ (x : ℕ). resize_more x c len) ∙ h))
