-- A refusal is handed on; an edit that begins past the end and a lack of room are rows 23 and 24.
use mathlib.Core.Path.{◌≡◌, sym, ◌∙◌, ap}
use native.Mathlib.Omega.{arith}
use Rattle.std.proofs.lemmas.Result.{err_from_is_err_and}
use Rattle.moves.specs.Change.{edit_more}
use Rattle.cfb.specs.Changes.{no_room}
use Rattle.cfb.proofs.Fitted.{length_least, length_most}
use Rattle.cfb.proofs.Judging.{seeks_past, seeks_within, edit_early, edit_past, edit_full, edit_listed}
use Rattle.cfb.proofs.Ready.{listing_room, listing_small}
use Rattle.cfb.proofs.changes.edit_listed.Goals as goal
use Rattle.cfb.proofs.changes.edit_listed.Goals.{After-no_room}

-- whether there is room is that of the row
room_is : (c : After-no_room) → c.no_room.result ≡ no_room c.args.s c.args.lent (edit_more c.len_of-len.result c.in_ok-count.count c.args.edit c.args.bytes)
room_is c = c.no_room.ensures ∙ ap (no_room _ _) c.more_of.ensures

pub returns-in_err-count : goal.returns-in_err-count
returns-in_err-count c =
    let e = err_from_is_err_and c.from_residual.result c.from_residual.ensures.1 in
    λ l. rw (e.1, e.2, ← c.in_err-count.was) (edit_early _ _ _ _ l c.args.edit c.args.bytes _ c.in_err-count.was)

pub overflow_mul-len : goal.overflow_mul-len
overflow_mul-len c = omega (arith, listing_small _ _ _ _ c.requires _ c.in_ok-count.was c.len_of-len.ensures)

pub returns-then-len-count : goal.returns-then-len-count
returns-then-len-count c =
    λ l. edit_past _ _ _ _ l _ c.in_ok-count.was _ c.len_of-len.ensures _ _ _ (seeks_past _ _ _ c.seek_of.ensures c.if-len-count.true) (c.fill.ensures.after (λ y e. e))

pub more_of-requires : goal.more_of-requires
more_of-requires c =
    let v = c.args.s.header.version in
    (omega (arith, c.len_of-len.ensures, length_least v), omega (arith, c.len_of-len.ensures, length_most v), seeks_within _ _ _ c.seek_of.ensures c.if-len-count.false, omega (arith, listing_small _ _ _ _ c.requires _ c.in_ok-count.was c.len_of-len.ensures))

pub no_room-requires : goal.no_room-requires
no_room-requires c =
    listing_room _ _ _ _ c.requires _ c.in_ok-count.was

pub returns-then-no_room : goal.returns-then-no_room
returns-then-no_room c =
    let passed = goal.at.returns-then-no_room c in
    λ l. edit_full _ _ _ _ l _ c.in_ok-count.was _ c.len_of-len.ensures _ _ _ (seeks_within _ _ _ c.seek_of.ensures c.if-len-count.false) (sym (room_is passed.After-no_room) ∙ c.if-no_room.true) (c.fill-then-no_room.ensures.after (λ y e. e))

pub returns : goal.returns
returns c =
    let passed = goal.at.returns c in
    λ l. edit_listed _ _ _ _ l _ c.in_ok-count.was _ c.len_of-len.ensures _ _ (seeks_within _ _ _ c.seek_of.ensures c.if-len-count.false) (sym (room_is passed.After-no_room) ∙ c.if-no_room.false)
