-- What is free needs no room; the rest is counted against it.
use mathlib.Core.Path.{◌≡◌, ◌∙◌, ap}
use native.Mathlib.Omega.{arith}
use Rattle.header.specs.Versions.{length_of}
use Rattle.header.specs.declared.Version.{Version}
use Rattle.fat.specs.Lists.{room_of}
use Rattle.cfb.specs.Calls.{state_len}
use Rattle.cfb.proofs.Ending.{room_free, room_asked}
use Rattle.cfb.proofs.Fitted.{length_least, length_most, room_most}
use Rattle.cfb.proofs.changes.no_room.Goals as goal
use Rattle.cfb.proofs.changes.no_room.Goals.{After-room_of-room}

-- the room is that of the state's sectors
room_is : (c : After-room_of-room) → c.room_of-room.result ≡ room_of (state_len c.args.s) c.args.lent
room_is c = c.room_of-room.ensures ∙ ap (λ (v : Version). room_of (length_of v) c.args.lent) c.version.ensures

pub returns-then-more-s : goal.returns-then-more-s
returns-then-more-s c = room_free _ _ _ c.requires c.if-more-s.true

pub has_room-requires : goal.has_room-requires
has_room-requires c =
    let passed = goal.at.has_room-requires c in
    let v = c.args.s.header.version in
    (omega (arith, c.len_of.ensures, length_least v), omega (arith, c.len_of.ensures, length_most v), omega (arith, room_is passed.After-room_of-room, c.requires), omega (arith, room_is passed.After-room_of-room, room_most (state_len c.args.s) c.args.lent))

pub returns : goal.returns
returns c =
    let passed = goal.at.returns c in
    room_asked _ _ _ _ _ _ c.len_of.ensures (room_is passed.After-room_of-room) c.has_room.ensures
