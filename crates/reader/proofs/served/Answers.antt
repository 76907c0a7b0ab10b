-- The field's number where both tests hold, and 0 where one turns away.
use Rattle.std.proofs.Common.{rules, sym, ◌∙◌}
use Rattle.reader.proofs.Serving.{served_is, served_short, served_none}
use Rattle.reader.proofs.served.Goals as goal
use Rattle.reader.proofs.served.Goals.{else-b-ge-HEADER_LEN-via-then-b-ge-HEADER_LEN+else-holds_number, else-b-ge-HEADER_LEN-via-else-b-ge-HEADER_LEN}

pub returns-then-holds_number : goal.returns-then-holds_number
returns-then-holds_number c = c.number_at.ensures ∙ sym (served_is _ c.args.place c.if-b-ge-HEADER_LEN.true (search rules))

pub returns-else-b-ge-HEADER_LEN : goal.returns-else-b-ge-HEADER_LEN
returns-else-b-ge-HEADER_LEN c =
    elim c.else-b-ge-HEADER_LEN.branch [
      | else-b-ge-HEADER_LEN-via-then-b-ge-HEADER_LEN+else-holds_number w ↦ sym (served_none _ c.args.place (search rules))
      | else-b-ge-HEADER_LEN-via-else-b-ge-HEADER_LEN w ↦ sym (served_short _ c.args.place w.if-b-ge-HEADER_LEN.false)
    ]
