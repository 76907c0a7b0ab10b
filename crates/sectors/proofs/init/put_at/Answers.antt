-- The part that is lent is sector id, and the entry is stored in it.
use native.Mathlib.Omega.{arith}
use Rattle.words.proofs.Laws.{length_digits}
use Rattle.sectors.proofs.New.{put_part}
use Rattle.sectors.proofs.init.put_at.Goals as goal

pub returns : goal.returns
returns c = put_part _ _ _ _ _ _ _ _ (omega (arith, length_digits 4 c.args.v, c.requires.j_bound)) c.requires.s_in_bounds c.span.ensures c.put_entry.ensures
