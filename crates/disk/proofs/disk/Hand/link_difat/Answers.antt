-- Where there is no DIFAT sector the link is the header's field; else it is the last entry of the last one.
use Rattle.std.proofs.Common.{rules}
use Rattle.disk.specs.Disk.{store, link_place}
use Rattle.disk.proofs.disk.Hand.link_difat.Goals as goal

pub returns-then-j-eq0 : goal.returns-then-j-eq0
unfolding store link_place
returns-then-j-eq0 c = search rules

pub returns : goal.returns
unfolding store link_place
returns c = search rules
