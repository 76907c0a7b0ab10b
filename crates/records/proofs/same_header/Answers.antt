-- Headers that are found to be the same are one.
use mathlib.Core.Path.{◌∙◌, sym}
use Rattle.agree.proofs.Comparing.{header_eq, header_exactly}
use Rattle.records.proofs.same_header.Goals as goal

pub returns : goal.returns
returns c = λ e. (header_exactly _ _).0 (sym (c.eq.ensures ∙ header_eq _ _) ∙ e)
