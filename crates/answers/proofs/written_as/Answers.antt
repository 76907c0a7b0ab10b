-- `written_as` meets its contract: the writer's own, over the bytes that `put_before` puts. Assumes nothing.
use Rattle.std.proofs.Common.{sym, ◌∙◌}
use Rattle.std.proofs.lemmas.Slice.Eq.{slice_eq-Decides}
use Rattle.std.proofs.lemmas.Bool.Decides.{Decides-eqb}
use Rattle.answers.proofs.Agreed.{written_agrees}
use Rattle.answers.proofs.written_as.Goals as goal

pub returns-then-ends_with-number : goal.returns-then-ends_with-number
returns-then-ends_with-number c =
    let put = c.put_before in
    λ e.
    written_agrees _ _ put.ensures put.auto.buf c.write_to-written.ensures (sym c.ends_with.ensures ∙ c.if-ends_with-number.true) ((slice_eq-Decides Decides-eqb _ _ _ c.eq.ensures).0 e)
