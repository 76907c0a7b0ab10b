-- A chain of none leaves everything; else the entry of its last sector is made to point at the new one.
use Rattle.std.proofs.Common.{rules}
use mathlib.Core.Path.{◌∙◌}
use Rattle.hand.specs.Hand.{linked}
use Rattle.hand.proofs.Linking.{last_linked}
use Rattle.hand.proofs.parts.link_last.Goals as goal

pub returns-in-Some : goal.returns-in-Some
returns-in-Some c =
    let last = c.in-Some.ensures.item.3 in
    λ difats frees free. c.point.ensures difats frees free ∙ last_linked _ _ _ _ _ _ c.requires.listed last.0 (last.1 0)

pub returns-in_default : goal.returns-in_default
unfolding linked
returns-in_default c = λ difats frees free. search rules
