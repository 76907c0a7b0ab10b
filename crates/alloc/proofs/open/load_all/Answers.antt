-- The tables are made zero and loaded; where that is refused they are made zero again, and only the number counts.
use mathlib.Core.Path.{◌∙◌}
use Rattle.alloc.proofs.Filled.{lent_zeroed, zeroed_same, filled_loaded, refused_loaded}
use Rattle.alloc.proofs.open.load_all.Goals as goal

pub load_zeroed-loaded-requires : goal.load_zeroed-loaded-requires
load_zeroed-loaded-requires c = lent_zeroed c.requires c.clear.ensures.zero

pub returns-then-is_err-clause-loaded : goal.returns-then-is_err-clause-loaded
returns-then-is_err-clause-loaded c =
    refused_loaded _ c.if-is_err.ensures.value c.load_zeroed-loaded.ensures.filled
    (c.clear-then-is_err.ensures.zero ∙ zeroed_same c.load_zeroed-loaded.ensures.same ∙ zeroed_same c.clear.ensures.same)

pub returns-else-is_err-clause-loaded : goal.returns-else-is_err-clause-loaded
returns-else-is_err-clause-loaded c = filled_loaded _ c.if-is_err.ensures.value c.clear.ensures.zero c.load_zeroed-loaded.ensures.filled
