-- The measure is n, which each call divides by ten.
use Rattle.texts.proofs.Out.+push_decimal.Given as goal

abbrev pub decreases-push_decimal : goal.decreases-push_decimal
decreases-push_decimal l = l.n
