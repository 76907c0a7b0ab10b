-- Five rests, each looked through.
use Rattle.std.proofs.Common.{ℕ, List, Bool, ◌≡◌, eqb}
use Rattle.std.specs.List.{list_all}
use Rattle.agree.specs.Parts.{all_zero}
use Rattle.agree.proofs.Comparing.{tails_all, zeros_told}
use Rattle.agree.proofs.whole.tails_zero.Goals as goal

pub returns : goal.returns
returns c =
    tails_all _ _ _ _ _ _ _ _ _ _ (told _ _ c.zeros_from-5.ensures) (told _ _ c.zeros_from.ensures) (told _ _ c.zeros_from-2.ensures) (told _ _ c.zeros_from-3.ensures) (told _ _ c.zeros_from-4.ensures)
  where
    told : (xs : List ℕ) (r : Bool) → (zero : ℕ) × (zero ≡ 0) × (r ≡ list_all (λ x. eqb x zero) xs) → r ≡ all_zero xs
    told xs r e = zeros_told xs e.0 r e.1 e.2
