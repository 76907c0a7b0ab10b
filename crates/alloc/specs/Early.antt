-- What is known before any table is touched. Assumes nothing.
use Rattle.std.specs.Prelude.{ℕ, ◌≡◌, List, Result, IfOk}
use Rattle.lists.specs.Rows.{refusal}
use Rattle.consts.specs.Refusals.{ends_with}
use Rattle.consts.specs.declared.refusal.Refusal.{Refusal}
use Rattle.header.specs.Versions.{length_of}
use Rattle.header.specs.Read.{header_of}
use Rattle.header.specs.declared.Validation.{Validation}
use Rattle.fat.specs.Lists.{sectors_in}
use Rattle.alloc.specs.Opening.{first_rows}
use Rattle.alloc.specs.declared.early.Early.{Early}

-- what is known of an image whose first 11 rows do not hold: the sectors' length, how many they are, and the header
unfoldable pub early_of : List ℕ → ℕ → Early
early_of img used =
    record { len = length_of (header_of img).version; sectors = sectors_in (length_of (header_of img).version) used; header = header_of img }

-- document 01: the number of rows 1 to 11, and what is known where it is 0
pub record EarlySays (img : List ℕ) (used : ℕ) (m : Validation) (short : ℕ) (r : Result Early Refusal) : Type 0 where
  pub number : ends_with r ≡ refusal (first_rows m img used short)
  pub early : IfOk r (λ e. e ≡ early_of img used)
