-- What a record of the list that the program `replay` reads holds: 1,024 bytes for one call and its answer. Assumes nothing.
use Rattle.std.specs.Prelude.{ℕ, ◌*◌, List, get_or}
use Rattle.lists.specs.Lists.{tab}
use Rattle.words.specs.Words.{le}
use Rattle.header.specs.declared.Version.{Version}
use Rattle.header.specs.declared.Validation.{Validation}
use Rattle.header.specs.declared.Header.{Header}
use Rattle.layout.specs.Layout.{mode_of, header_with}

-- the length of what the call is lent
unfoldable pub length_in : List ℕ → ℕ
length_in b = le 2 b 2

-- the number that the call answers
unfoldable pub number_in : List ℕ → ℕ
number_in b = get_or b 4 0

-- the mode of the call
unfoldable pub mode_in : List ℕ → Validation
unfolding mode_of
mode_in b = mode_of (get_or b 1 0)

-- the first n numbers of four bytes
unfoldable pub numbers_in : List ℕ → ℕ → List ℕ
numbers_in b n = tab (λ i. le 4 b (4 * i)) n

-- the header that 117 words hold beside a version
unfoldable pub header_in : Version → List ℕ → Header
unfolding header_with numbers_in
header_in v b = header_with v (numbers_in b 117)
