-- The lines of a listing: of the counts, of each item, of a refusal (document 01, the end of "Cases from the shelf"). Assumes nothing.
use Rattle.std.specs.Prelude.{ℕ, List, [], ◌∷◌, ◌++◌}
use Rattle.consts.specs.Pretty.{prettify_of}
use Rattle.texts.specs.Text.{decimal_of, text_of}
use Rattle.consts.specs.declared.Sector.{Sector}

-- document 01, "one item a line": the text of an item and a line feed
unfoldable pub line_of : Sector → List ℕ
unfolding text_of
line_of s = text_of s ++ (10 ∷ [])

-- document 01, "one item a line": the lines of all items
unfoldable pub lines_of : List Sector → List ℕ
unfolding line_of
lines_of [] = []
lines_of (s ∷ ss) = line_of s ++ lines_of ss

-- document 01, the text for Q: the word "sectors " in ASCII
abbrev pub sectors_word : List ℕ
sectors_word = 115 ∷ 101 ∷ 99 ∷ 116 ∷ 111 ∷ 114 ∷ 115 ∷ 32 ∷ []

-- document 01, the text for Q: the word " free " in ASCII
abbrev pub free_word : List ℕ
free_word = 32 ∷ 102 ∷ 114 ∷ 101 ∷ 101 ∷ 32 ∷ []

-- document 01, "writes `refused`": the word "refused " in ASCII
abbrev pub refused_word : List ℕ
refused_word = 114 ∷ 101 ∷ 102 ∷ 117 ∷ 115 ∷ 101 ∷ 100 ∷ 32 ∷ []

-- document 01, the text for Q: a word and a number in decimal
unfoldable pub counted : List ℕ → ℕ → List ℕ
unfolding decimal_of
counted word n = word ++ decimal_of n

-- document 01, the text for Q: the line `sectors N free M`
unfoldable pub counts_line : ℕ → ℕ → List ℕ
unfolding counted
counts_line n free = counted sectors_word n ++ (counted free_word free ++ (10 ∷ []))

-- document 01, "`refused` and the number on one line"
unfoldable pub refused_line : ℕ → List ℕ
unfolding counted
refused_line k = counted refused_word k ++ (10 ∷ [])

-- document 01, "lists the FAT as `prettify` does": the line of the counts, and the lines of the items
unfoldable pub listed : ℕ → ℕ → List ℕ → List ℕ
unfolding counts_line lines_of prettify_of
listed n free fat = counts_line n free ++ lines_of (prettify_of fat)
