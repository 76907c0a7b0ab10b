-- The lines of items, one item after the other. Assumes nothing.
use mathlib.Core.Path.{◌≡◌, ◌∙◌, sym, ap}
use mathlib.Core.List.{List, [], ◌∷◌, ◌++◌, append_assoc, append-nil}
use Rattle.consts.specs.declared.Sector.{Sector}
use Rattle.lines.specs.Lines.{line_of, lines_of}

-- one item more
pub lines_more : (ss : List Sector) (s : Sector) → lines_of ss ++ line_of s ≡ lines_of (ss ++ (s ∷ []))
unfolding lines_of
lines_more [] s = sym (append-nil (line_of s))
lines_more (t ∷ ss) s =
    append_assoc (line_of t) (lines_of ss) (line_of s) ∙ ap (λ l. line_of t ++ l) (lines_more ss s)
