-- What `prettify` finds: the length of a run, the end of a range, the entries of an item. Assumes nothing.
use Rattle.std.specs.Prelude.{ℕ, ◌+◌, ◌-◌, List, [], ◌∷◌, ◌==◌}
use Rattle.std.specs.List.{prefix_len}
use Rattle.lists.specs.Lists.{choose}
use Rattle.consts.specs.Pretty.{goes_on}
use Rattle.consts.specs.declared.Sector.{Sector}
use Rattle.consts.specs.declared.Sector.TheVariants.{Free, End, Fat, Difat, Range}

-- `prettify`, `*i += 1`: how often it is done, which is how many entries at the front are v.
unfoldable pub run_of : ℕ → List ℕ → ℕ
run_of v xs = prefix_len (λ x. x == v) xs

-- `prettify`, `*end += 1`: where it leads, which is the last number of a range that has come to b.
unfoldable pub end_of : ℕ → List ℕ → ℕ
unfolding goes_on
end_of b [] = b
end_of b (x ∷ xs) =
    let more = end_of (b + 1) xs in
    choose (goes_on b x) more b

-- how many entries an item stands for
abbrev pub size_of : Sector → ℕ
size_of (Free n) = n
size_of End = 1
size_of (Fat n) = n
size_of (Difat n) = n
size_of (Range a b) = b - a + 1
