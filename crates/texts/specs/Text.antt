-- The text of an item, in ASCII, from the Rust's `Debug` of `Sector`. Assumes nothing.
use Rattle.std.specs.Prelude.{ℕ, zero, suc, ◌+◌, ◌-◌, ◌/◌, ◌%◌, ◌≡◌, ◌≤◌, List, [], ◌∷◌, ◌++◌, ltb, eqb, length, replicate}
use Rattle.lists.specs.Lists.{choose, splice}
use Rattle.consts.specs.declared.Sector.{Sector}
use Rattle.consts.specs.declared.Sector.TheVariants.{Free, End, Fat, Difat, Range}
use Rattle.texts.specs.declared.Out.{Out}
use Rattle.texts.specs.declared.Text.{Text}

-- `{n}`, f + 1 digits at most: one digit, or the digits of n / 10 and the last one.
unfoldable pub digits : ℕ → ℕ → List ℕ
digits zero n = (48 + n) ∷ []
digits (suc f) n =
    let front = digits f (n / 10) in
    choose (ltb n 10) ((48 + n) ∷ []) (front ++ ((48 + n % 10) ∷ []))

-- `{n}`: the decimal digits of n, with no zero in front.
unfoldable pub decimal_of : ℕ → List ℕ
unfolding digits
decimal_of n = digits n n

-- `Free(1)` and `Free(n)`: the word for one, and the count, a space and the word for any other count.
unfoldable pub count_of : ℕ → List ℕ → List ℕ
unfolding decimal_of
count_of n word = choose (eqb n 1) word (decimal_of n ++ (32 ∷ word))

-- `Range(start, end)`: one number, or `start..=end`.
unfoldable pub range_of : ℕ → ℕ → List ℕ
unfolding decimal_of
range_of a b = choose (eqb a b) (decimal_of a) (decimal_of a ++ (46 ∷ 46 ∷ 61 ∷ decimal_of b))

-- `Debug` of `Sector`: the word FREE.
abbrev pub free : List ℕ
free = 70 ∷ 82 ∷ 69 ∷ 69 ∷ []

-- `Debug` of `Sector`: the word EOC.
abbrev pub eoc : List ℕ
eoc = 69 ∷ 79 ∷ 67 ∷ []

-- `Debug` of `Sector`: the word FAT.
abbrev pub fat : List ℕ
fat = 70 ∷ 65 ∷ 84 ∷ []

-- `Debug` of `Sector`: the word DIFAT.
abbrev pub difat : List ℕ
difat = 68 ∷ 73 ∷ 70 ∷ 65 ∷ 84 ∷ []

-- `Debug` of `Sector`: the text of an item.
unfoldable pub text_of : Sector → List ℕ
unfolding count_of range_of
text_of (Free n) = count_of n free
text_of End = eoc
text_of (Fat n) = count_of n fat
text_of (Difat n) = count_of n difat
text_of (Range a b) = range_of a b

-- `Debug` of `Sector`, as `text_of` gives it: the text at the front of 32 bytes, zeros after it, and its length.
unfoldable pub written : List ℕ → Text
written xs = record { bytes = xs ++ replicate (32 - length xs) 0; len = length xs }

-- `write!`, as the functions that put a text into a buffer do it: the text over the buffer from `at` on, and the place past it.
pub record Put (before : List ℕ) (at : ℕ) (xs : List ℕ) (r : ℕ) (after : List ℕ) : Type 0 where
  pub place : r ≡ at + length xs
  pub kept : length after ≡ length before
  pub buffer : after ≡ splice before at xs

-- the same, of a buffer that is put into: xs stands behind what was put before, within the buffer, which is the one that was lent
pub record Pushed (old : Out) (xs : List ℕ) (new : Out) : Type 0 where
  pub same : new.buf.ghost_name ≡ old.buf.ghost_name
  pub put : Put old.buf.now old.len xs new.len new.buf.now
  pub within : new.len ≤ length new.buf.now
