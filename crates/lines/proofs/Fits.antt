-- How long a listing can be: an item's line has at most 27 bytes, and an item stands for one entry at least. Assumes nothing.
use Prim.Native.Nat.{ℕ, ◌+◌, ◌-◌, ◌*◌, ◌^◌, ◌≤◌, ◌<◌}
use mathlib.Core.Path.{◌≡◌, refl, ap}
use mathlib.Core.List.{List, [], ◌∷◌, ◌++◌, flat_map, Memᴰ}
use native.Mathlib.Omega.{arith}
use lib.ListN.{length, length-append, length-replicate}
use Rattle.lists.specs.Lists.{Below}
use Rattle.lists.proofs.Tab.{length_tab}
use Rattle.consts.specs.Pretty.{prettify_of}
use Rattle.texts.specs.Text.{decimal_of, text_of}
use Rattle.consts.specs.declared.Sector.{Sector}
use Rattle.consts.specs.declared.Sector.TheVariants.{Free, End, Fat, Difat, Range}
use Rattle.texts.proofs.Decimal.{decimal_of_usize}
use Rattle.consts.proofs.Sound.{Sound, prettify_sound, entries_of, prettify_keeps_entries}
use Rattle.texts.proofs.Texts.{Held, text_fits}
use Rattle.lines.specs.Lines.{line_of, lines_of, counted, sectors_word, free_word, refused_word, counts_line, refused_line}

-- how long a line is, and the parts of the others
pub line_length : (s : Sector) → length (line_of s) ≡ length (text_of s) + 1
unfolding line_of
line_length s = length-append (text_of s) (10 ∷ [])

pub counted_length : (word : List ℕ) (n : ℕ) → length (counted word n) ≡ length word + length (decimal_of n)
unfolding counted
counted_length word n = length-append word (decimal_of n)

pub counts_length : (n free : ℕ) → length (counts_line n free) ≡ length (counted sectors_word n) + (length (counted free_word free) + 1)
unfolding counts_line
counts_length n free =
    let a : length (counted free_word free ++ (10 ∷ [])) ≡ length (counted free_word free) + 1 = length-append (counted free_word free) (10 ∷ []) in
    omega (arith, length-append (counted sectors_word n) (counted free_word free ++ (10 ∷ [])))

pub refused_length : (k : ℕ) → length (refused_line k) ≡ length (counted refused_word k) + 1
unfolding refused_line
refused_length k = length-append (counted refused_word k) (10 ∷ [])

-- an item stands for one entry at least
some_entries : (s : Sector) → Sound s → 1 ≤ length (entries_of s)
unfolding entries_of
some_entries (Free n) h = omega (arith, length-replicate {A = ℕ} n 0xffff_ffff)
some_entries End h = omega arith
some_entries (Fat n) h = omega (arith, length-replicate {A = ℕ} n 0xffff_fffd)
some_entries (Difat n) h = omega (arith, length-replicate {A = ℕ} n 0xffff_fffc)
some_entries (Range a b) h = omega (arith, length_tab (λ i. a + i) (b + 1 - a), h.0)

-- an item that stands for fewer than 2 ^ 64 entries is one that the code can hold
few_held : (s : Sector) → Sound s → length (entries_of s) < 2 ^ 64 → Held s
unfolding entries_of
few_held (Free n) h l = omega (arith, length-replicate {A = ℕ} n 0xffff_ffff)
few_held End h l = tt
few_held (Fat n) h l = omega (arith, length-replicate {A = ℕ} n 0xffff_fffd)
few_held (Difat n) h l = omega (arith, length-replicate {A = ℕ} n 0xffff_fffc)
few_held (Range a b) h l = (omega (arith, h.0, h.1), omega (arith, h.1))

-- the lines of items that stand for so many entries
lines_fit : (ss : List Sector) → ((s : Sector) → Memᴰ s ss → Sound s) → length (flat_map entries_of ss) < 2 ^ 64 → length (lines_of ss) ≤ 27 * length (flat_map entries_of ss)
unfolding lines_of flat_map
lines_fit [] h l = omega arith
lines_fit (s ∷ ss) h l =
    let sound : Sound s = h s (Memᴰ.head refl) in
    let both : length (entries_of s ++ flat_map entries_of ss) ≡ length (entries_of s) + length (flat_map entries_of ss) = length-append (entries_of s) (flat_map entries_of ss) in
    let text : length (text_of s) ≤ 26 = text_fits s (few_held s sound (omega arith)) in
    let line : length (line_of s) ≡ length (text_of s) + 1 = line_length s in
    let rest : length (lines_of ss) ≤ 27 * length (flat_map entries_of ss) = lines_fit ss (λ t m. h t (Memᴰ.tail m)) (omega arith) in
    let lines : length (line_of s ++ lines_of ss) ≡ length (line_of s) + length (lines_of ss) = length-append (line_of s) (lines_of ss) in
    let some : 1 ≤ length (entries_of s) = some_entries s sound in
    omega arith

-- the lines of a FAT have at most 27 bytes for each entry
pub items_fit : (xs : List ℕ) → Below (2 ^ 32) xs → length xs < 2 ^ 64 → length (lines_of (prettify_of xs)) ≤ 27 * length xs
items_fit xs small l =
    let e : flat_map entries_of (prettify_of xs) ≡ xs = prettify_keeps_entries xs small in
    let n : length (flat_map entries_of (prettify_of xs)) ≡ length xs = ap length e in
    omega (arith, lines_fit (prettify_of xs) (prettify_sound xs small) (omega arith))

-- a word and a number have at most 20 bytes beside the word
pub counted_fit : (word : List ℕ) (n : ℕ) → n < 2 ^ 64 → length (counted word n) ≤ length word + 20
counted_fit word n h = omega (arith, counted_length word n, decimal_of_usize n h)

-- the line of the counts has at most 55 bytes
pub counts_fit : (n free : ℕ) → n < 2 ^ 64 → free < 2 ^ 64 → length (counts_line n free) ≤ 55
counts_fit n free h k = omega (arith, counts_length n free, counted_fit sectors_word n h, counted_fit free_word free k)

-- the line of a refusal has at most 29
pub refused_fit : (k : ℕ) → k < 2 ^ 64 → length (refused_line k) ≤ 29
refused_fit k h = omega (arith, refused_length k, counted_fit refused_word k h)
