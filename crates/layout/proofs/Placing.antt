-- A list that is put into another element by element, the words of a header, and its mode's number. Assumes nothing.
use Prim.Native.Nat.{ℕ, ◌+◌, ◌≤◌, ◌<◌}
use mathlib.Core.Path.{◌≡◌, sym, ◌∙◌, ap}
use mathlib.Core.List.{List, [], ◌∷◌, ◌++◌, append-nil}
use native.Mathlib.Numerals.{add-one}
use native.Mathlib.Omega.{arith}
use borrow.Rule.Slice.PartMut.{put_mid}
use lib.ListN.{length, get_or, take, drop, set, replicate, length-drop, length-replicate, replicate-append-replicate, drop_of_length-le}
use lib.Seq.{take-suc, take_all, length-take-le, get_or-drop, take_at}
use Rattle.lists.specs.Lists.{splice}
use Rattle.lists.proofs.Splice.{splice_whole}
use Rattle.words.proofs.Laws.{put_more, copied_more}
use Rattle.header.specs.Versions.{major_of}
use Rattle.header.specs.declared.Version.{Version}
use Rattle.header.specs.declared.Header.{Header}
use Rattle.layout.specs.Layout.{words_of, header_with}

-- one element more of a list that goes in from place o on
pub placed_more : (b : List ℕ) (o : ℕ) (xs : List ℕ) (i : ℕ) {l : List ℕ} → l ≡ splice b o (take i xs) → i < length xs → o + length xs ≤ length b
    → set l (o + i) (get_or xs i 0) ≡ splice b o (take (i + 1) xs)
placed_more b o xs i e h fits =
    let whole : length (take i xs) ≡ i = length-take-le i xs (omega arith) in
    rw (e, add-one i, take-suc xs i 0) (put_more b o (get_or xs i 0) i (take i xs) whole (omega arith))

-- the whole of a list of n behind o zeros
pub placed_all : (o n : ℕ) (xs : List ℕ) (i : ℕ) {l : List ℕ} → l ≡ splice (replicate (o + n) 0) o (take i xs) → length xs ≡ n → n ≤ i → l ≡ replicate o 0 ++ xs
unfolding splice
placed_all o n xs i e w h =
    let zeros : replicate {A = ℕ} (o + n) 0 ≡ replicate o 0 ++ replicate n 0 = sym (replicate-append-replicate {A = ℕ} o n 0) in
    let front : take o (replicate {A = ℕ} o 0 ++ replicate n 0) ≡ replicate o 0 = take_at (replicate o 0) (replicate n 0) o (length-replicate {A = ℕ} o 0) in
    let whole : length (replicate {A = ℕ} (o + n) 0) ≡ o + n = length-replicate {A = ℕ} (o + n) 0 in
    let none : drop (o + n) (replicate {A = ℕ} (o + n) 0) ≡ [] = drop_of_length-le (replicate {A = ℕ} (o + n) 0) {i = o + n} (omega arith) in
    e ∙ rw (take_all i xs (omega arith), w, none, zeros, front) (ap (λ (r : List ℕ). replicate o 0 ++ r) (append-nil xs))

-- one element more of the n that stand behind the first o
pub taken_more : (o n : ℕ) (words : List ℕ) (i : ℕ) {l : List ℕ} → l ≡ splice (replicate n 0) 0 (take i (drop o words)) → length words ≡ o + n → i < n
    → set l i (get_or words (o + i) 0) ≡ splice (replicate n 0) 0 (take (i + 1) (drop o words))
taken_more o n words i e m h =
    let rest : length (drop o words) ≡ n = omega (arith, length-drop o words, m) in
    let room : length (replicate {A = ℕ} n 0) ≡ n = length-replicate {A = ℕ} n 0 in
    rw (e, ← get_or-drop o words i 0) (copied_more (drop o words) (replicate n 0) i (omega arith) (omega arith))

-- all of what stands behind the first o
pub taken_list : (o n : ℕ) (words : List ℕ) (i : ℕ) {l : List ℕ} → l ≡ splice (replicate n 0) 0 (take i (drop o words)) → length words ≡ o + n → n ≤ i → l ≡ drop o words
taken_list o n words i e m h =
    let rest : length (drop o words) ≡ n = omega (arith, length-drop o words, m) in
    let same : length (drop o words) ≡ length (replicate {A = ℕ} n 0) = rest ∙ sym (length-replicate {A = ℕ} n 0) in
    e ∙ rw (take_all i (drop o words) (omega arith)) (splice_whole (replicate n 0) (drop o words) same)

-- eight numbers copied over the front of 117 words, and a list over the others, are the words of a header
pub words_stored : (h : Header) {numbers list : List ℕ} (rest : List ℕ) {major : ℕ} → length rest ≡ 109 → major ≡ major_of h.version
    → numbers ≡ major ∷ h.dirs ∷ h.fats ∷ h.dir ∷ h.minifat ∷ h.minifats ∷ h.difat ∷ h.difats ∷ [] → list ≡ h.list → put_mid 8 109 (numbers ++ rest) list ≡ words_of h
unfolding words_of
words_stored h rest whole m n l =
    let none : drop 109 rest ≡ [] = drop_of_length-le rest {i = 109} (omega arith) in
    rw (n, l, m, none) (ap (λ (xs : List ℕ). major_of h.version ∷ h.dirs ∷ h.fats ∷ h.dir ∷ h.minifat ∷ h.minifats ∷ h.difat ∷ h.difats ∷ xs) (append-nil h.list))

-- numbers that are read at their places, and the list behind them, are the header that 117 words hold
pub list_held : (v : Version) (words : List ℕ) {list : List ℕ} → length words ≡ 117 → list ≡ take 109 (drop 8 words)
    → ◌≡◌ {A = Header} (record { version = v; dirs = get_or words 1 0; fats = get_or words 2 0; dir = get_or words 3 0; minifat = get_or words 4 0; minifats = get_or words 5 0; difat = get_or words 6 0; difats = get_or words 7 0; list = list }) (header_with v words)
unfolding header_with
list_held v words {list = list} whole e =
    let rest : list ≡ drop 8 words = e ∙ take_all 109 (drop 8 words) (omega (arith, length-drop 8 words, whole)) in
    rw rest
