-- Words that hold a state: how they are stored, each test, and the header's words one by one. Assumes nothing.
use Prim.Native.Nat.{ℕ, suc, ◌+◌, ◌≤◌, ◌<◌}
use mathlib.Core.Path.{◌≡◌, refl, sym, ◌∙◌, ap}
use mathlib.Core.Bool.{Bool, true, false, not}
use mathlib.Core.List.{List, ◌∷◌, ◌++◌}
use mathlib.Core.Logic.{◌≢◌}
use native.Mathlib.Omega.{arith}
use borrow.Author.Tests.{eq-eqb, ne_eqb, le-leb, lt-leb}
use lib.Dec.{eqb, leb}
use lib.ListN.{length, get_or, drop, set, replicate, drop_of_length-le}
use lib.Seq.{drop-cons}
use Rattle.lists.specs.Lists.{both}
use Rattle.header.specs.Versions.{version_of}
use Rattle.header.specs.Read.{unknown}
use Rattle.header.specs.declared.Version.{Version}
use Rattle.header.specs.declared.Validation.{Validation}
use Rattle.header.specs.declared.Header.{Header}
use Rattle.cfb.specs.declared.State.{State}
use Rattle.layout.specs.Layout.{mode_of, words_of, header_with, header_from}
use Rattle.states.specs.States.{mode_number, state_words, fits_in, is_version, holds, held_in}

-- four numbers put over the zeros before a header's words are the words of a state
pub state_stored : (s : State) {words held : List ℕ} {mode : ℕ} → held ≡ words_of s.header → words ≡ replicate 4 0 ++ held → mode ≡ mode_number s.mode
    → set (set (set (set words 0 mode) 1 s.used) 2 s.sectors) 3 s.free ≡ state_words s
unfolding state_words
state_stored s e w m = rw (w, e, m)

-- 3 is a version's number; of the others 4 alone is
pub version_three : (n : ℕ) → n ≡ 3 → true ≡ is_version n
unfolding is_version unknown
version_three n e = rw (eq-eqb n 3 e)

pub version_else : (n : ℕ) → n ≢ 3 → eqb n 4 ≡ is_version n
unfolding is_version unknown
version_else n ne = rw (ne_eqb n 3 ne) (twice (eqb n 4))
  where
    twice : (b : Bool) → b ≡ not (not b)
    twice true = refl
    twice false = refl

-- a word that fits, one that does not, and no word more
pub fits_more : (words : List ℕ) (i : ℕ) → fits_in (drop 4 words) ≡ fits_in (drop (4 + i) words) → 4 + i < length words → get_or words (4 + i) 0 ≤ 4294967295
    → fits_in (drop 4 words) ≡ fits_in (drop (4 + (i + 1)) words)
unfolding fits_in
fits_more words i e h low =
    let next : 4 + (i + 1) ≡ suc (4 + i) = omega arith in
    let rest : drop (4 + i) words ≡ get_or words (4 + i) 0 ∷ drop (suc (4 + i)) words = drop-cons words (4 + i) 0 h in
    let fit : leb (get_or words (4 + i) 0) 4294967295 ≡ true = le-leb (get_or words (4 + i) 0) 4294967295 low in
    e ∙ ap fits_in rest ∙ ap (λ (t : Bool). both t (fits_in (drop (suc (4 + i)) words))) fit ∙ ap (λ (j : ℕ). fits_in (drop j words)) (sym next)

pub fits_stop : (words : List ℕ) (i : ℕ) → fits_in (drop 4 words) ≡ fits_in (drop (4 + i) words) → 4 + i < length words → 4294967295 < get_or words (4 + i) 0
    → false ≡ fits_in (drop 4 words)
unfolding fits_in
fits_stop words i e h high =
    let rest : drop (4 + i) words ≡ get_or words (4 + i) 0 ∷ drop (suc (4 + i)) words = drop-cons words (4 + i) 0 h in
    let past : leb (get_or words (4 + i) 0) 4294967295 ≡ false = lt-leb (get_or words (4 + i) 0) 4294967295 high in
    sym (e ∙ ap fits_in rest ∙ ap (λ (t : Bool). both t (fits_in (drop (suc (4 + i)) words))) past)

pub fits_end : (words : List ℕ) (i : ℕ) → fits_in (drop 4 words) ≡ fits_in (drop (4 + i) words) → length words ≤ 4 + i → true ≡ fits_in (drop 4 words)
unfolding fits_in
fits_end words i e h = sym (e ∙ ap fits_in (drop_of_length-le words {i = 4 + i} h))

-- the tests of a state's words, one by one
pub mode_high : (words : List ℕ) → 1 < get_or words 0 0 → false ≡ holds words
unfolding holds
mode_high words h = rw (lt-leb (get_or words 0 0) 1 h)

pub version_none : (words : List ℕ) → get_or words 0 0 ≤ 1 → is_version (get_or words 4 0) ≡ false → false ≡ holds words
unfolding holds
version_none words h e = rw (le-leb (get_or words 0 0) 1 h, e)

pub words_fit : (words : List ℕ) → get_or words 0 0 ≤ 1 → is_version (get_or words 4 0) ≡ true → fits_in (drop 4 words) ≡ holds words
unfolding holds
words_fit words h e = rw (le-leb (get_or words 0 0) 1 h, e)

-- numbers that are read at their places, and the header behind them, are the state that the words hold
pub state_held : (words held : List ℕ) {version : Version} {header : Header} {mode : Validation} → held ≡ drop 4 words → version ≡ version_of (get_or held 0 0) → header ≡ header_with version held → mode ≡ mode_of (get_or words 0 0)
    → ◌≡◌ {A = State} (record { mode = mode; used = get_or words 1 0; sectors = get_or words 2 0; free = get_or words 3 0; header = header }) (held_in words)
unfolding held_in header_from
state_held words held e v h m = rw (m, h, v, e)
