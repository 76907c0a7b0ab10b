-- What a record holds, and what a comparison that fails says. Assumes nothing.
use Prim.Native.Nat.{ℕ, ◌≤◌}
use mathlib.Core.Path.{◌≡◌, refl, ◌∙◌, sym, ap}
use mathlib.Core.Bool.{Bool, true, false, not}
use mathlib.Core.List.{List, ◌++◌, append-nil}
use native.Mathlib.Omega.{arith}
use lib.ListN.{length, drop, drop_of_length-le}
use Rattle.lists.specs.Lists.{tab}
use Rattle.lists.proofs.Cases.{not_both}
use Rattle.header.specs.declared.Version.{Version}
use Rattle.header.specs.declared.Header.{Header}
use Rattle.layout.specs.Layout.{header_with}
use Rattle.records.specs.Records.{numbers_in, header_in}

-- a comparison that fails says nothing
pub never : {A : Type 0} → false ≡ true → A
never e = absurd (not_both e refl)

-- a test whose opposite fails holds
pub not_false : (t : Bool) → not t ≡ false → t ≡ true
not_false true e = refl
not_false false e = sym e

-- the header of the words that were taken
pub header_held : (v : Version) (b : List ℕ) {words : List ℕ} {h : Header} → h ≡ header_with v words → words ≡ numbers_in b 117 → h ≡ header_in v b
unfolding header_in
header_held v b e w = e ∙ ap (header_with v) w

-- a list that is filled to its end holds the values alone
pub filled_all : (f : ℕ → ℕ) (d : List ℕ) (i : ℕ) {l : List ℕ} → l ≡ tab f i ++ drop i d → i ≤ length d → length d ≤ i → l ≡ tab f (length d)
filled_all f d i e low high =
    let same : i ≡ length d = omega arith in
    e ∙ rw (drop_of_length-le d high, append-nil (tab f i), same)
