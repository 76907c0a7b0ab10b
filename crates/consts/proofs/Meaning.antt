-- When an entry has which kind. Assumes nothing.
use Prim.Native.Nat.{ℕ, ◌≤◌, ◌<◌, ◌^◌}
use mathlib.Core.Path.{◌≡◌, sym, subst}
use mathlib.Core.Logic.{◌⊎◌, inl, inr, ◌≢◌, ◌↔◌}
use native.Mathlib.Omega.{arith}
use borrow.Author.Tests.{le-leb}
use Rattle.lists.proofs.Cases.{below_or, same_or}
use Rattle.consts.specs.Consts.{max_regular, invalid_sector, difat_sector, fat_sector, end_of_chain, free_sector}
use Rattle.consts.specs.Kinds.{kind_of}
use Rattle.consts.specs.declared.Kind.{Kind}
use Rattle.consts.specs.declared.Kind.TheVariants.{Regular, Reserved, Difat, Fat, End, Free}

-- MS-CFB 2.1: the numbers of each kind.
abbrev pub Means : Kind → ℕ → Type 0
Means Regular v = v ≤ max_regular
Means Reserved v = v ≡ invalid_sector
Means Difat v = v ≡ difat_sector
Means Fat v = v ≡ fat_sector
Means End v = v ≡ end_of_chain
Means Free v = v ≡ free_sector

-- A number of a kind has that kind.
pub kind_is : (k : Kind) (v : ℕ) → Means k v → k ≡ kind_of v
unfolding kind_of
kind_is Regular v h = rw (le-leb v max_regular h)
kind_is Reserved v h = rw h
kind_is Difat v h = rw h
kind_is Fat v h = rw h
kind_is End v h = rw h
kind_is Free v h = rw h

-- Every u32 is a number of the kind that it has.
pub means_of_kind : (v : ℕ) → v < 2 ^ 32 → Means (kind_of v) v
means_of_kind v h = regular (below_or max_regular v)
  where
    known : (k : Kind) → Means k v → Means (kind_of v) v
    known k m = subst (λ (j : Kind). Means j v) (kind_is k v m) m

    free : v ≢ end_of_chain → fat_sector < v → Means (kind_of v) v
    free ne high = known Free (omega arith)

    fat : difat_sector < v → (v ≡ fat_sector) ⊎ (v ≢ fat_sector) → (v ≡ end_of_chain) ⊎ (v ≢ end_of_chain) → Means (kind_of v) v
    fat high (inl e) o = known Fat e
    fat high (inr ne) (inl e) = known End e
    fat high (inr ne) (inr no_end) = free no_end (omega arith)

    difat : max_regular < v → (v ≡ invalid_sector) ⊎ (v ≢ invalid_sector) → (v ≡ difat_sector) ⊎ (v ≢ difat_sector) → Means (kind_of v) v
    difat high (inl e) o = known Reserved e
    difat high (inr ne) (inl e) = known Difat e
    difat high (inr ne) (inr no_difat) = fat (omega arith) (same_or v fat_sector) (same_or v end_of_chain)

    regular : (max_regular < v) ⊎ (v ≤ max_regular) → Means (kind_of v) v
    regular (inl high) = difat high (same_or v invalid_sector) (same_or v difat_sector)
    regular (inr low) = known Regular low

-- An entry has a kind exactly when it is one of the kind's numbers.
pub kind_exactly : (v : ℕ) → v < 2 ^ 32 → (k : Kind) → (kind_of v ≡ k) ↔ Means k v
kind_exactly v h k = (λ e. subst (λ (j : Kind). Means j v) e (means_of_kind v h), λ m. sym (kind_is k v m))
