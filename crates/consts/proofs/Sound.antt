-- What the short list says of its entries: counts of one or more, ranges that do not wrap, and nothing lost. Assumes nothing.
use Prim.Native.Nat.{ℕ, suc, ◌+◌, ◌-◌, ◌^◌, ◌≤◌, ◌<◌}
use mathlib.Core.Path.{◌≡◌, refl, ◌∙◌, sym, ap, subst}
use mathlib.Core.Bool.{true, false}
use mathlib.Core.List.Memᴰ
use mathlib.Core.List.{List, [], ◌∷◌, ◌++◌, flat_map, Memᴰ}
use mathlib.Core.Logic.{◌⊎◌, inl, inr, ⊎_elim, ◌≢◌}
use native.Mathlib.Omega.{arith}
use native.Mathlib.Nat.{add-zero}
use borrow.Author.Tests.{eqb-true}
use lib.Dec.{eqb}
use lib.ListN.{replicate, replicate-append-replicate}
use lib.Seq.{append_snoc}
use Rattle.lists.specs.Lists.{tab, Below}
use Rattle.lists.proofs.Cases.{same_or, true_or, not_both}
use Rattle.lists.proofs.Tab.{tab_suc}
use Rattle.consts.specs.Consts.{invalid_sector, difat_sector, fat_sector, end_of_chain, free_sector}
use Rattle.consts.specs.Pretty.{begun, joins, grown, gather, prettify_of}
use Rattle.consts.specs.declared.Sector.{Sector}
use Rattle.consts.specs.declared.Sector.TheVariants.{Free, End, Fat, Difat, Range}
use Rattle.consts.proofs.Runs.{gone_on}
use Rattle.consts.proofs.Items.{begun_range}
use Rattle.consts.proofs.Listing.{gather_joined, gather_apart}

-- an item that `prettify` can give: a count is one or more, and a range goes upwards and ends at 0xfffffffb or below
abbrev pub Sound : Sector → Type 0
Sound (Free n) = 1 ≤ n
Sound End = Unit {0}
Sound (Fat n) = 1 ≤ n
Sound (Difat n) = 1 ≤ n
Sound (Range a b) = (a ≤ b) × (b ≤ invalid_sector)

-- what an entry begins is one of the five, each with its entry
begun_cases : (P : ℕ → Sector → Type 0) → P end_of_chain End → P free_sector (Free 1) → P difat_sector (Difat 1) → P fat_sector (Fat 1)
    → (x : ℕ) → (x ≢ end_of_chain → x ≢ free_sector → x ≢ difat_sector → x ≢ fat_sector → P x (Range x x)) → P x (begun x)
unfolding begun
begun_cases P e f d t x r = end (same_or x end_of_chain) (same_or x free_sector) (same_or x difat_sector) (same_or x fat_sector)
  where
    end : (x ≡ end_of_chain) ⊎ (x ≢ end_of_chain) → (x ≡ free_sector) ⊎ (x ≢ free_sector) → (x ≡ difat_sector) ⊎ (x ≢ difat_sector)
        → (x ≡ fat_sector) ⊎ (x ≢ fat_sector) → P x (begun x)
    end (inl q) b c g = rw q e
    end (inr n) (inl q) c g = rw q f
    end (inr n) (inr m) (inl q) g = rw q d
    end (inr n) (inr m) (inr k) (inl q) = rw q t
    end (inr n) (inr m) (inr k) (inr l) = rw (begun_range x n m k l) (r n m k l)

begun_sound : (x : ℕ) → x < 2 ^ 32 → Sound (begun x)
begun_sound x h = begun_cases (λ y s. Sound s) tt (omega arith) (omega arith) (omega arith) x (λ e f d t. (omega arith, omega arith))

grown_sound : (s : Sector) (x : ℕ) → joins s x ≡ true → Sound s → Sound (grown s)
unfolding joins grown
grown_sound (Free n) x j h = omega arith
grown_sound End x j h = tt
grown_sound (Fat n) x j h = omega arith
grown_sound (Difat n) x j h = omega arith
grown_sound (Range a b) x j h = let g : (x ≡ b + 1) × (x ≤ invalid_sector) = gone_on b x j in (omega arith, omega arith)

-- what is small in a list is small in its tail
below_tail : (m x : ℕ) (xs : List ℕ) → Below m (x ∷ xs) → (x < m) × Below m xs
below_tail m x xs h = (h.each 0 (omega arith), record { each = λ i hi. h.each (suc i) (omega arith) })

gather_sound : (s : Sector) (xs : List ℕ) → Sound s → Below (2 ^ 32) xs → (t : Sector) → Memᴰ t (gather s xs) → Sound t
unfolding gather
gather_sound s [] h small t m = subst Sound (sym (Memᴰ.eq_of_singleton m)) h
gather_sound s (x ∷ xs) h small t m =
    let b : (x < 2 ^ 32) × Below (2 ^ 32) xs = below_tail (2 ^ 32) x xs small in
    ⊎_elim
    (λ (j : joins s x ≡ true). gather_sound (grown s) xs (grown_sound s x j h) b.1 t (rw (gather_joined s x xs j) at m))
    (λ (f : joins s x ≡ false). ⊎_elim
    (λ (e : t ≡ s). subst Sound (sym e) h)
    (λ (r : Memᴰ t (gather (begun x) xs)). gather_sound (begun x) xs (begun_sound x b.0) b.1 t r)
    (Memᴰ.cases_cons (rw (gather_apart s x xs f) at m)))
    (true_or (joins s x))

-- every item of the list of u32 entries is sound
pub prettify_sound : (xs : List ℕ) → Below (2 ^ 32) xs → (s : Sector) → Memᴰ s (prettify_of xs) → Sound s
unfolding prettify_of
prettify_sound [] small s m = absurd (Memᴰ.not-nil m)
prettify_sound (x ∷ xs) small s m =
    let b : (x < 2 ^ 32) × Below (2 ^ 32) xs = below_tail (2 ^ 32) x xs small in
    gather_sound (begun x) xs (begun_sound x b.0) b.1 s m

-- the Rust's `*end + 1` does not wrap
pub range_never_wraps : (xs : List ℕ) → Below (2 ^ 32) xs → (a b : ℕ) → Memᴰ (Range a b) (prettify_of xs) → (a ≤ b) × (b + 1 < 2 ^ 32)
range_never_wraps xs small a b m = let h : (a ≤ b) × (b ≤ invalid_sector) = prettify_sound xs small (Range a b) m in (h.0, omega arith)

-- the entries that an item stands for
unfoldable pub entries_of : Sector → List ℕ
entries_of (Free n) = replicate n free_sector
entries_of End = end_of_chain ∷ []
entries_of (Fat n) = replicate n fat_sector
entries_of (Difat n) = replicate n difat_sector
entries_of (Range a b) = tab (λ i. a + i) (b + 1 - a)

begun_entries : (x : ℕ) → entries_of (begun x) ≡ x ∷ []
unfolding entries_of tab
begun_entries x =
    begun_cases (λ y s. entries_of s ≡ y ∷ []) refl refl refl refl x
    (λ e f d t. let one : x + 1 - x ≡ 1 = omega arith in rw (one, add-zero))

-- one number more, where it is the one that was counted
more_of : (n v x : ℕ) → eqb x v ≡ true → replicate (n + 1) v ≡ replicate n v ++ (x ∷ [])
more_of n v x t = let e : x ≡ v = eqb-true x v t in rw e (sym (replicate-append-replicate n 1 v))

grown_entries : (s : Sector) (x : ℕ) → joins s x ≡ true → Sound s → entries_of (grown s) ≡ entries_of s ++ (x ∷ [])
unfolding entries_of joins grown
grown_entries (Free n) x j h = more_of n free_sector x j
grown_entries End x j h = absurd (not_both j refl)
grown_entries (Fat n) x j h = more_of n fat_sector x j
grown_entries (Difat n) x j h = more_of n difat_sector x j
grown_entries (Range a b) x j h =
    let g : (x ≡ b + 1) × (x ≤ invalid_sector) = gone_on b x j in
    let n : b + 1 + 1 - a ≡ suc (b + 1 - a) = omega arith in
    let l : a + (b + 1 - a) ≡ x = omega arith in
    rw n (tab_suc (λ i. a + i) (b + 1 - a) ∙ ap (λ (y : ℕ). tab (λ i. a + i) (b + 1 - a) ++ (y ∷ [])) l)

gather_entries : (s : Sector) (xs : List ℕ) → Sound s → Below (2 ^ 32) xs → flat_map entries_of (gather s xs) ≡ entries_of s ++ xs
unfolding gather flat_map
gather_entries s [] h small = refl
gather_entries s (x ∷ xs) h small =
    let b : (x < 2 ^ 32) × Below (2 ^ 32) xs = below_tail (2 ^ 32) x xs small in
    ⊎_elim
    (λ (j : joins s x ≡ true).
    ap (flat_map entries_of) (gather_joined s x xs j)
    ∙ gather_entries (grown s) xs (grown_sound s x j h) b.1
    ∙ ap (λ (l : List ℕ). l ++ xs) (grown_entries s x j h)
    ∙ append_snoc (entries_of s) x xs)
    (λ (f : joins s x ≡ false).
    ap (flat_map entries_of) (gather_apart s x xs f)
    ∙ ap (λ (l : List ℕ). entries_of s ++ l) (gather_entries (begun x) xs (begun_sound x b.0) b.1 ∙ ap (λ (l : List ℕ). l ++ xs) (begun_entries x)))
    (true_or (joins s x))

-- the items stand for the entries, in their order, and for nothing else
pub prettify_keeps_entries : (xs : List ℕ) → Below (2 ^ 32) xs → flat_map entries_of (prettify_of xs) ≡ xs
unfolding prettify_of flat_map
prettify_keeps_entries [] small = refl
prettify_keeps_entries (x ∷ xs) small =
    let b : (x < 2 ^ 32) × Below (2 ^ 32) xs = below_tail (2 ^ 32) x xs small in
    gather_entries (begun x) xs (begun_sound x b.0) b.1 ∙ ap (λ (l : List ℕ). l ++ xs) (begun_entries x)
