-- The item that begins at a place, by the kind of its first entry: what the code of `prettify` answers is what the definition says. Assumes nothing.
use Prim.Native.Nat.{ℕ, ◌+◌, ◌-◌, ◌≤◌, ◌<◌}
use mathlib.Core.Path.{◌≡◌, refl, ◌∙◌, sym, ap, ap₂}
use mathlib.Core.Bool.{true, false}
use mathlib.Core.List.{List, [], ◌∷◌}
use mathlib.Core.Logic.{⊎_elim, ◌≢◌}
use native.Mathlib.Omega.{arith}
use borrow.Author.Tests.{eq-eqb, ne_eqb}
use lib.Dec.{eqb}
use lib.ListN.{length, get_or, take, drop, length-drop, drop_of_length-le}
use lib.Seq.{take-length}
use Rattle.std.specs.Prelude.{Some, None}
use Rattle.std.specs.List.{slice_range}
use Rattle.lists.proofs.Cases.{same_or, true_or}
use Rattle.consts.specs.Consts.{difat_sector, fat_sector, end_of_chain, free_sector}
use Rattle.consts.specs.Pretty.{begun, goes_on, joins, grown, closed, first_item, item_at}
use Rattle.consts.specs.Runs.{run_of, end_of, size_of}
use Rattle.consts.specs.declared.Sector.{Sector}
use Rattle.consts.specs.declared.Sector.TheVariants.{Free, End, Fat, Difat, Range}
use Rattle.consts.specs.declared.Found.{Found}
use Rattle.consts.proofs.Runs.{drop_next, run_cons, run_other, end_cons, end_other, end_within}

-- an item and the place past it
abbrev pub found : Sector → ℕ → Found
found s q = record { item = s; past = q }

-- an open item: an entry that joins, and one that does not
pub closed_joined : (p : ℕ) (s : Sector) (x : ℕ) (xs : List ℕ) → joins s x ≡ true → closed p s (x ∷ xs) ≡ closed (p + 1) (grown s) xs
unfolding closed
closed_joined p s x xs t = rw t

pub closed_apart : (p : ℕ) (s : Sector) (x : ℕ) (xs : List ℕ) → joins s x ≡ false → closed p s (x ∷ xs) ≡ found s p
unfolding closed
closed_apart p s x xs f = rw f

-- where entries are left, where the place is an index, and past the end
pub item_left : (xs : List ℕ) (p x : ℕ) (rest : List ℕ) → drop p xs ≡ x ∷ rest → item_at xs p ≡ Some (closed (p + 1) (begun x) rest)
unfolding item_at first_item
item_left xs p x rest e = ap (first_item p) e

pub item_at_lem : (xs : List ℕ) (p : ℕ) → p < length xs → item_at xs p ≡ Some (closed (p + 1) (begun (get_or xs p 0)) (drop (p + 1) xs))
item_at_lem xs p h = item_left xs p (get_or xs p 0) (drop (p + 1) xs) (drop_next xs p h)

pub item_past : (xs : List ℕ) (p : ℕ) → length xs ≤ p → None ≡ item_at xs p
unfolding item_at first_item
item_past xs p h = sym (ap (first_item p) (drop_of_length-le xs h))

-- the entries from a place on, as a slice has them
pub left_is : (xs : List ℕ) (p : ℕ) {left : List ℕ} → left ≡ slice_range xs p (length xs) → drop p xs ≡ left
left_is xs p e = sym (e ∙ ap (λ (n : ℕ). take n (drop p xs)) (sym (length-drop p xs)) ∙ take-length (drop p xs))

-- the item that entries with x at the front begin at p
abbrev pub Begins : ℕ → ℕ → List ℕ → Sector → Type 0
Begins p x rest s = closed (p + 1) (begun x) rest ≡ found s (p + size_of s)

pub item_begins : (xs : List ℕ) (p x : ℕ) {left rest : List ℕ} {s : Sector} → left ≡ slice_range xs p (length xs) → left ≡ x ∷ rest → Begins p x rest s
    → Some (found s (p + size_of s)) ≡ item_at xs p
item_begins xs p x {rest = rest} l e b = sym (item_left xs p x rest (left_is xs p l ∙ e) ∙ ap Some b)

-- END is an item by itself
closed_end : (p : ℕ) (xs : List ℕ) → closed p End xs ≡ found End p
unfolding closed joins
closed_end p [] = refl
closed_end p (x ∷ xs) = refl

pub item_end : (p x : ℕ) (rest : List ℕ) {s : Sector} → x ≡ end_of_chain → s ≡ End → Begins p x rest s
unfolding begun
item_end p x rest e i = rw (e, i) (closed_end (p + 1) rest)

-- an item that counts the entries equal to v
pub record Counts (K : ℕ → Sector) (v : ℕ) : Type 0 where
  pub begins : begun v ≡ K 1
  pub takes : (n x : ℕ) → joins (K n) x ≡ eqb x v
  pub grows : (n : ℕ) → grown (K n) ≡ K (n + 1)
  pub sizes : (n : ℕ) → size_of (K n) ≡ n

pub counts_free : Counts Free free_sector
unfolding begun joins grown
counts_free = record { begins = refl; takes = λ n x. refl; grows = λ n. refl; sizes = λ n. refl }

pub counts_fat : Counts Fat fat_sector
unfolding begun joins grown
counts_fat = record { begins = refl; takes = λ n x. refl; grows = λ n. refl; sizes = λ n. refl }

pub counts_difat : Counts Difat difat_sector
unfolding begun joins grown
counts_difat = record { begins = refl; takes = λ n x. refl; grows = λ n. refl; sizes = λ n. refl }

closed_count : (K : ℕ → Sector) (v : ℕ) → Counts K v → (p n : ℕ) (xs : List ℕ)
    → closed p (K n) xs ≡ found (K (n + run_of v xs)) (p + run_of v xs)
unfolding closed run_of
closed_count K v k p n [] = ap₂ (λ (a b : ℕ). found (K a) b) (omega arith) (omega arith)
closed_count K v k p n (x ∷ xs) =
    let more : closed (p + 1) (K (n + 1)) xs ≡ found (K (n + 1 + run_of v xs)) (p + 1 + run_of v xs) = closed_count K v k (p + 1) (n + 1) xs in
    ⊎_elim
    (λ (e : x ≡ v).
    let r : run_of v (x ∷ xs) ≡ run_of v xs + 1 = run_cons v x xs e in
    closed_joined p (K n) x xs (k.takes n x ∙ eq-eqb x v e)
    ∙ ap (λ (s : Sector). closed (p + 1) s xs) (k.grows n)
    ∙ more
    ∙ ap₂ (λ (a b : ℕ). found (K a) b) (omega arith) (omega arith))
    (λ (d : x ≢ v).
    let r : run_of v (x ∷ xs) ≡ 0 = run_other v x xs d in
    closed_apart p (K n) x xs (k.takes n x ∙ ne_eqb x v d)
    ∙ ap₂ (λ (a b : ℕ). found (K a) b) (omega arith) (omega arith))
    (same_or x v)

pub item_count : {K : ℕ → Sector} {v : ℕ} → Counts K v → (p x : ℕ) (rest : List ℕ) {left : List ℕ} {n : ℕ} {s : Sector} → x ≡ v → left ≡ x ∷ rest → n ≡ run_of v left → s ≡ K n
    → Begins p x rest s
item_count {K} {v} k p x rest {n = n} e l r i =
    let one : n ≡ run_of v rest + 1 = r ∙ ap (run_of v) l ∙ run_cons v x rest e in
    rw (i, k.sizes n)
    (ap (λ (s : Sector). closed (p + 1) s rest) (ap begun e ∙ k.begins)
    ∙ closed_count K v k (p + 1) 1 rest
    ∙ ap₂ (λ (a b : ℕ). found (K a) b) (omega arith) (omega arith))

-- a range
closed_range : (p a b : ℕ) (xs : List ℕ) → closed p (Range a b) xs ≡ found (Range a (end_of b xs)) (p + (end_of b xs - b))
unfolding closed end_of joins grown
closed_range p a b [] = ap (λ (q : ℕ). found (Range a b) q) (omega arith)
closed_range p a b (x ∷ xs) =
    let more : closed (p + 1) (Range a (b + 1)) xs ≡ found (Range a (end_of (b + 1) xs)) (p + 1 + (end_of (b + 1) xs - (b + 1))) = closed_range (p + 1) a (b + 1) xs in
    ⊎_elim
    (λ (t : goes_on b x ≡ true).
    let r : end_of b (x ∷ xs) ≡ end_of (b + 1) xs = end_cons b x xs t in
    closed_joined p (Range a b) x xs t
    ∙ more
    ∙ ap₂ (λ (e q : ℕ). found (Range a e) q) (sym r) (omega (arith, (end_within (b + 1) xs).0)))
    (λ (f : goes_on b x ≡ false).
    let r : end_of b (x ∷ xs) ≡ b = end_other b x xs f in
    closed_apart p (Range a b) x xs f ∙ ap₂ (λ (e q : ℕ). found (Range a e) q) (sym r) (omega arith))
    (true_or (goes_on b x))

-- a number that is none of the four above begins a range
pub begun_range : (x : ℕ) → x ≢ end_of_chain → x ≢ free_sector → x ≢ difat_sector → x ≢ fat_sector → begun x ≡ Range x x
unfolding begun
begun_range x e f d t = rw (ne_eqb x end_of_chain e, ne_eqb x free_sector f, ne_eqb x difat_sector d, ne_eqb x fat_sector t)

pub item_range : (p x : ℕ) (rest : List ℕ) {e : ℕ} {s : Sector} → x ≢ end_of_chain → x ≢ free_sector → x ≢ difat_sector → x ≢ fat_sector
    → e ≡ end_of x rest → s ≡ Range x e → Begins p x rest s
item_range p x rest ne nf nd nt r i =
    rw (i, r)
    (ap (λ (s : Sector). closed (p + 1) s rest) (begun_range x ne nf nd nt)
    ∙ closed_range (p + 1) x x rest
    ∙ ap (λ (q : ℕ). found (Range x (end_of x rest)) q) (omega arith))
