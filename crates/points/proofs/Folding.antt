-- The laws of a fold that keeps a flag: it says whether a test holds of all that an iterator gives. Assumes nothing.
use Rattle.std.proofs.Common.{ℕ, zero, suc, ◌≡◌, ◌+◌, ◌*◌, ◌≤◌, ◌<◌, min, append-nil, Bool, true, false, ◌&&◌, List, [], ◌∷◌, ◌++◌, length, get_or, take, drop, refl, sym, ap, ◌∙◌, le_refl, zero-add, add-one, arith, Option, Some, subst}
use denote.Param.Members.{Mut}
use Rattle.std.specs.Fn.{Called}
use Rattle.std.specs.Iterator.{Drains, CallableAtEachTurn, AlwaysYields}
use Rattle.std.specs.List.{FoldsTo, list_all, range_with_len, zip}
use Rattle.std.specs.Slice.Iter.{chunks_steps, chunks_rest, chunks_size}
use Rattle.std.specs.Simd.{first_chunks}
use Rattle.std.proofs.lemmas.Fn.{fold_over, serves_by}
use Rattle.std.proofs.lemmas.Iterator.{YieldsList}
use Rattle.std.proofs.lemmas.Iterator.Consumers.{YieldsList-turn}
use Rattle.std.proofs.lemmas.List.Folds.{list_all-append, list_all_more}
use lib.Seq.{take_all, take_at, drop_at, drop-drop}
use lib.ListN.{drop_of_length-le, length-append, length-drop}
use mathlib.Core.Logic.{⊎_elim, ◌≢◌}
use native.Mathlib.Nat.{zero-mul, suc-mul}
use Rattle.std.proofs.lemmas.List.{nil_from_length}
use Rattle.std.proofs.lemmas.List.FromFn.{length-range_with_len, get_or-range_with_len}
use Rattle.lists.specs.Lists.{both, every}
use Rattle.lists.proofs.Cases.{same_or, every_ext}

-- a call joins the test of its item to the flag: so the flag says at the end whether all items pass
module _ {S A B F : Type 0} {steps : S → Option A → S → Type 0} {v : A → B} {g : Mut F (Bool × (A × Unit {0})) Bool} {s : S} {all : List B} (p : B → Bool) (f : F) (r : Bool) where
  pub fold_all : (xs : List A) × (f' : F) × Drains steps s xs × FoldsTo {P = F × Bool} (λ p x q. Called g p.0 (p.1, (x, tt)) q.1 q.0) (f, true) xs (f', r)
      → YieldsList steps v s all
      → ((a : Bool) (x : A) (b : Bool) (f' : F) → Called g f (a, (x, tt)) b f' → (b ≡ (a && p (v x))) × (f' ≡ f))
      → r ≡ list_all p all
  fold_all ran from call =
      fold_over steps v g (λ ys b. b ≡ list_all p ys) f (λ ys a x b f' j k. let h = call a x b f' k in (h.0 ∙ more ys a (v x) j, h.1)) s all true r from.runs refl ran
    where
      last : (a b : Bool) → (a && (b && true)) ≡ (a && b)
      last a true = refl
      last a false = refl

      more : (ys : List B) (a : Bool) (y : B) → a ≡ list_all p ys → (a && p y) ≡ list_all p (ys ++ (y ∷ []))
      more ys a y j = ap (λ (b : Bool). b && p y) j ∙ sym (list_all-append p ys (y ∷ []) ∙ last (list_all p ys) (p y))

-- what such a call asks for is told by its item's place, where no call changes the closure
module _ {S A B F : Type 0} {steps : S → Option A → S → Type 0} {v : A → B} {g : Mut F (Bool × (A × Unit {0})) Bool} {s : S} {all : List B} (road : YieldsList steps v s all) where
  pub fold_asks : {Q : F × Bool → A → Type 0} {f : F} {a : Bool}
      → ((b : Bool) (x : A) (r : Bool) (f' : F) → Called g f (b, (x, tt)) r f' → f' ≡ f)
      → ((b : Bool) (x : A) (k : ℕ) → k < length all → v x ≡ get_or all k (v x) → Q (f, b) x)
      → CallableAtEachTurn {P = F × Bool} steps (λ p x q. Called g p.0 (p.1, (x, tt)) q.1 q.0) Q s (f, a)
  fold_asks {Q} {f} {a} stays asks =
      serves_by {P = F × Bool} (λ p x q. Called g p.0 (p.1, (x, tt)) q.1 q.0) (λ _ q. q.0 ≡ f)
      (λ xs q x w j r. stays q.1 x w.1 w.0 (subst (λ (h : F). Called g h (q.1, (x, tt)) w.1 w.0) j r)) steps Q s (f, a) refl
      (λ xs t q x u y e j.
      let m = YieldsList-turn road xs t y (Some x) u x refl e in
      subst (λ (h : F). Q (h, q.1) x) (sym j) (asks q.1 x (length xs) m.0 m.1))

-- the same test, place by place
pub every_all : {B : Type 0} (p : B → Bool) (d : B) (ys : List B) → list_all p ys ≡ every (length ys) (λ k. p (get_or ys k d))
unfolding every
every_all p d ys = ap (list_all p) (sym (take_all (length ys) ys (le_refl (length ys)))) ∙ front (length ys) (omega arith)
  where
    turned : (a b : Bool) → (a && b) ≡ both b a
    turned true true = refl
    turned true false = refl
    turned false true = refl
    turned false false = refl

    front : (i : ℕ) → i ≤ length ys → list_all p (take i ys) ≡ every i (λ k. p (get_or ys k d))
    front zero h = refl
    front (suc i) h =
        ap (λ (k : ℕ). list_all p (take k ys)) (sym (add-one i)) ∙ list_all_more p ys i d (omega arith)
        ∙ turned (list_all p (take i ys)) (p (get_or ys i d)) ∙ ap (both (p (get_or ys i d))) (front i (omega arith))

-- and of the numbers below n
pub every_range : (p : ℕ → Bool) (n : ℕ) → list_all p (range_with_len 0 n) ≡ every n p
every_range p n =
    every_all p 0 (range_with_len 0 n)
    ∙ ap (λ (m : ℕ). every m (λ k. p (get_or (range_with_len 0 n) k 0))) (length-range_with_len 0 n)
    ∙ every_ext n (λ k. p (get_or (range_with_len 0 n) k 0)) p (λ k h. ap p (get_or-range_with_len 0 n k 0 h ∙ zero-add k))

-- and of two lists side by side, of which the first is no longer
module _ {A B : Type 0} where
  pub length_zip : (xs : List A) (ys : List B) → length xs ≤ length ys → length (zip xs ys) ≡ length xs
  length_zip [] ys h = refl
  length_zip (x ∷ xs) [] h = absurd (omega arith)
  length_zip (x ∷ xs) (y ∷ ys) h = ap suc (length_zip xs ys (omega arith))

  pub get_or_zip : (xs : List A) (ys : List B) (k : ℕ) (d : A) (e : B) (z : A × B) → length xs ≤ length ys → k < length xs → get_or (zip xs ys) k z ≡ (get_or xs k d, get_or ys k e)
  get_or_zip [] ys k d e z h l = absurd (omega arith)
  get_or_zip (x ∷ xs) [] k d e z h l = absurd (omega arith)
  get_or_zip (x ∷ xs) (y ∷ ys) zero d e z h l = refl
  get_or_zip (x ∷ xs) (y ∷ ys) (suc k) d e z h l = get_or_zip xs ys k d e z (omega arith) (omega arith)

  pub every_zip : (p : A × B → Bool) (d : A) (e : B) (xs : List A) (ys : List B) → length xs ≤ length ys
      → list_all p (zip xs ys) ≡ every (length xs) (λ k. p (get_or xs k d, get_or ys k e))
  every_zip p d e xs ys h =
      every_all p (d, e) (zip xs ys)
      ∙ ap (λ (m : ℕ). every m (λ k. p (get_or (zip xs ys) k (d, e)))) (length_zip xs ys h)
      ∙ every_ext (length xs) (λ k. p (get_or (zip xs ys) k (d, e))) (λ k. p (get_or xs k d, get_or ys k e)) (λ k l. ap p (get_or_zip xs ys k d e (d, e) h l))

-- the part at place i of a list that is cut into k parts of n
pub chunk_at : {A : Type 0} (n k i : ℕ) (xs : List A) → i < k → get_or (first_chunks n k xs) i [] ≡ take n (drop (i * n) xs)
chunk_at n zero i xs h = absurd (omega arith)
chunk_at n (suc k) zero xs h = ap (λ (j : ℕ). take n (drop j xs)) (sym (zero-mul n))
chunk_at n (suc k) (suc i) xs h =
    let next : n + i * n ≡ suc i * n = omega (arith, suc-mul i n) in
    chunk_at n k i (drop n xs) (omega arith) ∙ ap (take n) (drop-drop (i * n) n xs ∙ ap (λ (j : ℕ). drop j xs) next)

pub length_chunks : {A : Type 0} (n k : ℕ) (xs : List A) → length (first_chunks n k xs) ≡ k
length_chunks n zero xs = refl
length_chunks n (suc k) xs = ap suc (length_chunks n k (drop n xs))

-- k chunks of n are what the iterator over the chunks of a list gives, where k is how many there are
chunk_first : (n : ℕ) (x rest : List ℕ) → length x ≡ min n (length (x ++ rest)) → (take n (x ++ rest) ≡ x) × (drop n (x ++ rest) ≡ rest)
chunk_first n x rest e =
    ⊎_elim
    (λ (l : length x ≡ n). (take_at x rest n l, drop_at x rest n l))
    (λ (d : length x ≢ n).
    let none : rest ≡ [] = nil_from_length rest (omega (arith, length-append x rest)) in
    let all : x ++ rest ≡ x = rw (none, append-nil) refl in
    (rw all (take_all n x (omega (arith, length-append x rest))), rw (all, none) (drop_of_length-le x (omega (arith, length-append x rest)))))
    (same_or (length x) n)

chunks_run : (n k : ℕ) (xs : List ℕ) → 0 < n → length xs ≤ k * n → k * n < length xs + n → (s : _) → chunks_size s ≡ n → chunks_rest s ≡ xs
    → AlwaysYields (chunks_steps {A = ℕ}) (λ y. y.now) s (first_chunks n k xs)
chunks_run n zero xs pos enough last s e r = λ x j t. absurd (omega (arith, zero-mul n, ap length r, t.1.2))
chunks_run n (suc k) xs pos enough last s e r = (
  λ j t. absurd (omega (arith, suc-mul k n, ap length r, t.1.0)),
  λ x j t.
      let whole : xs ≡ x.now ++ chunks_rest j = sym r ∙ t.1.0 in
      let size : length x.now ≡ min n (length (x.now ++ chunks_rest j)) = rw (e, t.1.0) at t.1.1 in
      let cut : (take n (x.now ++ chunks_rest j) ≡ x.now) × (drop n (x.now ++ chunks_rest j) ≡ chunks_rest j) = chunk_first n x.now (chunks_rest j) size in (
        sym (ap (take n) whole ∙ cut.0),
        chunks_run n k (drop n xs) pos (omega (arith, suc-mul k n, length-drop n xs)) (omega (arith, suc-mul k n, length-drop n xs)) j (t.0 ∙ e) (sym (ap (drop n) whole ∙ cut.1)),
      ),
)

pub YieldsList-from_chunks : {s : _} (n k : ℕ) (xs : List ℕ) → 0 < n → length xs ≤ k * n → k * n < length xs + n → chunks_size s ≡ n → chunks_rest s ≡ xs
    → YieldsList (chunks_steps {A = ℕ}) (λ y. y.now) s (first_chunks n k xs)
YieldsList-from_chunks {s} n k xs pos enough last e r = record { runs = chunks_run n k xs pos enough last s e r }
