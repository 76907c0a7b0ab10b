-- The laws of comparisons: headers, and tables that hold a list and then zeros. Assumes nothing.
use Prim.Native.Nat.{ℕ, ◌-◌, ◌≤◌, ◌<◌, min}
use mathlib.Core.Path.{◌≡◌, refl, sym, ◌∙◌, ap}
use mathlib.Core.Bool.{Bool, true, false, not, ◌&&◌}
use mathlib.Core.List.{List, [], ◌∷◌, ◌++◌}
use mathlib.Core.Logic.{◌↔◌, ⊎_elim}
use native.Mathlib.Omega.{arith}
use borrow.Author.Tests.{eq-eqb, eqb-true, not-true, not-false}
use lib.Dec.{eqb}
use lib.ListN.{length, get_or, take, drop, replicate, drop_of_length-le, length-drop, length-replicate, get_or-replicate, take-append-drop}
use lib.Seq.{ext_get_or, drop_at, take_all}
use lib.Pointwise.{pointwise}
use Rattle.std.specs.List.{list_all}
use Rattle.points.proofs.Folding.{every_all}
use Rattle.lists.specs.Lists.{both, same_list}
use Rattle.lists.proofs.Cases.{below_or, both_true, both_left, both_right, same_test, every_at, every_of, and_both}
use Rattle.lists.proofs.Splice.{same_list_true, same_list_refl}
use Rattle.header.specs.Versions.{major_of}
use Rattle.header.specs.declared.Version.{Version}
use Rattle.header.specs.declared.Version.TheVariants.{V3, V4}
use Rattle.header.specs.declared.Header.{Header}
use Rattle.header.specs.contracts.HeaderPartialEq.TheImpl as headers
use Rattle.header.specs.contracts.VersionPartialEq.TheImpl as versions
use Rattle.alloc.specs.Opening.{Tables, padded}
use Rattle.alloc.proofs.Filled.{front_padded}
use Rattle.points.proofs.Testing.{same_of}
use Rattle.agree.specs.Agree.{same_fields, same_header, holds}
use Rattle.agree.specs.Parts.{all_zero, tails_zero}

-- versions with one number are one
major_one : (v w : Version) → major_of v ≡ major_of w → v ≡ w
major_one V3 V3 e = refl
major_one V3 V4 e = absurd (omega arith)
major_one V4 V3 e = absurd (omega arith)
major_one V4 V4 e = refl

-- the test of two headers says that they are one header
same_header_lem : {a b : Header} → a.version ≡ b.version → a.dirs ≡ b.dirs → a.fats ≡ b.fats → a.dir ≡ b.dir → a.minifat ≡ b.minifat → a.minifats ≡ b.minifats → a.difat ≡ b.difat
    → a.difats ≡ b.difats → a.list ≡ b.list → a ≡ b
same_header_lem p q u v w x y z l =
    λ i. record { version = p i; dirs = q i; fats = u i; dir = v i; minifat = w i; minifats = x i; difat = y i; difats = z i; list = l i }

header_true : (a b : Header) → same_header a b ≡ true → a ≡ b
unfolding same_header same_fields
header_true a b t =
    let f : same_fields a b ≡ true = both_left (same_fields a b) (same_list a.list b.list) t in
    let f1 = both_right (eqb (major_of a.version) (major_of b.version)) _ f in
    let f2 = both_right (eqb a.dirs b.dirs) _ f1 in
    let f3 = both_right (eqb a.fats b.fats) _ f2 in
    let f4 = both_right (eqb a.dir b.dir) _ f3 in
    let f5 = both_right (eqb a.minifat b.minifat) _ f4 in
    let f6 = both_right (eqb a.minifats b.minifats) _ f5 in
    let f7 = both_right (eqb a.difat b.difat) _ f6 in
    same_header_lem (major_one _ _ (eqb-true _ _ (both_left _ _ f))) (eqb-true _ _ (both_left _ _ f1)) (eqb-true _ _ (both_left _ _ f2)) (eqb-true _ _ (both_left _ _ f3)) (eqb-true _ _ (both_left _ _ f4))
    (eqb-true _ _ (both_left _ _ f5)) (eqb-true _ _ (both_left _ _ f6)) (eqb-true _ _ f7) (same_list_true _ _ (both_right (same_fields a b) _ t))

header_refl : (a : Header) → same_header a a ≡ true
unfolding same_header same_fields
header_refl a =
    both_true
    (both_true (eq-eqb (major_of a.version) (major_of a.version) refl) (both_true (eq-eqb a.dirs a.dirs refl) (both_true (eq-eqb a.fats a.fats refl) (both_true (eq-eqb a.dir a.dir refl)
    (both_true (eq-eqb a.minifat a.minifat refl) (both_true (eq-eqb a.minifats a.minifats refl) (both_true (eq-eqb a.difat a.difat refl) (eq-eqb a.difats a.difats refl))))))))
    (same_list_refl a.list)

pub header_exactly : (a b : Header) → same_header a b ≡ true ↔ a ≡ b
header_exactly a b = (header_true a b, λ e. ap (same_header a) (sym e) ∙ header_refl a)

-- a list of zeros, place by place
zero_at : (xs : List ℕ) → all_zero xs ≡ true → (i : ℕ) → i < length xs → get_or xs i 0 ≡ 0
unfolding all_zero
zero_at xs t i h = eqb-true _ 0 (every_at (length xs) (λ k. eqb (get_or xs k 0) 0) t i h)

zero_of : (xs : List ℕ) → ((i : ℕ) → i < length xs → get_or xs i 0 ≡ 0) → all_zero xs ≡ true
unfolding all_zero
zero_of xs h = every_of (length xs) (λ k. eqb (get_or xs k 0) 0) (λ i l. eq-eqb _ 0 (h i l))

pub zeros_are : (xs : List ℕ) (m : ℕ) → length xs ≡ m → all_zero xs ≡ same_list xs (replicate m 0)
zeros_are xs m e =
    same_test (all_zero xs) (same_list xs (replicate m 0))
    (λ t. same_of xs (replicate m 0)
    (ext_get_or 0 xs (replicate m 0) (e ∙ sym (length-replicate {A = ℕ} m 0)) (λ i h. let l : i < m = omega arith in zero_at xs t i h ∙ sym (get_or-replicate m i 0 0 l))))
    (λ t. zero_of xs (λ i h. let l : i < m = omega arith in ap (λ (l : List ℕ). get_or l i 0) (same_list_true xs (replicate m 0) t) ∙ get_or-replicate m i 0 0 l))

-- a table holds a list and then zeros exactly when its front is the list and its rest is zero
pub padded_rest : (t xs : List ℕ) (k : ℕ) → length xs ≡ k → t ≡ padded xs (length t) → drop k t ≡ replicate (length t - k) 0
unfolding padded
padded_rest t xs k e l = ap (drop k) l ∙ drop_at xs (replicate (length t - length xs) 0) k e ∙ ap (λ (z : ℕ). replicate (length t - z) 0) e

padded_of : (t xs : List ℕ) (k : ℕ) → length xs ≡ k → take k t ≡ xs → drop k t ≡ replicate (length t - k) 0 → t ≡ padded xs (length t)
unfolding padded
padded_of t xs k e f z =
    sym (take-append-drop k t)
    ∙ ap (λ (l : List ℕ). l ++ drop k t) f
    ∙ ap (λ (l : List ℕ). xs ++ l) (z ∙ ap (λ (q : ℕ). replicate (length t - q) 0) (sym e))

pub holds_front : (t xs : List ℕ) (k : ℕ) → length xs ≡ k → holds t xs ≡ both (same_list (take k t) xs) (all_zero (drop k t))
unfolding holds
holds_front t xs k e =
    same_test (same_list t (padded xs (length t))) (both (same_list (take k t) xs) (all_zero (drop k t)))
    (λ q. let l : t ≡ padded xs (length t) = same_list_true _ _ q in
    both_true (same_of _ _ (front_padded xs t k (length t) l e)) (zeros_are (drop k t) (length t - k) (length-drop k t) ∙ same_of _ _ (padded_rest t xs k e l)))
    (λ q. same_of _ _ (padded_of t xs k e (same_list_true _ _ (both_left _ (all_zero (drop k t)) q))
    (same_list_true _ _ (sym (zeros_are (drop k t) (length t - k) (length-drop k t)) ∙ both_right (same_list (take k t) xs) _ q))))

-- the rests of five tables
pub tails_all : (n k d free : ℕ) (t : Tables) (a b c e f : Bool) → a ≡ all_zero (drop n t.fat) → b ≡ all_zero (drop k t.fats) → c ≡ all_zero (drop d t.difats) → e ≡ all_zero (drop free t.frees)
    → f ≡ all_zero (drop n t.marks) → (a && (b && (c && (e && f)))) ≡ tails_zero n k d free t
unfolding tails_zero
tails_all n k d free t a b c e f p q u v w =
    and_both a _ ∙ ap (both a) (and_both b _ ∙ ap (both b) (and_both c _ ∙ ap (both c) (and_both e f))) ∙ rw (p, q, u, v, w)

-- two lists compared by the library
pub slices_same : (a b : List ℕ) → pointwise eqb a b ≡ same_list a b
unfolding same_list
slices_same [] [] = refl
slices_same [] (y ∷ ys) = refl
slices_same (x ∷ xs) [] = refl
slices_same (x ∷ xs) (y ∷ ys) = and_both (eqb x y) _ ∙ ap (both (eqb x y)) (slices_same xs ys)

-- the rest of a table that was lent as a part
pub rest_lent : {A : Type 0} (xs : List A) (k m : ℕ) → m ≡ min k (length xs) → take (length xs - m) (drop m xs) ≡ drop k xs
rest_lent xs k m e =
    take_all (length xs - m) (drop m xs) (simp length-drop (omega arith))
    ∙ ⊎_elim
    (λ (l : k < length xs). let same : m ≡ k = omega arith in ap (λ (i : ℕ). drop i xs) same)
    (λ (g : length xs ≤ k). drop_of_length-le xs {i = m} (omega arith) ∙ sym (drop_of_length-le xs {i = k} g))
    (below_or k (length xs))

-- each is 0
pub zeros_told : (xs : List ℕ) (z : ℕ) (r : Bool) → z ≡ 0 → r ≡ list_all (λ x. eqb x z) xs → r ≡ all_zero xs
unfolding all_zero
zeros_told xs z r n e = e ∙ ap (λ (k : ℕ). list_all (λ x. eqb x k) xs) n ∙ every_all (λ x. eqb x 0) 0 xs

-- and two headers: their versions by number, their numbers one by one, and their lists
version_eq : (v w : Version) → versions.ghosts.eq v w ≡ eqb (major_of v) (major_of w)
version_eq V3 V3 = refl
version_eq V3 V4 = refl
version_eq V4 V3 = refl
version_eq V4 V4 = refl

pub header_eq : (a b : Header) → headers.ghosts.eq a b ≡ same_header a b
unfolding same_header same_fields
header_eq a b =
    all (versions.ghosts.eq a.version b.version) (eqb a.dirs b.dirs) (eqb a.fats b.fats) (eqb a.dir b.dir) (eqb a.minifat b.minifat) (eqb a.minifats b.minifats) (eqb a.difat b.difat)
    (eqb a.difats b.difats) (pointwise eqb a.list b.list)
    ∙ rw (version_eq a.version b.version, slices_same a.list b.list)
  where
    all : (p q x y z u k l m : Bool) → (p && (q && (x && (y && (z && (u && (k && (l && m)))))))) ≡ both (both p (both q (both x (both y (both z (both u (both k l))))))) m
    all true true true true true true true l m = and_both l m
    all true true true true true true false l m = refl
    all true true true true true false k l m = refl
    all true true true true false u k l m = refl
    all true true true false z u k l m = refl
    all true true false y z u k l m = refl
    all true false x y z u k l m = refl
    all false q x y z u k l m = refl

pub headers_differ : (a b : Header) (r : Bool) → r ≡ not (headers.ghosts.eq a b) → r ≡ true → same_header a b ≡ false
headers_differ a b r n t = sym (header_eq a b) ∙ not-true _ (sym n ∙ t)

pub headers_same : (a b : Header) (r : Bool) → r ≡ not (headers.ghosts.eq a b) → r ≡ false → same_header a b ≡ true
headers_same a b r n f = sym (header_eq a b) ∙ not-false _ (sym n ∙ f)
