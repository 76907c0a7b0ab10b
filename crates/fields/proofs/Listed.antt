-- The laws of the header's list: of its bytes, and of its ids. Assumes nothing.
use Prim.Native.Nat.{ℕ, suc, ◌+◌, ◌-◌, ◌*◌, ◌≤◌, ◌<◌}
use mathlib.Core.Path.{◌≡◌, refl, sym, ◌∙◌, ap}
use mathlib.Core.Bool.{Bool, true, false, cond, ◌&&◌}
use mathlib.Core.List.{List, [], ◌∷◌, ◌++◌, append_assoc}
use native.Mathlib.Omega.{arith}
use native.Mathlib.Numerals.{add-one}
use Rattle.std.specs.List.{prefix_len, fold}
use lib.Dec.{leb, eqb}
use lib.ListN.{length, get_or, take, drop, length-append, length-drop}
use lib.Seq.{take-suc, take_all, length-take-le}
use Rattle.lists.specs.Lists.{choose, both, splice}
use Rattle.lists.proofs.Splice.{splice_nil, splice_append}
use Rattle.words.specs.Words.{digits}
use Rattle.words.proofs.Laws.{length_digits}
use Rattle.consts.specs.Consts.{max_regular, free_sector}
use Rattle.fields.specs.Fields.{ids_in, all_free, ids_then_free, list_bytes}

-- the ids at the front are the front that a test holds of
pub ids_prefix : (xs : List ℕ) → prefix_len (λ x. leb x max_regular) xs ≡ ids_in xs
unfolding ids_in
ids_prefix [] = refl
ids_prefix (x ∷ xs) = at (leb x max_regular) (ids_prefix xs)
  where
    at : (t : Bool) → prefix_len (λ x. leb x max_regular) xs ≡ ids_in xs → cond t (1 + prefix_len (λ x. leb x max_regular) xs) 0 ≡ choose t (suc (ids_in xs)) 0
    at true e = omega arith
    at false e = refl

pub ids_within : (xs : List ℕ) → ids_in xs ≤ length xs
unfolding ids_in
ids_within [] = omega arith
ids_within (x ∷ xs) = at (leb x max_regular) (ids_within xs)
  where
    at : (t : Bool) → ids_in xs ≤ length xs → choose t (suc (ids_in xs)) 0 ≤ suc (length xs)
    at true h = omega arith
    at false h = omega arith

-- FREE entries by a flag, from the first on
pub free_from : (b : Bool) (xs : List ℕ) → fold (λ b x. b && eqb x free_sector) b xs ≡ both b (all_free xs)
unfolding all_free
free_from true [] = refl
free_from true (x ∷ xs) = free_from (eqb x free_sector) xs
free_from false [] = refl
free_from false (x ∷ xs) = free_from false xs

-- the bytes of a list, entry by entry
pub length_list_bytes : (xs : List ℕ) → length (list_bytes xs) ≡ 4 * length xs
unfolding list_bytes
length_list_bytes [] = refl
length_list_bytes (x ∷ xs) = length-append (digits 4 x) (list_bytes xs) ∙ omega (arith, length_digits 4 x, length_list_bytes xs)

pub list_bytes_snoc : (xs : List ℕ) (x : ℕ) → list_bytes (xs ++ (x ∷ [])) ≡ list_bytes xs ++ digits 4 x
unfolding list_bytes
list_bytes_snoc [] x = mathlib.Core.List.append-nil (digits 4 x)
list_bytes_snoc (y ∷ xs) x = ap (λ (l : List ℕ). digits 4 y ++ l) (list_bytes_snoc xs x) ∙ sym (append_assoc (digits 4 y) (list_bytes xs) (digits 4 x))

-- a store of entry i after the i before it
pub entry_stored : (b : List ℕ) (o : ℕ) (xs : List ℕ) (i : ℕ) → i < length xs → o + 4 * length xs ≤ length b
    → splice (splice b o (list_bytes (take i xs))) (o + 4 * i) (digits 4 (get_or xs i 0)) ≡ splice b o (list_bytes (take (i + 1) xs))
entry_stored b o xs i h fits =
    let n : length (take i xs) ≡ i = length-take-le i xs (omega arith) in
    let l : length (list_bytes (take i xs)) ≡ 4 * i = length_list_bytes (take i xs) ∙ ap (λ (k : ℕ). 4 * k) n in
    let d : length (digits 4 (get_or xs i 0)) ≡ 4 = length_digits 4 (get_or xs i 0) in
    ap (λ (k : ℕ). splice (splice b o (list_bytes (take i xs))) (o + k) (digits 4 (get_or xs i 0))) (sym l)
    ∙ splice_append b o (list_bytes (take i xs)) (digits 4 (get_or xs i 0)) (omega arith)
    ∙ ap (splice b o) (sym (ap list_bytes (rw (add-one i) (take-suc xs i 0 h)) ∙ list_bytes_snoc (take i xs) (get_or xs i 0)))

-- what the ids at the front leave
pub rest_free_lem : (xs : List ℕ) (n : ℕ) → n ≡ ids_in xs → all_free (take (length xs - n) (drop n xs)) ≡ ids_then_free xs
unfolding ids_then_free
rest_free_lem xs n e = rw (take_all (length xs - n) (drop n xs) (simp length-drop (omega arith)), e)

-- the loop that stores the entries: none yet, and one more
pub entries_none : (b : List ℕ) (o : ℕ) (xs : List ℕ) → b ≡ splice b o (list_bytes (take 0 xs))
unfolding list_bytes
entries_none b o xs = sym (splice_nil b o)

pub entries_more : (b now next : List ℕ) (o at : ℕ) (xs : List ℕ) (i : ℕ) → i < length xs → o + 4 * length xs ≤ length b → at ≡ o
    → now ≡ splice b o (list_bytes (take i xs)) → next ≡ splice now (at + 4 * i) (digits 4 (get_or xs i 0)) → next ≡ splice b o (list_bytes (take (i + 1) xs))
entries_more b now next o at xs i h fits e f g =
    g ∙ ap (λ (k : ℕ). splice now (k + 4 * i) (digits 4 (get_or xs i 0))) e ∙ ap (λ (l : List ℕ). splice l (o + 4 * i) (digits 4 (get_or xs i 0))) f ∙ entry_stored b o xs i h fits
