-- The lines of the items of a short list, one after the other. Assumes nothing.
use Rattle.std.proofs.Common.{◌≡◌, ℕ, suc, ◌+◌, ◌-◌, ◌<◌, ◌≤◌, true, false, List, [], ◌∷◌, ◌++◌, Option, None, Some, IfSome, MatchOption, nat_eq, length, get_or, take, drop, replicate, take_at, get_or-drop, drop-cons, drop-drop, sym, refl, ap, ⊎_elim, ◌∙◌, arith, add-one, length-append, take-append-drop, drop_of_length-le}
use Rattle.std.proofs.Math.Seq.{drop-append-add}
use Rattle.std.proofs.lemmas.List.{get_or_at}
use Rattle.std.specs.Borrow.{Bor}
use Rattle.std.specs.Cmp.Lexicographic.{pointwise, same_text}
use lib.ListN.{get_or-eq_default}
use Rattle.lists.specs.Lists.{part}
use Rattle.lists.proofs.Cases.{below_or}
use Rattle.consts.specs.declared.Sector.{Sector}
use Rattle.texts.specs.Text.{text_of, written}
use Rattle.texts.specs.declared.Text.{Text}
use Rattle.answers.specs.Answers.{LineAt, Lines}

-- a list that begins with a text
begun : (held text rest : List ℕ) → pointwise nat_eq (take (length text) held) text ≡ true → rest ≡ drop (length text) held → held ≡ text ++ rest
begun held text rest t e =
    rw e (sym (take-append-drop (length text) held) ∙ ap (λ l. l ++ drop (length text) held) (same_text _ _ (sym t)))

-- a text and a line feed were taken off
pub line_taken : (held text mid : List ℕ) (r : Option (Bor (List ℕ))) → pointwise nat_eq (take (length text) held) text ≡ true → mid ≡ drop (length text) held
    → MatchOption r (pointwise nat_eq (take 1 mid) (10 ∷ []) ≡ false) (λ x. (pointwise nat_eq (take 1 mid) (10 ∷ []) ≡ true) × (x.now ≡ drop 1 mid) × (length x.now + 1 ≡ length mid))
    → IfSome r (λ x. held ≡ text ++ (10 ∷ x.now))
line_taken held text mid None t e m = tt
line_taken held text mid (Some x) t e m = begun held text mid t e ∙ ap (λ l. text ++ l) (begun mid (10 ∷ []) x.now m.0 m.1)

-- what is left of the text: where it begins, and that the lines of the items from k on have to agree from there
pub record Left (held : List ℕ) (items : List Sector) (k : ℕ) (rest : List ℕ) : Type 0 where
  pub past : ℕ
  pub is : rest ≡ drop past held
  pub lines : Lines held past (drop k items) → Lines held 0 items

-- one item more, whose text was taken off with a line feed
pub left_more : {held : List ℕ} {items : List Sector} {k : ℕ} {rest mid text : List ℕ} (s : Sector) → Left held items k rest → rest ≡ text ++ (10 ∷ mid) → text ≡ text_of s
    → (k < length items) × (s ≡ get_or items k s) → Left held items (k + 1) mid
unfolding Lines part
left_more {held} {items} {k} {rest} {mid} {text} s l r e h =
    let t : rest ≡ text_of s ++ (10 ∷ mid) = rw e at r in
    let n : ℕ = length (text_of s) in
    let there : drop l.past held ≡ text_of s ++ (10 ∷ mid) = sym l.is ∙ t in
    let line : LineAt held l.past (text_of s) (l.past + n + 1) = record {
      bytes = ap (take n) there ∙ take_at (text_of s) (10 ∷ mid) n refl;
      feed = sym (get_or-drop l.past held n 0) ∙ ap (λ b. get_or b n 0) there ∙ get_or_at (text_of s) 10 mid 0 n refl;
      past = refl;
    } in
    let place : l.past + n + 1 ≡ l.past + (n + 1) = omega arith in
    let next : drop k items ≡ s ∷ drop (k + 1) items = rw (add-one k) (drop-cons items k s h.0 ∙ ap (λ x. x ∷ drop (suc k) items) (sym h.1)) in
    record {
      past = l.past + n + 1;
      is = sym (ap (λ q. drop q held) place ∙ sym (drop-drop (n + 1) l.past held) ∙ ap (drop (n + 1)) there ∙ drop-append-add (text_of s) (10 ∷ mid) 1);
      lines = λ more. l.lines (rw next (line, more));
    }

-- no item is left, and only zeros
pub left_over : {held : List ℕ} {items : List Sector} {k : ℕ} {rest : List ℕ} → Left held items k rest → k ≡ length items → ((i : ℕ) → i < length rest → get_or rest i 0 ≡ 0) → Lines held 0 items
unfolding Lines
left_over {held} {items} {k} {rest} l e z =
    let over : drop k items ≡ [] = drop_of_length-le items (omega arith) in
    let zero : (i : ℕ) → get_or rest i 0 ≡ 0 = λ i. ⊎_elim (λ (h : i < length rest). z i h) (λ (h : length rest ≤ i). get_or-eq_default rest 0 h) (below_or i (length rest)) in
    l.lines (rw over (λ i low.
    let place : i ≡ l.past + (i - l.past) = omega arith in
    ap (λ q. get_or held q 0) place ∙ sym (get_or-drop l.past held (i - l.past) 0) ∙ ap (λ b. get_or b (i - l.past) 0) (sym l.is) ∙ zero (i - l.past)))

-- the text of an item, off the bytes that `text_of` gives
pub text_taken : (xs : List ℕ) {t : Text} → t ≡ written xs → take t.len t.bytes ≡ xs
unfolding written
text_taken xs e = ap (λ (u : Text). take u.len u.bytes) e ∙ take_at xs _ (length xs) refl

-- the bytes hold it
pub text_within : (xs : List ℕ) {t : Text} → t ≡ written xs → t.len ≤ length t.bytes
unfolding written
text_within xs {t} e =
    let l : t.len ≡ length xs = ap (λ (u : Text). u.len) e in
    let b : length t.bytes ≡ length (xs ++ replicate (32 - length xs) 0) = ap (λ (u : Text). length u.bytes) e in
    omega (arith, length-append xs (replicate (32 - length xs) 0))
