-- The items one by one are the whole short list: what `item_at` gives, place after place, is `prettify_of`. Assumes nothing.
use Prim.Native.Nat.{ℕ, zero, suc, ◌+◌, ◌-◌, ◌≤◌, ◌<◌}
use mathlib.Core.Path.{◌≡◌, refl, ◌∙◌, sym, ap, subst}
use mathlib.Core.Bool.{true, false}
use mathlib.Core.List.{List, [], ◌∷◌}
use mathlib.Core.Logic.{⊎_elim}
use native.Mathlib.Omega.{arith}
use lib.ListN.{length, get_or, drop, length-drop, drop_of_length-le}
use lib.Seq.{drop-drop}
use Rattle.std.specs.Prelude.{Option, Some, None}
use Rattle.lists.proofs.Cases.{below_or, true_or}
use Rattle.consts.specs.Pretty.{begun, joins, grown, gather, prettify_of, closed, item_at}
use Rattle.consts.specs.declared.Sector.{Sector}
use Rattle.consts.specs.declared.Found.{Found}
use Rattle.consts.proofs.Runs.{drop_next}
use Rattle.consts.proofs.Items.{found, closed_joined, closed_apart, item_at_lem, item_past}

-- the loop: an entry that joins, and one that does not
pub gather_joined : (s : Sector) (x : ℕ) (xs : List ℕ) → joins s x ≡ true → gather s (x ∷ xs) ≡ gather (grown s) xs
unfolding gather
gather_joined s x xs t = rw t

pub gather_apart : (s : Sector) (x : ℕ) (xs : List ℕ) → joins s x ≡ false → gather s (x ∷ xs) ≡ s ∷ gather (begun x) xs
unfolding gather
gather_apart s x xs f = rw f

-- an item stands for one entry at least
gather_few : (s : Sector) (xs : List ℕ) → length (gather s xs) ≤ 1 + length xs
unfolding gather
gather_few s [] = omega arith
gather_few s (x ∷ xs) =
    ⊎_elim
    (λ (j : joins s x ≡ true). rw (gather_joined s x xs j) (omega (arith, gather_few (grown s) xs)))
    (λ (f : joins s x ≡ false). rw (gather_apart s x xs f) (omega (arith, gather_few (begun x) xs)))
    (true_or (joins s x))

pub items_few : (xs : List ℕ) → length (prettify_of xs) ≤ length xs
unfolding prettify_of
items_few [] = omega arith
items_few (x ∷ xs) = omega (arith, gather_few (begun x) xs)

-- what an open item is closed as: the first item, with the list of what follows it
record Closed (p : ℕ) (s : Sector) (xs : List ℕ) (f : Found) : Type 0 where
  low : p ≤ f.past
  high : f.past ≤ p + length xs
  lists : gather s xs ≡ f.item ∷ prettify_of (drop (f.past - p) xs)

-- an item that is closed at once
closed_here : (p : ℕ) (s : Sector) (xs : List ℕ) → gather s xs ≡ s ∷ prettify_of xs → Closed p s xs (found s p)
closed_here p s xs g =
    let z : p - p ≡ 0 = omega arith in
    record { low = omega arith; high = omega arith; lists = rw z g }

closed_lists : (p : ℕ) (s : Sector) (xs : List ℕ) → Closed p s xs (closed p s xs)
unfolding closed gather prettify_of
closed_lists p s [] = closed_here p s [] refl
closed_lists p s (x ∷ xs) =
    ⊎_elim
    (λ (j : joins s x ≡ true).
    let k : Closed (p + 1) (grown s) xs (closed (p + 1) (grown s) xs) = closed_lists (p + 1) (grown s) xs in
    let z : (closed (p + 1) (grown s) xs).past - p ≡ suc ((closed (p + 1) (grown s) xs).past - (p + 1)) = omega arith in
    let c : Closed p s (x ∷ xs) (closed (p + 1) (grown s) xs) = record { low = omega arith; high = omega arith; lists = rw z (gather_joined s x xs j ∙ k.lists) } in
    rw (closed_joined p s x xs j) c)
    (λ (f : joins s x ≡ false). rw (closed_apart p s x xs f) (closed_here p s (x ∷ xs) (gather_apart s x xs f)))
    (true_or (joins s x))

-- what an item at a place says: it is the first of the list from there, and the list goes on from the place past it
pub record Stands (xs : List ℕ) (p : ℕ) (s : Sector) (q : ℕ) : Type 0 where
  pub past : p < q
  pub within : q ≤ length xs
  pub lists : prettify_of (drop p xs) ≡ s ∷ prettify_of (drop q xs)

-- at an index there is an item, and it stands there
at_index : (xs : List ℕ) (p : ℕ) (f : Found) → p < length xs → item_at xs p ≡ Some f → Stands xs p f.item f.past
unfolding prettify_of
at_index xs p f h e =
    let is : Some (closed (p + 1) (begun (get_or xs p 0)) (drop (p + 1) xs)) ≡ Some f = sym (item_at_lem xs p h) ∙ e in
    let same : closed (p + 1) (begun (get_or xs p 0)) (drop (p + 1) xs) ≡ f = cc in
    let k : Closed (p + 1) (begun (get_or xs p 0)) (drop (p + 1) xs) f = subst (Closed (p + 1) (begun (get_or xs p 0)) (drop (p + 1) xs)) same (closed_lists (p + 1) (begun (get_or xs p 0)) (drop (p + 1) xs)) in
    let l : length (drop (p + 1) xs) ≡ length xs - (p + 1) = length-drop (p + 1) xs in
    let z : p + 1 + (f.past - (p + 1)) ≡ f.past = omega arith in
    record {
      past = omega arith;
      within = omega arith;
      lists =
          ap prettify_of (drop_next xs p h)
          ∙ k.lists
          ∙ ap (λ (r : List ℕ). f.item ∷ prettify_of r) (drop-drop (f.past - (p + 1)) (p + 1) xs ∙ ap (λ (n : ℕ). drop n xs) z);
    }

-- the item at a place begins the list from there
pub item_stands : (xs : List ℕ) (p : ℕ) (f : Found) → item_at xs p ≡ Some f → Stands xs p f.item f.past
item_stands xs p f e =
    ⊎_elim
    (λ (h : p < length xs). at_index xs p f h e)
    (λ (h : length xs ≤ p). let d : None ≡ Some f = item_past xs p h ∙ e in absurd cc)
    (below_or p (length xs))

-- where there is no item there are no entries left
done_past : (xs : List ℕ) (p : ℕ) → item_at xs p ≡ None → length xs ≤ p
done_past xs p e =
    ⊎_elim
    (λ (h : p < length xs). let d : Some (closed (p + 1) (begun (get_or xs p 0)) (drop (p + 1) xs)) ≡ None = sym (item_at_lem xs p h) ∙ e in absurd cc)
    (λ (h : length xs ≤ p). h)
    (below_or p (length xs))

none_left : (xs : List ℕ) (p : ℕ) → length xs ≤ p → prettify_of (drop p xs) ≡ []
unfolding prettify_of
none_left xs p h = ap prettify_of (drop_of_length-le xs h)

-- where there is no item the list from there is empty
pub item_done : (xs : List ℕ) (p : ℕ) → item_at xs p ≡ None → prettify_of (drop p xs) ≡ []
item_done xs p e = none_left xs p (done_past xs p e)

-- the first item of the list, and the list of the entries past it; without an item there is no list
pub item_first : (xs : List ℕ) {f : Found} {rest : List ℕ} → Some f ≡ item_at xs 0 → rest ≡ drop f.past xs → prettify_of xs ≡ f.item ∷ prettify_of rest
item_first xs {f} e r = rw r (item_stands xs 0 f (sym e)).lists

pub item_within : (xs : List ℕ) {f : Found} → Some f ≡ item_at xs 0 → f.past ≤ length xs
item_within xs {f} e = (item_stands xs 0 f (sym e)).within

pub item_none : (xs : List ℕ) → None ≡ item_at xs 0 → prettify_of xs ≡ []
item_none xs e = item_done xs 0 (sym e)

-- an item in front of those that begin at the place past it, and no item at the end
unfoldable pub ahead : (ℕ → List Sector) → Option Found → List Sector
ahead rest (Some f) = f.item ∷ rest f.past
ahead rest None = []

-- the items from a place on, f of them at most
unfoldable pub items_from : ℕ → List ℕ → ℕ → List Sector
unfolding ahead
items_from zero xs p = []
items_from (suc f) xs p = ahead (items_from f xs) (item_at xs p)

items_left : (f : ℕ) (xs : List ℕ) (p : ℕ) → length xs - p ≤ f → items_from f xs p ≡ prettify_of (drop p xs)
unfolding items_from
items_left zero xs p h = sym (none_left xs p (omega arith))
items_left (suc f) xs p h = split (item_at xs p) refl (items_left f xs)
  where
    split : (i : Option Found) → item_at xs p ≡ i → ((q : ℕ) → length xs - q ≤ f → items_from f xs q ≡ prettify_of (drop q xs))
        → ahead (items_from f xs) (item_at xs p) ≡ prettify_of (drop p xs)
    split (Some f) e more =
        let k : Stands xs p f.item f.past = item_stands xs p f e in
        rw e (ap (λ (r : List Sector). f.item ∷ r) (more f.past (omega arith)) ∙ sym k.lists)
    split None e more = rw e (sym (item_done xs p e))

-- the items one after the other, from the first entry on, are the whole list
pub items_are_prettify : (xs : List ℕ) → items_from (length xs) xs 0 ≡ prettify_of xs
items_are_prettify xs = items_left (length xs) xs 0 (omega arith)
