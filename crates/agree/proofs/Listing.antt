-- The laws of lent lists that are compared with those of an image (document 01, 12). Assumes nothing.
use Prim.Native.Nat.{ℕ, ◌≤◌}
use mathlib.Core.Path.{◌≡◌, refl, sym, ◌∙◌, ap}
use mathlib.Core.Bool.{Bool, true, false}
use mathlib.Core.List.{List, ◌++◌}
use mathlib.Core.Logic.{⊎_elim}
use native.Mathlib.Omega.{arith}
use lib.ListN.{length, take, drop, length-append, length-drop}
use lib.Seq.{length-take-le}
use Rattle.lists.specs.Lists.{both, same_list}
use Rattle.lists.proofs.Cases.{true_or, not_both, both_of_true, both_left, both_right, both_false_left}
use Rattle.lists.proofs.Splice.{same_list_true}
use Rattle.header.specs.declared.Header.{Header}
use Rattle.fat.specs.Lists.{difat_count, difat_at, difats_of, fats_of, difats_in, fats_in, all_below, different, ends, counts_right, chain_right, rest_free, ids_right, fats_right}
use Rattle.fat.specs.Loaded.{ChainListed, Places, PlacesListed}
use Rattle.fat.proofs.Listing.{by_counts, fats_few, difats_few, places_reach, places_few}
use Rattle.points.proofs.Testing.{same_of}
use Rattle.agree.specs.Parts.{ChainLent, PlacesLent, PlacesRoom, ListsLent, lists_same}

-- what holds where a test does decides the test
pub refutes : (t : Bool) → (t ≡ true → ⊥) → false ≡ t
refutes t n = sym (⊎_elim (λ (h : t ≡ true). absurd (n h)) (λ (f : t ≡ false). f) (true_or t))

-- a room as long as the list
pub chain_as_long : (S : ℕ) (img : List ℕ) (n first d d' : ℕ) (r : Bool) (room : List ℕ) → d' ≡ d → ChainListed S img n first d' r room → ChainListed S img n first d r room
chain_as_long S img n first d d' r room e c = rw e at c

pub places_as_long : (S : ℕ) (img : List ℕ) (n : ℕ) (list difats : List ℕ) (k k' : ℕ) (r : Bool) (room : List ℕ) → k' ≡ k → PlacesListed S img n list difats k' r room → PlacesListed S img n list difats k r room
places_as_long S img n list difats k k' r room e c = rw e at c

pub places_room : (S n len : ℕ) (list difats : List ℕ) (k room : ℕ) → PlacesRoom S n len list difats k room → Places S n len list difats room
places_room S n len list difats k room p = rw p.same p.places

-- the DIFAT chain, listed into a room and compared
module _ (S : ℕ) (img : List ℕ) (n first d : ℕ) (difats : List ℕ) where
  abbrev low : Bool
  low = all_below n (difats_of S img first d)

  abbrev ended : Bool
  ended = ends (difat_at S img first d)

  abbrev same : Bool
  same = same_list difats (difats_of S img first d)

  pub chain_unlisted : (r : Bool) (room : List ℕ) → ChainListed S img n first d r room → r ≡ false → false ≡ both (both low ended) same
  chain_unlisted r room c e = sym (both_false_left (both low ended) same (sym c.right ∙ e))

  pub chain_compared : (r q : Bool) (room : List ℕ) → ChainListed S img n first d r room → r ≡ true → q ≡ same_list difats room → q ≡ both (both low ended) same
  chain_compared r q room c e h = h ∙ ap (same_list difats) (c.listed e) ∙ sym (both_of_true (both low ended) same (sym c.right ∙ e))

  -- and then looked through for repeats
  module _ (r : Bool) (listed : r ≡ both (both low ended) same) where
    pub chain_wrong : r ≡ false → false ≡ both (chain_right S img first n d) same
    unfolding chain_right
    chain_wrong f = sym (split low (different (difats_of S img first d)) ended same (sym listed ∙ f))
      where
        split : (a b e s : Bool) → both (both a e) s ≡ false → both (both a (both b e)) s ≡ false
        split true true true s q = q
        split true true false s q = refl
        split true false e s q = refl
        split false b e s q = refl

    chain_is : r ≡ true → difats ≡ difats_of S img first d
    chain_is t = same_list_true _ _ (both_right (both low ended) same (sym listed ∙ t))

    chain_ended : r ≡ true → both low ended ≡ true
    chain_ended t = both_left (both low ended) same (sym listed ∙ t)

    pub chain_low : r ≡ true → all_below n difats ≡ true
    chain_low t = ap (all_below n) (chain_is t) ∙ both_left low ended (chain_ended t)

    pub chain_told : (q : Bool) → r ≡ true → q ≡ different difats → q ≡ both (chain_right S img first n d) same
    unfolding chain_right
    chain_told q t e =
        e ∙ ap different (chain_is t)
        ∙ sym (three low (different (difats_of S img first d)) ended same (both_left low ended (chain_ended t)) (both_right low ended (chain_ended t)) (both_right (both low ended) same (sym listed ∙ t)))
      where
        three : (a b e s : Bool) → a ≡ true → e ≡ true → s ≡ true → both (both a (both b e)) s ≡ b
        three a true e s p q u = rw (p, q, u)
        three a false e s p q u = rw p

-- the FAT's list, listed into a room and compared
module _ (S : ℕ) (img : List ℕ) (n : ℕ) (list difats : List ℕ) (k : ℕ) (fats : List ℕ) where
  abbrev under : Bool
  under = all_below n (fats_of S img list difats k)

  abbrev equal : Bool
  equal = same_list fats (fats_of S img list difats k)

  abbrev followed : Bool
  followed = rest_free S img list difats k (length difats)

  pub places_unlisted : (r : Bool) (room : List ℕ) → PlacesListed S img n list difats k r room → r ≡ false → false ≡ both under equal
  places_unlisted r room c e = sym (both_false_left under equal (sym c.right ∙ e))

  pub places_compared : (r q : Bool) (room : List ℕ) → PlacesListed S img n list difats k r room → r ≡ true → q ≡ same_list fats room → q ≡ both under equal
  places_compared r q room c e h = h ∙ ap (same_list fats) (c.listed e) ∙ sym (both_of_true under equal (sym c.right ∙ e))

  -- and then followed by FREE, and looked through for repeats
  module _ (r : Bool) (listed : r ≡ both under equal) where
    pub fats_wrong : r ≡ false → false ≡ both (fats_right S img n list difats k) equal
    unfolding fats_right ids_right
    fats_wrong f = sym (split followed under (different (fats_of S img list difats k)) equal (sym listed ∙ f))
      where
        split : (a e b s : Bool) → both e s ≡ false → both (both a (both e b)) s ≡ false
        split true true true s q = q
        split true true false s q = refl
        split true false b s q = refl
        split false e b s q = refl

    fats_are : r ≡ true → fats ≡ fats_of S img list difats k
    fats_are t = same_list_true _ _ (both_right under equal (sym listed ∙ t))

    pub fats_low : r ≡ true → all_below n fats ≡ true
    fats_low t = ap (all_below n) (fats_are t) ∙ both_left under equal (sym listed ∙ t)

    pub fats_told : (q : Bool) → r ≡ true → followed ≡ true → q ≡ different fats → q ≡ both (fats_right S img n list difats k) equal
    unfolding fats_right ids_right
    fats_told q t f e =
        e ∙ ap different (fats_are t)
        ∙ sym (three followed under (different (fats_of S img list difats k)) equal f (both_left under equal (sym listed ∙ t)) (both_right under equal (sym listed ∙ t)))
      where
        three : (a e b s : Bool) → a ≡ true → e ≡ true → s ≡ true → both (both a (both e b)) s ≡ b
        three a e true s p q u = rw (p, q, u)
        three a e false s p q u = rw (p, q)

  pub fats_followed : followed ≡ false → false ≡ both (fats_right S img n list difats k) equal
  unfolding fats_right
  fats_followed f = sym (both_false_left (both followed (ids_right n (fats_of S img list difats k))) equal (both_false_left followed (ids_right n (fats_of S img list difats k)) f))

-- the DIFAT's list fits into the scratch
pub lists_chained : (S n len k d scratch : ℕ) → ListsLent S n len k d scratch → ChainLent S n len d scratch
lists_chained S n len k d scratch l =
    let few : d ≤ n = difats_few S n len k d l.counted in
    record { holds = l.counted.holds; few = omega (arith, l.counted.few); within = omega (arith, l.below); below = l.below }

-- a scratch whose front was lent and came back is as long as it was
pub relent : (front before : List ℕ) (d n : ℕ) → length front ≡ length (take d before) → d ≤ length before → n ≤ length before → n ≤ length (front ++ drop d before)
relent front before d n e h l = rw length-append (omega (arith, length-take-le d before h, length-drop d before))

-- both lists, of the counts that n sectors ask for
module _ (S : ℕ) (img : List ℕ) (h : Header) (n : ℕ) (fats difats : List ℕ) (len scratch : ℕ) (l : ListsLent S n len (length fats) (length difats) scratch) where
  in_difats : difats_in S img h n ≡ difats_of S img h.difat (length difats)
  unfolding difats_in
  in_difats = ap (difats_of S img h.difat) (sym (l.counted.difats ∙ ap (difat_count S) l.counted.fats))

  in_fats : fats_in S img h n ≡ fats_of S img h.list (difats_of S img h.difat (length difats)) (length fats)
  unfolding fats_in
  in_fats =
      ap (fats_of S img h.list (difats_in S img h n)) (sym l.counted.fats)
      ∙ ap (λ (x : List ℕ). fats_of S img h.list x (length fats)) in_difats

  by_parts : lists_same S img h n fats difats
      ≡ both
      (both (counts_right h (length fats) (length difats))
      (both (chain_right S img h.difat n (length difats)) (fats_right S img n h.list (difats_of S img h.difat (length difats)) (length fats))))
      (both (same_list difats (difats_of S img h.difat (length difats))) (same_list fats (fats_of S img h.list (difats_of S img h.difat (length difats)) (length fats))))
  unfolding lists_same
  by_parts = rw (by_counts S img h n (length fats) (length difats) l.counted.fats l.counted.difats, in_difats, in_fats)

  pub lists_counts : counts_right h (length fats) (length difats) ≡ false → false ≡ lists_same S img h n fats difats
  lists_counts f = sym (by_parts ∙ none (counts_right h (length fats) (length difats)) _ _ f)
    where
      none : (a b c : Bool) → a ≡ false → both (both a b) c ≡ false
      none a b c p = rw p

  module _ (r : Bool) (told : r ≡ both (chain_right S img h.difat n (length difats)) (same_list difats (difats_of S img h.difat (length difats)))) where
    pub lists_chain : r ≡ false → false ≡ lists_same S img h n fats difats
    lists_chain f =
        sym (by_parts ∙ split (counts_right h (length fats) (length difats)) (chain_right S img h.difat n (length difats)) (fats_right S img n h.list (difats_of S img h.difat (length difats)) (length fats))
        (same_list difats (difats_of S img h.difat (length difats))) (same_list fats (fats_of S img h.list (difats_of S img h.difat (length difats)) (length fats))) (sym told ∙ f))
      where
        split : (a b c d e : Bool) → both b d ≡ false → both (both a (both b c)) (both d e) ≡ false
        split true true true false e q = refl
        split true true false d e q = refl
        split true false c d e q = refl
        split false b c d e q = refl
        split true true true true e q = absurd (not_both refl q)

    chain_same : r ≡ true → difats ≡ difats_of S img h.difat (length difats)
    chain_same t = same_list_true _ _ (both_right (chain_right S img h.difat n (length difats)) _ (sym told ∙ t))

    chain_right_lem : r ≡ true → chain_right S img h.difat n (length difats) ≡ true
    chain_right_lem t = both_left _ (same_list difats (difats_of S img h.difat (length difats))) (sym told ∙ t)

    pub lists_told : (q : Bool) → counts_right h (length fats) (length difats) ≡ true → r ≡ true
        → q ≡ both (fats_right S img n h.list difats (length fats)) (same_list fats (fats_of S img h.list difats (length fats))) → q ≡ lists_same S img h n fats difats
    lists_told q c t e =
        e
        ∙ ap (λ (x : List ℕ). both (fats_right S img n h.list x (length fats)) (same_list fats (fats_of S img h.list x (length fats)))) (chain_same t)
        ∙ sym (by_parts ∙ rest (counts_right h (length fats) (length difats)) (chain_right S img h.difat n (length difats)) (fats_right S img n h.list (difats_of S img h.difat (length difats)) (length fats))
        (same_list difats (difats_of S img h.difat (length difats))) (same_list fats (fats_of S img h.list (difats_of S img h.difat (length difats)) (length fats))) c (chain_right_lem t) (same_of _ _ (chain_same t)))
      where
        rest : (a b c d e : Bool) → a ≡ true → b ≡ true → d ≡ true → both (both a (both b c)) (both d e) ≡ both c e
        rest a b c d e p q u = rw (p, q, u)

    -- the DIFAT sectors are below n, and so the places can be read
    pub lists_places : (list : List ℕ) (room : ℕ) → length list ≡ 109 → room ≡ scratch → r ≡ true → PlacesLent S n len list difats (length fats) room
    unfolding chain_right
    lists_places list room w kept t =
        let few : length fats ≤ n = fats_few S n len (length fats) (length difats) l.counted in
        record {
          places = record {
            holds = l.counted.holds;
            whole = w;
            below = ap (all_below n) (chain_same t) ∙ both_left (all_below n (difats_of S img h.difat (length difats))) _ (chain_right_lem t);
            there = places_reach S n len (length fats) (length difats) l.counted;
            small = places_few S n len (length fats) (length difats) l.counted;
          };
          few = omega (arith, l.counted.few);
          within = omega (arith, l.below);
          below = omega (arith, l.below);
        }
