-- The lists that pass document 01's rows 12 and 13 are those that the bytes encode. Assumes nothing.
use Prim.Native.Nat.{ℕ, zero, suc, ◌+◌, ◌-◌, ◌*◌, ◌≤◌, ◌<◌, min}
use mathlib.Core.Path.{◌≡◌, refl, sym, ◌∙◌, ap}
use mathlib.Core.Bool.{true}
use mathlib.Core.List.{List}
use mathlib.Core.Logic.{inl, inr, ⊎_elim}
use native.Mathlib.Omega.{arith}
use native.Mathlib.Numerals.{add-one}
use borrow.Author.Tests.{eq-eqb, eqb-true}
use lib.Dec.{eqb}
use lib.ListN.{length, get_or}
use Rattle.lists.proofs.Cases.{below_or, both_true, both_left, both_right, either_cases, either_right, every_at, every_of}
use Rattle.lists.proofs.Tab.{length_tab, get_or_tab, is_tab}
use Rattle.consts.specs.Consts.{end_of_chain, free_sector}
use Rattle.fields.specs.Fields.{ids_in}
use Rattle.header.specs.declared.Header.{Header}
use Rattle.sectors.specs.Sectors.{per_sector, entry_of}
use Rattle.fat.specs.Lists.{fat_count, difat_count, difat_at, place_at, difats_of, fats_of, fat_of, all_below, different, ends, counts_right, chain_right, rest_free, ids_right, fats_right, difats_in, fats_in, lists_right, tail_free}
use Rattle.alloc.specs.Opening.{raw_fat}
use Rattle.alloc.proofs.Filled.{length_fats, length_difats}
use Rattle.fat.proofs.Loading.{chain_first, chain_next, place_low, place_high}
use Rattle.fat.proofs.Differing.{below_of, different_of}
use Rattle.sound.specs.Sound.{next_of, place_in, Ends, Encodes, WellFormed}

-- what passes the test of an end is END or FREE
ends_told : (v : ℕ) → ends v ≡ true → Ends v
unfolding ends
ends_told v t = ⊎_elim (λ (e : eqb v end_of_chain ≡ true). inl (eqb-true v end_of_chain e)) (λ (e : eqb v free_sector ≡ true). inr (eqb-true v free_sector e)) (either_cases _ _ t)

-- and END or FREE passes it
ends_tested : (v : ℕ) → Ends v → ends v ≡ true
unfolding ends
ends_tested v (inl e) = rw (eq-eqb v end_of_chain e)
ends_tested v (inr e) = either_right (eqb v end_of_chain) _ (eq-eqb v free_sector e)

module _ (S : ℕ) (img : List ℕ) (first : ℕ) where
  -- the list of the chain has its sectors in their order
  listed_at_lem : (d j : ℕ) → j < d → get_or (difats_of S img first d) j 0 ≡ difat_at S img first j
  unfolding difats_of
  listed_at_lem d j h = get_or_tab (difat_at S img first) d j 0 h

  -- the last entry of each is where the chain leads next
  leads_on : (d j : ℕ) → j < d → next_of S img (get_or (difats_of S img first d) j 0) ≡ difat_at S img first (j + 1)
  leads_on d j h = chain_next S img first j (get_or (difats_of S img first d) j 0) _ (listed_at_lem d j h) refl

  module _ (difats : List ℕ) (begins : 0 < length difats → first ≡ get_or difats 0 0) (goes : (j : ℕ) → j + 1 < length difats → next_of S img (get_or difats j 0) ≡ get_or difats (j + 1) 0) where
    -- a list that begins as the chain and goes on as it has the chain's sectors
    leads_to : (j : ℕ) → j < length difats → get_or difats j 0 ≡ difat_at S img first j
    leads_to zero h = sym (begins h) ∙ chain_first S img first
    leads_to (suc j) h =
        let rest : get_or difats j 0 ≡ difat_at S img first j = leads_to j (omega arith) in
        rw (← add-one j) (sym (goes j (omega arith)) ∙ chain_next S img first j (get_or difats j 0) _ rest refl)

    -- so it is the list of the chain
    lists_chain : difats ≡ difats_of S img first (length difats)
    unfolding difats_of
    lists_chain = is_tab difats (difat_at S img first) (length difats) refl leads_to

    -- and the chain ends where the list does
    ends_chain : (length difats ≡ 0 → Ends first) → ((j : ℕ) → j + 1 ≡ length difats → Ends (next_of S img (get_or difats j 0))) → Ends (difat_at S img first (length difats))
    ends_chain none last = at (length difats) refl
      where
        at : (d : ℕ) → length difats ≡ d → Ends (difat_at S img first d)
        at zero e = rw (← chain_first S img first) (none e)
        at (suc j) e =
            let here : next_of S img (get_or difats j 0) ≡ difat_at S img first (j + 1) = chain_next S img first j (get_or difats j 0) _ (leads_to j (omega arith)) refl in
            rw (← add-one j, ← here) (last j (omega arith))

-- a place of the DIFAT from 109 on stands in its sectors
place_beyond : (S : ℕ) (img list difats : List ℕ) (q : ℕ) → place_in S img difats q ≡ place_at S img list difats (109 + q)
place_beyond S img list difats q =
    let e : 109 + q - 109 ≡ q = omega arith in
    place_high S img list difats (109 + q) _ (omega arith) (rw e)

module _ (S : ℕ) (img list difats : List ℕ) (k d : ℕ) where
  -- where the test of the rest holds, FREE stands in every place after the k
  rest_told : rest_free S img list difats k d ≡ true → (q : ℕ) → k ≤ 109 + q → q < d * (per_sector S - 1) → place_in S img difats q ≡ free_sector
  unfolding rest_free
  rest_told t q g l =
      let e : 109 + (k - 109) + (q - (k - 109)) ≡ 109 + q = omega arith in
      place_beyond S img list difats q ∙ ap (place_at S img list difats) (sym e)
      ∙ eqb-true _ free_sector (every_at _ (λ j. eqb (place_at S img list difats (109 + (k - 109) + j)) free_sector) t (q - (k - 109)) (omega arith))

  -- and where it does, the test holds
  rest_tested : ((q : ℕ) → k ≤ 109 + q → q < d * (per_sector S - 1) → place_in S img difats q ≡ free_sector) → rest_free S img list difats k d ≡ true
  unfolding rest_free
  rest_tested h =
      every_of _ (λ j. eqb (place_at S img list difats (109 + (k - 109) + j)) free_sector)
      (λ j l.
      let e : 109 + (k - 109) + j ≡ 109 + (k - 109 + j) = omega arith in
      eq-eqb _ free_sector (ap (place_at S img list difats) e ∙ sym (place_beyond S img list difats (k - 109 + j)) ∙ h (k - 109 + j) (omega arith) (omega arith)))

module _ (S : ℕ) (img fats : List ℕ) (n : ℕ) where
  -- where the test of the tail holds, every entry from n on is FREE
  tail_told : tail_free S img fats n ≡ true → (i : ℕ) → n ≤ i → i < length fats * per_sector S → entry_of S img fats i ≡ free_sector
  unfolding tail_free
  tail_told t i g l =
      let e : n + (i - n) ≡ i = omega arith in
      ap (entry_of S img fats) (sym e) ∙ eqb-true _ free_sector (every_at _ (λ j. eqb (entry_of S img fats (n + j)) free_sector) t (i - n) (omega arith))

  -- and where they are, the test holds
  tail_tested : ((i : ℕ) → n ≤ i → i < length fats * per_sector S → entry_of S img fats i ≡ free_sector) → tail_free S img fats n ≡ true
  unfolding tail_free
  tail_tested h = every_of _ (λ j. eqb (entry_of S img fats (n + j)) free_sector) (λ j l. eq-eqb _ free_sector (h (n + j) (omega arith) (omega arith)))

-- document 01, 12, part by part: the lists of an image that is not refused
pub record ListsRight (S : ℕ) (img : List ℕ) (h : Header) (n : ℕ) : Type 0 where
  pub number_of_fats : h.fats ≡ fat_count S n
  pub number_of_difats : h.difats ≡ difat_count S (fat_count S n)
  pub list_count : ids_in h.list ≡ min (fat_count S n) 109
  pub difats_below : all_below n (difats_in S img h n) ≡ true
  pub difats_differ : different (difats_in S img h n) ≡ true
  pub ended : ends (difat_at S img h.difat (difat_count S (fat_count S n))) ≡ true
  pub rest : rest_free S img h.list (difats_in S img h n) (fat_count S n) (length (difats_in S img h n)) ≡ true
  pub fats_below : all_below n (fats_in S img h n) ≡ true
  pub fats_differ : different (fats_in S img h n) ≡ true

module _ (S : ℕ) (img : List ℕ) (h : Header) (n : ℕ) where
  -- document 01: the FAT sectors that n sectors need
  abbrev k : ℕ
  k = fat_count S n

  -- document 01: the DIFAT sectors that those need
  abbrev d : ℕ
  d = difat_count S k

  -- where the test of 12 holds, so does each part
  pub lists_told : lists_right S img h n ≡ true → ListsRight S img h n
  unfolding lists_right counts_right chain_right fats_right ids_right difats_in fats_in
  lists_told t =
      let counts : counts_right h k d ≡ true = both_left _ _ t in
      let lists = both_right (counts_right h k d) _ t in
      let more = both_right (eqb h.fats k) _ counts in
      let chain : chain_right S img h.difat n d ≡ true = both_left _ _ lists in
      let fats = both_right (chain_right S img h.difat n d) _ lists in
      let after = both_right (all_below n (difats_in S img h n)) _ chain in
      let ids = both_right (rest_free S img h.list (difats_in S img h n) k (length (difats_in S img h n))) _ fats in
      record {
        number_of_fats = eqb-true _ _ (both_left _ _ counts);
        number_of_difats = eqb-true _ _ (both_left _ _ more);
        list_count = eqb-true _ _ (both_right (eqb h.difats d) _ more);
        difats_below = both_left _ _ chain;
        difats_differ = both_left _ _ after;
        ended = both_right (different (difats_in S img h n)) _ after;
        rest = both_left _ _ fats;
        fats_below = both_left _ _ ids;
        fats_differ = both_right (all_below n (fats_in S img h n)) _ ids;
      }

  -- and where each part does, the test holds
  lists_tested : ListsRight S img h n → lists_right S img h n ≡ true
  unfolding lists_right counts_right chain_right fats_right ids_right difats_in fats_in
  lists_tested r =
      both_true (both_true (eq-eqb _ _ r.number_of_fats) (both_true (eq-eqb _ _ r.number_of_difats) (eq-eqb _ _ r.list_count)))
      (both_true (both_true r.difats_below (both_true r.difats_differ r.ended))
      (both_true r.rest (both_true r.fats_below r.fats_differ)))

  -- there are n entries
  pub raw_count : length (raw_fat S img h n) ≡ n
  unfolding raw_fat fat_of
  raw_count = length_tab _ n

  -- a FAT sector is what its place in the DIFAT says
  fats_at_lem : (p : ℕ) → p < length (fats_in S img h n) → get_or (fats_in S img h n) p 0 ≡ place_at S img h.list (difats_in S img h n) p
  unfolding fats_in fats_of
  fats_at_lem p l = get_or_tab _ k p 0 (rw (length_fats S img h n) at l)

  -- lists that are right, with FREE behind the n entries, are encoded by the bytes
  pub encoded_told : ListsRight S img h n → tail_free S img (fats_in S img h n) n ≡ true → Encodes S img h n (raw_fat S img h n) (fats_in S img h n) (difats_in S img h n)
  unfolding difats_in raw_fat fat_of
  encoded_told r t =
      record {
        number_of_fats = r.number_of_fats ∙ sym (length_fats S img h n);
        number_of_difats = r.number_of_difats ∙ sym (length_difats S img h n);
        list_count = r.list_count ∙ ap (λ (x : ℕ). min x 109) (sym (length_fats S img h n));
        list_places = λ p l low. place_low S img h.list (difats_in S img h n) p low ∙ sym (fats_at_lem p l);
        chain_none = λ e. ends_told h.difat (ap ends (chain_first S img h.difat ∙ ap (difat_at S img h.difat) (sym e ∙ length_difats S img h n)) ∙ r.ended);
        chain_first = λ l. chain_first S img h.difat ∙ sym (listed_at_lem S img h.difat d 0 (rw (length_difats S img h n) at l));
        chain_next = λ j l.
            let l' : j + 1 < d = rw (length_difats S img h n) at l in
            leads_on S img h.difat d j (omega arith) ∙ sym (listed_at_lem S img h.difat d (j + 1) l');
        chain_last = λ j e.
            let e' : j + 1 ≡ d = e ∙ length_difats S img h n in
            ends_told _ (ap ends (leads_on S img h.difat d j (omega arith) ∙ ap (difat_at S img h.difat) e') ∙ r.ended);
        places = λ q l. place_beyond S img h.list (difats_in S img h n) q ∙ sym (fats_at_lem (109 + q) l);
        places_rest = λ q g l. rest_told S img h.list (difats_in S img h n) k _ r.rest q (rw (length_fats S img h n) at g) l;
        entries = λ i l. sym (get_or_tab _ n i 0 l);
        entries_rest = tail_told S img (fats_in S img h n) n t;
      }

module _ {S : ℕ} {img : List ℕ} {h : Header} {n : ℕ} {fat fats difats : List ℕ} (e : Encodes S img h n fat fats difats) (f : WellFormed S n fat fats difats) where
  -- well-formed tables have as many DIFAT sectors as n sectors need
  d_is : length difats ≡ difat_count S (fat_count S n)
  d_is = f.difats_length ∙ ap (difat_count S) f.fats_length

  -- well-formed tables that the bytes encode have the DIFAT sectors that an opening finds
  pub encoded_difats : difats ≡ difats_in S img h n
  unfolding difats_in
  encoded_difats = lists_chain S img h.difat difats e.chain_first e.chain_next ∙ ap (difats_of S img h.difat) d_is

  -- each of their FAT sectors is what its place says
  place_is : (p : ℕ) → p < length fats → get_or fats p 0 ≡ place_at S img h.list difats p
  place_is p l =
      ⊎_elim
      (λ (low : p < 109). sym (e.list_places p l low) ∙ place_low S img h.list difats p low)
      (λ (high : 109 ≤ p).
      let s : 109 + (p - 109) ≡ p = omega arith in
      rw (← s) (sym (e.places (p - 109) (omega arith)) ∙ place_beyond S img h.list difats (p - 109)))
      (below_or p 109)

  -- so they have the FAT sectors that it finds
  pub encoded_fats : fats ≡ fats_in S img h n
  unfolding fats_in fats_of
  encoded_fats =
      is_tab fats (place_at S img h.list difats) (fat_count S n) f.fats_length (λ p l. place_is p (rw f.fats_length l))
      ∙ ap (λ (x : List ℕ). fats_of S img h.list x (fat_count S n)) encoded_difats

  -- and the FAT that the bytes hold
  pub encoded_fat : fat ≡ raw_fat S img h n
  unfolding raw_fat fat_of
  encoded_fat = is_tab fat (entry_of S img fats) n f.fat_length (λ i l. sym (e.entries i l)) ∙ ap (λ (x : List ℕ). fat_of S img x n) encoded_fats

  -- their lists pass 12
  pub encoded_lists : lists_right S img h n ≡ true
  encoded_lists =
      lists_tested S img h n (record {
        number_of_fats = e.number_of_fats ∙ f.fats_length;
        number_of_difats = e.number_of_difats ∙ d_is;
        list_count = e.list_count ∙ ap (λ (x : ℕ). min x 109) f.fats_length;
        difats_below = ap (all_below n) (sym encoded_difats) ∙ below_of n difats f.difats_below;
        difats_differ = ap different (sym encoded_difats) ∙ different_of difats f.difats_differ;
        ended = rw (← d_is) (ends_tested _ (ends_chain S img h.difat difats e.chain_first e.chain_next e.chain_none e.chain_last));
        rest = rw (← encoded_difats, ← f.fats_length) (rest_tested S img h.list difats (length fats) (length difats) e.places_rest);
        fats_below = ap (all_below n) (sym encoded_fats) ∙ below_of n fats f.fats_below;
        fats_differ = ap different (sym encoded_fats) ∙ different_of fats f.fats_differ;
      })

  -- and their FAT passes 13
  pub encoded_tail : tail_free S img (fats_in S img h n) n ≡ true
  encoded_tail = rw (← encoded_fats) (tail_tested S img fats n e.entries_rest)
