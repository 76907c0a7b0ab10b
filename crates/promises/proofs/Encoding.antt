-- What the bytes of an image encode, as an opening finds it, is what they say place by place, and the other way round. Assumes nothing.
use Prim.Native.Nat.{ℕ, zero, suc, ◌+◌, ◌-◌, ◌*◌, ◌/◌, ◌%◌, ◌≤◌, ◌<◌, min}
use mathlib.Core.Path.{◌≡◌, refl, sym, ◌∙◌, ap}
use mathlib.Core.Bool.{Bool, true}
use mathlib.Core.List.{List, [], ◌∷◌}
use mathlib.Core.Logic.{inl, inr, ⊎_elim, ◌≢◌}
use native.Mathlib.Omega.{arith}
use native.Mathlib.Nat.{add_assoc, mod-lt, div-lt_iff_lt-mul}
use native.Mathlib.Numerals.{add-one}
use borrow.Author.Tests.{eq-eqb, ne_eqb, lt-ltb, le-ltb, le-leb, lt-leb}
use lib.ListN.{length, get_or, drop, length-drop}
use lib.Seq.{get_or-take, get_or-drop, length-take-le}
use Rattle.lists.specs.Lists.{choose, part}
use Rattle.lists.proofs.Cases.{below_or, same_or, both_true}
use Rattle.lists.proofs.Splice.{get_d_part}
use Rattle.lists.proofs.Tab.{length_tab, get_or_tab}
use Rattle.words.specs.Words.{le}
use Rattle.words.proofs.Laws.{le_ext}
use Rattle.consts.specs.Consts.{max_regular, end_of_chain, free_sector}
use Rattle.fields.specs.Fields.{fats_at, difat_at, difats_at, number_at, entry_at, list_of, ids_in, all_free, ids_then_free}
use Rattle.header.proofs.Given.{free_each}
use Rattle.header.specs.Read.{header_of, end_if_free}
use Rattle.fields.proofs.Table.{number_is}
use Rattle.sectors.specs.Sectors.{start_of, sector_of, per_sector, entry_in, entry_of}
use Rattle.fat.specs.Lists.{difat_count}
use Rattle.fat.proofs.Listing.{ceil_enough}
use Rattle.sound.specs.Sound.{next_of, place_in, Ends, Encodes}
use Rattle.disk.specs.Disk.{Disk, entry_place, link_place}
use Rattle.disk.specs.Fits.{FitsWhole}
use Rattle.disk.proofs.Counting.{fat_has}
use Rattle.disk.proofs.Keeping.{each_many}
use Rattle.edits.specs.Roles.{fats_held, difats_held}
use Rattle.promises.specs.Coded.{place_of, Entries, Places, Links, Coded}
use Rattle.promises.specs.Whole.{fat_held, fats_list, difats_list}

-- the header's list: the sector numbers that it begins with, and the FREE places after them
ids_count : (xs : List ℕ) (m : ℕ) → m ≤ length xs → ((i : ℕ) → i < m → get_or xs i 0 ≤ max_regular) → ((i : ℕ) → m ≤ i → i < length xs → max_regular < get_or xs i 0) → ids_in xs ≡ m
unfolding ids_in
ids_count [] m l low high = omega arith
ids_count (x ∷ xs) zero l low high = ap (λ (t : Bool). choose t (suc (ids_in xs)) 0) (lt-leb x max_regular (high 0 (omega arith) (omega arith)))
ids_count (x ∷ xs) (suc m) l low high =
    let rest : ids_in xs ≡ m = ids_count xs m (omega arith) (λ i h. low (suc i) (omega arith)) (λ i g h. high (suc i) (omega arith) (omega arith)) in
    ap (λ (t : Bool). choose t (suc (ids_in xs)) 0) (le-leb x max_regular (low 0 (omega arith))) ∙ ap suc rest

free_all : (xs : List ℕ) → ((i : ℕ) → i < length xs → get_or xs i 0 ≡ free_sector) → all_free xs ≡ true
unfolding all_free
free_all [] h = refl
free_all (x ∷ xs) h = both_true (eq-eqb x free_sector (h 0 (omega arith))) (free_all xs (λ i l. h (suc i) (omega arith)))

rest_free_lem : (xs : List ℕ) (m i : ℕ) → ids_then_free xs ≡ true → ids_in xs ≡ m → m ≤ i → i < length xs → get_or xs i 0 ≡ free_sector
unfolding ids_then_free
rest_free_lem xs m i t e g h =
    let here : m + (i - m) ≡ i = omega arith in
    ap (λ (p : ℕ). get_or xs p 0) (sym here) ∙ sym (get_or-drop m xs (i - m) 0)
    ∙ free_each (drop m xs) (ap (λ (p : ℕ). all_free (drop p xs)) (sym e) ∙ t) (i - m) (omega (arith, length-drop m xs, g, h))

then_free : (xs : List ℕ) (m : ℕ) → ids_in xs ≡ m → ((i : ℕ) → m ≤ i → i < length xs → get_or xs i 0 ≡ free_sector) → ids_then_free xs ≡ true
unfolding ids_then_free
then_free xs m e h =
    ap (λ (p : ℕ). all_free (drop p xs)) e
    ∙ free_all (drop m xs) (λ i l. get_or-drop m xs i 0 ∙ h (m + i) (omega arith) (omega (arith, l, length-drop m xs)))

-- document 01: a first DIFAT sector of FREE is read as END
end_kept : (v : ℕ) → v ≢ free_sector → end_if_free v ≡ v
unfolding end_if_free
end_kept v n = ap (λ (t : Bool). choose t end_of_chain v) (ne_eqb v free_sector n)

end_free : (v : ℕ) → v ≡ free_sector → end_if_free v ≡ end_of_chain
unfolding end_if_free
end_free v e = ap (λ (t : Bool). choose t end_of_chain v) (eq-eqb v free_sector e)

end_told : (v x : ℕ) → x ≢ end_of_chain → end_if_free v ≡ x → v ≡ x
end_told v x n e =
    ⊎_elim (λ (q : v ≡ free_sector). absurd (n (sym e ∙ end_free v q))) (λ (q : v ≢ free_sector). sym (end_kept v q) ∙ e) (same_or v free_sector)

ends_before : (v : ℕ) → Ends (end_if_free v) → Ends v
ends_before v h =
    ⊎_elim (λ (q : v ≡ free_sector). inr q)
    (λ (q : v ≢ free_sector). ⊎_elim (λ (e : end_if_free v ≡ end_of_chain). inl (sym (end_kept v q) ∙ e)) (λ (e : end_if_free v ≡ free_sector). inr (sym (end_kept v q) ∙ e)) h)
    (same_or v free_sector)

ends_after : (v : ℕ) → Ends v → Ends (end_if_free v)
ends_after v h =
    ⊎_elim (λ (q : v ≡ free_sector). inl (end_free v q))
    (λ (q : v ≢ free_sector). ⊎_elim (λ (e : v ≡ end_of_chain). inl (end_kept v q ∙ e)) (λ (e : v ≡ free_sector). inr (end_kept v q ∙ e)) h)
    (same_or v free_sector)

ends_own : (v w : ℕ) → v ≡ w → Ends v → Ends w
ends_own v w e h = rw e at h

-- MS-CFB 2.3: an entry of a sector is a number at its place in the image
pub entry_word : (S : ℕ) (img : List ℕ) (i e : ℕ) → 4 * e + 4 ≤ S → entry_in (sector_of S img i) e ≡ le 4 img (start_of S i + 4 * e)
unfolding entry_in sector_of
entry_word S img i e h =
    le_ext 4 (part img (start_of S i) S) img (4 * e) (start_of S i + 4 * e)
    (λ a l. get_d_part img (start_of S i) S (4 * e + a) (omega arith) ∙ ap (λ (x : ℕ). get_or img x 0) (sym (add_assoc (start_of S i) (4 * e) a)))

-- the same of the header's list and of the places of the DIFAT in its sectors
list_word : (S : ℕ) (img difats : List ℕ) (p : ℕ) → p < 109 → get_or (list_of img) p 0 ≡ le 4 img (place_of S difats p)
unfolding list_of entry_at place_of
list_word S img difats p h = get_or_tab (entry_at img) 109 p 0 h ∙ sym (rw (lt-ltb p 109 h))

place_word : (S : ℕ) (difats : List ℕ) (q : ℕ) → place_of S difats (109 + q) ≡ start_of S (get_or difats (q / (per_sector S - 1)) 0) + 4 * (q % (per_sector S - 1))
unfolding place_of
place_word S difats q =
    let e : 109 + q - 109 ≡ q = omega arith in
    rw (le-ltb (109 + q) 109 (omega arith), e)

link_word : (S : ℕ) (difats : List ℕ) (i : ℕ) → link_place S difats (i + 1) ≡ start_of S (get_or difats i 0) + 4 * (per_sector S - 1)
unfolding link_place
link_word S difats i =
    let e : i + 1 - 1 ≡ i = omega arith in
    rw (ne_eqb (i + 1) 0 (λ z. omega (arith, z)), e)

module _ (S R : ℕ) (d : Disk) (f : FitsWhole S R d) where
  -- the sectors of the FAT and of the DIFAT, and the places in a sector of each
  abbrev k : ℕ
  k = fats_held S d

  abbrev j : ℕ
  j = difats_held S d

  abbrev E : ℕ
  E = per_sector S

  abbrev img : List ℕ
  img = d.image

  many : 128 ≤ E
  many = each_many S R _ _ d f

  length_fats : length (fats_list S d) ≡ k
  length_fats = length-take-le k d.fats (omega (arith, f.fats_many, f.fats_long))

  length_difats : length (difats_list S d) ≡ j
  length_difats = length-take-le j d.difats (omega (arith, f.difats_many, f.difats_long))

  fat_at : (i : ℕ) → i < d.sectors → get_or (fat_held d) i 0 ≡ get_or d.fat i 0
  fat_at i l = get_or-take d.sectors d.fat i 0 l

  fats_at_lem : (p : ℕ) → p < k → get_or (fats_list S d) p 0 ≡ get_or d.fats p 0
  fats_at_lem p l = get_or-take k d.fats p 0 l

  difats_at_lem : (p : ℕ) → p < j → get_or (difats_list S d) p 0 ≡ get_or d.difats p 0
  difats_at_lem p l = get_or-take j d.difats p 0 l

  -- an entry of the FAT, a place and a link of the DIFAT, by the listed sectors
  entry_is : (i : ℕ) → i / E < k → entry_of S img (fats_list S d) i ≡ le 4 img (entry_place S d.fats i)
  unfolding entry_of entry_place
  entry_is i l =
      ap (λ (s : ℕ). entry_in (sector_of S img s) (i % E)) (fats_at_lem (i / E) l)
      ∙ entry_word S img (get_or d.fats (i / E) 0) (i % E) (omega (arith, mod-lt i {m = E} (omega (arith, many)), f.holds.entries))

  place_is : (q : ℕ) → q / (E - 1) < j → place_in S img (difats_list S d) q ≡ le 4 img (place_of S d.difats (109 + q))
  place_is q l =
      ap (λ (s : ℕ). entry_in (sector_of S img s) (q % (E - 1))) (difats_at_lem (q / (E - 1)) l)
      ∙ entry_word S img (get_or d.difats (q / (E - 1)) 0) (q % (E - 1)) (omega (arith, mod-lt q {m = E - 1} (omega (arith, many)), f.holds.entries, many))
      ∙ ap (le 4 img) (sym (place_word S d.difats q))

  link_is : (i : ℕ) → i < j → next_of S img (get_or (difats_list S d) i 0) ≡ le 4 img (link_place S d.difats (i + 1))
  link_is i l =
      ap (λ (s : ℕ). entry_in (sector_of S img s) (E - 1)) (difats_at_lem i l)
      ∙ entry_word S img (get_or d.difats i 0) (E - 1) (omega (arith, f.holds.entries, many))
      ∙ ap (le 4 img) (sym (link_word S d.difats i))

  link_first : le 4 img (link_place S d.difats 0) ≡ number_at img difat_at
  unfolding link_place
  link_first = number_is img difat_at 4 refl

  list_is : (p : ℕ) → p < 109 → get_or (header_of img).list p 0 ≡ le 4 img (place_of S d.difats p)
  unfolding header_of
  list_is p l = list_word S img d.difats p l

  length_list : length (header_of img).list ≡ 109
  unfolding header_of list_of
  length_list = length_tab (entry_at img) 109

  -- which sector has an entry and a place
  entry_far : (i : ℕ) → i < k * E → i / E < k
  entry_far i l = (div-lt_iff_lt-mul {k = E} {x = i} {y = k} (omega (arith, many))).1 l

  place_far : (q : ℕ) → q < j * (E - 1) → q / (E - 1) < j
  place_far q l = (div-lt_iff_lt-mul {k = E - 1} {x = q} {y = j} (omega (arith, many))).1 l

  reach : k ≤ 109 + j * (E - 1)
  unfolding difat_count
  reach = omega (arith, (ceil_enough (k - 109) (E - 1) (omega (arith, many))).0)

  -- where the bytes encode the tables
  module _ (e : Encodes S img (header_of img) d.sectors (fat_held d) (fats_list S d) (difats_list S d)) (t : ids_then_free (list_of img) ≡ true) where
    encoded_entries : Entries S img d.fats k d.sectors d.fat
    encoded_entries = record {
      each = λ i l. sym (entry_is i (fat_has S d.sectors i (omega (arith, many)) l)) ∙ e.entries i l ∙ fat_at i l;
      rest = λ i g l. sym (entry_is i (entry_far i l)) ∙ e.entries_rest i g (rw length_fats l);
    }

    list_free : ids_then_free (header_of img).list ≡ true
    unfolding header_of
    list_free = t

    list_count : ids_in (header_of img).list ≡ min k 109
    list_count = e.list_count ∙ ap (λ (x : ℕ). min x 109) length_fats

    encoded_places : Places S img d.difats j k d.fats
    encoded_places = record {
      each = λ p l.
          ⊎_elim
          (λ (low : p < 109). sym (list_is p low) ∙ e.list_places p (rw length_fats l) low ∙ fats_at_lem p l)
          (λ (high : 109 ≤ p).
          let s : 109 + (p - 109) ≡ p = omega arith in
          ap (λ (x : ℕ). le 4 img (place_of S d.difats x)) (sym s)
          ∙ sym (place_is (p - 109) (place_far (p - 109) (omega (arith, l, high, reach))))
          ∙ e.places (p - 109) (omega (arith, length_fats, l, high))
          ∙ ap (λ (x : ℕ). get_or (fats_list S d) x 0) s ∙ fats_at_lem p l)
          (below_or p 109);
      rest = λ p g l.
          ⊎_elim
          (λ (low : p < 109). sym (list_is p low) ∙ rest_free_lem (header_of img).list (min k 109) p list_free list_count (omega (arith, g)) (omega (arith, low, length_list)))
          (λ (high : 109 ≤ p).
          let s : 109 + (p - 109) ≡ p = omega arith in
          let q : p - 109 < j * (E - 1) = omega (arith, l, high) in
          ap (λ (x : ℕ). le 4 img (place_of S d.difats x)) (sym s)
          ∙ sym (place_is (p - 109) (place_far (p - 109) q))
          ∙ e.places_rest (p - 109) (omega (arith, length_fats, g, high)) (rw length_difats q))
          (below_or p 109);
    }

    first_is : 0 < j → number_at img difat_at ≡ get_or d.difats 0 0
    unfolding header_of
    first_is l =
        end_told (number_at img difat_at) (get_or d.difats 0 0) (λ z. omega (arith, z, f.difats_below 0 l, f.inside, f.few))
        (e.chain_first (rw length_difats l) ∙ difats_at_lem 0 l)

    first_ends : j ≡ 0 → Ends (number_at img difat_at)
    unfolding header_of
    first_ends z = ends_before (number_at img difat_at) (e.chain_none (length_difats ∙ z))

    encoded_links : Links S img d.difats j
    encoded_links = record { each = each; last = last j refl }
      where
        each : (i : ℕ) → i < j → le 4 img (link_place S d.difats i) ≡ get_or d.difats i 0
        each zero l = link_first ∙ first_is l
        each (suc i) l =
            let s : i + 1 ≡ suc i = add-one i in
            ap (λ (x : ℕ). le 4 img (link_place S d.difats x)) (sym s) ∙ sym (link_is i (omega (arith, l)))
            ∙ e.chain_next i (omega (arith, l, length_difats)) ∙ difats_at_lem (i + 1) (omega (arith, l)) ∙ ap (λ (x : ℕ). get_or d.difats x 0) s

        last : (c : ℕ) → j ≡ c → Ends (le 4 img (link_place S d.difats c))
        last zero z = ends_own _ _ (sym link_first) (first_ends z)
        last (suc i) z =
            ends_own _ _ (link_is i (omega (arith, z)) ∙ ap (λ (x : ℕ). le 4 img (link_place S d.difats x)) (add-one i))
            (e.chain_last i (omega (arith, z, length_difats)))

    -- MS-CFB 2.2, 2.3, 2.5: what an opening finds encoded stands in its places
    pub encoded_coded : Coded S d
    unfolding header_of
    encoded_coded = record {
      number_of_fats = number_is img fats_at 4 refl ∙ e.number_of_fats ∙ length_fats;
      number_of_difats = number_is img difats_at 4 refl ∙ e.number_of_difats ∙ length_difats;
      entries = encoded_entries;
      places = encoded_places;
      links = encoded_links;
    }

  -- where the bytes say it place by place
  module _ (c : Coded S d) where
    listed : (p : ℕ) → p < k → p < 109 → get_or (header_of img).list p 0 ≡ get_or d.fats p 0
    listed p l low = list_is p low ∙ c.places.each p l

    unlisted : (p : ℕ) → k ≤ p → p < 109 → get_or (header_of img).list p 0 ≡ free_sector
    unlisted p g low = list_is p low ∙ c.places.rest p g (omega (arith, low))

    counted : ids_in (header_of img).list ≡ min k 109
    counted =
        ids_count (header_of img).list (min k 109) (omega (arith, length_list))
        (λ i h. omega (arith, listed i (omega (arith, h)) (omega (arith, h)), f.fats_below i (omega (arith, h)), f.inside, f.few))
        (λ i g h. omega (arith, unlisted i (omega (arith, g, h, length_list)) (omega (arith, h, length_list))))

    -- MS-CFB 2.5, document 01, 9: the header's list is sector numbers and then FREE
    pub coded_list : ids_then_free (list_of img) ≡ true
    unfolding header_of
    coded_list = then_free (header_of img).list (min k 109) counted (λ i g h. unlisted i (omega (arith, g, h, length_list)) (omega (arith, h, length_list)))

    place_after_lem : (q : ℕ) → 109 + q < k → place_in S img (difats_list S d) q ≡ get_or (fats_list S d) (109 + q) 0
    place_after_lem q l =
        place_is q (place_far q (omega (arith, l, reach))) ∙ c.places.each (109 + q) l ∙ sym (fats_at_lem (109 + q) l)

    place_free : (q : ℕ) → k ≤ 109 + q → q < j * (E - 1) → place_in S img (difats_list S d) q ≡ free_sector
    place_free q g l = place_is q (place_far q l) ∙ c.places.rest (109 + q) g (omega (arith, l))

    first_none : j ≡ 0 → Ends (header_of img).difat
    unfolding header_of
    first_none z = ends_after (number_at img difat_at) (ends_own _ _ (ap (λ (x : ℕ). le 4 img (link_place S d.difats x)) z ∙ link_first) c.links.last)

    first_some : 0 < j → (header_of img).difat ≡ get_or (difats_list S d) 0 0
    unfolding header_of
    first_some l =
        let v : number_at img difat_at ≡ get_or d.difats 0 0 = sym link_first ∙ c.links.each 0 l in
        end_kept (number_at img difat_at) (λ z. omega (arith, z, v, f.difats_below 0 l, f.inside, f.few)) ∙ v ∙ sym (difats_at_lem 0 l)

    -- MS-CFB 2.2, 2.3, 2.5: what stands in its places is encoded as an opening finds it
    pub coded_encoded : Encodes S img (header_of img) d.sectors (fat_held d) (fats_list S d) (difats_list S d)
    unfolding header_of
    coded_encoded = record {
      number_of_fats = sym (number_is img fats_at 4 refl) ∙ c.number_of_fats ∙ sym length_fats;
      number_of_difats = sym (number_is img difats_at 4 refl) ∙ c.number_of_difats ∙ sym length_difats;
      list_count = counted ∙ ap (λ (x : ℕ). min x 109) (sym length_fats);
      list_places = λ p l low. let h : p < k = rw length_fats at l in listed p h low ∙ sym (fats_at_lem p h);
      chain_none = λ z. first_none (sym length_difats ∙ z);
      chain_first = λ l. first_some (rw length_difats at l);
      chain_next = λ i l.
          let h : i + 1 < j = rw length_difats at l in
          link_is i (omega (arith, h)) ∙ c.links.each (i + 1) h ∙ sym (difats_at_lem (i + 1) h);
      chain_last = λ i z.
          let h : i + 1 ≡ j = z ∙ length_difats in
          ends_own _ _ (ap (λ (x : ℕ). le 4 img (link_place S d.difats x)) (sym h) ∙ sym (link_is i (omega (arith, h)))) c.links.last;
      places = λ q l. place_after_lem q (rw length_fats at l);
      places_rest = λ q g l. place_free q (rw length_fats at g) (rw length_difats at l);
      entries = λ i l. entry_is i (fat_has S d.sectors i (omega (arith, many)) l) ∙ c.entries.each i l ∙ sym (fat_at i l);
      entries_rest = λ i g l. let h : i < k * E = rw length_fats at l in entry_is i (entry_far i h) ∙ c.entries.rest i g h;
    }
