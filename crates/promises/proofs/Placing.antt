-- What the entries of the FAT, the places of the DIFAT and its links say after a store: the laws of `Entries`, `Places` and `Links` (MS-CFB 2.3, 2.5). Assumes nothing.
use Prim.Native.Nat.{ℕ, suc, ◌+◌, ◌-◌, ◌*◌, ◌/◌, ◌%◌, ◌^◌, ◌≤◌, ◌<◌}
use mathlib.Core.Path.{◌≡◌, refl, ◌∙◌, sym, ap}
use mathlib.Core.List.{List}
use mathlib.Core.Logic.{inl, inr, ⊎_elim, ◌≢◌}
use native.Mathlib.Omega.{arith}
use native.Mathlib.Nat.{suc-mul, add-mul, one-mul, div-add-mod, mod-lt, div-lt_iff_lt-mul, div-eq_of_lt-le}
use borrow.Author.Tests.{lt-ltb, le-ltb, eq-eqb, ne_eqb}
use lib.ListN.{length, get_or, set}
use lib.Seq.{get_or-set_same, get_or-set_other}
use Rattle.lists.specs.Lists.{splice}
use Rattle.lists.proofs.Cases.{below_or, same_or}
use Rattle.words.specs.Words.{le, digits}
use Rattle.consts.specs.Consts.{free_sector}
use Rattle.fields.specs.Fields.{difat_at, entries_at, offset_of}
use Rattle.sectors.specs.Sectors.{start_of, per_sector}
use Rattle.disk.specs.Disk.{entry_place, link_place}
use Rattle.edits.specs.Roles.{Once, Separate}
use Rattle.promises.specs.Coded.{place_of, Entries, Places, Links}
use Rattle.promises.proofs.Stores.{slot, Clear, SameAt, SlotsSame, number_same, number_put, slots_clear, slot_field, field_slot, FreshDifat}

-- a quotient below k, one that is k, and numbers that are the same by quotient and rest
pub quotient_below : (b i k : ℕ) → 1 ≤ b → i < k * b → i / b < k
quotient_below b i k some h = (div-lt_iff_lt-mul {k = b} {x = i} {y = k} some).1 h

quotient_is : (b i k : ℕ) → k * b ≤ i → i < suc k * b → i / b ≡ k
quotient_is b i k low high = div-eq_of_lt-le {k = k} b {m = i} low (omega (arith, high, suc-mul k b, add-mul k 1 b, one-mul b))

same_by : (b i x : ℕ) → i / b ≡ x / b → i % b ≡ x % b → i ≡ x
same_by b i x q r =
    let m : b * (i / b) ≡ b * (x / b) = ap (λ (y : ℕ). b * y) q in
    omega (arith, m, r, div-add-mod i b, div-add-mod x b)

-- a list that gets id behind its first k keeps them
set_stays : (xs : List ℕ) (k id q : ℕ) → q < k → get_or (set xs k id) q 0 ≡ get_or xs q 0
set_stays xs k id q h = get_or-set_other xs k q id 0 (omega (arith, h))

-- over a sector of S / 4 entries
module _ (S : ℕ) (e : S ≡ 4 * per_sector S) (many : 128 ≤ per_sector S) where
  some : 1 ≤ per_sector S
  some = omega (arith, many)

  slot_fits : (x : ℕ) → x < per_sector S → 4 * x + 4 ≤ S
  slot_fits x h = omega (arith, e, h)

  -- where entry i of the FAT stands, by its sector
  entry_at_lem : (fats : List ℕ) (i a : ℕ) → get_or fats (i / per_sector S) 0 ≡ a → entry_place S fats i ≡ slot S a (i % per_sector S)
  unfolding entry_place
  entry_at_lem fats i a h = ap (λ (b : ℕ). slot S b (i % per_sector S)) h

  entry_same : (fats img after : List ℕ) (k i : ℕ) → i < k * per_sector S → SlotsSame S fats k img after → SameAt img after (entry_place S fats i)
  unfolding entry_place
  entry_same fats img after k i h same = same (i / per_sector S) (i % per_sector S) (quotient_below (per_sector S) i k some h) (mod-lt i some)

  -- it stands within that sector
  pub entry_low : (fats : List ℕ) (i : ℕ) → start_of S (get_or fats (i / per_sector S) 0) ≤ entry_place S fats i
  unfolding entry_place
  entry_low fats i = omega arith

  pub entry_high : (fats : List ℕ) (i : ℕ) → entry_place S fats i + 4 ≤ start_of S (get_or fats (i / per_sector S) 0) + S
  unfolding entry_place
  entry_high fats i = omega (arith, slot_fits (i % per_sector S) (mod-lt i some))

  -- two entries stand apart
  entry_clear : (fats : List ℕ) (k i x : ℕ) → Once fats k → i < k * per_sector S → x < k * per_sector S → x ≢ i → Clear (entry_place S fats i) 4 (entry_place S fats x)
  unfolding entry_place
  entry_clear fats k i x once hi hx d =
      slots_clear S (get_or fats (i / per_sector S) 0) (get_or fats (x / per_sector S) 0) (i % per_sector S) (x % per_sector S) (slot_fits (i % per_sector S) (mod-lt i some))
      (slot_fits (x % per_sector S) (mod-lt x some))
      (λ s r.
      d (same_by (per_sector S) x i (once (x / per_sector S) (i / per_sector S) (quotient_below (per_sector S) x k some hx) (quotient_below (per_sector S) i k some hi) s) r))

  -- MS-CFB 2.3: the FAT's sectors read as they did
  pub entries_keep : (img after fats fat : List ℕ) (k n : ℕ) → n ≤ k * per_sector S → SlotsSame S fats k img after → Entries S img fats k n fat → Entries S after fats k n fat
  entries_keep img after fats fat k n h same r =
      record {
        each = λ i l. entry_same fats img after k i (omega (arith, l, h)) same ∙ r.each i l;
        rest = λ i g l. entry_same fats img after k i l same ∙ r.rest i g l;
      }

  -- entry i of n becomes v, and there are n' entries then: n, or one more where i is n
  pub entries_set : (img fats fat : List ℕ) (k n n' i v : ℕ) → Once fats k → n ≤ n' → i < n' → n' ≤ k * per_sector S → ((x : ℕ) → n ≤ x → x < n' → x ≡ i)
      → i < length fat → v < 2 ^ 32 → entry_place S fats i + 4 ≤ length img → Entries S img fats k n fat
      → Entries S (splice img (entry_place S fats i) (digits 4 v)) fats k n' (set fat i v)
  entries_set img fats fat k n n' i v once grows low room new long small inside r =
      record {
        each = λ x l. ⊎_elim
            (λ (s : x ≡ i).
            ap (λ (y : ℕ). le 4 (splice img (entry_place S fats i) (digits 4 v)) (entry_place S fats y)) s
            ∙ number_put img (entry_place S fats i) v inside small
            ∙ sym (get_or-set_same fat i v 0 long)
            ∙ ap (λ (y : ℕ). get_or (set fat i v) y 0) (sym s))
            (λ (d : x ≢ i).
            let old : x < n = ⊎_elim (λ (u : x < n). u) (λ (g : n ≤ x). absurd (d (new x g l))) (below_or x n) in
            stays x (omega (arith, l, room)) d ∙ r.each x old ∙ sym (get_or-set_other fat i x v 0 d))
            (same_or x i);
        rest = λ x g l. stays x l (omega (arith, g, low)) ∙ r.rest x (omega (arith, g, grows)) l;
      }
    where
      stays : (x : ℕ) → x < k * per_sector S → x ≢ i → SameAt img (splice img (entry_place S fats i) (digits 4 v)) (entry_place S fats x)
      stays x l d = number_same img (entry_place S fats i) v (entry_place S fats x) inside (entry_clear fats k i x once (omega (arith, low, room)) l d)

  -- a full FAT gets a sector that is all FREE
  pub entries_list : (img fats fat : List ℕ) (k n id : ℕ) → n ≡ k * per_sector S → k < length fats → ((x : ℕ) → x < per_sector S → le 4 img (slot S id x) ≡ free_sector)
      → Entries S img fats k n fat → Entries S img (set fats k id) (suc k) n fat
  entries_list img fats fat k n id full long free r =
      record {
        each = λ i l.
            let q : i / per_sector S < k = quotient_below (per_sector S) i k some (omega (arith, l, full)) in
            ap (le 4 img) (entry_at_lem (set fats k id) i _ (set_stays fats k id (i / per_sector S) q) ∙ sym (entry_at_lem fats i _ refl)) ∙ r.each i l;
        rest = λ i g l.
            let q : i / per_sector S ≡ k = quotient_is (per_sector S) i k (omega (arith, g, full)) l in
            ap (le 4 img) (entry_at_lem (set fats k id) i id (ap (λ (y : ℕ). get_or (set fats k id) y 0) q ∙ get_or-set_same fats k id 0 long)) ∙ free (i % per_sector S) (mod-lt i some);
      }

  -- where place p of the DIFAT stands: in the header, or in one of its sectors
  pub place_near : (difats : List ℕ) (p : ℕ) → p < 109 → place_of S difats p ≡ offset_of entries_at + 4 * p
  unfolding place_of
  place_near difats p h = rw (lt-ltb p 109 h)

  pub place_far : (difats : List ℕ) (p : ℕ) → 109 ≤ p → place_of S difats p ≡ slot S (get_or difats ((p - 109) / (per_sector S - 1)) 0) ((p - 109) % (per_sector S - 1))
  unfolding place_of
  place_far difats p h = rw (le-ltb p 109 h)

  far_rest : (p : ℕ) → (p - 109) % (per_sector S - 1) < per_sector S - 1
  far_rest p = mod-lt (p - 109) (omega (arith, many))

  far_fits : (p : ℕ) → 4 * ((p - 109) % (per_sector S - 1)) + 4 ≤ S
  far_fits p = slot_fits ((p - 109) % (per_sector S - 1)) (omega (arith, far_rest p))

  far_sector : (j p : ℕ) → 109 ≤ p → p < 109 + j * (per_sector S - 1) → (p - 109) / (per_sector S - 1) < j
  far_sector j p far h = quotient_below (per_sector S - 1) (p - 109) j (omega (arith, many)) (omega (arith, far, h))

  -- the header's list reads as it did
  abbrev NearSame : List ℕ → List ℕ → Type 0
  NearSame img after = (p : ℕ) → p < 109 → SameAt img after (offset_of entries_at + 4 * p)

  place_same : (difats img after : List ℕ) (j p : ℕ) → p < 109 + j * (per_sector S - 1) → NearSame img after
      → ((q x : ℕ) → q < j → x < per_sector S - 1 → SameAt img after (slot S (get_or difats q 0) x)) → SameAt img after (place_of S difats p)
  place_same difats img after j p h near far =
      ⊎_elim
      (λ (l : p < 109). rw (place_near difats p l) (near p l))
      (λ (g : 109 ≤ p). rw (place_far difats p g) (far ((p - 109) / (per_sector S - 1)) ((p - 109) % (per_sector S - 1)) (far_sector j p g h) (far_rest p)))
      (below_or p 109)

  -- two places stand apart
  place_clear : (difats : List ℕ) (j p r : ℕ) → Once difats j → p < 109 + j * (per_sector S - 1) → r < 109 + j * (per_sector S - 1) → r ≢ p
      → Clear (place_of S difats p) 4 (place_of S difats r)
  place_clear difats j p r once hp hr d =
      ⊎_elim
      (λ (l : p < 109). rw (place_near difats p l) (⊎_elim
      (λ (m : r < 109). rw (place_near difats r m)
      (⊎_elim (λ (u : r < p). inl (omega (arith, u))) (λ (u : p ≤ r). inr (omega (arith, u, d))) (below_or r p)))
      (λ (g : 109 ≤ r). rw (place_far difats r g) (slot_field S (offset_of entries_at + 4 * p) _ _ (omega (arith, e, many)) (omega (arith, l))))
      (below_or r 109)))
      (λ (f : 109 ≤ p). rw (place_far difats p f) (⊎_elim
      (λ (m : r < 109). rw (place_near difats r m) (field_slot S (offset_of entries_at + 4 * r) _ _ (omega (arith, e, many)) (omega (arith, m))))
      (λ (g : 109 ≤ r). rw (place_far difats r g)
      (slots_clear S _ _ ((p - 109) % (per_sector S - 1)) ((r - 109) % (per_sector S - 1)) (far_fits p) (far_fits r)
      (λ s t.
      let q : r - 109 ≡ p - 109 = same_by (per_sector S - 1) (r - 109) (p - 109)
      (once ((r - 109) / (per_sector S - 1)) ((p - 109) / (per_sector S - 1)) (far_sector j r g hr) (far_sector j p f hp) s) t in
      d (omega (arith, q, f, g)))))
      (below_or r 109)))
      (below_or p 109)

  -- MS-CFB 2.5: the DIFAT's places read as they did
  pub places_keep : (img after difats fats : List ℕ) (j k : ℕ) → k ≤ 109 + j * (per_sector S - 1) → NearSame img after
      → ((q x : ℕ) → q < j → x < per_sector S - 1 → SameAt img after (slot S (get_or difats q 0) x)) → Places S img difats j k fats → Places S after difats j k fats
  places_keep img after difats fats j k h near far r =
      record {
        each = λ p l. place_same difats img after j p (omega (arith, l, h)) near far ∙ r.each p l;
        rest = λ p g l. place_same difats img after j p l near far ∙ r.rest p g l;
      }

  -- the next place is stored
  pub places_set : (img difats fats : List ℕ) (j k v : ℕ) → Once difats j → k < 109 + j * (per_sector S - 1) → v ≡ get_or fats k 0 → v < 2 ^ 32
      → place_of S difats k + 4 ≤ length img → Places S img difats j k fats → Places S (splice img (place_of S difats k) (digits 4 v)) difats j (suc k) fats
  places_set img difats fats j k v once h is small inside r =
      record {
        each = λ p l. ⊎_elim
            (λ (s : p ≡ k).
            ap (λ (y : ℕ). le 4 (splice img (place_of S difats k) (digits 4 v)) (place_of S difats y)) s
            ∙ number_put img (place_of S difats k) v inside small
            ∙ is
            ∙ ap (λ (y : ℕ). get_or fats y 0) (sym s))
            (λ (d : p ≢ k). stays p (omega (arith, l, h)) d ∙ r.each p (omega (arith, l, d)))
            (same_or p k);
        rest = λ p g l. stays p l (omega (arith, g)) ∙ r.rest p (omega (arith, g)) l;
      }
    where
      stays : (p : ℕ) → p < 109 + j * (per_sector S - 1) → p ≢ k → SameAt img (splice img (place_of S difats k) (digits 4 v)) (place_of S difats p)
      stays p l d = number_same img (place_of S difats k) v (place_of S difats p) inside (place_clear difats j k p once h l d)

  -- the FAT's list gets a number behind those that have their places
  pub places_fats : (img difats fats : List ℕ) (j m k id : ℕ) → m ≤ k → Places S img difats j m fats → Places S img difats j m (set fats k id)
  places_fats img difats fats j m k id h r = record { each = λ p l. r.each p l ∙ sym (set_stays fats k id p (omega (arith, l, h))); rest = r.rest }

  -- the DIFAT gets a sector whose places are FREE
  pub places_list : (img difats fats : List ℕ) (j k id : ℕ) → k ≤ 109 + j * (per_sector S - 1) → j < length difats → FreshDifat S id img
      → Places S img difats j k fats → Places S img (set difats j id) (suc j) k fats
  places_list img difats fats j k id h long fresh r =
      record {
        each = λ p l. stays p (omega (arith, l, h)) ∙ r.each p l;
        rest = λ p g l. ⊎_elim
            (λ (u : p < 109 + j * (per_sector S - 1)). stays p u ∙ r.rest p g u)
            (λ (u : 109 + j * (per_sector S - 1) ≤ p).
            let q : (p - 109) / (per_sector S - 1) ≡ j
            = quotient_is (per_sector S - 1) (p - 109) j (omega (arith, u)) (omega (arith, u, l)) in
            ap (le 4 img)
            (place_far (set difats j id) p (omega (arith, u))
            ∙ ap (λ (a : ℕ). slot S a ((p - 109) % (per_sector S - 1))) (ap (λ (y : ℕ). get_or (set difats j id) y 0) q ∙ get_or-set_same difats j id 0 long))
            ∙ fresh.frees ((p - 109) % (per_sector S - 1)) (far_rest p))
            (below_or p (109 + j * (per_sector S - 1)));
      }
    where
      stays : (p : ℕ) → p < 109 + j * (per_sector S - 1) → le 4 img (place_of S (set difats j id) p) ≡ le 4 img (place_of S difats p)
      stays p l =
          ap (le 4 img)
          (⊎_elim
          (λ (u : p < 109). place_near (set difats j id) p u ∙ sym (place_near difats p u))
          (λ (g : 109 ≤ p).
          place_far (set difats j id) p g
          ∙ ap (λ (a : ℕ). slot S a ((p - 109) % (per_sector S - 1))) (set_stays difats j id ((p - 109) / (per_sector S - 1)) (far_sector j p g l))
          ∙ sym (place_far difats p g))
          (below_or p 109))

  -- where a link stands: in the header, or last in a DIFAT sector
  link_first : (difats : List ℕ) (j : ℕ) → j ≡ 0 → link_place S difats j ≡ offset_of difat_at
  unfolding link_place
  link_first difats j h = rw (eq-eqb j 0 h)

  link_next : (difats : List ℕ) (j : ℕ) → j ≢ 0 → link_place S difats j ≡ slot S (get_or difats (j - 1) 0) (per_sector S - 1)
  unfolding link_place
  link_next difats j h = rw (ne_eqb j 0 h)

  last_fits : 4 * (per_sector S - 1) + 4 ≤ S
  last_fits = slot_fits (per_sector S - 1) (omega (arith, many))

  link_same : (difats img after : List ℕ) (j i : ℕ) → i ≤ j → SameAt img after (offset_of difat_at) → ((q : ℕ) → q < j → SameAt img after (slot S (get_or difats q 0) (per_sector S - 1)))
      → SameAt img after (link_place S difats i)
  link_same difats img after j i h first next =
      ⊎_elim
      (λ (z : i ≡ 0). rw (link_first difats i z) first)
      (λ (z : i ≢ 0). rw (link_next difats i z) (next (i - 1) (omega (arith, z, h))))
      (same_or i 0)

  -- MS-CFB 2.5: the links read as they did
  pub links_keep : (img after difats : List ℕ) (j : ℕ) → SameAt img after (offset_of difat_at) → ((q : ℕ) → q < j → SameAt img after (slot S (get_or difats q 0) (per_sector S - 1)))
      → Links S img difats j → Links S after difats j
  links_keep img after difats j first next r =
      record {
        each = λ i l. link_same difats img after j i (omega (arith, l)) first next ∙ r.each i l;
        last = rw (link_same difats img after j j (omega arith) first next) r.last;
      }

  -- the last link stands apart from those before it
  link_clear : (difats : List ℕ) (j i : ℕ) → Once difats j → i < j → Clear (link_place S difats j) 4 (link_place S difats i)
  link_clear difats j i once h =
      rw (link_next difats j (omega (arith, h)))
      (⊎_elim
      (λ (z : i ≡ 0). rw (link_first difats i z) (field_slot S (offset_of difat_at) _ _ (omega (arith, e, many)) (omega arith)))
      (λ (z : i ≢ 0). rw (link_next difats i z)
      (slots_clear S _ _ (per_sector S - 1) (per_sector S - 1) last_fits last_fits
      (λ s. let q : i - 1 ≡ j - 1 = once (i - 1) (j - 1) (omega (arith, h)) (omega (arith, h)) s in absurd (omega (arith, q, h, z)))))
      (same_or i 0))

  -- a link stands clear of the sectors that are none of the DIFAT's
  pub link_other : (difats : List ℕ) (j b x : ℕ) → ((q : ℕ) → q < j → get_or difats q 0 ≢ b) → x < per_sector S → Clear (link_place S difats j) 4 (slot S b x)
  link_other difats j b x new h =
      ⊎_elim
      (λ (z : j ≡ 0). rw (link_first difats j z) (slot_field S (offset_of difat_at) b x (omega (arith, e, many)) (omega arith)))
      (λ (z : j ≢ 0). rw (link_next difats j z)
      (slots_clear S _ b (per_sector S - 1) x last_fits (slot_fits x h) (λ s. absurd (new (j - 1) (omega (arith, z)) (sym s)))))
      (same_or j 0)

  -- a DIFAT sector that ends the chain is linked behind the others
  pub links_more : (img difats : List ℕ) (j id : ℕ) → Once difats j → ((q : ℕ) → q < j → get_or difats q 0 ≢ id) → j < length difats → id < 2 ^ 32
      → link_place S difats j + 4 ≤ length img → FreshDifat S id img → Links S img difats j
      → Links S (splice img (link_place S difats j) (digits 4 id)) (set difats j id) (suc j)
  links_more img difats j id once new long small inside fresh r =
      record {
        each = λ i l. ⊎_elim
            (λ (s : i ≡ j).
            ap (le 4 after) (same i (omega (arith, l)) ∙ ap (link_place S difats) s)
            ∙ number_put img (link_place S difats j) id inside small
            ∙ sym (get_or-set_same difats j id 0 long)
            ∙ ap (λ (y : ℕ). get_or (set difats j id) y 0) (sym s))
            (λ (d : i ≢ j).
            let low : i < j = omega (arith, l, d) in
            ap (le 4 after) (same i (omega (arith, l)))
            ∙ number_same img (link_place S difats j) id (link_place S difats i) inside (link_clear difats j i once low)
            ∙ r.each i low
            ∙ sym (set_stays difats j id i low))
            (same_or i j);
        last =
            inl
            (ap (le 4 after) (link_next (set difats j id) (suc j) (omega arith) ∙ own)
            ∙ number_same img (link_place S difats j) id (slot S id (per_sector S - 1)) inside (link_other difats j id (per_sector S - 1) new (omega (arith, many)))
            ∙ fresh.ends);
      }
    where
      after : List ℕ
      after = splice img (link_place S difats j) (digits 4 id)

      same : (i : ℕ) → i ≤ j → link_place S (set difats j id) i ≡ link_place S difats i
      same i h =
          ⊎_elim
          (λ (z : i ≡ 0). link_first (set difats j id) i z ∙ sym (link_first difats i z))
          (λ (z : i ≢ 0).
          link_next (set difats j id) i z ∙ ap (λ (a : ℕ). slot S a (per_sector S - 1)) (set_stays difats j id (i - 1) (omega (arith, h, z))) ∙ sym (link_next difats i z))
          (same_or i 0)

      own : slot S (get_or (set difats j id) (suc j - 1) 0) (per_sector S - 1) ≡ slot S id (per_sector S - 1)
      own =
          let q : suc j - 1 ≡ j = omega arith in
          ap (λ (a : ℕ). slot S a (per_sector S - 1)) (ap (λ (y : ℕ). get_or (set difats j id) y 0) q ∙ get_or-set_same difats j id 0 long)

  -- a place and a link stand clear of the FAT's sectors, of each other, and of the header's fields before them
  pub place_fats : (fats difats : List ℕ) (k j p q x : ℕ) → Separate fats k difats j → p < 109 + j * (per_sector S - 1) → q < k → x < per_sector S
      → Clear (place_of S difats p) 4 (slot S (get_or fats q 0) x)
  place_fats fats difats k j p q x apart hp hq hx =
      ⊎_elim
      (λ (l : p < 109). rw (place_near difats p l) (slot_field S (offset_of entries_at + 4 * p) _ _ (omega (arith, e, many)) (omega (arith, l))))
      (λ (g : 109 ≤ p). rw (place_far difats p g)
      (slots_clear S _ _ _ x (far_fits p) (slot_fits x hx) (λ s. absurd (apart q ((p - 109) / (per_sector S - 1)) hq (far_sector j p g hp) s))))
      (below_or p 109)

  pub place_links : (difats : List ℕ) (p q : ℕ) → Clear (place_of S difats p) 4 (slot S (get_or difats q 0) (per_sector S - 1))
  place_links difats p q =
      ⊎_elim
      (λ (l : p < 109). rw (place_near difats p l) (slot_field S (offset_of entries_at + 4 * p) _ _ (omega (arith, e, many)) (omega (arith, l))))
      (λ (g : 109 ≤ p). rw (place_far difats p g) (slots_clear S _ _ _ (per_sector S - 1) (far_fits p) last_fits (λ s. omega (arith, far_rest p))))
      (below_or p 109)

  pub place_field : (difats : List ℕ) (p o : ℕ) → o + 4 ≤ offset_of entries_at → Clear (place_of S difats p) 4 o
  place_field difats p o h =
      ⊎_elim
      (λ (l : p < 109). rw (place_near difats p l) (inl (omega (arith, h))))
      (λ (g : 109 ≤ p). rw (place_far difats p g) (field_slot S o _ _ (omega (arith, e, many)) (omega (arith, h))))
      (below_or p 109)

  pub link_fats : (fats difats : List ℕ) (k j q x : ℕ) → Separate fats k difats j → q < k → x < per_sector S → Clear (link_place S difats j) 4 (slot S (get_or fats q 0) x)
  link_fats fats difats k j q x apart hq hx = link_other difats j (get_or fats q 0) x (λ p hp s. apart q p hq hp (sym s)) hx

  pub link_places : (difats : List ℕ) (j q x : ℕ) → x < per_sector S - 1 → Clear (link_place S difats j) 4 (slot S (get_or difats q 0) x)
  link_places difats j q x h =
      ⊎_elim
      (λ (z : j ≡ 0). rw (link_first difats j z) (slot_field S (offset_of difat_at) _ _ (omega (arith, e, many)) (omega arith)))
      (λ (z : j ≢ 0). rw (link_next difats j z) (slots_clear S _ _ (per_sector S - 1) x last_fits (slot_fits x (omega (arith, h))) (λ s. omega (arith, h))))
      (same_or j 0)

  pub link_field : (difats : List ℕ) (j o : ℕ) → o + 4 ≤ 512 → Clear (offset_of difat_at) 4 o → Clear (link_place S difats j) 4 o
  link_field difats j o h c =
      ⊎_elim
      (λ (z : j ≡ 0). rw (link_first difats j z) c)
      (λ (z : j ≢ 0). rw (link_next difats j z) (field_slot S o _ _ (omega (arith, e, many)) h))
      (same_or j 0)

  -- where a place stands lies within the image
  pub place_in_lem : (difats : List ℕ) (j p len : ℕ) → p < 109 + j * (per_sector S - 1) → S ≤ len → ((q : ℕ) → q < j → start_of S (get_or difats q 0) + S ≤ len) → place_of S difats p + 4 ≤ len
  place_in_lem difats j p len h head inside =
      ⊎_elim
      (λ (l : p < 109). rw (place_near difats p l) (omega (arith, l, head, e, many)))
      (λ (g : 109 ≤ p). rw (place_far difats p g) (omega (arith, inside ((p - 109) / (per_sector S - 1)) (far_sector j p g h), far_fits p)))
      (below_or p 109)
