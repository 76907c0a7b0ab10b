-- A disk whose bytes say what its tables say, with whatever its header counts meanwhile, is left so by each store of the allocator (document 01, "Calls on a chain"; MS-CFB 2.2, 2.3, 2.5). Assumes nothing.
use Prim.Native.Nat.{ℕ, suc, ◌+◌, ◌-◌, ◌*◌, ◌/◌, ◌^◌, ◌≤◌, ◌<◌}
use mathlib.Core.Path.{◌≡◌, refl, ◌∙◌, sym, ap}
use mathlib.Core.List.{List}
use mathlib.Core.Logic.{inl, inr, ⊎_elim, ◌≢◌}
use native.Mathlib.Omega.{arith}
use native.Mathlib.Nat.{suc-mul, mul-le-mul_left}
use lib.ListN.{length, get_or, set}
use lib.Seq.{get_or-set_same, get_or-set_other}
use Rattle.lists.specs.Lists.{splice}
use Rattle.lists.proofs.Cases.{same_or}
use Rattle.words.specs.Words.{le, digits}
use Rattle.words.proofs.Laws.{length_digits}
use Rattle.consts.specs.Consts.{free_sector}
use Rattle.fields.specs.Fields.{fats_at, difat_at, difats_at, entries_at, offset_of}
use Rattle.sectors.specs.Sectors.{start_of, per_sector}
use Rattle.sectors.specs.Init.{init_bytes}
use Rattle.sectors.specs.declared.init.SectorInit.{SectorInit}
use Rattle.sectors.proofs.New.{length_init}
use Rattle.disk.specs.Disk.{Disk, store, entry_place, set_fat, push_fat, list_fat, list_difat, link_place}
use Rattle.disk.specs.Fits.{Fits}
use Rattle.disk.proofs.Keeping.{each_many, sectors_inside, header_inside, sectors_of_fat, difats_inside, link_inside, number_kept, init_kept, set_kept, push_kept, grow_kept, list_kept}
use Rattle.edits.specs.Roles.{Once, Separate}
use Rattle.edits.proofs.Listed.{listed_more, listed_once}
use Rattle.promises.specs.Coded.{place_of, Entries, Places, Links}
use Rattle.promises.proofs.Stores.{slot, Clear, SameAt, SlotsSame, FieldsSame, number_same, number_put, sector_fields, sector_slot, sector_slots, field_slots, FreshDifat, fresh_same}
use Rattle.promises.proofs.Placing.{quotient_below, entry_low, entry_high, entries_keep, entries_set, entries_list, places_keep, places_set, places_fats, places_list, links_keep, links_more, place_fats, place_links, place_field, link_other, link_fats, link_places, link_field, place_in_lem}

-- a list without repetition, or apart from another, stays so with a number that is new to it
once_more : (xs : List ℕ) (k id : ℕ) → k < length xs → Once xs k → ((q : ℕ) → q < k → get_or xs q 0 ≢ id) → Once (set xs k id) (suc k)
once_more xs k id long once new = listed_once (listed_more xs (set xs k id) k (suc k) id refl refl long) once new

more_left : (xs ys : List ℕ) (i j id : ℕ) → i < length xs → Separate xs i ys j → ((q : ℕ) → q < j → get_or ys q 0 ≢ id) → Separate (set xs i id) (suc i) ys j
more_left xs ys i j id long apart new p q hp hq e =
    ⊎_elim
    (λ (s : p ≡ i). new q hq (sym e ∙ ap (λ (y : ℕ). get_or (set xs i id) y 0) s ∙ get_or-set_same xs i id 0 long))
    (λ (d : p ≢ i). apart p q (omega (arith, hp, d)) hq (sym (get_or-set_other xs i p id 0 d) ∙ e))
    (same_or p i)

more_right : (xs ys : List ℕ) (i j id : ℕ) → j < length ys → Separate xs i ys j → ((q : ℕ) → q < i → get_or xs q 0 ≢ id) → Separate xs i (set ys j id) (suc j)
more_right xs ys i j id long apart new p q hp hq e =
    ⊎_elim
    (λ (s : q ≡ j). new p hp (e ∙ ap (λ (y : ℕ). get_or (set ys j id) y 0) s ∙ get_or-set_same ys j id 0 long))
    (λ (d : q ≢ j). apart p q hp (omega (arith, hq, d)) (e ∙ get_or-set_other ys j q id 0 d))
    (same_or q j)

-- a disk whose k sectors of the FAT and j of the DIFAT are all different, and whose bytes say what its tables say: m of the FAT's sectors have their places, and the header counts h and g
pub record Stands (S R h g k m j : ℕ) (d : Disk) : Type 0 where
  pub fits : Fits S R k j d
  pub fats_once : Once d.fats k
  pub difats_once : Once d.difats j
  pub fats_difats : Separate d.fats k d.difats j
  pub full : d.sectors ≤ k * per_sector S
  pub reach : m ≤ 109 + j * (per_sector S - 1)
  pub number_of_fats : le 4 d.image (offset_of fats_at) ≡ h
  pub number_of_difats : le 4 d.image (offset_of difats_at) ≡ g
  pub entries : Entries S d.image d.fats k d.sectors d.fat
  pub places : Places S d.image d.difats j m d.fats
  pub links : Links S d.image d.difats j

-- the same by equal numbers
pub stands_at : {S R h g k m j h' g' k' m' j' : ℕ} {d : Disk} → h' ≡ h → g' ≡ g → k' ≡ k → m' ≡ m → j' ≡ j → Stands S R h g k m j d → Stands S R h' g' k' m' j' d
stands_at a b c e f s = rw (a, b, c, e, f) s

-- one store more
module _ {S R h g k m j : ℕ} {d : Disk} (s : Stands S R h g k m j d) where
  whole : S ≡ 4 * per_sector S
  whole = s.fits.holds.entries

  pub stands_many : 128 ≤ per_sector S
  stands_many = each_many S R k j d s.fits

  head : S ≤ length d.image
  head = header_inside S R k j d s.fits

  big : 512 ≤ S
  big = s.fits.header

  -- an image that reads the same in the header and in the sectors of the FAT and the DIFAT
  pub image_stands : (img : List ℕ) → length img ≡ length d.image → FieldsSame d.image img → SlotsSame S d.fats k d.image img → SlotsSame S d.difats j d.image img
      → Stands S R h g k m j (record { image = img; fat = d.fat; fats = d.fats; difats = d.difats; sectors = d.sectors })
  image_stands img long fields fats difats = record {
    fits = record {
      holds = rw long s.fits.holds;
      header = s.fits.header;
      short = s.fits.short;
      few = s.fits.few;
      inside = s.fits.inside;
      fat_long = s.fits.fat_long;
      fats_long = s.fits.fats_long;
      difats_long = s.fits.difats_long;
      fats_many = s.fits.fats_many;
      difats_many = s.fits.difats_many;
      fats_below = s.fits.fats_below;
      difats_below = s.fits.difats_below;
    };
    fats_once = s.fats_once;
    difats_once = s.difats_once;
    fats_difats = s.fats_difats;
    full = s.full;
    reach = s.reach;
    number_of_fats = fields (offset_of fats_at) (omega arith) ∙ s.number_of_fats;
    number_of_difats = fields (offset_of difats_at) (omega arith) ∙ s.number_of_difats;
    entries = entries_keep S whole stands_many d.image img d.fats d.fat k d.sectors s.full fats s.entries;
    places =
        places_keep S whole stands_many d.image img d.difats d.fats j m s.reach (λ p l. fields (offset_of entries_at + 4 * p) (omega (arith, l)))
        (λ q x hq hx. difats q x hq (omega (arith, hx))) s.places;
    links =
        links_keep S whole stands_many d.image img d.difats j (fields (offset_of difat_at) (omega arith))
        (λ q hq. difats q (per_sector S - 1) hq (omega (arith, stands_many))) s.links;
  }

  -- a new sector that is neither the FAT's nor the DIFAT's
  pub init_stands : (i : ℕ) (init : SectorInit) → i < R → ((q : ℕ) → q < k → get_or d.fats q 0 ≢ i) → ((q : ℕ) → q < j → get_or d.difats q 0 ≢ i)
      → Stands S R h g k m j (store d (start_of S i) (init_bytes S init))
  unfolding store
  init_stands i init l no_fat no_difat =
      let long : length (init_bytes S init) ≡ S = length_init S init whole (omega (arith, stands_many)) in
      let inside : start_of S i + S ≤ length d.image = sectors_inside S R k j d s.fits i l in
      image_stands (splice d.image (start_of S i) (init_bytes S init)) (init_kept S R k j d s.fits i init l).long.image_same
      (sector_fields S i (start_of S i) S d.image (init_bytes S init) long (omega arith) (omega arith) inside big)
      (sector_slots S i (start_of S i) S d.image (init_bytes S init) long (omega arith) (omega arith) inside d.fats k whole no_fat)
      (sector_slots S i (start_of S i) S d.image (init_bytes S init) long (omega arith) (omega arith) inside d.difats j whole no_difat)

  -- entry i of the FAT is stored: what does not stand in its sector reads the same
  module _ (i v : ℕ) (l : i < k * per_sector S) where
    pub entry_sector : i / per_sector S < k
    entry_sector = quotient_below (per_sector S) i k (omega (arith, stands_many)) l

    entry_inside : start_of S (get_or d.fats (i / per_sector S) 0) + S ≤ length d.image
    entry_inside = sectors_of_fat S R k j d s.fits (i / per_sector S) entry_sector

    entry_fields : FieldsSame d.image (splice d.image (entry_place S d.fats i) (digits 4 v))
    entry_fields =
        sector_fields S (get_or d.fats (i / per_sector S) 0) (entry_place S d.fats i) 4 d.image (digits 4 v) (length_digits 4 v)
        (entry_low S whole stands_many d.fats i) (entry_high S whole stands_many d.fats i) entry_inside big

    pub entry_other : (b x : ℕ) → x < per_sector S → b ≢ get_or d.fats (i / per_sector S) 0 → SameAt d.image (splice d.image (entry_place S d.fats i) (digits 4 v)) (slot S b x)
    entry_other b x hx n =
        sector_slot S (get_or d.fats (i / per_sector S) 0) (entry_place S d.fats i) 4 d.image (digits 4 v) (length_digits 4 v)
        (entry_low S whole stands_many d.fats i) (entry_high S whole stands_many d.fats i) entry_inside b x (omega (arith, whole, hx)) n

    -- so the DIFAT stays
    entry_difats : SlotsSame S d.difats j d.image (splice d.image (entry_place S d.fats i) (digits 4 v))
    entry_difats q x hq hx = entry_other (get_or d.difats q 0) x hx (λ e. s.fats_difats (i / per_sector S) q entry_sector hq (sym e))

    entry_places : Places S (splice d.image (entry_place S d.fats i) (digits 4 v)) d.difats j m d.fats
    entry_places =
        places_keep S whole stands_many d.image _ d.difats d.fats j m s.reach (λ p u. entry_fields (offset_of entries_at + 4 * p) (omega (arith, u)))
        (λ q x hq hx. entry_difats q x hq (omega (arith, hx))) s.places

    entry_links : Links S (splice d.image (entry_place S d.fats i) (digits 4 v)) d.difats j
    entry_links =
        links_keep S whole stands_many d.image _ d.difats j (entry_fields (offset_of difat_at) (omega arith))
        (λ q hq. entry_difats q (per_sector S - 1) hq (omega (arith, stands_many))) s.links

    -- and there are n' entries then
    entry_entries : (n' : ℕ) → v < 2 ^ 32 → i < R → d.sectors ≤ n' → i < n' → n' ≤ k * per_sector S → ((x : ℕ) → d.sectors ≤ x → x < n' → x ≡ i)
        → Entries S (splice d.image (entry_place S d.fats i) (digits 4 v)) d.fats k n' (set d.fat i v)
    entry_entries n' small room grows low most new =
        entries_set S whole stands_many d.image d.fats d.fat k d.sectors n' i v s.fats_once grows low most new
        (omega (arith, room, s.fits.fat_long)) small (omega (arith, entry_inside, entry_high S whole stands_many d.fats i)) s.entries

  -- entry i becomes v
  pub set_stands : (i v : ℕ) → i < d.sectors → v < 2 ^ 32 → Stands S R h g k m j (set_fat S d i v)
  unfolding set_fat
  set_stands i v l small =
      let low : i < k * per_sector S = omega (arith, l, s.full) in
      record {
        fits = (set_kept S R k j d s.fits i v (entry_sector i v low)).fits;
        fats_once = s.fats_once;
        difats_once = s.difats_once;
        fats_difats = s.fats_difats;
        full = s.full;
        reach = s.reach;
        number_of_fats = entry_fields i v low (offset_of fats_at) (omega arith) ∙ s.number_of_fats;
        number_of_difats = entry_fields i v low (offset_of difats_at) (omega arith) ∙ s.number_of_difats;
        entries = entry_entries i v low d.sectors small (omega (arith, l, s.fits.inside)) (omega arith) l s.full (λ x a b. absurd (omega (arith, a, b)));
        places = entry_places i v low;
        links = entry_links i v low;
      }

  -- there is one sector more, and its entry is v
  pub push_stands : (v : ℕ) → d.sectors < k * per_sector S → d.sectors < R → v < 2 ^ 32 → Stands S R h g k m j (push_fat S d v)
  unfolding push_fat
  push_stands v low room small =
      record {
        fits = (push_kept S R k j d s.fits v (entry_sector d.sectors v low) room).fits;
        fats_once = s.fats_once;
        difats_once = s.difats_once;
        fats_difats = s.fats_difats;
        full = low;
        reach = s.reach;
        number_of_fats = entry_fields d.sectors v low (offset_of fats_at) (omega arith) ∙ s.number_of_fats;
        number_of_difats = entry_fields d.sectors v low (offset_of difats_at) (omega arith) ∙ s.number_of_difats;
        entries = entry_entries d.sectors v low (suc d.sectors) small room (omega arith) (omega arith) low (λ x a b. omega (arith, a, b));
        places = entry_places d.sectors v low;
        links = entry_links d.sectors v low;
      }

  -- a full FAT: one sector more, all FREE, is the FAT's next one, and its own entry is v
  pub grow_stands : (v : ℕ) → d.sectors / per_sector S ≡ k → d.sectors ≡ k * per_sector S → m ≤ k → d.sectors < R → v < 2 ^ 32
      → ((x : ℕ) → x < per_sector S → le 4 d.image (slot S d.sectors x) ≡ free_sector) → Stands S R h g (suc k) m j (push_fat S (list_fat d k d.sectors) v)
  unfolding push_fat list_fat
  grow_stands v place even listed room small free =
      record {
        fits = (grow_kept S R k j d s.fits v place room).fits;
        fats_once = once';
        difats_once = s.difats_once;
        fats_difats = more_left d.fats d.difats k j d.sectors long s.fats_difats no_difat;
        full = omega (arith, even, suc-mul k (per_sector S), stands_many);
        reach = s.reach;
        number_of_fats = fields (offset_of fats_at) (omega arith) ∙ s.number_of_fats;
        number_of_difats = fields (offset_of difats_at) (omega arith) ∙ s.number_of_difats;
        entries =
            entries_set S whole stands_many d.image fats' d.fat (suc k) d.sectors (suc d.sectors) d.sectors v once' (omega arith) (omega arith)
            (omega (arith, even, suc-mul k (per_sector S), stands_many)) (λ x a b. omega (arith, a, b)) (omega (arith, room, s.fits.fat_long)) small
            (omega (arith, inside, high))
            (entries_list S whole stands_many d.image d.fats d.fat k d.sectors d.sectors even long free s.entries);
        places =
            places_fats S whole stands_many _ d.difats d.fats j m k d.sectors listed
            (places_keep S whole stands_many d.image _ d.difats d.fats j m s.reach (λ p u. fields (offset_of entries_at + 4 * p) (omega (arith, u)))
            (λ q x hq hx. difats q x hq (omega (arith, hx))) s.places);
        links =
            links_keep S whole stands_many d.image _ d.difats j (fields (offset_of difat_at) (omega arith))
            (λ q hq. difats q (per_sector S - 1) hq (omega (arith, stands_many))) s.links;
      }
    where
      fats' : List ℕ
      fats' = set d.fats k d.sectors

      long : k < length d.fats
      long = omega (arith, even, room, s.fits.fats_long, stands_many, mul-le-mul_left k stands_many)

      no_difat : (q : ℕ) → q < j → get_or d.difats q 0 ≢ d.sectors
      no_difat q hq = omega (arith, s.fits.difats_below q hq)

      once' : Once fats' (suc k)
      once' = once_more d.fats k d.sectors long s.fats_once (λ q hq. omega (arith, s.fits.fats_below q hq))

      own : get_or fats' (d.sectors / per_sector S) 0 ≡ d.sectors
      own = ap (λ (y : ℕ). get_or fats' y 0) place ∙ get_or-set_same d.fats k d.sectors 0 long

      inside : start_of S d.sectors + S ≤ length d.image
      inside = sectors_inside S R k j d s.fits d.sectors room

      low : start_of S d.sectors ≤ entry_place S fats' d.sectors
      low = omega (arith, entry_low S whole stands_many fats' d.sectors, ap (start_of S) own)

      high : entry_place S fats' d.sectors + 4 ≤ start_of S d.sectors + S
      high = omega (arith, entry_high S whole stands_many fats' d.sectors, ap (start_of S) own)

      fields : FieldsSame d.image (splice d.image (entry_place S fats' d.sectors) (digits 4 v))
      fields = sector_fields S d.sectors (entry_place S fats' d.sectors) 4 d.image (digits 4 v) (length_digits 4 v) low high inside big

      difats : SlotsSame S d.difats j d.image (splice d.image (entry_place S fats' d.sectors) (digits 4 v))
      difats = sector_slots S d.sectors (entry_place S fats' d.sectors) 4 d.image (digits 4 v) (length_digits 4 v) low high inside d.difats j whole no_difat

  -- a number stored outside the FAT's sectors
  apart_entries : (o v : ℕ) → o + 4 ≤ length d.image → ((q x : ℕ) → q < k → x < per_sector S → Clear o 4 (slot S (get_or d.fats q 0) x))
      → Entries S (splice d.image o (digits 4 v)) d.fats k d.sectors d.fat
  apart_entries o v l c =
      entries_keep S whole stands_many d.image _ d.fats d.fat k d.sectors s.full
      (λ q x hq hx. number_same d.image o v (slot S (get_or d.fats q 0) x) l (c q x hq hx)) s.entries

  -- the next place of the DIFAT gets its FAT sector
  pub place_stands : (v : ℕ) → m < 109 + j * (per_sector S - 1) → v ≡ get_or d.fats m 0 → v < 2 ^ 32 → Stands S R h g k (suc m) j (store d (place_of S d.difats m) (digits 4 v))
  unfolding store
  place_stands v low is small =
      record {
        fits = (number_kept S R k j d s.fits (place_of S d.difats m) v inside).fits;
        fats_once = s.fats_once;
        difats_once = s.difats_once;
        fats_difats = s.fats_difats;
        full = s.full;
        reach = low;
        number_of_fats = field (offset_of fats_at) (omega arith) ∙ s.number_of_fats;
        number_of_difats = field (offset_of difats_at) (omega arith) ∙ s.number_of_difats;
        entries = apart_entries (place_of S d.difats m) v inside (λ q x hq hx. place_fats S whole stands_many d.fats d.difats k j m q x s.fats_difats low hq hx);
        places = places_set S whole stands_many d.image d.difats d.fats j m v s.difats_once low is small inside s.places;
        links =
            links_keep S whole stands_many d.image _ d.difats j (field (offset_of difat_at) (omega arith))
            (λ q hq. number_same d.image (place_of S d.difats m) v _ inside (place_links S whole stands_many d.difats m q)) s.links;
      }
    where
      inside : place_of S d.difats m + 4 ≤ length d.image
      inside = place_in_lem S whole stands_many d.difats j m (length d.image) low head (difats_inside S R k j d s.fits)

      field : (o : ℕ) → o + 4 ≤ offset_of entries_at → SameAt d.image (splice d.image (place_of S d.difats m) (digits 4 v)) o
      field o l = number_same d.image (place_of S d.difats m) v o inside (place_field S whole stands_many d.difats m o l)

  -- a new sector of the DIFAT is linked behind the others and listed
  pub link_stands : (id : ℕ) → id < d.sectors → j < R → ((q : ℕ) → q < k → get_or d.fats q 0 ≢ id) → ((q : ℕ) → q < j → get_or d.difats q 0 ≢ id)
      → FreshDifat S id d.image → Stands S R h g k m (suc j) (list_difat (store d (link_place S d.difats j) (digits 4 id)) j id)
  unfolding list_difat store
  link_stands id low room no_fat no_difat fresh =
      record {
        fits = (list_kept S R k j (store d (link_place S d.difats j) (digits 4 id)) (number_kept S R k j d s.fits (link_place S d.difats j) id inside).fits id low room).fits;
        fats_once = s.fats_once;
        difats_once = once_more d.difats j id long s.difats_once no_difat;
        fats_difats = more_right d.fats d.difats k j id long s.fats_difats no_fat;
        full = s.full;
        reach = omega (arith, s.reach, suc-mul j (per_sector S - 1));
        number_of_fats = field (offset_of fats_at) (omega arith) (inl (omega arith)) ∙ s.number_of_fats;
        number_of_difats = field (offset_of difats_at) (omega arith) (inr (omega arith)) ∙ s.number_of_difats;
        entries = apart_entries (link_place S d.difats j) id inside (λ q x hq hx. link_fats S whole stands_many d.fats d.difats k j q x s.fats_difats hq hx);
        places =
            places_list S whole stands_many _ d.difats d.fats j m id s.reach long stays
            (places_keep S whole stands_many d.image _ d.difats d.fats j m s.reach
            (λ p u. field (offset_of entries_at + 4 * p) (omega (arith, u)) (inr (omega arith)))
            (λ q x hq hx. number_same d.image (link_place S d.difats j) id _ inside (link_places S whole stands_many d.difats j q x hx)) s.places);
        links = links_more S whole stands_many d.image d.difats j id s.difats_once no_difat long small inside fresh s.links;
      }
    where
      long : j < length d.difats
      long = omega (arith, room, s.fits.difats_long)

      small : id < 2 ^ 32
      small = omega (arith, low, s.fits.inside, s.fits.few)

      inside : link_place S d.difats j + 4 ≤ length d.image
      inside = link_inside S R k j d s.fits

      field : (o : ℕ) → o + 4 ≤ 512 → Clear (offset_of difat_at) 4 o → SameAt d.image (splice d.image (link_place S d.difats j) (digits 4 id)) o
      field o l c = number_same d.image (link_place S d.difats j) id o inside (link_field S whole stands_many d.difats j o l c)

      stays : FreshDifat S id (splice d.image (link_place S d.difats j) (digits 4 id))
      stays =
          fresh_same S id d.image _ (omega (arith, stands_many))
          (λ x hx. number_same d.image (link_place S d.difats j) id (slot S id x) inside (link_other S whole stands_many d.difats j id x no_difat hx)) fresh

  -- a count stored in the header, and what it counts then
  count_stands : (o v h' g' : ℕ) → o + 4 ≤ offset_of entries_at → Clear o 4 (offset_of difat_at) → le 4 (splice d.image o (digits 4 v)) (offset_of fats_at) ≡ h'
      → le 4 (splice d.image o (digits 4 v)) (offset_of difats_at) ≡ g' → Stands S R h' g' k m j (store d o (digits 4 v))
  unfolding store
  count_stands o v h' g' l c number_of_fats number_of_difats =
      let inside : o + 4 ≤ length d.image = omega (arith, l, head, big) in
      let difats : SlotsSame S d.difats j d.image (splice d.image o (digits 4 v)) = field_slots S o v j d.image d.difats big (omega (arith, l)) inside in
      record {
        fits = (number_kept S R k j d s.fits o v inside).fits;
        fats_once = s.fats_once;
        difats_once = s.difats_once;
        fats_difats = s.fats_difats;
        full = s.full;
        reach = s.reach;
        number_of_fats = number_of_fats;
        number_of_difats = number_of_difats;
        entries =
            entries_keep S whole stands_many d.image _ d.fats d.fat k d.sectors s.full (field_slots S o v k d.image d.fats big (omega (arith, l)) inside) s.entries;
        places =
            places_keep S whole stands_many d.image _ d.difats d.fats j m s.reach
            (λ p u. number_same d.image o v (offset_of entries_at + 4 * p) inside (inr (omega (arith, l)))) (λ q x hq hx. difats q x hq (omega (arith, hx))) s.places;
        links =
            links_keep S whole stands_many d.image _ d.difats j (number_same d.image o v (offset_of difat_at) inside c)
            (λ q hq. difats q (per_sector S - 1) hq (omega (arith, stands_many))) s.links;
      }

  -- MS-CFB 2.2, Number of FAT Sectors and Number of DIFAT Sectors
  pub fats_counted : (v : ℕ) → v < 2 ^ 32 → Stands S R v g k m j (store d (offset_of fats_at) (digits 4 v))
  fats_counted v small =
      let inside : offset_of fats_at + 4 ≤ length d.image = omega (arith, head, big) in
      count_stands (offset_of fats_at) v v g (omega arith) (inr (omega arith)) (number_put d.image (offset_of fats_at) v inside small)
      (number_same d.image (offset_of fats_at) v (offset_of difats_at) inside (inr (omega arith)) ∙ s.number_of_difats)

  pub difats_counted : (v : ℕ) → v < 2 ^ 32 → Stands S R h v k m j (store d (offset_of difats_at) (digits 4 v))
  difats_counted v small =
      let inside : offset_of difats_at + 4 ≤ length d.image = omega (arith, head, big) in
      count_stands (offset_of difats_at) v h v (omega arith) (inl (omega arith))
      (number_same d.image (offset_of difats_at) v (offset_of fats_at) inside (inl (omega arith)) ∙ s.number_of_fats) (number_put d.image (offset_of difats_at) v inside small)
