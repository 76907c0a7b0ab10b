-- What agrees with its image can be changed: every number that a change goes by lies within what is lent. Assumes nothing.
use Prim.Native.Nat.{ℕ, ◌+◌, ◌-◌, ◌/◌, ◌≤◌, ◌<◌, min}
use mathlib.Core.Path.{◌≡◌, sym, ◌∙◌, ap}
use mathlib.Core.List.{List}
use native.Mathlib.Omega.{arith}
use native.Mathlib.Nat.{mul-le-mul_right, div-mul-le_self, le-div_iff_mul-le}
use lib.ListN.{length, get_or, take}
use lib.Seq.{get_or-take, length-take-le}
use Rattle.lists.proofs.Tab.{length_tab}
use Rattle.header.specs.Versions.{length_of}
use Rattle.header.specs.Read.{header_of}
use Rattle.header.specs.declared.Version.{Version}
use Rattle.header.specs.declared.Version.TheVariants.{V3, V4}
use Rattle.header.specs.declared.Header.{Header}
use Rattle.header.specs.declared.Validation.{Validation}
use Rattle.sectors.specs.Sectors.{per_sector, Holds}
use Rattle.fat.specs.Lists.{most, sectors_in, room_of, fat_count, difat_count, difats_of, fats_of, difats_in, fats_in}
use Rattle.fat.proofs.Differing.{below_at}
use Rattle.fat.proofs.Listing.{ceil_few}
use Rattle.judge.proofs.Judging.{frees_few}
use Rattle.alloc.specs.Opening.{Tables, open_fat, open_tables, open_no, shortest, padded}
use Rattle.agree.specs.Agrees.{FreesOnce, Held, Agrees}
use Rattle.agree.proofs.Agreeing.{holds_room}
use Rattle.hand.specs.Hand.{Hand}
use Rattle.hand.specs.Fits.{FitsHand}
use Rattle.cfb.proofs.Agreed.{held, fats_open, difats_open, agreed_front}
use Rattle.cfb.proofs.Refusing.{padded_front}

-- the length of a sector, of either version
pub length_least : (v : Version) → 512 ≤ length_of v
length_least V3 = omega arith
length_least V4 = omega arith

pub length_most : (v : Version) → length_of v ≤ 65536
length_most V3 = omega arith
length_most V4 = omega arith

-- an image that holds some sectors holds as many as it has room for
room_held : (S n len : ℕ) → Holds S n len → Holds S (room_of S len) len
unfolding room_of sectors_in
room_held S n len h =
    let some : 1 ≤ S = omega (arith, h.entries, h.two) in
    let whole : n + 1 ≤ len / S = (le-div_iff_mul-le {k = S} {x = n + 1} {y = len} some).1 h.fits in
    let less : min most (len / S - 1) + 1 ≤ len / S = omega arith in
    record { entries = h.entries; two = h.two; fits = omega (arith, mul-le-mul_right S less, div-mul-le_self len S) }

pub room_most : (S len : ℕ) → room_of S len ≤ most
unfolding room_of
room_most S len = omega arith

-- no more sectors of the FAT and of the DIFAT than sectors
fats_some : (S n : ℕ) → 1 ≤ per_sector S → fat_count S n ≤ n
unfolding fat_count
fats_some S n h = ceil_few n (per_sector S) h

difats_some : (S k : ℕ) → 2 ≤ per_sector S → difat_count S k ≤ k
unfolding difat_count
difats_some S k h = omega (arith, ceil_few (k - 109) (per_sector S - 1) (omega arith))

-- an element at the front of a lent table
held_below : (n : ℕ) (xs table : List ℕ) (p : ℕ) → table ≡ padded xs (length table) → ((i : ℕ) → i < length xs → get_or xs i 0 < n) → p < length xs → get_or table p 0 < n
held_below n xs table p e low h = rw (ap (λ (l : List ℕ). get_or l p 0) e ∙ padded_front xs (length table) p h) (low p h)

-- as many sectors of the FAT and of the DIFAT are listed as n sectors need
pub length_fats : (S : ℕ) (img : List ℕ) (h : Header) (n : ℕ) → length (fats_in S img h n) ≡ fat_count S n
unfolding fats_in fats_of
length_fats S img h n = length_tab _ (fat_count S n)

pub length_difats : (S : ℕ) (img : List ℕ) (h : Header) (n : ℕ) → length (difats_in S img h n) ≡ difat_count S (fat_count S n)
unfolding difats_in difats_of
length_difats S img h n = length_tab _ (difat_count S (fat_count S n))

module _ (m : Validation) (img : List ℕ) (used free : ℕ) (t : Tables) (z : open_no m img used (shortest t) ≡ 0) where
  abbrev S : ℕ
  S = length_of (header_of img).version

  abbrev n : ℕ
  n = sectors_in S used

  -- the hand of an image that opens, with tables that hold what it gives and are long enough
  own_fits : Held n (open_tables S img (header_of img) n) free t → room_of S (length img) ≤ shortest t
      → FitsHand S (room_of S (length img)) (record { disk = record { image = img; fat = t.fat; fats = t.fats; difats = t.difats; sectors = n }; frees = t.frees; free = free; marks = t.marks })
  unfolding open_tables shortest
  own_fits held_in room =
      let known = held m img used (shortest t) z in
      let all : room_of S (length img) ≤ min (length t.fat) (min (length t.fats) (min (length t.difats) (min (length t.frees) (length t.marks)))) = room in
      let inside : n ≤ room_of S (length img) = holds_room S n (length img) known.0 known.1 in
      let few : fat_count S n ≤ n = fats_some S n (omega (arith, known.0.two)) in
      let less : difat_count S (fat_count S n) ≤ fat_count S n = difats_some S (fat_count S n) known.0.two in
      let most-free : free ≤ n = omega (arith, held_in.count, frees_few n (open_fat S img (header_of img) n)) in
      record {
        disk = record {
          holds = room_held S n (length img) known.0;
          header = length_least (header_of img).version;
          short = length_most (header_of img).version;
          few = room_most S (length img);
          inside = inside;
          fat_long = omega (arith, all);
          fats_long = omega (arith, all);
          difats_long = omega (arith, all);
          fats_many = omega arith;
          difats_many = omega arith;
          fats_below = λ p h. held_below n (fats_in S img (header_of img) n) t.fats p held_in.fats (below_at n (fats_in S img (header_of img) n) (fats_open m img used (shortest t) z)) (omega (arith, length_fats S img (header_of img) n));
          difats_below = λ p h. held_below n (difats_in S img (header_of img) n) t.difats p held_in.difats (below_at n (difats_in S img (header_of img) n) (difats_open m img used (shortest t) z)) (omega (arith, length_difats S img (header_of img) n));
        };
        frees_long = omega (arith, all);
        marks_long = omega (arith, all);
        free_few = most-free;
        frees_below = λ p h. rw (sym (get_or-take free t.frees p 0 h)) (held_in.frees.below p (omega (arith, length-take-le free t.frees (omega (arith, all)))));
      }

-- what is in hand of a state and its tables
abbrev pub hand_in : List ℕ → ℕ → ℕ → Tables → Hand
hand_in img sectors free t =
    record { disk = record { image = img; fat = t.fat; fats = t.fats; difats = t.difats; sectors = sectors }; frees = t.frees; free = free; marks = t.marks }

fits_own : (h h' : Header) (img : List ℕ) (n n' free : ℕ) (t : Tables) → h ≡ h' → n ≡ n'
    → FitsHand (length_of h.version) (room_of (length_of h.version) (length img)) (hand_in img n free t)
    → FitsHand (length_of h'.version) (room_of (length_of h'.version) (length img)) (hand_in img n' free t)
fits_own h h' img n n' free t p q f = rw (p, q) at f

-- a state and tables that agree with their image, with tables that are long enough
pub agreed_fits : (m : Validation) (img : List ℕ) (used sectors free : ℕ) (h : Header) (t : Tables) → Agrees m img used sectors free h t
    → room_of (length_of h.version) (length img) ≤ shortest t
    → FitsHand (length_of h.version) (room_of (length_of h.version) (length img)) (hand_in img sectors free t)
agreed_fits m img used sectors free h t a room =
    fits_own (header_of img) h img _ sectors free t (sym a.header) (sym a.count)
    (own_fits m img used free t a.opens a.tables (rw (sym (ap (λ (x : Header). length_of x.version) a.header)) room))

-- the FREE sectors of a state are marked so, each listed once
pub agreed_frees : (m : Validation) (img : List ℕ) (used sectors free : ℕ) (h : Header) (t : Tables) → Agrees m img used sectors free h t
    → FreesOnce sectors (take sectors t.fat) (take free t.frees)
unfolding open_tables
agreed_frees m img used sectors free h t a = frees_own _ sectors _ (take sectors t.fat) (take free t.frees) (sym a.count) (sym (agreed_front m img used sectors free h t a)) a.tables.frees
  where
    frees_own : (n n' : ℕ) (fat fat' frees : List ℕ) → n ≡ n' → fat ≡ fat' → FreesOnce n fat frees → FreesOnce n' fat' frees
    frees_own n n' fat fat' frees p q f = rw (p, q) at f
