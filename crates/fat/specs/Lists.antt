-- Where the FAT of an image stands, and what it says (MS-CFB 2.3, 2.5; document 01, k, d and R). Assumes nothing.
use Rattle.std.specs.Prelude.{ℕ, zero, suc, ◌+◌, ◌-◌, ◌*◌, ◌/◌, ◌%◌, min, Bool, not, List, eqb, ltb, length, get_or}
use Rattle.lists.specs.Lists.{choose, both, either, every, tab}
use Rattle.consts.specs.Consts.{end_of_chain, free_sector}
use Rattle.fields.specs.Fields.{ids_in}
use Rattle.header.specs.declared.Header.{Header}
use Rattle.sectors.specs.Sectors.{sector_of, per_sector, entry_in, entry_of}

-- document 01: the most sectors an image may have
abbrev pub most : ℕ
most = 16384

-- a / b, rounded up
unfoldable pub ceil : ℕ → ℕ → ℕ
ceil a b = (a + (b - 1)) / b

-- document 01: the sectors in so many bytes, the header's own place not counted
unfoldable pub sectors_in : ℕ → ℕ → ℕ
sectors_in S bytes = bytes / S - 1

-- document 01: the room R of a lent image
unfoldable pub room_of : ℕ → ℕ → ℕ
unfolding sectors_in
room_of S lent = min most (sectors_in S lent)

-- document 01: k, the FAT sectors that n sectors need
unfoldable pub fat_count : ℕ → ℕ → ℕ
unfolding ceil
fat_count S n = ceil n (per_sector S)

-- document 01: d, the DIFAT sectors that k FAT sectors need
unfoldable pub difat_count : ℕ → ℕ → ℕ
unfolding ceil
difat_count S k = ceil (k - 109) (per_sector S - 1)

-- MS-CFB 2.5: the j-th sector of the DIFAT chain, and what follows the last one: a sector's last entry is the next
unfoldable pub difat_at : ℕ → List ℕ → ℕ → ℕ → ℕ
unfolding sector_of entry_in
difat_at S img first zero = first
difat_at S img first (suc j) = entry_in (sector_of S img (difat_at S img first j)) (per_sector S - 1)

-- MS-CFB 2.5: place p of the DIFAT: in the header below 109, then S / 4 - 1 places to a DIFAT sector
unfoldable pub place_at : ℕ → List ℕ → List ℕ → List ℕ → ℕ → ℕ
unfolding sector_of entry_in
place_at S img list difats p =
    choose (ltb p 109) (get_or list p 0)
    (entry_in (sector_of S img (get_or difats ((p - 109) / (per_sector S - 1)) 0)) ((p - 109) % (per_sector S - 1)))

-- MS-CFB 2.5: the sectors of the DIFAT chain
unfoldable pub difats_of : ℕ → List ℕ → ℕ → ℕ → List ℕ
unfolding difat_at
difats_of S img first d = tab (difat_at S img first) d

-- MS-CFB 2.5: the sectors of the FAT, in the order of the DIFAT's places
unfoldable pub fats_of : ℕ → List ℕ → List ℕ → List ℕ → ℕ → List ℕ
unfolding place_at
fats_of S img list difats k = tab (place_at S img list difats) k

-- MS-CFB 2.3: the first n entries of the FAT, as the bytes have them
unfoldable pub fat_of : ℕ → List ℕ → List ℕ → ℕ → List ℕ
unfolding entry_of
fat_of S img fats n = tab (entry_of S img fats) n

-- every number is below n
unfoldable pub all_below : ℕ → List ℕ → Bool
all_below n xs = every (length xs) (λ i. ltb (get_or xs i 0) n)

-- no number stands twice
unfoldable pub different : List ℕ → Bool
different xs = every (length xs) (λ i. every i (λ j. not (eqb (get_or xs i 0) (get_or xs j 0))))

-- END or FREE: what follows the last DIFAT sector
unfoldable pub ends : ℕ → Bool
ends v = either (eqb v end_of_chain) (eqb v free_sector)

-- document 01, 12: the counts in the header, and the ids in its list
unfoldable pub counts_right : Header → ℕ → ℕ → Bool
counts_right h k d = both (eqb h.fats k) (both (eqb h.difats d) (eqb (ids_in h.list) (min k 109)))

-- document 01, 12: d different sectors below n, followed by END or FREE
unfoldable pub chain_right : ℕ → List ℕ → ℕ → ℕ → ℕ → Bool
unfolding difats_of difat_at all_below different ends
chain_right S img first n d = both (all_below n (difats_of S img first d)) (both (different (difats_of S img first d)) (ends (difat_at S img first d)))

-- document 01, 12: past the k places the DIFAT sectors hold FREE
unfoldable pub rest_free : ℕ → List ℕ → List ℕ → List ℕ → ℕ → ℕ → Bool
unfolding place_at
rest_free S img list difats k d = every (d * (per_sector S - 1) - (k - 109)) (λ j. eqb (place_at S img list difats (109 + (k - 109) + j)) free_sector)

-- document 01, 12: the k ids are different and below n
unfoldable pub ids_right : ℕ → List ℕ → Bool
unfolding all_below different
ids_right n fats = both (all_below n fats) (different fats)

-- document 01, 12: the FAT's list, with FREE behind it
unfoldable pub fats_right : ℕ → List ℕ → ℕ → List ℕ → List ℕ → ℕ → Bool
unfolding rest_free ids_right fats_of
fats_right S img n list difats k = both (rest_free S img list difats k (length difats)) (ids_right n (fats_of S img list difats k))

-- the DIFAT sectors and the FAT sectors that a header and n sectors ask for
unfoldable pub difats_in : ℕ → List ℕ → Header → ℕ → List ℕ
unfolding difats_of fat_count difat_count
difats_in S img h n = difats_of S img h.difat (difat_count S (fat_count S n))

unfoldable pub fats_in : ℕ → List ℕ → Header → ℕ → List ℕ
unfolding fats_of fat_count difats_in
fats_in S img h n = fats_of S img h.list (difats_in S img h n) (fat_count S n)

-- document 01, 12, as a whole
unfoldable pub lists_right : ℕ → List ℕ → Header → ℕ → Bool
unfolding counts_right chain_right fats_right fat_count difat_count difats_in
lists_right S img h n =
    both (counts_right h (fat_count S n) (difat_count S (fat_count S n)))
    (both (chain_right S img h.difat n (difat_count S (fat_count S n)))
    (fats_right S img n h.list (difats_in S img h n) (fat_count S n)))

-- document 01, 13: the entries from n on are FREE
unfoldable pub tail_free : ℕ → List ℕ → List ℕ → ℕ → Bool
unfolding entry_of
tail_free S img fats n = every (length fats * per_sector S - n) (λ j. eqb (entry_of S img fats (n + j)) free_sector)
