-- What is stored of an image, and how the allocator's changes store it (document 01, "Calls on a chain"; MS-CFB 2.3, 2.5), over the sector's length S. Assumes nothing.
use Rattle.std.specs.Prelude.{ℕ, zero, suc, ◌+◌, ◌-◌, ◌*◌, ◌/◌, ◌%◌, Bool, List, eqb, ltb, leb, get_or, set}
use Rattle.lists.specs.Lists.{choose, both, splice}
use Rattle.words.specs.Words.{digits}
use Rattle.consts.specs.Consts.{difat_sector, fat_sector, end_of_chain}
use Rattle.fields.specs.Fields.{fats_at, difat_at, difats_at, entries_at, offset_of}
use Rattle.sectors.specs.Sectors.{start_of, per_sector}
use Rattle.sectors.specs.Init.{init_bytes}
use Rattle.sectors.specs.declared.init.SectorInit.TheVariants.{Zero, Fat, Difat}
use Rattle.fat.specs.Lists.{difat_count}

-- the lent image and the lent tables that say where its FAT stands and what it holds, each over its whole length, and how many sectors there are
pub record Disk : Type 0 where
  pub image : List ℕ
  pub fat : List ℕ
  pub fats : List ℕ
  pub difats : List ℕ
  pub sectors : ℕ

-- a run of bytes is stored in the image
unfoldable pub store : Disk → ℕ → List ℕ → Disk
unfolding splice
store d o xs = record { image = splice d.image o xs; fat = d.fat; fats = d.fats; difats = d.difats; sectors = d.sectors }

-- MS-CFB 2.3: where entry i of the FAT stands in the image
unfoldable pub entry_place : ℕ → List ℕ → ℕ → ℕ
entry_place S fats i = start_of S (get_or fats (i / per_sector S) 0) + 4 * (i % per_sector S)

-- entry i of the FAT becomes v, in the table and in the bytes
unfoldable pub set_fat : ℕ → Disk → ℕ → ℕ → Disk
unfolding splice entry_place
set_fat S d i v =
    record { image = splice d.image (entry_place S d.fats i) (digits 4 v); fat = set d.fat i v; fats = d.fats; difats = d.difats; sectors = d.sectors }

-- the same with one sector more
abbrev pub counted : Disk → Disk
counted d = record { image = d.image; fat = d.fat; fats = d.fats; difats = d.difats; sectors = suc d.sectors }

-- there is one sector more, and its entry is v
unfoldable pub push_fat : ℕ → Disk → ℕ → Disk
unfolding set_fat
push_fat S d v = counted (set_fat S d d.sectors v)

-- id is the k-th of the FAT's sectors, in the table
unfoldable pub list_fat : Disk → ℕ → ℕ → Disk
list_fat d k id = record { image = d.image; fat = d.fat; fats = set d.fats k id; difats = d.difats; sectors = d.sectors }

-- id is the j-th of the DIFAT's sectors, in the table
unfoldable pub list_difat : Disk → ℕ → ℕ → Disk
list_difat d j id = record { image = d.image; fat = d.fat; fats = d.fats; difats = set d.difats j id; sectors = d.sectors }

-- document 01: a new DIFAT sector is linked from the last one or from header 68
unfoldable pub link_place : ℕ → List ℕ → ℕ → ℕ
link_place S difats j = choose (eqb j 0) (offset_of difat_at) (start_of S (get_or difats (j - 1) 0) + 4 * (per_sector S - 1))

-- document 01: the next sector becomes the j-th DIFAT sector: new, marked, linked, listed, and counted in header 72
unfoldable pub append_difat : ℕ → Disk → ℕ → Disk
unfolding store push_fat link_place list_difat
append_difat S d j =
    let new = push_fat S (store d (start_of S d.sectors) (init_bytes S Difat)) difat_sector in
    let linked = store new (link_place S d.difats j) (digits 4 d.sectors) in
    store (list_difat linked j d.sectors) (offset_of difats_at) (digits 4 (j + 1))

-- document 01: place p of the DIFAT is 109 or later, and none of the DIFAT sectors that p places need holds it
unfoldable pub needs_difat : ℕ → ℕ → Bool
unfolding difat_count
needs_difat S p = both (leb 109 p) (leb (difat_count S p) ((p - 109) / (per_sector S - 1)))

-- MS-CFB 2.5: where place p of the DIFAT, 109 or later, stands in the image: S / 4 - 1 places to a DIFAT sector
abbrev pub far_place : ℕ → List ℕ → ℕ → ℕ
far_place S difats p = start_of S (get_or difats ((p - 109) / (per_sector S - 1)) 0) + 4 * ((p - 109) % (per_sector S - 1))

-- place p of the DIFAT, 109 or later, is stored in the DIFAT sector that has it
unfoldable pub store_place : ℕ → Disk → ℕ → ℕ → Disk
unfolding store
store_place S d p id = store d (far_place S d.difats p) (digits 4 id)

-- document 01: the disk whose DIFAT has place p, 109 or later: a DIFAT sector is added where none holds it
unfoldable pub hold_place : ℕ → Disk → ℕ → Disk
unfolding append_difat needs_difat
hold_place S d p = choose (needs_difat S p) (append_difat S d ((p - 109) / (per_sector S - 1))) d

-- document 01: place p below 109 goes to 76 + 4 p; a later one into a DIFAT sector, which is added first where none holds it
unfoldable pub list_place : ℕ → Disk → ℕ → ℕ → Disk
unfolding store store_place hold_place
list_place S d p id = choose (ltb p 109) (store d (offset_of entries_at + 4 * p) (digits 4 id)) (store_place S (hold_place S d p) p id)

-- document 01: the next sector becomes a FAT sector: new, listed, marked, in its place of the DIFAT, and counted in header 44
unfoldable pub append_fat : ℕ → Disk → Disk
unfolding store list_fat push_fat list_place
append_fat S d =
    let k = d.sectors / per_sector S in
    let new = push_fat S (list_fat (store d (start_of S d.sectors) (init_bytes S Fat)) k d.sectors) fat_sector in
    store (list_place S new k d.sectors) (offset_of fats_at) (digits 4 (k + 1))

-- how many sectors there are once the next one is a FAT sector
unfoldable pub after_fat : ℕ → ℕ → ℕ
unfolding needs_difat
after_fat S n = choose (needs_difat S (n / per_sector S)) (n + 2) (n + 1)

-- document 01: how many there are after one more for data: where n is a multiple of E, a FAT sector comes first
unfoldable pub one_more : ℕ → ℕ → ℕ
unfolding after_fat
one_more S n = choose (eqb (n % per_sector S) 0) (suc (after_fat S n)) (suc n)

-- and after c more
unfoldable pub count_after : ℕ → ℕ → ℕ → ℕ
unfolding one_more
count_after S n zero = n
count_after S n (suc c) = count_after S (one_more S n) c

-- document 01: the disk whose next sector is for data: where n is a multiple of E, a FAT sector comes first
unfoldable pub ready : ℕ → Disk → Disk
unfolding append_fat
ready S d = choose (eqb (d.sectors % per_sector S) 0) (append_fat S d) d

-- document 01: the next sector becomes a chain's last one, zero
unfoldable pub new_sector : ℕ → Disk → Disk
unfolding ready push_fat store
new_sector S d = store (push_fat S (ready S d) end_of_chain) (start_of S (ready S d).sectors) (init_bytes S Zero)

-- FREE sector id becomes a chain's last one, zero
unfoldable pub reused : ℕ → Disk → ℕ → Disk
unfolding set_fat store
reused S d id = store (set_fat S d id end_of_chain) (start_of S id) (init_bytes S Zero)
