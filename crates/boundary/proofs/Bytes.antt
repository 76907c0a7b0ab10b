-- Bytes stay bytes: what a change stores is digits, bytes of sectors or the buffer, so that an image of bytes is one after it. Assumes nothing.
use Prim.Native.Nat.{ℕ, zero, suc, ◌+◌, ◌-◌, ◌*◌, ◌/◌, ◌%◌}
use mathlib.Core.Bool.{Bool, true, false}
use mathlib.Core.List.{List, [], ◌∷◌, ◌++◌, flat_map}
use native.Mathlib.Omega.{arith}
use lib.Dec.{eqb, ltb}
use lib.ListN.{length, get_or, take, drop, replicate}
use Rattle.lists.specs.Lists.{choose, part, Below}
use Rattle.lists.proofs.Splice.{below_append, below_replicate, below_take, below_drop, below_splice}
use Rattle.words.specs.Words.{digits}
use Rattle.words.proofs.Laws.{below_digits}
use Rattle.consts.specs.Consts.{difat_sector, fat_sector, end_of_chain, free_sector}
use Rattle.fields.specs.Fields.{fats_at, difats_at, entries_at, offset_of}
use Rattle.sectors.specs.Sectors.{start_of, sector_of, per_sector}
use Rattle.sectors.specs.Init.{init_bytes}
use Rattle.sectors.specs.declared.init.SectorInit.{SectorInit}
use Rattle.sectors.specs.declared.init.SectorInit.TheVariants.{Zero, Fat, Difat}
use Rattle.header.proofs.RoundTrip.{list_bytes_below}
use Rattle.fat.specs.Lists.{ceil}
use Rattle.chain.specs.Bytes.{chain_bytes}
use Rattle.stores.specs.Stores.{put_chain, write_bytes, tail_of, zero_tail}
use Rattle.disk.specs.Disk.{Disk, store, entry_place, set_fat, push_fat, list_fat, list_difat, link_place, append_difat, needs_difat, store_place, hold_place, list_place, append_fat, ready, new_sector, reused}
use Rattle.room.specs.Needed.{resize_more, write_more}
use Rattle.hand.specs.Hand.{Hand, Chain, point, taken_id, take_sector, free_sector_of, free_run, linked, extend_one, extend}
use Rattle.moves.specs.Change.{shrink, with_image, ids_of, resized, written}

-- what holds of both holds of the one that is chosen
pub chosen_so : {A : Type 0} (P : A → Type 0) (t : Bool) (x y : A) → P x → P y → P (choose t x y)
chosen_so P true x y p q = p
chosen_so P false x y p q = q

-- no number is none too many
no_bytes : Below 256 []
no_bytes = record { each = λ i l. absurd (omega arith) }

-- the bytes of a new sector, and of a chain's sectors
init_bytes_lem : (S : ℕ) (init : SectorInit) → Below 256 (init_bytes S init)
unfolding init_bytes
init_bytes_lem S Zero = below_replicate 256 S 0 (omega arith)
init_bytes_lem S Fat = list_bytes_below (replicate (per_sector S) free_sector)
init_bytes_lem S Difat = list_bytes_below (replicate (per_sector S - 1) free_sector ++ (end_of_chain ∷ []))

chain_bytes_lem : (S : ℕ) (img ids : List ℕ) → Below 256 img → Below 256 (chain_bytes S img ids)
unfolding chain_bytes flat_map sector_of part
chain_bytes_lem S img [] h = no_bytes
chain_bytes_lem S img (i ∷ ids) h =
    below_append 256 (sector_of S img i) (chain_bytes S img ids) (below_take 256 S _ (below_drop 256 (start_of S i) img h)) (chain_bytes_lem S img ids h)

-- an image with such bytes put into a chain's sectors
put_bytes : (S : ℕ) (ids img xs : List ℕ) → Below 256 img → Below 256 xs → Below 256 (put_chain S img ids xs)
unfolding put_chain
put_bytes S [] img xs h k = h
put_bytes S (i ∷ ids) img xs h k =
    put_bytes S ids _ (drop S xs) (below_splice 256 img (start_of S i) (take S xs) h (below_take 256 S xs k)) (below_drop 256 S xs k)

write_bytes_lem : (S : ℕ) (img ids : List ℕ) (offset : ℕ) (xs : List ℕ) → Below 256 img → Below 256 xs → Below 256 (write_bytes S img ids offset xs)
unfolding write_bytes
write_bytes_lem S img ids offset xs h k = put_bytes S ids img _ h (below_splice 256 (chain_bytes S img ids) offset xs (chain_bytes_lem S img ids h) k)

zero_bytes : (S : ℕ) (img ids : List ℕ) (o : ℕ) → Below 256 img → Below 256 (zero_tail S img ids o)
unfolding zero_tail
zero_bytes S img ids o h = write_bytes_lem S img ids o (replicate (tail_of S o) 0) h (below_replicate 256 (tail_of S o) 0 (omega arith))

-- the image is of bytes: of a disk, of what is in hand, of a chain in hand
pub record OnDisk (d : Disk) : Type 0 where
  pub image : Below 256 d.image

pub record OnHand (h : Hand) : Type 0 where
  pub disk : OnDisk h.disk

pub record OnChain (c : Chain) : Type 0 where
  pub hand : OnHand c.hand

-- the disk's moves
store_bytes : (d : Disk) (o : ℕ) (xs : List ℕ) → OnDisk d → Below 256 xs → OnDisk (store d o xs)
unfolding store
store_bytes d o xs h k = record { image = below_splice 256 d.image o xs h.image k }

set_bytes : (S : ℕ) (d : Disk) (i v : ℕ) → OnDisk d → OnDisk (set_fat S d i v)
unfolding set_fat
set_bytes S d i v h = record { image = below_splice 256 d.image (entry_place S d.fats i) (digits 4 v) h.image (below_digits 4 v) }

push_bytes : (S : ℕ) (d : Disk) (v : ℕ) → OnDisk d → OnDisk (push_fat S d v)
unfolding push_fat
push_bytes S d v h = record { image = (set_bytes S d d.sectors v h).image }

list_fat_bytes : (d : Disk) (k id : ℕ) → OnDisk d → OnDisk (list_fat d k id)
unfolding list_fat
list_fat_bytes d k id h = record { image = h.image }

list_difat_bytes : (d : Disk) (j id : ℕ) → OnDisk d → OnDisk (list_difat d j id)
unfolding list_difat
list_difat_bytes d j id h = record { image = h.image }

difat_bytes : (S : ℕ) (d : Disk) (j : ℕ) → OnDisk d → OnDisk (append_difat S d j)
unfolding append_difat
difat_bytes S d j h =
    let new = push_bytes S _ difat_sector (store_bytes d (start_of S d.sectors) _ h (init_bytes_lem S Difat)) in
    let linked = store_bytes _ (link_place S d.difats j) _ new (below_digits 4 d.sectors) in
    store_bytes _ (offset_of difats_at) _ (list_difat_bytes _ j d.sectors linked) (below_digits 4 (j + 1))

hold_bytes : (S : ℕ) (d : Disk) (p : ℕ) → OnDisk d → OnDisk (hold_place S d p)
unfolding hold_place
hold_bytes S d p h = chosen_so OnDisk (needs_difat S p) _ d (difat_bytes S d ((p - 109) / (per_sector S - 1)) h) h

far_bytes : (S : ℕ) (d : Disk) (p id : ℕ) → OnDisk d → OnDisk (store_place S d p id)
unfolding store_place
far_bytes S d p id h =
    store_bytes d (start_of S (get_or d.difats ((p - 109) / (per_sector S - 1)) 0) + 4 * ((p - 109) % (per_sector S - 1))) _ h (below_digits 4 id)

place_bytes : (S : ℕ) (d : Disk) (p id : ℕ) → OnDisk d → OnDisk (list_place S d p id)
unfolding list_place
place_bytes S d p id h =
    chosen_so OnDisk (ltb p 109) _ _ (store_bytes d (offset_of entries_at + 4 * p) _ h (below_digits 4 id)) (far_bytes S _ p id (hold_bytes S d p h))

fat_bytes : (S : ℕ) (d : Disk) → OnDisk d → OnDisk (append_fat S d)
unfolding append_fat
fat_bytes S d h =
    let k = d.sectors / per_sector S in
    let new = store_bytes d (start_of S d.sectors) _ h (init_bytes_lem S Fat) in
    let marked = push_bytes S _ fat_sector (list_fat_bytes _ k d.sectors new) in
    store_bytes _ (offset_of fats_at) _ (place_bytes S _ k d.sectors marked) (below_digits 4 (k + 1))

ready_bytes : (S : ℕ) (d : Disk) → OnDisk d → OnDisk (ready S d)
unfolding ready
ready_bytes S d h = chosen_so OnDisk (eqb (d.sectors % per_sector S) 0) _ _ (fat_bytes S d h) h

new_bytes : (S : ℕ) (d : Disk) → OnDisk d → OnDisk (new_sector S d)
unfolding new_sector
new_bytes S d h = store_bytes _ (start_of S (ready S d).sectors) _ (push_bytes S _ end_of_chain (ready_bytes S d h)) (init_bytes_lem S Zero)

reused_bytes : (S : ℕ) (d : Disk) (id : ℕ) → OnDisk d → OnDisk (reused S d id)
unfolding reused
reused_bytes S d id h = store_bytes _ (start_of S id) _ (set_bytes S d id end_of_chain h) (init_bytes_lem S Zero)

-- the moves on what is in hand
point_bytes : (S : ℕ) (h : Hand) (i v : ℕ) → OnHand h → OnHand (point S h i v)
unfolding point
point_bytes S h i v b = record { disk = set_bytes S h.disk i v b.disk }

take_bytes : (S : ℕ) (h : Hand) → OnHand h → OnHand (take_sector S h)
unfolding take_sector
take_bytes S h b =
    chosen_so OnHand (eqb h.free 0) _ _ (record { disk = new_bytes S h.disk b.disk }) (record { disk = reused_bytes S h.disk (get_or h.frees (h.free - 1) 0) b.disk })

freed_bytes : (S : ℕ) (h : Hand) (i : ℕ) → OnHand h → OnHand (free_sector_of S h i)
unfolding free_sector_of
freed_bytes S h i b = record { disk = (point_bytes S h i free_sector b).disk }

free_bytes : (S c : ℕ) (h : Hand) (ids : List ℕ) (i : ℕ) → OnHand h → OnHand (free_run S h ids i c)
unfolding free_run
free_bytes S zero h ids i b = b
free_bytes S (suc c) h ids i b = free_bytes S c _ ids (suc i) (freed_bytes S h (get_or ids i 0) b)

linked_bytes : (S : ℕ) (h : Hand) (ids : List ℕ) (count id : ℕ) → OnHand h → OnHand (linked S h ids count id)
unfolding linked
linked_bytes S h ids count id b = chosen_so OnHand (eqb count 0) _ _ b (point_bytes S h (get_or ids (count - 1) 0) id b)

-- and on a chain
one_bytes : (S : ℕ) (c : Chain) → OnChain c → OnChain (extend_one S c)
unfolding extend_one
one_bytes S c b = record { hand = linked_bytes S _ c.ids c.count (taken_id S c.hand) (take_bytes S c.hand b.hand) }

extend_bytes : (S m : ℕ) (c : Chain) → OnChain c → OnChain (extend S c m)
unfolding extend
extend_bytes S zero c b = b
extend_bytes S (suc m) c b = extend_bytes S m (extend_one S c) (one_bytes S c b)

shrink_bytes : (S : ℕ) (c : Chain) (m : ℕ) → OnChain c → OnChain (shrink S c m)
unfolding shrink
shrink_bytes S c m b = chosen_so OnChain (ltb m c.count) _ c (record { hand = free_bytes S (c.count - m) _ c.ids m (linked_bytes S c.hand c.ids m end_of_chain b.hand) }) b

with_bytes : (c : Chain) (img : List ℕ) → Below 256 img → OnChain (with_image c img)
unfolding with_image
with_bytes c img b = record { hand = record { disk = record { image = b } } }

-- a change leaves an image of bytes: a resize, and a write of bytes
pub resized_bytes : (S : ℕ) (c : Chain) (len : ℕ) → OnChain c → OnChain (resized S c len)
unfolding resized
resized_bytes S c len b =
    chosen_so OnChain (ltb c.count (ceil len S)) _ _ (extend_bytes S (resize_more S c.count len) c b)
    (with_bytes (shrink S c (ceil len S)) _ (zero_bytes S _ (ids_of (shrink S c (ceil len S))) len (shrink_bytes S c (ceil len S) b).hand.disk.image))

pub written_bytes : (S : ℕ) (c : Chain) (offset : ℕ) (buf : List ℕ) → OnChain c → Below 256 buf → OnChain (written S c offset buf)
unfolding written
written_bytes S c offset buf b k =
    let more = write_more S c.count offset (length buf) in
    with_bytes (extend S c more) _ (write_bytes_lem S _ (ids_of (extend S c more)) offset buf (extend_bytes S more c b).hand.disk.image k)

-- the same of the images themselves
pub of_bytes : (c : Chain) → Below 256 c.hand.disk.image → OnChain c
of_bytes c b = record { hand = record { disk = record { image = b } } }

pub bytes_of_lem : (c : Chain) → OnChain c → Below 256 c.hand.disk.image
bytes_of_lem c b = b.hand.disk.image
