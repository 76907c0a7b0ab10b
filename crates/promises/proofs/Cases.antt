-- Document 01's cases 1 to 10 from the shelf, computed from the definitions that the contracts cite. Assumes nothing.
use Prim.Native.Nat.{ℕ, ◌+◌, ◌*◌, ◌%◌}
use mathlib.Core.Path.{◌≡◌, refl}
use mathlib.Core.Bool.{Bool, not}
use mathlib.Core.List.{List, [], ◌∷◌, ◌++◌}
use lib.Dec.{eqb}
use lib.ListN.{length, get_or, replicate}
use Rattle.lists.specs.Lists.{choose, both, every, tab, splice, part, same_list}
use Rattle.lists.specs.Rows.{Row, row, refusal}
use Rattle.words.specs.Words.{le, digits}
use Rattle.consts.specs.Consts.{fat_sector, end_of_chain, free_sector}
use Rattle.fields.specs.Fields.{number_at, list_of, ids_then_free}
use Rattle.header.specs.Versions.{version_of, is_strict}
use Rattle.header.specs.Read.{header_of, unknown, counts_dirs, dirs_of, end_if_free}
use Rattle.header.specs.Write.{header_bytes}
use Rattle.header.specs.declared.Version.TheVariants.{V3}
use Rattle.header.specs.declared.Validation.{Validation}
use Rattle.header.specs.declared.Validation.TheVariants.{Permissive, Strict}
use Rattle.header.specs.declared.Header.{Header}
use Rattle.sectors.specs.Sectors.{start_of}
use Rattle.sectors.specs.Init.{init_bytes}
use Rattle.fat.specs.Lists.{room_of}
use Rattle.alloc.specs.Opening.{Tables, open_no, shortest}
use Rattle.alloc.specs.Opened.{tables_left}
use Rattle.alloc.proofs.Examples.{header_q, image_of, image_q}
use Rattle.agree.specs.Agree.{same_header, holds}
use Rattle.chain.specs.Bytes.{chain_bytes}
use Rattle.hand.specs.Hand.{Chain}
use Rattle.moves.specs.Change.{ids_of, with_image, resized, written}
use Rattle.cfb.specs.Face.{state_of, tables_of}
use Rattle.cfb.specs.Calls.{state_len, chain_no, chain_ids}
use Rattle.cfb.specs.Changes.{write_no, resize_no, chain_from, state_from, tables_in, start_in}
use Rattle.cfb.specs.declared.State.{State}

-- the numbers of the rows that fail
unfoldable pub bad : List Row → List ℕ
bad [] = []
bad (r ∷ rs) = choose r.holds (bad rs) (r.no ∷ bad rs)

-- an opening, in lent tables of r zeros each: the state, and what the tables hold then
unfoldable pub lent : ℕ → Tables
lent r = record { fat = replicate r 0; fats = replicate r 0; difats = replicate r 0; frees = replicate r 0; marks = replicate r 0 }

unfoldable pub state_at : Validation → List ℕ → ℕ → ℕ → State
unfolding lent
state_at m img used r = state_of (open_no m img used (shortest (lent r))) m img used

unfoldable pub tables_at : Validation → List ℕ → ℕ → ℕ → Tables
unfolding lent
tables_at m img used r = tables_left (open_no m img used (shortest (lent r))) (lent r) (tables_of img used)

-- document 01, image Q: 3,584 bytes of it are used, R is 7
unfoldable pub state_q : State
unfolding state_at
state_q = state_at Strict image_q 3584 7

unfoldable pub tables_q : Tables
unfolding tables_at
tables_q = tables_at Strict image_q 3584 7

-- its chain in hand from sector 1 on, resized, and written with a buffer of 600 bytes, none of them zero
unfoldable pub chain_q : Chain
unfolding state_q tables_q
chain_q = chain_from state_q image_q tables_q 7 1

unfoldable pub resized_q : ℕ → Chain
unfolding chain_q
resized_q len = resized (state_len state_q) chain_q len

unfoldable pub buffer_q : List ℕ
buffer_q = tab (λ i. i % 251 + 1) 600

unfoldable pub written_q : Chain
unfolding chain_q buffer_q
written_q = written (state_len state_q) chain_q 1536 buffer_q

-- the bytes of a chain in hand
unfoldable pub bytes_in : Chain → List ℕ
bytes_in c = chain_bytes 512 c.hand.disk.image (ids_of c)

-- the free list in hand is this one, with zeros behind it
unfoldable pub frees_are : Chain → List ℕ → Bool
frees_are c xs = both (eqb c.hand.free (length xs)) (holds (tables_in c).frees xs)

-- a chain in hand has these ids, with zeros behind them, and starts with the first
unfoldable pub ids_are : Chain → List ℕ → Bool
ids_are c xs = both (same_list (ids_of c) xs) (both (holds c.ids xs) (eqb (start_in c.ids c.count) (get_or xs 0 end_of_chain)))

-- two chains in hand are the same: every table, every number, the ids, and the image
unfoldable pub same_chain : Chain → Chain → Bool
same_chain a b =
    both (same_list a.hand.disk.image b.hand.disk.image)
    (both (same_list a.hand.disk.fat b.hand.disk.fat)
    (both (same_list a.hand.disk.fats b.hand.disk.fats)
    (both (same_list a.hand.disk.difats b.hand.disk.difats)
    (both (eqb a.hand.disk.sectors b.hand.disk.sectors)
    (both (same_list a.hand.frees b.hand.frees)
    (both (eqb a.hand.free b.hand.free)
    (both (same_list a.hand.marks b.hand.marks)
    (both (same_list a.ids b.ids)
    (eqb a.count b.count)))))))))

-- two states are the same
unfoldable pub same_state : State → State → Bool
same_state a b =
    both (same (is_strict a.mode) (is_strict b.mode))
    (both (eqb a.used b.used)
    (both (eqb a.sectors b.sectors)
    (both (eqb a.free b.free)
    (same_header a.header b.header))))
  where
    same : Bool → Bool → Bool
    same p q = choose p q (not q)

-- document 01, image Q: version 3, n = 6, R = 7, entries FAT, 2, 3, END, FREE, FREE
unfoldable pub image_rows : List Row
unfolding state_q tables_q
image_rows =
    row 1 (eqb (open_no Strict image_q 3584 (shortest (lent 7))) 0)
    ∷ row 2 (eqb (state_len state_q) 512)
    ∷ row 3 (eqb state_q.sectors 6)
    ∷ row 4 (eqb (room_of (state_len state_q) (length image_q)) 7)
    ∷ row 5 (holds tables_q.fat (fat_sector ∷ 2 ∷ 3 ∷ end_of_chain ∷ free_sector ∷ free_sector ∷ []))
    ∷ []

-- case 1: start 1: ids 1, 2, 3; length 1,536; free list 4, 5
unfoldable pub open_case : List Row
unfolding state_q tables_q chain_q
open_case =
    row 101 (eqb (chain_no state_q image_q tables_q 7 1) 0)
    ∷ row 102 (same_list (chain_ids state_q tables_q 1) (1 ∷ 2 ∷ 3 ∷ []))
    ∷ row 103 (eqb (state_len state_q * length (chain_ids state_q tables_q 1)) 1536)
    ∷ row 104 (eqb (length (bytes_in chain_q)) 1536)
    ∷ row 105 (both (eqb state_q.free 2) (holds tables_q.frees (4 ∷ 5 ∷ [])))
    ∷ []

-- case 2: write 600 bytes at 1,536: ids 1, 2, 3, 5, 4; bytes 2,136 to 2,559 zero; and the bytes before them are the old ones and the buffer
unfoldable pub write_case : List Row
unfolding state_q tables_q chain_q written_q bytes_in frees_are ids_are
write_case =
    row 201 (eqb (write_no state_q image_q tables_q 7 1 1536 (length buffer_q)) 0)
    ∷ row 202 (ids_are written_q (1 ∷ 2 ∷ 3 ∷ 5 ∷ 4 ∷ []))
    ∷ row 203 (same_list (part (bytes_in written_q) 2136 424) (replicate 424 0))
    ∷ row 204 (eqb (length (bytes_in written_q)) 2560)
    ∷ row 205 (same_list (part (bytes_in written_q) 1536 600) buffer_q)
    ∷ row 206 (same_list (part (bytes_in written_q) 0 1536) (bytes_in chain_q))
    ∷ row 207 (frees_are written_q [])
    ∷ []

-- case 3: write at 1,537: 23
unfoldable pub beyond_case : List Row
unfolding state_q tables_q
beyond_case = row 301 (eqb (write_no state_q image_q tables_q 7 1 1537 600) 23) ∷ []

-- case 4: resize 1,536: nothing changes; 1,300: 236 bytes zeroed, and no other byte, table or number changes; 1,537: takes 5
unfoldable pub resize_case : List Row
unfolding state_q tables_q chain_q resized_q frees_are ids_are same_chain same_state
resize_case =
    row 401 (eqb (resize_no state_q image_q tables_q 7 1 1536) 0)
    ∷ row 402 (same_chain (resized_q 1536) chain_q)
    ∷ row 403 (same_state (state_from state_q (resized_q 1536)) state_q)
    ∷ row 411 (eqb (resize_no state_q image_q tables_q 7 1 1300) 0)
    ∷ row 412 (same_chain (resized_q 1300) (with_image chain_q (splice image_q (start_of 512 3 + 276) (replicate 236 0))))
    ∷ row 413 (same_list (bytes_in (resized_q 1300)) (part (bytes_in chain_q) 0 1300 ++ replicate 236 0))
    ∷ row 421 (eqb (resize_no state_q image_q tables_q 7 1 1537) 0)
    ∷ row 422 (ids_are (resized_q 1537) (1 ∷ 2 ∷ 3 ∷ 5 ∷ []))
    ∷ row 423 (frees_are (resized_q 1537) (4 ∷ []))
    ∷ []

-- case 5: resize 513: ids 1, 2; free list 4, 5, 3; chain bytes 513 to 1,023 zero; 512: ids 1; free list 4, 5, 2, 3
unfoldable pub shrink_case : List Row
unfolding state_q tables_q chain_q resized_q bytes_in frees_are ids_are
shrink_case =
    row 501 (eqb (resize_no state_q image_q tables_q 7 1 513) 0)
    ∷ row 502 (ids_are (resized_q 513) (1 ∷ 2 ∷ []))
    ∷ row 503 (frees_are (resized_q 513) (4 ∷ 5 ∷ 3 ∷ []))
    ∷ row 504 (same_list (bytes_in (resized_q 513)) (part (bytes_in chain_q) 0 513 ++ replicate 511 0))
    ∷ row 511 (eqb (resize_no state_q image_q tables_q 7 1 512) 0)
    ∷ row 512 (ids_are (resized_q 512) (1 ∷ []))
    ∷ row 513 (frees_are (resized_q 512) (4 ∷ 5 ∷ 2 ∷ 3 ∷ []))
    ∷ []

-- case 6: resize 0: free list 4, 5, 1, 2, 3; no ids, and the start is END
unfoldable pub free_case : List Row
unfolding state_q tables_q chain_q resized_q frees_are ids_are
free_case =
    row 601 (eqb (resize_no state_q image_q tables_q 7 1 0) 0)
    ∷ row 602 (frees_are (resized_q 0) (4 ∷ 5 ∷ 1 ∷ 2 ∷ 3 ∷ []))
    ∷ row 603 (ids_are (resized_q 0) [])
    ∷ []

-- case 7: resize 3,072: ids 1, 2, 3, 5, 4, 6; 3,584: 24
unfoldable pub grow_case : List Row
unfolding state_q tables_q chain_q resized_q frees_are ids_are
grow_case =
    row 701 (eqb (resize_no state_q image_q tables_q 7 1 3072) 0)
    ∷ row 702 (ids_are (resized_q 3072) (1 ∷ 2 ∷ 3 ∷ 5 ∷ 4 ∷ 6 ∷ []))
    ∷ row 703 (both (eqb (resized_q 3072).hand.disk.sectors 7) (frees_are (resized_q 3072) []))
    ∷ row 711 (eqb (resize_no state_q image_q tables_q 7 1 3584) 24)
    ∷ []

-- case 8: start 2: opens, ids 2, 3; a change is 25: a write, a resize, a free; start 4: 21; start 6: 20
unfoldable pub start_case : List Row
unfolding state_q tables_q
start_case =
    row 801 (eqb (chain_no state_q image_q tables_q 7 2) 0)
    ∷ row 802 (same_list (chain_ids state_q tables_q 2) (2 ∷ 3 ∷ []))
    ∷ row 803 (eqb (write_no state_q image_q tables_q 7 2 0 1) 25)
    ∷ row 804 (eqb (resize_no state_q image_q tables_q 7 2 1024) 25)
    ∷ row 805 (eqb (resize_no state_q image_q tables_q 7 2 0) 25)
    ∷ row 811 (eqb (chain_no state_q image_q tables_q 7 4) 21)
    ∷ row 812 (eqb (resize_no state_q image_q tables_q 7 4 512) 21)
    ∷ row 821 (eqb (chain_no state_q image_q tables_q 7 6) 20)
    ∷ row 822 (eqb (resize_no state_q image_q tables_q 7 6 512) 20)
    ∷ []

-- case 9: an image of a header alone, lent with room for r sectors
unfoldable pub header_alone : Header
header_alone = record { version = V3; dirs = 0; fats = 0; dir = end_of_chain; minifat = end_of_chain; minifats = 0; difat = end_of_chain; difats = 0; list = replicate 109 free_sector }

unfoldable pub image_alone : ℕ → List ℕ
unfolding header_alone
image_alone r = header_bytes header_alone ++ replicate (512 * r) 7

unfoldable pub state_alone : ℕ → State
unfolding image_alone state_at
state_alone r = state_at Strict (image_alone r) 512 r

unfoldable pub tables_alone : ℕ → Tables
unfolding image_alone tables_at
tables_alone r = tables_at Strict (image_alone r) 512 r

unfoldable pub written_alone : ℕ → Chain
unfolding image_alone state_alone tables_alone
written_alone r = written (state_len (state_alone r)) (chain_from (state_alone r) (image_alone r) (tables_alone r) r end_of_chain) 0 (42 ∷ [])

-- n = 0, R = 2, write one byte to END: sector 0 FAT, sector 1 data, header 44 is 1, 76 is 0; with R = 1: 24
unfoldable pub alone_case : List Row
unfolding image_alone state_alone tables_alone written_alone bytes_in frees_are ids_are
alone_case =
    row 901 (eqb (open_no Strict (image_alone 2) 512 (shortest (lent 2))) 0)
    ∷ row 902 (both (eqb (state_alone 2).sectors 0) (eqb (room_of (state_len (state_alone 2)) (length (image_alone 2))) 2))
    ∷ row 903 (eqb (write_no (state_alone 2) (image_alone 2) (tables_alone 2) 2 end_of_chain 0 1) 0)
    ∷ row 904 (both (eqb (written_alone 2).hand.disk.sectors 2) (same_list (tables_in (written_alone 2)).fat (fat_sector ∷ end_of_chain ∷ [])))
    ∷ row 905 (both (eqb (get_or (tables_in (written_alone 2)).fats 0 9) 0) (ids_are (written_alone 2) (1 ∷ [])))
    ∷ row 906 (same_list (bytes_in (written_alone 2)) (42 ∷ replicate 511 0))
    ∷ row 907 (eqb (le 4 (written_alone 2).hand.disk.image 44) 1)
    ∷ row 908 (eqb (le 4 (written_alone 2).hand.disk.image 76) 0)
    ∷ row 909 (both (eqb (header_of (written_alone 2).hand.disk.image).fats 1) (same_list (header_of (written_alone 2).hand.disk.image).list (0 ∷ replicate 108 free_sector)))
    ∷ row 910 (both (eqb (le 4 (written_alone 2).hand.disk.image (start_of 512 0)) fat_sector) (eqb (open_no Strict (written_alone 2).hand.disk.image 1536 (shortest (lent 2))) 0))
    ∷ row 911 (eqb (open_no Strict (image_alone 1) 512 (shortest (lent 1))) 0)
    ∷ row 912 (eqb (room_of (state_len (state_alone 1)) (length (image_alone 1))) 1)
    ∷ row 913 (eqb (write_no (state_alone 1) (image_alone 1) (tables_alone 1) 1 end_of_chain 0 1) 24)
    ∷ []

-- case 10: Q with another entry of sector 3
unfoldable pub image_with : ℕ → List ℕ
image_with e = image_of (fat_sector ∷ 2 ∷ 3 ∷ e ∷ free_sector ∷ free_sector ∷ [])

-- 0xfffffffa: 15 strict, END permissive; 0xfffffffb: 17 in both
unfoldable pub entry_case : List Row
unfolding image_with tables_at
entry_case =
    row 1001 (eqb (open_no Strict (image_with 0xffff_fffa) 3584 (shortest (lent 7))) 15)
    ∷ row 1002 (eqb (open_no Permissive (image_with 0xffff_fffa) 3584 (shortest (lent 7))) 0)
    ∷ row 1003 (holds (tables_at Permissive (image_with 0xffff_fffa) 3584 7).fat (fat_sector ∷ 2 ∷ 3 ∷ end_of_chain ∷ free_sector ∷ free_sector ∷ []))
    ∷ row 1011 (eqb (open_no Strict (image_with 0xffff_fffb) 3584 (shortest (lent 7))) 17)
    ∷ row 1012 (eqb (open_no Permissive (image_with 0xffff_fffb) 3584 (shortest (lent 7))) 17)
    ∷ []

-- document 01, "Cases from the shelf", 1 to 10: a row's number is 100 times its case, and its part
unfoldable pub rows : List Row
unfolding image_rows open_case write_case beyond_case resize_case shrink_case free_case grow_case start_case alone_case entry_case
rows =
    image_rows ++ (open_case ++ (write_case ++ (beyond_case ++ (resize_case ++ (shrink_case ++ (free_case ++ (grow_case ++ (start_case ++ (alone_case ++ entry_case)))))))))

-- every row holds
pub cases_hold : bad rows ≡ []
unfolding bad rows state_of tables_left chain_no write_no resize_no chain_from resized written state_from tables_in start_in image_q header_q header_bytes header_of number_at list_of ids_then_free version_of unknown counts_dirs dirs_of end_if_free init_bytes refusal same_list part every tab digits le
cases_hold = refl
