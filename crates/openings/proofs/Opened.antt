-- From what the library says of an opening, and of a chain, to its agreement with a record. Assumes nothing.
use Prim.Native.Nat.{ℕ, ◌+◌, ◌-◌, ◌*◌, ◌≤◌}
use mathlib.Core.Path.{◌≡◌, refl, ◌∙◌, sym, ap}
use mathlib.Core.List.{List}
use native.Mathlib.Omega.{arith}
use borrow.Rule.Slice.PartMut.{put_mid}
use lib.ListN.{length, take, replicate, length-replicate}
use Rattle.lists.specs.Lists.{part}
use Rattle.lists.proofs.Splice.{length_part, length_splice, put_mid_splice}
use Rattle.header.specs.declared.Validation.{Validation}
use Rattle.alloc.specs.Opening.{Tables, shortest, open_no}
use Rattle.alloc.specs.Opened.{tables_left}
use Rattle.consts.specs.Refusals.{ends_with}
use Rattle.cfb.specs.Face.{tables_of, state_of, Opens}
use Rattle.cfb.specs.Calls.{chain_no, told_by, ChainOpens}
use Rattle.cfb.specs.declared.State.{State}
use Rattle.cfb.specs.declared.Opened.{Opened}
use Rattle.cfb.specs.declared.Called.{Called}
use Rattle.cfb.proofs.Facing.{verdict_number}
use Rattle.records.specs.Records.{length_in, mode_in, numbers_in}
use Rattle.openings.specs.Openings.{place_in, entries_in, sector_bytes, image_in, lent_tables, tables_in, start_in, lent_ids, ToldAs, ChainedAs, Says, OpenedAs, ImageAgrees}

-- the entries and FREE behind them fill a sector
entries_long : (b : List ℕ) → length b ≡ 1024 → length (entries_in b) ≡ 512
unfolding entries_in
entries_long b l =
    let p : length (part b 520 96) ≡ 96 = length_part b 520 96 (omega arith) in
    let r : length {A = ℕ} (replicate 512 255) ≡ 512 = length-replicate {A = ℕ} 512 255 in
    length_splice (replicate 512 255) 0 (part b 520 96) (omega arith) ∙ r

-- a header over zeros, and the entries over their sector
pub sectors_put : (b : List ℕ) (place : ℕ) {head headed sector : List ℕ} → length b ≡ 1024 → place ≡ place_in b → headed ≡ put_mid 0 512 (replicate 12800 0) head → head ≡ part b 8 512
    → sector ≡ entries_in b → put_mid (512 * (place + 1)) (512 * (place + 1) + 512 - 512 * (place + 1)) headed sector ≡ sector_bytes b
unfolding sector_bytes
sectors_put b place {head = head} l p z h s =
    let header : length head ≡ 512 = ap length h ∙ length_part b 8 512 (omega arith) in
    let sector : length (entries_in b) ≡ 512 * (place + 1) + 512 - 512 * (place + 1) = omega (arith, entries_long b l) in
    rw (z, put_mid_splice 0 512 (replicate 12800 0) head header, h, s, ← p) (put_mid_splice (512 * (place + 1)) _ _ (entries_in b) sector)

-- five tables that were compared
pub tables_same_lem : (b : List ℕ) {fat fats difats frees marks : List ℕ} → fat ≡ numbers_in (part b 616 96) 24 → frees ≡ numbers_in (part b 712 96) 24 → fats ≡ numbers_in (part b 832 96) 24
    → difats ≡ numbers_in (part b 928 96) 24 → marks ≡ part b 808 24
    → ◌≡◌ {A = Tables} (record { fat = fat; fats = fats; difats = difats; frees = frees; marks = marks }) (tables_in b)
unfolding tables_in
tables_same_lem b f e s d m = λ i. record { fat = f i; fats = s i; difats = d i; frees = e i; marks = m i }

-- a call that told, and left as id list, what the record has
pub chain_told : (b : List ℕ) {img : List ℕ} {s : State} {t t' : Tables} {start : ℕ} {r : Called} {img' ids' : List ℕ} → start ≡ start_in b → ChainOpens s img t lent_ids start r img' t' ids'
    → ToldAs b (told_by r.answer) ids' → ChainedAs b img s t
chain_told b {img} {s = s} {t = t} {t' = t'} {r = r} {img' = img'} {ids' = ids'} e says given =
    let right : ChainOpens s img t lent_ids (start_in b) r img' t' ids' = rw (← e) says in
    let answer = right.answer in
    let list = right.list in
    record { no = chain_no s img t (length lent_ids) (start_in b); ended = refl; given = rw (← answer, ← list) given }

-- an opening that gave what the record says
pub opening_said : (b img : List ℕ) {m : Validation} {r : Opened} {img' : List ℕ} {t' : Tables} {no : ℕ} → m ≡ mode_in b → Opens m img (length img) lent_tables r img' t'
    → no ≡ ends_with r.verdict → Says b img no r.state t' → OpenedAs b img
opening_said b img {r = r} {img' = img'} {t' = t'} {no = k} e says n given =
    let right : Opens (mode_in b) img (length img) lent_tables r img' t' = rw (← e) says in
    let ended : k ≡ open_no (mode_in b) img (length img) (shortest lent_tables) = n ∙ verdict_number r.verdict _ _ _ right.verdict in
    let state : r.state ≡ state_of k (mode_in b) img (length img) = right.state ∙ ap (λ (q : ℕ). state_of q (mode_in b) img (length img)) (sym ended) in
    let tables : t' ≡ tables_left k lent_tables (tables_of img (length img)) = right.tables ∙ ap (λ (q : ℕ). tables_left q lent_tables (tables_of img (length img))) (sym ended) in
    record { no = k; ended = ended; given = rw (← state, ← tables) given }

-- the image that was opened is the record's
pub image_agrees : (b : List ℕ) {n place : ℕ} {made : List ℕ} → n ≡ length_in b → n ≤ 24 → place ≡ place_in b → place ≤ 23 → made ≡ sector_bytes b → OpenedAs b (take (512 * (n + 1)) made)
    → ImageAgrees b
unfolding image_in
image_agrees b {n = n} {place = place} l few p there e opened = record { few = rw (← l) few; place = omega (arith, p, there); opened = rw (← l, ← e) opened }
