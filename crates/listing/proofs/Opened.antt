-- From what the opening says to the listing: the tables of 128 suffice, and either verdict names its text. Assumes nothing.
use Prim.Native.Nat.{ℕ, ◌+◌, ◌-◌, ◌≤◌, ◌<◌}
use mathlib.Core.Path.{◌≡◌, refl, ◌∙◌, sym, ap, subst}
use mathlib.Core.List.{List, ◌++◌}
use native.Mathlib.Omega.{arith}
use borrow.Author.Tests.{eq-eqb, ne_eqb, lt-ltb, le-ltb}
use lib.ListN.{length, take, drop, replicate, length-append}
use lib.Seq.{take_at}
use Rattle.lists.specs.Lists.{splice}
use Rattle.lists.proofs.Tab.{length_tab}
use Rattle.texts.specs.Text.{Put, Pushed}
use Rattle.texts.specs.declared.Out.{Out}
use Rattle.header.specs.Versions.{length_of}
use Rattle.header.specs.Read.{header_of}
use Rattle.header.specs.declared.Version.{Version}
use Rattle.header.specs.declared.Version.TheVariants.{V3, V4}
use Rattle.header.specs.declared.Validation.{Validation}
use Rattle.header.specs.declared.Validation.TheVariants.{Strict}
use Rattle.fat.specs.Lists.{most, sectors_in, room_of}
use Rattle.judge.specs.Judge.{forgiven_fat}
use Rattle.alloc.specs.Opening.{Tables, open_fat, open_tables, shortest, first_rows, open_rows, open_no, left_in, padded}
use Rattle.alloc.specs.Opened.{tables_left}
use Rattle.alloc.proofs.Filled.{front_padded}
use Rattle.cfb.specs.Face.{numbers_of, answer, sectors_of, tables_of, Opens}
use Rattle.std.specs.Prelude.{Ok, Err}
use Rattle.consts.specs.Refusals.{ends_with}
use Rattle.consts.specs.declared.refusal.Refusal.{Refusal}
use Rattle.cfb.specs.declared.Counts.{Counts}
use Rattle.cfb.specs.declared.Opened.{Opened}
use Rattle.cfb.proofs.Facing.{accepted_says, refused_says}
use Rattle.lines.specs.Lines.{listed, refused_line}
use Rattle.listing.specs.Listing.{strict_no, shown, listing}
use Rattle.listing.specs.Verdict.{FatOpened}

-- 64 KiB are at most 127 sectors behind the header
pub few_sectors : (v : Version) (len : ℕ) → len ≤ 65536 → sectors_in (length_of v) len ≤ 127
unfolding sectors_in
few_sectors V3 len h = omega arith
few_sectors V4 len h = omega arith

-- and so is the room
few_room : (v : Version) (len : ℕ) → len ≤ 65536 → room_of (length_of v) len ≤ 127
unfolding room_of
few_room v len h = omega (arith, few_sectors v len h)

-- refusal 11 is the same for tables that all have the room
pub tables_suffice : (m : Validation) (img : List ℕ) (used a b : ℕ) → room_of (length_of (header_of img).version) (length img) ≤ a
    → room_of (length_of (header_of img).version) (length img) ≤ b → open_no m img used a ≡ open_no m img used b
unfolding open_no open_rows first_rows
tables_suffice m img used a b ha hb = rw (le-ltb a _ ha, le-ltb b _ hb)

-- the shortest of five tables of 128 elements
pub shortest_is : (t : Tables) → length t.fat ≡ 128 → length t.fats ≡ 128 → length t.difats ≡ 128 → length t.frees ≡ 128 → length t.marks ≡ 128 → shortest t ≡ 128
unfolding shortest
shortest_is t a b c d e = rw (a, b, c, d, e)

-- tables of 128 elements are never too short for 64 KiB: the number is that of the definition
strict_number : (img : List ℕ) (t : Tables) → length img ≤ 65536 → shortest t ≡ 128 → open_no Strict img (length img) (shortest t) ≡ strict_no img
unfolding strict_no
strict_number img t h e =
    let room : room_of (length_of (header_of img).version) (length img) ≤ 127 = few_room (header_of img).version (length img) h in
    tables_suffice Strict img (length img) (shortest t) most (omega arith) (omega arith)

-- a table that an opening leaves where it ends with 0
table_left : (k : ℕ) (before xs : List ℕ) → k ≡ 0 → length before ≡ 128 → left_in k before xs ≡ padded xs 128
unfolding left_in padded
table_left k before xs z l = rw (eq-eqb k 0 z, l) refl

-- what the face says of a strict opening with tables of 128 elements
pub opened_fat : (img img' : List ℕ) (t t' : Tables) (r : Opened) → length img ≤ 65536 → length t.fat ≡ 128 → shortest t ≡ 128 → Opens Strict img (length img) t r img' t'
    → FatOpened img r t'.fat
unfolding tables_left
opened_fat img img' t t' r h l short says =
    let number : open_no Strict img (length img) (shortest t) ≡ strict_no img = strict_number img t h short in
    record {
      verdict = says.verdict ∙ ap (λ (k : ℕ). answer k (sectors_of img (length img)) (length (tables_of img (length img)).frees)) number;
      table = λ z. ap (λ (u : Tables). u.fat) says.tables ∙ table_left _ t.fat (tables_of img (length img)).fat (number ∙ z) l;
    }

-- document 01, "longer input is `refused 1`"
pub long_listing : (img : List ℕ) {o n : Out} → 65536 < length img → Pushed o (refused_line 1) n → Pushed o (listing img) n
unfolding listing
long_listing img h p = rw (lt-ltb 65536 (length img) h) p

-- the listing of an image that is refused is the line of its number
pub refused_listing : (img : List ℕ) {fat : List ℕ} {r : Opened} {w : ℕ} {k : Refusal} {o n : Out} → length img ≤ 65536 → FatOpened img r fat → r.verdict ≡ Err k → w ≡ ends_with r.verdict
    → Pushed o (refused_line w) n → Pushed o (listing img) n
unfolding listing shown
refused_listing img {r = r} {w} {k} {o} {n} h f e q p =
    let s = refused_says k (strict_no img) _ _ (sym (ap numbers_of e) ∙ f.verdict) in
    let no : w ≡ strict_no img = q ∙ ap ends_with e ∙ s.1 in
    rw (le-ltb 65536 (length img) h, ne_eqb (strict_no img) 0 s.0) (subst (λ (x : ℕ). Pushed o (refused_line x) n) no p)

-- what the verdict of an accepted image counts
abbrev Counted : List ℕ → Counts → Type 0
Counted img v = (strict_no img ≡ 0) × (v.sectors ≡ sectors_of img (length img)) × (v.free ≡ length (tables_of img (length img)).frees)

accepted_counts : {img fat : List ℕ} {r : Opened} {v : Counts} → FatOpened img r fat → r.verdict ≡ Ok v → Counted img v
accepted_counts {img} {v = v} o e = accepted_says v (strict_no img) _ _ (sym (ap numbers_of e) ∙ o.verdict)

-- the FAT has an entry for each sector
fat_length : (img : List ℕ) → length (tables_of img (length img)).fat ≡ sectors_of img (length img)
unfolding tables_of open_tables open_fat forgiven_fat
fat_length img = length_tab _ (sectors_of img (length img))

-- the front of the table that is left is the FAT
accepted_front : {img fat : List ℕ} {r : Opened} {v : Counts} → FatOpened img r fat → r.verdict ≡ Ok v → take v.sectors fat ≡ (tables_of img (length img)).fat
accepted_front {img} {fat} {v = v} o e =
    let k : Counted img v = accepted_counts o e in
    front_padded (tables_of img (length img)).fat fat v.sectors 128 (o.table k.0) (fat_length img ∙ sym k.1)

-- the front is within the table, and has at most 127 entries
pub accepted_within : {img fat : List ℕ} {r : Opened} {v : Counts} → FatOpened img r fat → r.verdict ≡ Ok v → v.sectors ≤ length fat
unfolding padded
accepted_within {img} {v = v} o e =
    let k : Counted img v = accepted_counts o e in
    omega (arith, k.1, fat_length img, ap length (o.table k.0), length-append (tables_of img (length img)).fat (replicate (128 - length (tables_of img (length img)).fat) 0))

pub accepted_short : {img fat : List ℕ} {r : Opened} {v : Counts} → length img ≤ 65536 → FatOpened img r fat → r.verdict ≡ Ok v → length (take v.sectors fat) ≤ 127
unfolding sectors_of
accepted_short {img} h o e = omega (arith, ap length (accepted_front o e), fat_length img, few_sectors (header_of img).version (length img) h)

-- the listing of an image that is accepted is that of its counts and of the front of its table
pub accepted_listing : (img : List ℕ) {fat : List ℕ} {r : Opened} {v : Counts} {o n : Out} → length img ≤ 65536 → FatOpened img r fat → r.verdict ≡ Ok v
    → Pushed o (listed v.sectors v.free (take v.sectors fat)) n → Pushed o (listing img) n
unfolding listing shown
accepted_listing img {fat} {v = v} {o} {n} h f e p =
    let k : Counted img v = accepted_counts f e in
    let text : listed v.sectors v.free (take v.sectors fat) ≡ listed (sectors_of img (length img)) (length (tables_of img (length img)).frees) (tables_of img (length img)).fat
    = ap (listed v.sectors v.free) (accepted_front f e) ∙ ap (λ (x : ℕ). listed x v.free (tables_of img (length img)).fat) k.1 ∙ ap (λ (x : ℕ). listed (sectors_of img (length img)) x (tables_of img (length img)).fat) k.2 in
    rw (le-ltb 65536 (length img) h, eq-eqb (strict_no img) 0 k.0) (subst (λ (x : List ℕ). Pushed o x n) text p)

-- a text that was put at the front is the front
pub put_front : {b xs : List ℕ} {r : ℕ} {after : List ℕ} → Put b 0 xs r after → (r ≤ length after) × (take r after ≡ xs)
unfolding splice
put_front {b} {xs} {r} {after} p =
    let l : r ≡ length xs = omega (arith, p.place) in
    let e : after ≡ xs ++ drop (0 + length xs) b = p.buffer in
    (omega (arith, ap length e, length-append xs (drop (0 + length xs) b)), ap (take r) e ∙ take_at xs _ r (sym l))
