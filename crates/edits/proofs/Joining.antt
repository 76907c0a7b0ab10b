-- The bytes of sectors one after the other: joined, cut short, and kept from one image to another. Assumes nothing.
use Prim.Native.Nat.{ℕ, suc, ◌+◌, ◌*◌, ◌≤◌, ◌<◌}
use mathlib.Core.Path.{◌≡◌, refl, ◌∙◌, sym, ap}
use mathlib.Core.List.{List, [], ◌∷◌, ◌++◌, flat_map, append_assoc, append-nil}
use mathlib.Core.Logic.{◌≢◌}
use native.Mathlib.Omega.{arith}
use native.Mathlib.Nat.{add-mul, one-mul}
use lib.ListN.{length, get_or, take, drop, take-append-drop}
use lib.Seq.{ext_get_or, take_at}
use Rattle.lists.specs.Lists.{part}
use Rattle.lists.proofs.Splice.{length_part, get_d_part}
use Rattle.sectors.specs.Sectors.{start_of, sector_of}
use Rattle.chain.specs.Bytes.{chain_bytes, Lies}
use Rattle.stores.proofs.Apart.{sector_other}
use Rattle.chain.proofs.Bytes.{length_chain}
use Rattle.disk.specs.Disk.{Disk}
use Rattle.hand.specs.Hand.{Chain}
use Rattle.edits.specs.Roles.{fats_held, difats_held}
use Rattle.edits.specs.Untouched.{Aside, Unlisted, Other}

-- the bytes of two lists of sectors, and of one sector
pub chain_append : (S : ℕ) (img xs ys : List ℕ) → chain_bytes S img (xs ++ ys) ≡ chain_bytes S img xs ++ chain_bytes S img ys
unfolding chain_bytes flat_map
chain_append S img [] ys = refl
chain_append S img (x ∷ xs) ys =
    ap (λ (l : List ℕ). sector_of S img x ++ l) (chain_append S img xs ys) ∙ sym (append_assoc (sector_of S img x) (chain_bytes S img xs) (chain_bytes S img ys))

pub chain_single : (S : ℕ) (img : List ℕ) (i : ℕ) → chain_bytes S img (i ∷ []) ≡ sector_of S img i
unfolding chain_bytes flat_map
chain_single S img i = append-nil (sector_of S img i)

-- the first m sectors of a chain have its first S m bytes
pub chain_front : (S : ℕ) (img ids : List ℕ) (m : ℕ) → Lies S (length img) (take m ids) → length (take m ids) ≡ m → chain_bytes S img (take m ids) ≡ take (S * m) (chain_bytes S img ids)
chain_front S img ids m l e =
    sym
    (ap (λ (xs : List ℕ). take (S * m) (chain_bytes S img xs)) (sym (take-append-drop m ids))
    ∙ ap (take (S * m)) (chain_append S img (take m ids) (drop m ids))
    ∙ take_at (chain_bytes S img (take m ids)) (chain_bytes S img (drop m ids)) (S * m) (length_chain S img (take m ids) l ∙ ap (λ (k : ℕ). S * k) e))

-- a sector whose bytes stay
pub sector_stays : (S : ℕ) (img after : List ℕ) (i : ℕ) → length after ≡ length img → start_of S i + S ≤ length img
    → ((x : ℕ) → x < S → get_or after (start_of S i + x) 0 ≡ get_or img (start_of S i + x) 0) → sector_of S after i ≡ sector_of S img i
unfolding sector_of
sector_stays S img after i e h same =
    let long : length (part after (start_of S i) S) ≡ S = length_part after (start_of S i) S (rw e h) in
    ext_get_or 0 (part after (start_of S i) S) (part img (start_of S i) S) (long ∙ sym (length_part img (start_of S i) S h))
    (λ x hx.
    let small : x < S = rw long at hx in
    get_d_part after (start_of S i) S x small ∙ same x small ∙ sym (get_d_part img (start_of S i) S x small))

-- and sectors that all stay
pub chain_stays : (S : ℕ) (img after ids : List ℕ) → ((j : ℕ) → j < length ids → sector_of S after (get_or ids j 0) ≡ sector_of S img (get_or ids j 0)) → chain_bytes S after ids ≡ chain_bytes S img ids
unfolding chain_bytes flat_map
chain_stays S img after [] h = refl
chain_stays S img after (i ∷ is) h =
    ap (λ (u : List ℕ). u ++ chain_bytes S after is) (h 0 (omega arith))
    ∙ ap (λ (u : List ℕ). sector_of S img i ++ u) (chain_stays S img after is (λ j l. h (suc j) (omega arith)))

-- no byte of a sector stands in the header's fields
pub sector_past : (S i x : ℕ) → 512 ≤ S → 512 ≤ start_of S i + x
sector_past S i x big = omega (arith, add-mul i 1 S, one-mul S, big)

-- the bytes of a sector that is neither FAT nor DIFAT stand in none of those
pub other_aside : (S : ℕ) (d : Disk) (i x : ℕ) → x < S → ((p : ℕ) → p < fats_held S d → get_or d.fats p 0 ≢ i)
    → ((p : ℕ) → p < difats_held S d → get_or d.difats p 0 ≢ i) → Aside S d (start_of S i + x)
other_aside S d i x l no_fat no_difat =
    record {
      in_no_fat = λ p h. sector_other S (get_or d.fats p 0) i x (no_fat p h) l;
      in_no_difat = λ p h. sector_other S (get_or d.difats p 0) i x (no_difat p h) l;
    }

-- so the bytes of a sector that belongs to another stand in no listed one
pub other_unlisted : (S : ℕ) (c : Chain) (i x : ℕ) → x < S → Other S c i → Unlisted S c (start_of S i + x)
other_unlisted S c i x l o =
    record { aside = other_aside S c.hand.disk i x l o.no_fat o.no_difat; in_no_id = λ p h. sector_other S (get_or c.ids p 0) i x (o.no_id p h) l }
