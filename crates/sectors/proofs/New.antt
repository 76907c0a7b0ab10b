-- The laws of what a new sector holds, and of a store in a sector that was lent as a part of the image. Assumes nothing.
use Prim.Native.Nat.{ℕ, zero, suc, ◌+◌, ◌-◌, ◌*◌, ◌≤◌, ◌<◌}
use mathlib.Core.Path.{◌≡◌, refl, ◌∙◌, sym, ap, ap₂}
use mathlib.Core.List.{List, [], ◌∷◌, ◌++◌}
use native.Mathlib.Omega.{arith}
use native.Mathlib.Nat.{zero-add}
use borrow.Rule.Slice.PartMut.{put_mid}
use lib.ListN.{length, take, drop, replicate, length-append, length-replicate, get_or-replicate}
use Rattle.lists.specs.Lists.{splice, part}
use Rattle.lists.proofs.Splice.{length_part, length_splice, is_splice, splice_append, splice_whole, splice_part, put_mid_splice}
use Rattle.words.specs.Words.{digits}
use Rattle.words.proofs.Laws.{length_digits}
use Rattle.consts.specs.Consts.{end_of_chain, free_sector}
use Rattle.fields.specs.Fields.{list_bytes}
use Rattle.fields.proofs.Listed.{length_list_bytes, list_bytes_snoc}
use Rattle.sectors.specs.Sectors.{start_of, sector_of, per_sector}
use Rattle.sectors.specs.Init.{init_bytes}
use Rattle.sectors.specs.declared.init.SectorInit.{SectorInit}
use Rattle.sectors.specs.declared.init.SectorInit.TheVariants.{Zero, Fat, Difat}
use Rattle.sectors.proofs.Laws.{spanned_sector, length_sector}

-- k FREE entries are 4 k bytes of 255
free_bytes : (k : ℕ) → replicate (4 * k) 255 ≡ list_bytes (replicate k free_sector)
unfolding list_bytes digits
free_bytes zero = refl
free_bytes (suc k) =
    let more : 4 * suc k ≡ suc (suc (suc (suc (4 * k)))) = omega arith in
    rw more (ap (λ (l : List ℕ). 255 ∷ 255 ∷ 255 ∷ 255 ∷ l) (free_bytes k))

-- a list of one value begins with it
ones_begin : (n o v : ℕ) → o ≤ n → replicate n v ≡ splice (replicate n v) 0 (replicate o v)
ones_begin n o v h =
    is_splice (replicate n v) 0 (replicate o v) (omega (arith, length-replicate {A = ℕ} o v, length-replicate {A = ℕ} n v)) (replicate n v) refl
    (λ i hi. let low : i < o = rw (length-replicate {A = ℕ} o v) at hi in get_or-replicate n (0 + i) v 0 (omega arith) ∙ sym (get_or-replicate o i v 0 low))
    (λ i out. refl)

-- the last four of 4 k bytes of 255 replaced
last_put : (k : ℕ) → 1 ≤ k → splice (replicate (4 * k) 255) (4 * (k - 1)) (digits 4 end_of_chain) ≡ list_bytes (replicate (k - 1) free_sector ++ (end_of_chain ∷ []))
last_put k h =
    ap (λ (b : List ℕ). splice b (4 * (k - 1)) (digits 4 end_of_chain)) (ones_begin (4 * k) (4 * (k - 1)) 255 (omega arith))
    ∙ ap (λ (o : ℕ). splice (splice (replicate (4 * k) 255) 0 front) o (digits 4 end_of_chain)) (sym long ∙ sym (zero-add (length front)))
    ∙ splice_append (replicate (4 * k) 255) 0 front (digits 4 end_of_chain) (omega (arith, long, length_digits 4 end_of_chain, length-replicate {A = ℕ} (4 * k) 255))
    ∙ splice_whole (replicate (4 * k) 255) (front ++ digits 4 end_of_chain)
    (length-append front (digits 4 end_of_chain) ∙ omega (arith, long, length_digits 4 end_of_chain, length-replicate {A = ℕ} (4 * k) 255))
    ∙ ap (λ (l : List ℕ). l ++ digits 4 end_of_chain) (free_bytes (k - 1))
    ∙ sym (list_bytes_snoc (replicate (k - 1) free_sector) end_of_chain)
  where
    front : List ℕ
    front = replicate (4 * (k - 1)) 255

    long : length front ≡ 4 * (k - 1)
    long = length-replicate {A = ℕ} (4 * (k - 1)) 255

-- what the fills leave
pub init_zero : (S : ℕ) → replicate S 0 ≡ init_bytes S Zero
unfolding init_bytes
init_zero S = refl

pub init_fat : (S : ℕ) → S ≡ 4 * per_sector S → replicate S 255 ≡ init_bytes S Fat
unfolding init_bytes
init_fat S e = ap (λ (n : ℕ). replicate n 255) e ∙ free_bytes (per_sector S)

pub init_difat : (S o : ℕ) (filled after : List ℕ) → S ≡ 4 * per_sector S → 1 ≤ per_sector S → o ≡ per_sector S - 1
    → filled ≡ replicate S 255 → after ≡ splice filled (4 * o) (digits 4 end_of_chain) → after ≡ init_bytes S Difat
unfolding init_bytes
init_difat S o filled after e h place f a =
    a
    ∙ ap (λ (b : List ℕ). splice b (4 * o) (digits 4 end_of_chain)) (f ∙ ap (λ (n : ℕ). replicate n 255) e)
    ∙ ap (λ (p : ℕ). splice (replicate (4 * per_sector S) 255) (4 * p) (digits 4 end_of_chain)) place
    ∙ last_put (per_sector S) h

-- a new sector is as long as a sector
pub length_init : (S : ℕ) (init : SectorInit) → S ≡ 4 * per_sector S → 1 ≤ per_sector S → length (init_bytes S init) ≡ S
unfolding init_bytes
length_init S Zero e h = length-replicate {A = ℕ} S 0
length_init S Fat e h = length_list_bytes (replicate (per_sector S) free_sector) ∙ omega (arith, length-replicate {A = ℕ} (per_sector S) free_sector, e)
length_init S Difat e h =
    length_list_bytes (replicate (per_sector S - 1) free_sector ++ (end_of_chain ∷ []))
    ∙ omega (arith, length-append (replicate (per_sector S - 1) free_sector) (end_of_chain ∷ []), length-replicate {A = ℕ} (per_sector S - 1) free_sector, e)

-- a sector of entries has a byte
pub init_length : (S : ℕ) → S ≡ 4 * per_sector S → 1 ≤ per_sector S → 1 ≤ S
init_length S e h = omega (arith, e)

-- a run stored in a sector that was lent, and a whole sector
pub put_part : (S i : ℕ) (img run : List ℕ) (a e o : ℕ) (ys : List ℕ) → o + length ys ≤ S → start_of S i + S ≤ length img → (a ≡ start_of S i) × (e ≡ start_of S i + S)
    → run ≡ splice (take (e - a) (drop a img)) o ys → put_mid a (e - a) img run ≡ splice img (start_of S i + o) ys
unfolding sector_of
put_part S i img run a e o ys fits inside at r =
    put_mid_splice a (e - a) img run (ap length ran ∙ long ∙ omega arith)
    ∙ ap₂ (splice img) at.0 ran
    ∙ splice_part img (start_of S i) S o ys fits inside
  where
    ran : run ≡ splice (part img (start_of S i) S) o ys
    ran = r ∙ ap (λ (l : List ℕ). splice l o ys) (spanned_sector S i img a e at)

    long : length (splice (part img (start_of S i) S) o ys) ≡ S
    long = length_splice (part img (start_of S i) S) o ys (rw (length_part img (start_of S i) S inside) fits) ∙ length_part img (start_of S i) S inside

pub init_part : (S i : ℕ) (img run : List ℕ) (a e : ℕ) (init : SectorInit) → S ≡ 4 * per_sector S → 1 ≤ per_sector S → start_of S i + S ≤ length img
    → (a ≡ start_of S i) × (e ≡ start_of S i + S) → run ≡ init_bytes (length (take (e - a) (drop a img))) init → put_mid a (e - a) img run ≡ splice img (start_of S i) (init_bytes S init)
init_part S i img run a e init whole h inside at ran =
    let long : length (take (e - a) (drop a img)) ≡ S = ap length (spanned_sector S i img a e at) ∙ length_sector S i img inside in
    let is : run ≡ init_bytes S init = ran ∙ ap (λ (n : ℕ). init_bytes n init) long in
    put_mid_splice a (e - a) img run (ap length is ∙ length_init S init whole h ∙ omega arith)
    ∙ ap₂ (splice img) at.0 is
