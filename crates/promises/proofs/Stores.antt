-- Four bytes of an image after a store: what is read there, and which fields of the header and entries of sectors stand clear of it (MS-CFB 2.1, 2.2, 2.3). Assumes nothing.
use Prim.Native.Nat.{ℕ, ◌+◌, ◌-◌, ◌*◌, ◌^◌, ◌≤◌, ◌<◌}
use mathlib.Core.Path.{◌≡◌, ◌∙◌, sym, ap}
use mathlib.Core.List.{List, [], ◌∷◌, ◌++◌}
use mathlib.Core.Logic.{◌⊎◌, inl, inr, ⊎_elim, ◌≢◌}
use native.Mathlib.Omega.{arith}
use native.Mathlib.Nat.{add-mul, one-mul}
use lib.ListN.{length, get_or, replicate, length-append, length-replicate, get_or-replicate, get_or-append}
use lib.Seq.{get_or-append-add}
use Rattle.lists.specs.Lists.{splice, Below}
use Rattle.lists.proofs.Cases.{below_or, same_or}
use Rattle.lists.proofs.Splice.{below_append, below_replicate}
use Rattle.words.specs.Words.{le, digits}
use Rattle.words.proofs.Laws.{le_ext, le_inside, le_apart, le_put, length_digits}
use Rattle.consts.specs.Consts.{end_of_chain, free_sector}
use Rattle.header.proofs.Written.{listed_entry}
use Rattle.sectors.specs.Sectors.{start_of, per_sector}
use Rattle.sectors.specs.Init.{init_bytes}
use Rattle.sectors.specs.declared.init.SectorInit.TheVariants.{Fat, Difat}
use Rattle.sectors.proofs.New.{length_init}
use Rattle.stores.proofs.Apart.{sector_before}

-- entry x of sector a
abbrev pub slot : ℕ → ℕ → ℕ → ℕ
slot S a x = start_of S a + 4 * x

-- four bytes at p stand apart from w bytes at o
abbrev pub Clear : ℕ → ℕ → ℕ → Type 0
Clear o w p = (p + 4 ≤ o) ⊎ (o + w ≤ p)

-- two images read the same at p,
abbrev pub SameAt : List ℕ → List ℕ → ℕ → Type 0
SameAt img after p = le 4 after p ≡ le 4 img p

-- at every entry of the first k sectors of a list,
abbrev pub SlotsSame : ℕ → List ℕ → ℕ → List ℕ → List ℕ → Type 0
SlotsSame S xs k img after = (q x : ℕ) → q < k → x < per_sector S → SameAt img after (slot S (get_or xs q 0) x)

-- and in the header
abbrev pub FieldsSame : List ℕ → List ℕ → Type 0
FieldsSame img after = (o : ℕ) → o + 4 ≤ 512 → SameAt img after o

-- a run stored leaves what stands clear of it, and so does a number
run_same : (img : List ℕ) (o : ℕ) (xs : List ℕ) (w p : ℕ) → length xs ≡ w → o + w ≤ length img → Clear o w p → SameAt img (splice img o xs) p
run_same img o xs w p e h c = le_apart 4 img o xs p (omega (arith, e, h)) (rw e c)

pub number_same : (img : List ℕ) (o v p : ℕ) → o + 4 ≤ length img → Clear o 4 p → SameAt img (splice img o (digits 4 v)) p
number_same img o v p h c = run_same img o (digits 4 v) 4 p (length_digits 4 v) h c

-- a number stored is read
pub number_put : (img : List ℕ) (o v : ℕ) → o + 4 ≤ length img → v < 2 ^ 32 → le 4 (splice img o (digits 4 v)) o ≡ v
number_put img o v h l = le_put 4 img o v h l

-- images that have the same bytes there read the same
pub bytes_same : (img after : List ℕ) (p : ℕ) → ((x : ℕ) → x < 4 → get_or after (p + x) 0 ≡ get_or img (p + x) 0) → SameAt img after p
bytes_same img after p h = le_ext 4 after img p p h

-- every sector stands behind the header
start_past : (S a : ℕ) → S ≤ start_of S a
start_past S a = omega (arith, add-mul a 1 S, one-mul S)

-- a part of a run is as clear
clear_part : (o w o' w' p : ℕ) → o ≤ o' → o' + w' ≤ o + w → Clear o w p → Clear o' w' p
clear_part o w o' w' p low high c = ⊎_elim (λ (l : p + 4 ≤ o). inl (omega (arith, l, low))) (λ (g : o + w ≤ p). inr (omega (arith, g, high))) c

-- an entry stands clear of every other sector,
slot_other : (S a b y : ℕ) → 4 * y + 4 ≤ S → b ≢ a → Clear (start_of S a) S (slot S b y)
slot_other S a b y h n =
    ⊎_elim
    (λ (l : a < b). inr (omega (arith, sector_before S a b l)))
    (λ (g : b ≤ a). let l : b < a = omega (arith, g, n) in inl (omega (arith, sector_before S b a l, h)))
    (below_or a b)

-- of every other entry,
pub slots_clear : (S a b x y : ℕ) → 4 * x + 4 ≤ S → 4 * y + 4 ≤ S → (b ≡ a → y ≢ x) → Clear (slot S a x) 4 (slot S b y)
slots_clear S a b x y hx hy n =
    ⊎_elim
    (λ (e : b ≡ a).
    let same : start_of S b ≡ start_of S a = ap (start_of S) e in
    let d : y ≢ x = n e in
    ⊎_elim (λ (l : y < x). inl (omega (arith, same, l))) (λ (g : x ≤ y). inr (omega (arith, same, g, d))) (below_or y x))
    (λ (d : b ≢ a). clear_part (start_of S a) S (slot S a x) 4 (slot S b y) (omega arith) (omega (arith, hx)) (slot_other S a b y hy d))
    (same_or b a)

-- and of the header, which stands clear of it
pub slot_field : (S o b y : ℕ) → 512 ≤ S → o + 4 ≤ 512 → Clear o 4 (slot S b y)
slot_field S o b y big h = inr (omega (arith, start_past S b, big, h))

pub field_slot : (S o a x : ℕ) → 512 ≤ S → o + 4 ≤ 512 → Clear (slot S a x) 4 o
field_slot S o a x big h = inl (omega (arith, start_past S a, big, h))

-- a run stored within sector a leaves the header and the other sectors
module _ (S a o w : ℕ) (img xs : List ℕ) (long : length xs ≡ w) (low : start_of S a ≤ o) (high : o + w ≤ start_of S a + S) (inside : start_of S a + S ≤ length img) where
  pub sector_fields : 512 ≤ S → FieldsSame img (splice img o xs)
  sector_fields big p h = run_same img o xs w p long (omega (arith, high, inside)) (inl (omega (arith, start_past S a, big, h, low)))

  pub sector_slot : (b y : ℕ) → 4 * y + 4 ≤ S → b ≢ a → SameAt img (splice img o xs) (slot S b y)
  sector_slot b y h n =
      run_same img o xs w (slot S b y) long (omega (arith, high, inside)) (clear_part (start_of S a) S o w (slot S b y) low high (slot_other S a b y h n))

  pub sector_slots : (ys : List ℕ) (k : ℕ) → S ≡ 4 * per_sector S → ((q : ℕ) → q < k → get_or ys q 0 ≢ a) → SlotsSame S ys k img (splice img o xs)
  sector_slots ys k e n q y hq hy = sector_slot (get_or ys q 0) y (omega (arith, e, hy)) (n q hq)

-- a number stored in the header leaves the sectors
pub field_slots : (S o v k : ℕ) (img xs : List ℕ) → 512 ≤ S → o + 4 ≤ 512 → o + 4 ≤ length img → SlotsSame S xs k img (splice img o (digits 4 v))
field_slots S o v k img xs big h l q x hq hx = number_same img o v (slot S (get_or xs q 0) x) l (slot_field S o (get_or xs q 0) x big h)

-- document 01: a new FAT sector is all FREE
pub fresh_fat : (S a x : ℕ) (img : List ℕ) → S ≡ 4 * per_sector S → 1 ≤ per_sector S → start_of S a + S ≤ length img → x < per_sector S
    → le 4 (splice img (start_of S a) (init_bytes S Fat)) (slot S a x) ≡ free_sector
unfolding init_bytes
fresh_fat S a x img e some inside h =
    let long : length (init_bytes S Fat) ≡ S = length_init S Fat e some in
    let count : length {A = ℕ} (replicate (per_sector S) free_sector) ≡ per_sector S = length-replicate {A = ℕ} (per_sector S) free_sector in
    le_inside 4 img (start_of S a) (init_bytes S Fat) (4 * x) (omega (arith, long, inside)) (omega (arith, long, e, h))
    ∙ listed_entry (replicate (per_sector S) free_sector) x (below_replicate (2 ^ 32) (per_sector S) free_sector (omega arith)) (omega (arith, count, h))
    ∙ get_or-replicate (per_sector S) x free_sector 0 h

-- document 01: a new DIFAT sector is FREE, with END as its last entry
pub record FreshDifat (S a : ℕ) (img : List ℕ) : Type 0 where
  pub frees : (x : ℕ) → x < per_sector S - 1 → le 4 img (slot S a x) ≡ free_sector
  pub ends : le 4 img (slot S a (per_sector S - 1)) ≡ end_of_chain

-- as long as its entries read the same
pub fresh_same : (S a : ℕ) (img after : List ℕ) → 1 ≤ per_sector S → ((x : ℕ) → x < per_sector S → SameAt img after (slot S a x)) → FreshDifat S a img → FreshDifat S a after
fresh_same S a img after some same f =
    record { frees = λ x h. same x (omega (arith, h)) ∙ f.frees x h; ends = same (per_sector S - 1) (omega (arith, some)) ∙ f.ends }

-- as it is stored
pub fresh_difat : (S a : ℕ) (img : List ℕ) → S ≡ 4 * per_sector S → 1 ≤ per_sector S → start_of S a + S ≤ length img
    → FreshDifat S a (splice img (start_of S a) (init_bytes S Difat))
unfolding init_bytes
fresh_difat S a img e some inside =
    record {
      frees = λ x h. at x (omega (arith, h)) ∙ get_or-append frees (end_of_chain ∷ []) 0 x (omega (arith, count, h)) ∙ get_or-replicate (per_sector S - 1) x free_sector 0 h;
      ends =
          at (per_sector S - 1) (omega (arith, some))
          ∙ ap (λ (q : ℕ). get_or (frees ++ (end_of_chain ∷ [])) q 0) (sym past)
          ∙ get_or-append-add frees (end_of_chain ∷ []) 0 0;
    }
  where
    frees : List ℕ
    frees = replicate (per_sector S - 1) free_sector

    count : length frees ≡ per_sector S - 1
    count = length-replicate {A = ℕ} (per_sector S - 1) free_sector

    past : length frees + 0 ≡ per_sector S - 1
    past = omega (arith, count)

    low : Below (2 ^ 32) (frees ++ (end_of_chain ∷ []))
    low =
        below_append (2 ^ 32) frees (end_of_chain ∷ []) (below_replicate (2 ^ 32) (per_sector S - 1) free_sector (omega arith))
        (below_replicate (2 ^ 32) 1 end_of_chain (omega arith))

    at : (x : ℕ) → x < per_sector S → le 4 (splice img (start_of S a) (init_bytes S Difat)) (slot S a x) ≡ get_or (frees ++ (end_of_chain ∷ [])) x 0
    at x h =
        let long : length (init_bytes S Difat) ≡ S = length_init S Difat e some in
        le_inside 4 img (start_of S a) (init_bytes S Difat) (4 * x) (omega (arith, long, inside)) (omega (arith, long, e, h))
        ∙ listed_entry (frees ++ (end_of_chain ∷ [])) x low (omega (arith, length-append frees (end_of_chain ∷ []), count, some, h))
