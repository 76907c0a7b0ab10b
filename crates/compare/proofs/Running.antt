-- The laws of a table that is tested sector by sector, over the sector's length S. Assumes nothing.
use Prim.Native.Nat.{ℕ, zero, suc, ◌+◌, ◌-◌, ◌*◌, ◌/◌, ◌≤◌, ◌<◌, min}
use mathlib.Core.Path.{◌≡◌, refl, sym, ◌∙◌, ap}
use mathlib.Core.Bool.{Bool, true, false}
use mathlib.Core.List.{List, []}
use mathlib.Core.Logic.{⊎_elim}
use native.Mathlib.Omega.{arith}
use native.Mathlib.Nat.{suc-mul, zero-add, zero-mul}
use lib.Seq.{get_or-take, get_or-drop}
use Rattle.std.specs.Int.{w32, from_le_bytes}
use Rattle.std.specs.List.{list_all, zip}
use Rattle.std.specs.Simd.{first_chunks}
use lib.ListN.{length, get_or, take, drop, length-take, length-drop}
use Rattle.lists.specs.Lists.{both, every}
use Rattle.lists.proofs.Cases.{below_or, every_ext, every_append}
use Rattle.words.specs.Words.{le}
use Rattle.words.proofs.Laws.{le_ext}
use Rattle.sectors.specs.Sectors.{per_sector, start_of, sector_of, entry_in, entry_of}
use Rattle.sectors.proofs.Laws.{sector_within, entry_in_sector}
use Rattle.fat.specs.Loaded.{Covers}
use Rattle.fat.proofs.Differing.{below_given}
use Rattle.points.proofs.Folding.{every_zip, length_zip, get_or_zip, chunk_at, length_chunks}

-- one number more, at the end; none
every_last : (n : ℕ) (f : ℕ → Bool) → every (suc n) f ≡ both (every n f) (f n)
unfolding every
every_last n f = turned (f n) (every n f)
  where
    turned : (a b : Bool) → both a b ≡ both b a
    turned true true = refl
    turned true false = refl
    turned false true = refl
    turned false false = refl

every_none : (f : ℕ → Bool) → every 0 f ≡ true
unfolding every
every_none f = refl

both_end : (a : Bool) → both a true ≡ a
both_end true = refl
both_end false = refl

-- the first numbers of n, tested in k runs of `each`, of which the last may be short
runs_tested : (f : ℕ → Bool) (each n k : ℕ) → every k (λ p. every (min each (n - p * each)) (λ j. f (p * each + j))) ≡ every (min (k * each) n) f
runs_tested f each n zero = let z : min (0 * each) n ≡ 0 = omega (arith, zero-mul each) in rw z (every_none _ ∙ sym (every_none f))
runs_tested f each n (suc k) =
    every_last k (λ p. every (min each (n - p * each)) (λ j. f (p * each + j)))
    ∙ ap (λ (t : Bool). both t (every (min each (n - k * each)) (λ j. f (k * each + j)))) (runs_tested f each n k)
    ∙ ⊎_elim
    (λ (l : n < k * each).
    let a : min (k * each) n ≡ n = omega arith in
    let b : min each (n - k * each) ≡ 0 = omega arith in
    let c : min (suc k * each) n ≡ n = omega (arith, suc-mul k each) in
    rw (a, b, c) (ap (both (every n f)) (every_none _) ∙ both_end (every n f)))
    (λ (g : k * each ≤ n).
    let a : min (k * each) n ≡ k * each = omega arith in
    let c : min (suc k * each) n ≡ k * each + min each (n - k * each) = omega (arith, suc-mul k each) in
    rw (a, c) (sym (every_append (k * each) (min each (n - k * each)) f)))
    (below_or n (k * each))

module _ (S n len : ℕ) (ids tbl : List ℕ) (c : Covers S n len ids (length tbl)) where
  abbrev each : ℕ
  each = per_sector S

  abbrev parts : List (List ℕ)
  parts = first_chunks each (length ids) tbl

  part_length : (p : ℕ) → length (take each (drop (p * each) tbl)) ≡ min each (length tbl - p * each)
  part_length p = simp (length-take, length-drop)

  -- a sector comes with the part of the table at its place
  pub sector_asked : (p id : ℕ) (part : List ℕ) → p < length (zip ids parts) → (id, part) ≡ get_or (zip ids parts) p (id, part) → (start_of S id + S ≤ len) × (1 ≤ S) × (4 * length part ≤ S)
  sector_asked p id part h e =
      let l : p < length ids = omega (arith, length_zip ids parts (omega (arith, length_chunks each (length ids) tbl))) in
      let at : ◌≡◌ {A = ℕ × List ℕ} (id, part) (get_or ids p 0, get_or parts p []) = e ∙ get_or_zip ids parts p 0 [] (id, part) (omega (arith, length_chunks each (length ids) tbl)) l in
      let here : id ≡ get_or ids p 0 = ap (λ (q : ℕ × List ℕ). q.0) at in
      let short : length part ≡ min each (length tbl - p * each) = ap (λ (q : ℕ × List ℕ). length q.1) at ∙ ap length (chunk_at each (length ids) p tbl l) ∙ part_length p in
      (sector_within S n len id c.holds (below_given n n ids p id c.below l here refl), omega (arith, c.holds.two), omega (arith, c.holds.entries, c.holds.two))

  -- the parts beside the sectors are the table beside its entries
  pub sectors_tested : (img : List ℕ) (test : ℕ → ℕ → Bool) → list_all (λ (id, part). every (length part) (λ j. test (entry_in (sector_of S img id) j) (get_or part j 0))) (zip ids parts)
      ≡ every (length tbl) (λ i. test (entry_of S img ids i) (get_or tbl i 0))
  sectors_tested img test =
      every_zip (λ (id, part). every (length part) (λ j. test (entry_in (sector_of S img id) j) (get_or part j 0))) 0 [] ids parts (omega (arith, length_chunks each (length ids) tbl))
      ∙ every_ext (length ids) _ (λ p. every (min each (length tbl - p * each)) (λ j. test (entry_of S img ids (p * each + j)) (get_or tbl (p * each + j) 0))) run
      ∙ runs_tested (λ i. test (entry_of S img ids i) (get_or tbl i 0)) each (length tbl) (length ids)
      ∙ ap (λ (k : ℕ). every k (λ i. test (entry_of S img ids i) (get_or tbl i 0))) (let m : min (length ids * each) (length tbl) ≡ length tbl = omega (arith, c.enough) in m)
    where
      run : (p : ℕ) → p < length ids
          → every (length (get_or parts p [])) (λ j. test (entry_in (sector_of S img (get_or ids p 0)) j) (get_or (get_or parts p []) j 0))
          ≡ every (min each (length tbl - p * each)) (λ j. test (entry_of S img ids (p * each + j)) (get_or tbl (p * each + j) 0))
      run p h =
          ap (λ (part : List ℕ). every (length part) (λ j. test (entry_in (sector_of S img (get_or ids p 0)) j) (get_or part j 0))) (chunk_at each (length ids) p tbl h)
          ∙ ap (λ (k : ℕ). every k (λ j. test (entry_in (sector_of S img (get_or ids p 0)) j) (get_or (take each (drop (p * each) tbl)) j 0))) (part_length p)
          ∙ every_ext (min each (length tbl - p * each)) _ _ (λ j l.
          ap (λ (x : ℕ). test x (get_or (take each (drop (p * each) tbl)) j 0)) (sym (entry_in_sector S img ids p j (omega arith)))
          ∙ ap (test (entry_of S img ids (p * each + j))) (get_or-take each (drop (p * each) tbl) j 0 (omega arith) ∙ get_or-drop (p * each) tbl j 0))

-- the four bytes at place j of a sector are its entry j
entry_bytes : (sector : List ℕ) (j : ℕ) → j < length sector / 4 → from_le_bytes w32 (get_or (first_chunks 4 (length sector / 4) sector) j []) ≡ entry_in sector j
unfolding entry_in le
entry_bytes sector j h =
    ap (from_le_bytes w32) (chunk_at 4 (length sector / 4) j sector h) ∙ four (take 4 (drop (j * 4) sector))
    ∙ le_ext 4 (take 4 (drop (j * 4) sector)) sector 0 (4 * j)
    (λ i l.
    let at : j * 4 + i ≡ 4 * j + i = omega arith in
    rw zero-add (get_or-take 4 (drop (j * 4) sector) i 0 l ∙ get_or-drop (j * 4) sector i 0 ∙ ap (λ (k : ℕ). get_or sector k 0) at))
  where
    four : (xs : List ℕ) → from_le_bytes w32 xs ≡ le 4 xs 0
    four xs = omega arith

-- a table beside the fours of a sector's bytes is the table beside its entries
pub sector_tested : (test : ℕ → ℕ → Bool) (sector tbl : List ℕ) (fours : List (List ℕ)) → 4 * length tbl ≤ length sector → fours ≡ first_chunks 4 (length sector / 4) sector
    → list_all (λ (e, own). test (from_le_bytes w32 own) e) (zip tbl fours) ≡ every (length tbl) (λ j. test (entry_in sector j) (get_or tbl j 0))
sector_tested test sector tbl fours h e =
    rw e
    (every_zip (λ (e, own). test (from_le_bytes w32 own) e) 0 [] tbl (first_chunks 4 (length sector / 4) sector) (omega (arith, length_chunks 4 (length sector / 4) sector))
    ∙ every_ext (length tbl) _ _ (λ j l. ap (λ (x : ℕ). test x (get_or tbl j 0)) (entry_bytes sector j (omega arith))))
