-- The laws of marks, and of the FAT after its listed sectors are marked. Assumes nothing.
use Prim.Native.Nat.{ℕ, zero, suc, ◌+◌, ◌≤◌, ◌<◌}
use mathlib.Core.Path.{◌≡◌, refl, sym, ◌∙◌, ap}
use mathlib.Core.Bool.{true}
use mathlib.Core.List.{List, [], ◌∷◌}
use mathlib.Core.Logic.{◌↔◌, ⊎_elim, ◌≢◌}
use native.Mathlib.Omega.{arith}
use native.Mathlib.Numerals.{add-one}
use borrow.Author.Tests.{eq-eqb, eqb-true}
use lib.Dec.{eqb}
use lib.ListN.{length, get_or, set, drop, length-set, drop_of_length-le}
use lib.Seq.{drop-cons, get_or-set_same, get_or-set_other, set-get_or}
use Rattle.lists.specs.Lists.{both}
use Rattle.lists.proofs.Cases.{same_or, both_left, both_right, every_at, every_of}
use Rattle.consts.specs.Consts.{difat_sector, fat_sector}
use Rattle.judge.specs.Judge.{all_marked, set_all, marked_fat}

-- every listed sector has the entry v, at each place
pub marked_at : (fat ids : List ℕ) (v : ℕ) → all_marked fat ids v ≡ true → (j : ℕ) → j < length ids → get_or fat (get_or ids j 0) 0 ≡ v
unfolding all_marked
marked_at fat ids v t j h = eqb-true _ v (every_at (length ids) (λ k. eqb (get_or fat (get_or ids k 0) 0) v) t j h)

pub marked_of : (fat ids : List ℕ) (v : ℕ) → ((j : ℕ) → j < length ids → get_or fat (get_or ids j 0) 0 ≡ v) → all_marked fat ids v ≡ true
unfolding all_marked
marked_of fat ids v h = every_of (length ids) (λ k. eqb (get_or fat (get_or ids k 0) 0) v) (λ j l. eq-eqb _ v (h j l))

pub marked_exactly : (fat ids : List ℕ) (v : ℕ) → all_marked fat ids v ≡ true ↔ ((j : ℕ) → j < length ids → get_or fat (get_or ids j 0) 0 ≡ v)
marked_exactly fat ids v = (marked_at fat ids v, marked_of fat ids v)

-- the loop that sets the entries: a turn, and its end
pub set_turn : (before fat ids : List ℕ) (v j at : ℕ) → j < length ids → at ≡ get_or ids j 0 → set_all before ids v ≡ set_all fat (drop j ids) v
    → set_all before ids v ≡ set_all (set fat at v) (drop (j + 1) ids) v
unfolding set_all
set_turn before fat ids v j at h e s = s ∙ rw (add-one j, drop-cons ids j 0 h, e)

pub set_end : (before fat ids : List ℕ) (v j : ℕ) → length ids ≤ j → set_all before ids v ≡ set_all fat (drop j ids) v → fat ≡ set_all before ids v
unfolding set_all
set_end before fat ids v j h s = sym (s ∙ rw (drop_of_length-le ids h))

-- the FAT after its listed sectors are set: its length, a listed entry, another entry
pub length_set_all : (fat ids : List ℕ) (v : ℕ) → length (set_all fat ids v) ≡ length fat
unfolding set_all
length_set_all fat [] v = refl
length_set_all fat (i ∷ is) v = length_set_all (set fat i v) is v ∙ length-set fat i v

set_all_stays : (fat ids : List ℕ) (v i : ℕ) → i < length fat → get_or fat i 0 ≡ v → get_or (set_all fat ids v) i 0 ≡ v
unfolding set_all
set_all_stays fat [] v i h e = e
set_all_stays fat (k ∷ ks) v i h e =
    set_all_stays (set fat k v) ks v i (rw (length-set fat k v) h)
    (⊎_elim
    (λ (s : i ≡ k). rw (← s) (get_or-set_same fat i v 0 h))
    (λ (n : i ≢ k). get_or-set_other fat k i v 0 n ∙ e)
    (same_or i k))

pub set_all_listed : (fat ids : List ℕ) (v j : ℕ) → j < length ids → get_or ids j 0 < length fat → get_or (set_all fat ids v) (get_or ids j 0) 0 ≡ v
unfolding set_all
set_all_listed fat [] v j h l = absurd (omega arith)
set_all_listed fat (k ∷ ks) v zero h l = set_all_stays (set fat k v) ks v k (rw (length-set fat k v) l) (get_or-set_same fat k v 0 l)
set_all_listed fat (k ∷ ks) v (suc j) h l = set_all_listed (set fat k v) ks v j (omega arith) (rw (length-set fat k v) l)

pub set_all_other : (fat ids : List ℕ) (v i : ℕ) → ((j : ℕ) → j < length ids → get_or ids j 0 ≡ i → ⊥) → get_or (set_all fat ids v) i 0 ≡ get_or fat i 0
unfolding set_all
set_all_other fat [] v i n = refl
set_all_other fat (k ∷ ks) v i n =
    set_all_other (set fat k v) ks v i (λ j h. n (suc j) (omega arith))
    ∙ get_or-set_other fat k i v 0 (λ e. n 0 (omega arith) (sym e))

-- a FAT whose listed sectors have their entry already stays as it is
pub set_marked : (fat ids : List ℕ) (v : ℕ) → all_marked fat ids v ≡ true → set_all fat ids v ≡ fat
unfolding set_all
set_marked fat [] v t = refl
set_marked fat (k ∷ ks) v t =
    let e : set fat k v ≡ fat = ap (set fat k) (sym (marked_at fat (k ∷ ks) v t 0 (omega arith))) ∙ set-get_or fat k 0 in
    ap (λ (l : List ℕ). set_all l ks v) e ∙ set_marked fat ks v (marked_of fat ks v (λ j h. marked_at fat (k ∷ ks) v t (suc j) (omega arith)))

-- both lists: one after the other, the length, and a FAT that has its marks
pub marked_fat_two : (fat mid last difats fats : List ℕ) → mid ≡ set_all fat difats difat_sector → last ≡ set_all mid fats fat_sector → last ≡ marked_fat fat difats fats
unfolding marked_fat
marked_fat_two fat mid last difats fats e f = f ∙ ap (λ (l : List ℕ). set_all l fats fat_sector) e

pub length_marked_fat : (fat difats fats : List ℕ) → length (marked_fat fat difats fats) ≡ length fat
unfolding marked_fat
length_marked_fat fat difats fats = length_set_all (set_all fat difats difat_sector) fats fat_sector ∙ length_set_all fat difats difat_sector

pub marked_fat_marked : (fat difats fats : List ℕ) → both (all_marked fat difats difat_sector) (all_marked fat fats fat_sector) ≡ true → marked_fat fat difats fats ≡ fat
unfolding marked_fat
marked_fat_marked fat difats fats t =
    ap (λ (l : List ℕ). set_all l fats fat_sector) (set_marked fat difats difat_sector (both_left _ (all_marked fat fats fat_sector) t))
    ∙ set_marked fat fats fat_sector (both_right (all_marked fat difats difat_sector) _ t)
