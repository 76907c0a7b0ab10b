-- The laws of a FAT compared entry by entry: with the image's own, and with what forgiving leaves (document 01, 14 and 15). Assumes nothing.
use Prim.Native.Nat.{ℕ, ◌≤◌, ◌<◌, min}
use mathlib.Core.Path.{◌≡◌, refl, sym, ◌∙◌, ap}
use mathlib.Core.Bool.{Bool, true, false, ◌&&◌, ◌||◌}
use mathlib.Core.List.{List}
use mathlib.Core.Logic.{⊎_elim}
use native.Mathlib.Omega.{arith}
use borrow.Author.Tests.{eq-eqb, ne_eqb, lt-ltb, le-ltb}
use lib.Dec.{eqb, ltb}
use lib.ListN.{length, get_or}
use Rattle.lists.specs.Lists.{both, either, every, tab, same_list}
use Rattle.lists.proofs.Cases.{below_or, both_false_left, both_of_true, either_right, every_ext, every_both}
use Rattle.consts.specs.Consts.{max_regular, invalid_sector, end_of_chain, difat_sector, fat_sector}
use Rattle.sectors.specs.Sectors.{entry_of}
use Rattle.fat.specs.Lists.{fat_of}
use Rattle.judge.specs.Judge.{all_marked, forgiven, forgiven_fat, marked_fat}
use Rattle.judge.proofs.Judging.{forgiven_low, forgiven_kind, forgiven_high}
use Rattle.points.proofs.Testing.{same_tab}
use Rattle.compare.specs.Compare.{entry_kept, entries_kept, strict_same, permissive_same}

-- the limit forgives what n forgives
pub forgiven_limit : (n limit e : ℕ) → limit ≡ min n invalid_sector → forgiven limit e ≡ forgiven n e
forgiven_limit n limit e l =
    ⊎_elim
    (λ (k : max_regular < e). forgiven_kind limit e k ∙ sym (forgiven_kind n e k))
    (λ (r : e ≤ max_regular).
    ⊎_elim
    (λ (low : e < n). forgiven_low limit e (omega arith) ∙ sym (forgiven_low n e low))
    (λ (high : n ≤ e). forgiven_high limit e r (omega arith) ∙ sym (forgiven_high n e r high))
    (below_or e n))
    (below_or max_regular e)

-- a FAT is another one, forgiven, entry by entry
pub forgiven_tells : (raw fat : List ℕ) (limit : ℕ) → limit ≡ min (length fat) invalid_sector → every (length fat) (λ i. eqb (get_or fat i 0) (forgiven limit (get_or raw i 0))) ≡ same_list fat (forgiven_fat (length fat) raw)
unfolding forgiven_fat
forgiven_tells raw fat limit l =
    every_ext (length fat) (λ i. eqb (get_or fat i 0) (forgiven limit (get_or raw i 0))) (λ i. eqb (get_or fat i 0) (forgiven (length fat) (get_or raw i 0)))
    (λ i h. ap (eqb (get_or fat i 0)) (forgiven_limit (length fat) limit (get_or raw i 0) l))
    ∙ same_tab fat (λ i. forgiven (length fat) (get_or raw i 0)) (length fat) refl

-- the tests of an entry as the code joins them
pub kept_joined : (limit own e : ℕ) → (eqb e own && (ltb e limit || ltb max_regular e)) ≡ entry_kept limit own e
unfolding entry_kept
kept_joined limit own e = joined (eqb e own) (ltb e limit) (ltb max_regular e)
  where
    joined : (a b c : Bool) → (a && (b || c)) ≡ both a (either b c)
    joined true true c = refl
    joined true false c = refl
    joined false b c = refl

-- an entry below the limit, or not regular, is one that forgiving leaves as it is
kept_forgiven : (n limit own e : ℕ) → limit ≡ min n invalid_sector → entry_kept limit own e ≡ both (eqb e own) (eqb e (forgiven n e))
unfolding entry_kept
kept_forgiven n limit own e l =
    ap (both (eqb e own))
    (⊎_elim
    (λ (k : max_regular < e). either_right (ltb e limit) _ (lt-ltb max_regular e k) ∙ sym (eq-eqb e (forgiven n e) (sym (forgiven_kind n e k))))
    (λ (r : e ≤ max_regular).
    ⊎_elim
    (λ (low : e < n). ap (λ (b : Bool). either b (ltb max_regular e)) (lt-ltb e limit (omega arith)) ∙ sym (eq-eqb e (forgiven n e) (sym (forgiven_low n e low))))
    (λ (high : n ≤ e).
    ap (λ (b : Bool). either b (ltb max_regular e)) (le-ltb e limit (omega arith)) ∙ le-ltb max_regular e r
    ∙ sym (ne_eqb e (forgiven n e) (λ (s : e ≡ forgiven n e). let z : e ≡ end_of_chain = s ∙ forgiven_high n e r high in omega arith)))
    (below_or e n))
    (below_or max_regular e))

-- a FAT whose entries are all kept is the image's own, and forgiving leaves it as it is
kept_tells : (fat : List ℕ) (own : ℕ → ℕ) (limit : ℕ) → limit ≡ min (length fat) invalid_sector
    → entries_kept limit own fat ≡ both (same_list fat (tab own (length fat))) (same_list fat (forgiven_fat (length fat) fat))
kept_tells fat own limit l =
    every_ext (length fat) (λ i. entry_kept limit (own i) (get_or fat i 0)) (λ i. both (eqb (get_or fat i 0) (own i)) (eqb (get_or fat i 0) (forgiven (length fat) (get_or fat i 0))))
    (λ i h. kept_forgiven (length fat) limit (own i) (get_or fat i 0) l)
    ∙ every_both (length fat) (λ i. eqb (get_or fat i 0) (own i)) (λ i. eqb (get_or fat i 0) (forgiven (length fat) (get_or fat i 0)))
    ∙ ap (λ (b : Bool). both b (every (length fat) (λ i. eqb (get_or fat i 0) (forgiven (length fat) (get_or fat i 0))))) (same_tab fat own (length fat) refl)
    ∙ ap (both (same_list fat (tab own (length fat)))) (plain ∙ forgiven_tells fat fat limit l)
  where
    plain : every (length fat) (λ i. eqb (get_or fat i 0) (forgiven (length fat) (get_or fat i 0))) ≡ every (length fat) (λ i. eqb (get_or fat i 0) (forgiven limit (get_or fat i 0)))
    plain = every_ext (length fat) _ _ (λ i h. ap (eqb (get_or fat i 0)) (sym (forgiven_limit (length fat) limit (get_or fat i 0) l)))

-- the two tests of strict, in turn
module _ (S : ℕ) (img difats fats fat : List ℕ) (limit : ℕ) (l : limit ≡ min (length fat) invalid_sector) (q : Bool) (h : q ≡ entries_kept limit (entry_of S img fats) fat) where
  abbrev raw : List ℕ
  raw = fat_of S img fats (length fat)

  abbrev listed : Bool
  listed = both (all_marked fat difats difat_sector) (all_marked fat fats fat_sector)

  kept_is : both (same_list fat raw) (same_list fat (forgiven_fat (length fat) fat)) ≡ q
  unfolding fat_of
  kept_is = sym (h ∙ kept_tells fat (entry_of S img fats) limit l)

  pub strict_differs : q ≡ false → false ≡ strict_same raw difats fats fat
  unfolding strict_same
  strict_differs f = sym (both_false_left _ listed (kept_is ∙ f))

  pub strict_told : (r : Bool) → q ≡ true → r ≡ listed → r ≡ strict_same raw difats fats fat
  unfolding strict_same
  strict_told r t e = e ∙ sym (both_of_true _ listed (kept_is ∙ t))

-- permissive: what is loaded into a room and marked there, forgiven
pub permissive_told : (raw difats fats fat one two : List ℕ) (r : Bool) → one ≡ raw → two ≡ marked_fat one difats fats → r ≡ same_list fat (forgiven_fat (length fat) two)
    → r ≡ permissive_same raw difats fats fat
permissive_told raw difats fats fat one two r e f g = g ∙ ap (λ (m : List ℕ). same_list fat (forgiven_fat (length fat) m)) (f ∙ ap (λ (m : List ℕ). marked_fat m difats fats) e)
