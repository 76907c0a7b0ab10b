-- The laws of a FAT's marks, of its judging and of its FREE sectors. Assumes nothing.
use Prim.Native.Nat.{ℕ, zero, suc, ◌+◌, ◌-◌, ◌≤◌, ◌<◌}
use mathlib.Core.Path.{◌≡◌, refl, sym, ◌∙◌, ap}
use mathlib.Core.Bool.{Bool, true, false, not, ◌||◌}
use mathlib.Core.List.{List, [], ◌∷◌, ◌++◌, append-nil}
use mathlib.Core.Logic.{◌⊎◌, inl, inr, ⊎_elim, ◌≢◌, ◌↔◌}
use native.Mathlib.Omega.{arith}
use native.Mathlib.Numerals.{add-one}
use native.Mathlib.Nat.{sub-zero, add-zero, zero-add}
use borrow.Author.Tests.{le-leb, lt-leb, lt-ltb, le-ltb, eq-eqb, ne_eqb, eqb-true}
use lib.Dec.{eqb, leb, ltb}
use lib.ListN.{length, get_or, set, drop, replicate, length-append, length-set, get_or-replicate, length-replicate}
use lib.Seq.{get_or-set_same, get_or-set_other, set-get_or, drop-cons, set_at, append_snoc}
use Rattle.lists.specs.Lists.{choose, both, either, every}
use Rattle.lists.proofs.Cases.{below_or, same_or, not_both, both_true, both_false_left, both_false_right, either_cases, either_right, every_ext}
use Rattle.lists.proofs.Tab.{length_tab, get_or_tab, is_tab}
use Rattle.consts.specs.Consts.{max_regular, invalid_sector, end_of_chain, free_sector}
use Rattle.judge.specs.Judge.{regular, forgiven, pointed, wrong_at, first_wrong, forgiven_fat, marks_of, none_dangles, frees_from, frees_of}
use Rattle.judge.specs.Judged.{wrong_by, marked_by, JudgedOne, Judged, Listed}

-- who points at a sector: one entry more
pub pointed_more : (fat : List ℕ) (m t : ℕ) → pointed fat (suc m) t ≡ either (eqb (get_or fat m 0) t) (pointed fat m t)
unfolding pointed every
pointed_more fat m t = at (eqb (get_or fat m 0) t) (every m (λ j. not (eqb (get_or fat j 0) t)))
  where
    at : (a b : Bool) → not (both (not a) b) ≡ either a (not b)
    at true b = refl
    at false b = refl

pub pointed_by : (fat : List ℕ) (m t j : ℕ) → j < m → get_or fat j 0 ≡ t → pointed fat m t ≡ true
pointed_by fat zero t j h e = absurd (omega arith)
pointed_by fat (suc m) t j h e =
    let rest : j < m → pointed fat m t ≡ true = λ l. pointed_by fat m t j l e in
    pointed_more fat m t ∙ ⊎_elim
    (λ (l : j < m). either_right (eqb (get_or fat m 0) t) (pointed fat m t) (rest l))
    (λ (g : m ≤ j). let k : m ≡ j = omega arith in rw (eq-eqb (get_or fat m 0) t (ap (λ (x : ℕ). get_or fat x 0) k ∙ e)))
    (below_or j m)

pub pointer_of : (fat : List ℕ) (m t : ℕ) → pointed fat m t ≡ true → (j : ℕ) × (j < m) × (get_or fat j 0 ≡ t)
unfolding pointed every
pointer_of fat zero t p = absurd (not_both p refl)
pointer_of fat (suc m) t p =
    let rest : pointed fat m t ≡ true → (j : ℕ) × (j < m) × (get_or fat j 0 ≡ t) = pointer_of fat m t in
    ⊎_elim
    (λ (e : eqb (get_or fat m 0) t ≡ true). (m, omega arith, eqb-true (get_or fat m 0) t e))
    (λ (q : pointed fat m t ≡ true). let r = rest q in (r.0, omega arith, r.2))
    (either_cases (eqb (get_or fat m 0) t) (pointed fat m t) (sym (pointed_more fat m t) ∙ p))

-- a mark, by a test
abbrev pub mark_of : Bool → ℕ
mark_of p = choose p 1 0

mark_tests : (p : Bool) → eqb (mark_of p) 1 ≡ p
mark_tests true = refl
mark_tests false = refl

mark_one : (p : Bool) → mark_of p ≡ 1 → p ≡ true
mark_one p h = sym (mark_tests p) ∙ eq-eqb (mark_of p) 1 h

-- the marks, sector by sector
pub mark_at : (n : ℕ) (fat marks : List ℕ) (t : ℕ) → marks ≡ marks_of n fat → t < n → get_or marks t 0 ≡ mark_of (pointed fat n t)
unfolding marks_of
mark_at n fat marks t e h = rw e (get_or_tab (λ i. mark_of (pointed fat n i)) n t 0 h)

pub length_marks : (n : ℕ) (fat marks : List ℕ) → marks ≡ marks_of n fat → length marks ≡ n
unfolding marks_of
length_marks n fat marks e = ap length e ∙ length_tab (λ i. mark_of (pointed fat n i)) n

-- document 01: a mark is 1 exactly where some entry points at the sector
pub marks_exactly : (n : ℕ) (fat : List ℕ) (t : ℕ) → t < n → (get_or (marks_of n fat) t 0 ≡ 1) ↔ ((j : ℕ) × (j < n) × (get_or fat j 0 ≡ t))
marks_exactly n fat t h = (
  λ e. pointer_of fat n t (mark_one (pointed fat n t) (sym (mark_at n fat (marks_of n fat) t refl h) ∙ e)),
  λ w. mark_at n fat (marks_of n fat) t refl h ∙ ap mark_of (pointed_by fat n t w.0 w.1 w.2),
)

-- what is forgiven: a regular entry at or above n, and nothing else
pub forgiven_low : (n e : ℕ) → e < n → forgiven n e ≡ e
unfolding forgiven
forgiven_low n e h = ap (λ (b : Bool). choose b end_of_chain e) (both_false_right (regular e) (leb n e) (lt-leb n e h))

pub forgiven_kind : (n e : ℕ) → max_regular < e → forgiven n e ≡ e
unfolding forgiven
forgiven_kind n e h = ap (λ (b : Bool). choose b end_of_chain e) (both_false_left (regular e) (leb n e) (lt-leb e max_regular h))

pub forgiven_high : (n e : ℕ) → e ≤ max_regular → n ≤ e → forgiven n e ≡ end_of_chain
unfolding forgiven
forgiven_high n e r h = ap (λ (b : Bool). choose b end_of_chain e) (both_true (le-leb e max_regular r) (le-leb n e h))

-- forgiving changes nothing of who points at a sector
forgiven_points : (n e t : ℕ) → n ≤ max_regular → t < n → eqb (forgiven n e) t ≡ eqb e t
forgiven_points n e t small h =
    ⊎_elim
    (λ (l : e < n). rw (forgiven_low n e l))
    (λ (g : n ≤ e).
    ⊎_elim
    (λ (k : max_regular < e). rw (forgiven_kind n e k))
    (λ (r : e ≤ max_regular). rw (forgiven_high n e r g) (ne_eqb end_of_chain t (omega arith) ∙ sym (ne_eqb e t (omega arith))))
    (below_or max_regular e))
    (below_or e n)

pub forgiven_pointed : (n : ℕ) (fat : List ℕ) (t : ℕ) → n ≤ max_regular → t < n → pointed (forgiven_fat n fat) n t ≡ pointed fat n t
unfolding pointed forgiven_fat
forgiven_pointed n fat t small h =
    ap not
    (every_ext n (λ j. not (eqb (get_or (forgiven_fat n fat) j 0) t)) (λ j. not (eqb (get_or fat j 0) t))
    (λ j l. ap not (ap (λ (x : ℕ). eqb x t) (get_or_tab (λ i. forgiven n (get_or fat i 0)) n j 0 l) ∙ forgiven_points n (get_or fat j 0) t small h)))

-- the marks of the entries below i serve for rule 16, and grow by one
pub record Marked (n : ℕ) (fat : List ℕ) (i : ℕ) (marks : List ℕ) : Type 0 where
  pub long : length marks ≡ n
  pub each : (t : ℕ) → t < n → get_or marks t 0 ≡ mark_of (pointed fat i t)

marked_none : (n : ℕ) (fat marks : List ℕ) → marks ≡ replicate n 0 → Marked n fat 0 marks
unfolding pointed every
marked_none n fat marks e =
    record { long = ap length e ∙ length-replicate {A = ℕ} n 0; each = λ t h. ap (λ (l : List ℕ). get_or l t 0) e ∙ get_or-replicate n t 0 0 h }

wrong_by_marks : (strict : Bool) (n : ℕ) (fat : List ℕ) (i : ℕ) (marks : List ℕ) → Marked n fat i marks
    → wrong_by strict n marks (get_or fat i 0) ≡ wrong_at strict n fat i
unfolding wrong_by wrong_at
wrong_by_marks strict n fat i marks m =
    let e = get_or fat i 0 in
    ⊎_elim
    (λ (l : e < n).
    ap (λ (b : Bool). choose (regular e) (choose (leb n e) (choose strict 15 0) (choose b 16 0)) (choose (eqb e invalid_sector) 17 0))
    (ap (λ (x : ℕ). eqb x 1) (m.each e l) ∙ mark_tests (pointed fat i e)))
    (λ (g : n ≤ e). rw (le-leb n e g))
    (below_or e n)

marked_set : (n : ℕ) (marks : List ℕ) (e : ℕ) → e ≤ max_regular → e < n → marked_by n marks e ≡ set marks e 1
unfolding marked_by
marked_set n marks e r h = ap (λ (b : Bool). choose b (set marks e 1) marks) (both_true (le-leb e max_regular r) (lt-ltb e n h))

marked_kept : (n : ℕ) (marks : List ℕ) (e : ℕ) → n ≤ e → marked_by n marks e ≡ marks
unfolding marked_by
marked_kept n marks e h = ap (λ (b : Bool). choose b (set marks e 1) marks) (both_false_right (regular e) (ltb e n) (le-ltb e n h))

marked_special : (n : ℕ) (marks : List ℕ) (e : ℕ) → max_regular < e → marked_by n marks e ≡ marks
unfolding marked_by
marked_special n marks e k = ap (λ (b : Bool). choose b (set marks e 1) marks) (both_false_left (regular e) (ltb e n) (lt-leb e max_regular k))

marked_more : (n : ℕ) (fat : List ℕ) (i : ℕ) (marks : List ℕ) → n ≤ max_regular → Marked n fat i marks
    → Marked n fat (suc i) (marked_by n marks (get_or fat i 0))
marked_more n fat i marks small m =
    ⊎_elim
    (λ (l : e < n). rw (marked_set n marks e (omega arith) l) (record { long = length-set marks e 1 ∙ m.long; each = points l }))
    (λ (g : n ≤ e). rw (marked_kept n marks e g) (record { long = m.long; each = λ t h. m.each t h ∙ others t (omega arith) }))
    (below_or e n)
  where
    e : ℕ
    e = get_or fat i 0

    others : (t : ℕ) → (e ≡ t → ⊥) → mark_of (pointed fat i t) ≡ mark_of (pointed fat (suc i) t)
    others t d = sym (ap mark_of (pointed_more fat i t ∙ ap (λ (b : Bool). either b (pointed fat i t)) (ne_eqb e t d)))

    points : e < n → (t : ℕ) → t < n → get_or (set marks e 1) t 0 ≡ mark_of (pointed fat (suc i) t)
    points l t h =
        ⊎_elim
        (λ (s : e ≡ t).
        rw (← s) (get_or-set_same marks e 1 0 (omega (arith, m.long)) ∙ sym (ap mark_of (pointed_by fat (suc i) e i (omega arith) refl))))
        (λ (d : e ≢ t). get_or-set_other marks e t 1 0 (λ s. d (sym s)) ∙ m.each t h ∙ others t d)
        (same_or e t)

marked_all : (n : ℕ) (fat marks : List ℕ) → n ≤ max_regular → Marked n fat n marks → marks ≡ marks_of n (forgiven_fat n fat)
unfolding marks_of
marked_all n fat marks small m =
    is_tab marks (λ t. mark_of (pointed (forgiven_fat n fat) n t)) n m.long
    (λ t h. m.each t h ∙ ap mark_of (sym (forgiven_pointed n fat t small h)))

-- a table whose entries below i are forgiven
pub record Forgiving (n : ℕ) (fat₀ : List ℕ) (i : ℕ) (fat : List ℕ) : Type 0 where
  pub long : length fat ≡ n
  pub below : (j : ℕ) → j < i → get_or fat j 0 ≡ forgiven n (get_or fat₀ j 0)
  pub above : (j : ℕ) → i ≤ j → get_or fat j 0 ≡ get_or fat₀ j 0

forgiving_none : (fat : List ℕ) → Forgiving (length fat) fat 0 fat
forgiving_none fat = record { long = refl; below = λ j h. absurd (omega arith); above = λ j h. refl }

forgiving_more : (n : ℕ) (fat₀ : List ℕ) (i : ℕ) (fat : List ℕ) → i < n → Forgiving n fat₀ i fat
    → Forgiving n fat₀ (suc i) (set fat i (forgiven n (get_or fat i 0)))
forgiving_more n fat₀ i fat h f = record { long = length-set fat i v ∙ f.long; below = λ j l. before j l (same_or j i); above = after }
  where
    v : ℕ
    v = forgiven n (get_or fat i 0)

    before : (j : ℕ) → j < suc i → (j ≡ i) ⊎ (j ≢ i) → get_or (set fat i v) j 0 ≡ forgiven n (get_or fat₀ j 0)
    before j l (inl e) = rw e (get_or-set_same fat i v 0 (omega (arith, f.long)) ∙ ap (forgiven n) (f.above i (omega arith)))
    before j l (inr d) = get_or-set_other fat i j v 0 d ∙ f.below j (omega arith)

    after : (j : ℕ) → suc i ≤ j → get_or (set fat i v) j 0 ≡ get_or fat₀ j 0
    after j l = get_or-set_other fat i j v 0 (omega arith) ∙ f.above j (omega arith)

forgiving_all : (n : ℕ) (fat₀ fat : List ℕ) → Forgiving n fat₀ n fat → fat ≡ forgiven_fat n fat₀
unfolding forgiven_fat
forgiving_all n fat₀ fat f = is_tab fat (λ i. forgiven n (get_or fat₀ i 0)) n f.long f.below

-- the judging, sector by sector: one that passes, one that decides
first_wrong_more : (strict : Bool) (n : ℕ) (fat : List ℕ) (i : ℕ) → i < n → wrong_at strict n fat i ≡ 0
    → first_wrong strict n fat i (n - i) ≡ first_wrong strict n fat (i + 1) (n - (i + 1))
unfolding first_wrong
first_wrong_more strict n fat i h e =
    let c : n - i ≡ suc (n - (i + 1)) = omega arith in
    rw (c, add-one i, eq-eqb (wrong_at strict n fat i) 0 e)

first_wrong_here : (strict : Bool) (n : ℕ) (fat : List ℕ) (i : ℕ) → i < n → (wrong_at strict n fat i ≡ 0 → ⊥)
    → first_wrong strict n fat i (n - i) ≡ wrong_at strict n fat i
unfolding first_wrong
first_wrong_here strict n fat i h d =
    let c : n - i ≡ suc (n - (i + 1)) = omega arith in
    rw (c, ne_eqb (wrong_at strict n fat i) 0 d)

first_wrong_none : (strict : Bool) (n : ℕ) (fat : List ℕ) (i : ℕ) → n ≤ i → first_wrong strict n fat i (n - i) ≡ 0
unfolding first_wrong
first_wrong_none strict n fat i h = let c : n - i ≡ 0 = omega arith in rw c

-- the judging loop before sector i: what is wrong from here on is what is wrong at all, and the entries below i are forgiven and marked
pub record Judging (strict : Bool) (fat₀ : List ℕ) (i : ℕ) (fat marks : List ℕ) : Type 0 where
  pub small : length fat₀ ≤ max_regular
  pub most : i ≤ length fat₀
  pub rest : first_wrong strict (length fat₀) fat₀ 0 (length fat₀) ≡ first_wrong strict (length fat₀) fat₀ i (length fat₀ - i)
  pub table : Forgiving (length fat₀) fat₀ i fat
  pub marked : Marked (length fat₀) fat₀ i marks

pub judging_begun : (strict : Bool) (fat marks : List ℕ) → length fat ≤ max_regular → marks ≡ replicate (length fat) 0 → Judging strict fat 0 fat marks
judging_begun strict fat marks small e =
    record { small = small; most = omega arith; rest = rw sub-zero; table = forgiving_none fat; marked = marked_none (length fat) fat marks e }

module _ {strict : Bool} {fat₀ : List ℕ} {i : ℕ} {fat marks : List ℕ} (g : Judging strict fat₀ i fat marks) where
  pub judging_ends : length fat₀ ≤ i → Judged strict fat₀ 0 fat marks
  judging_ends h =
      let all : i ≡ length fat₀ = omega (arith, g.most) in
      record {
        number = sym (g.rest ∙ first_wrong_none strict (length fat₀) fat₀ i h);
        table = λ z. forgiving_all (length fat₀) fat₀ fat (rw all at g.table);
        marked = λ z. marked_all (length fat₀) fat₀ marks g.small (rw all at g.marked);
      }

  module _ {r : ℕ} {fat' marks' : List ℕ} (low : i < length fat₀) (one : JudgedOne strict i fat marks r fat' marks') where
    -- the sector's number is the one that the definition gives it
    same : r ≡ wrong_at strict (length fat₀) fat₀ i
    same =
        one.number
        ∙ ap (λ (n : ℕ). wrong_by strict n marks (get_or fat i 0)) g.table.long
        ∙ ap (wrong_by strict (length fat₀) marks) (g.table.above i (omega arith))
        ∙ wrong_by_marks strict (length fat₀) fat₀ i marks g.marked

    pub judging_stops : (r ≡ 0 → ⊥) → Judged strict fat₀ r fat' marks'
    judging_stops d = record {
      number = same ∙ sym (g.rest ∙ first_wrong_here strict (length fat₀) fat₀ i low (λ z. d (same ∙ z)));
      table = λ z. absurd (d z);
      marked = λ z. absurd (d z);
    }

    pub judging_more : r ≡ 0 → Judging strict fat₀ (i + 1) fat' marks'
    judging_more z = record {
      small = g.small;
      most = omega (arith, low);
      rest = g.rest ∙ first_wrong_more strict (length fat₀) fat₀ i low (sym same ∙ z);
      table = rw (add-one i, one.table z, g.table.long) (forgiving_more (length fat₀) fat₀ i fat low g.table);
      marked = rw (add-one i, one.marked z, g.table.long, g.table.above i (omega arith)) (marked_more (length fat₀) fat₀ i marks g.small g.marked);
    }

-- one sector, by what its entry is
module _ (strict : Bool) (i : ℕ) (fat marks : List ℕ) where
  pub one_reserved : get_or fat i 0 ≡ invalid_sector → JudgedOne strict i fat marks 17 fat marks
  unfolding wrong_by
  one_reserved e = record { number = rw e; table = λ z. absurd (omega arith); marked = λ z. absurd (omega arith) }

  pub one_special : (get_or fat i 0 ≡ invalid_sector → ⊥) → max_regular < get_or fat i 0 → JudgedOne strict i fat marks 0 fat marks
  unfolding wrong_by
  one_special d k = record {
    number = rw (lt-leb (get_or fat i 0) max_regular k, ne_eqb (get_or fat i 0) invalid_sector d);
    table = λ z. rw (forgiven_kind (length fat) (get_or fat i 0) k) (sym (set-get_or fat i 0));
    marked = λ z. sym (marked_special (length fat) marks (get_or fat i 0) k);
  }

  module _ (r : get_or fat i 0 ≤ max_regular) where
    pub one_past_strict : length fat ≤ get_or fat i 0 → strict ≡ true → JudgedOne strict i fat marks 15 fat marks
    unfolding wrong_by
    one_past_strict g s = record {
      number = rw (le-leb (get_or fat i 0) max_regular r, le-leb (length fat) (get_or fat i 0) g, s);
      table = λ z. absurd (omega arith);
      marked = λ z. absurd (omega arith);
    }

    pub one_past : length fat ≤ get_or fat i 0 → strict ≡ false → JudgedOne strict i fat marks 0 (set fat i end_of_chain) marks
    unfolding wrong_by
    one_past g s = record {
      number = rw (le-leb (get_or fat i 0) max_regular r, le-leb (length fat) (get_or fat i 0) g, s);
      table = λ z. ap (set fat i) (sym (forgiven_high (length fat) (get_or fat i 0) r g));
      marked = λ z. sym (marked_kept (length fat) marks (get_or fat i 0) g);
    }

    pub one_twice : get_or fat i 0 < length fat → get_or marks (get_or fat i 0) 0 ≡ 1 → JudgedOne strict i fat marks 16 fat marks
    unfolding wrong_by
    one_twice l m = record {
      number = rw (le-leb (get_or fat i 0) max_regular r, lt-leb (length fat) (get_or fat i 0) l, m);
      table = λ z. absurd (omega arith);
      marked = λ z. absurd (omega arith);
    }

    pub one_first : get_or fat i 0 < length fat → (get_or marks (get_or fat i 0) 0 ≡ 1 → ⊥) → JudgedOne strict i fat marks 0 fat (set marks (get_or fat i 0) 1)
    unfolding wrong_by
    one_first l d = record {
      number = rw (le-leb (get_or fat i 0) max_regular r, lt-leb (length fat) (get_or fat i 0) l, ne_eqb (get_or marks (get_or fat i 0) 0) 1 d);
      table = λ z. rw (forgiven_low (length fat) (get_or fat i 0) l) (sym (set-get_or fat i 0));
      marked = λ z. sym (marked_set (length fat) marks (get_or fat i 0) r l);
    }

-- the fold that looks for a FREE sector that is pointed to: its test of a sector is the definition's
pub sound_tests : (n : ℕ) (fat marks : List ℕ) → marks ≡ marks_of n fat
    → every n (λ i. not (eqb (get_or fat i 0) free_sector) || not (eqb (get_or marks i 0) 1)) ≡ none_dangles n fat
unfolding none_dangles
sound_tests n fat marks e =
    every_ext n _ _
    (λ i h. ap (λ (m : Bool). not (eqb (get_or fat i 0) free_sector) || not m) (ap (λ (x : ℕ). eqb x 1) (mark_at n fat marks i e h) ∙ mark_tests (pointed fat n i))
    ∙ at (eqb (get_or fat i 0) free_sector) (pointed fat n i))
  where
    at : (a p : Bool) → (not a || not p) ≡ not (both p a)
    at true true = refl
    at true false = refl
    at false true = refl
    at false false = refl

-- the FREE sectors, from the front: one that is, one that is not
frees_yes : (fat : List ℕ) (i c : ℕ) → get_or fat i 0 ≡ free_sector → frees_from fat i (suc c) ≡ i ∷ frees_from fat (suc i) c
unfolding frees_from
frees_yes fat i c e = rw (eq-eqb (get_or fat i 0) free_sector e)

frees_no : (fat : List ℕ) (i c : ℕ) → (get_or fat i 0 ≡ free_sector → ⊥) → frees_from fat i (suc c) ≡ frees_from fat (suc i) c
unfolding frees_from
frees_no fat i c d = rw (ne_eqb (get_or fat i 0) free_sector d)

-- a FREE sector more at the end, or none
tail_of_lem : List ℕ → ℕ → List ℕ
tail_of_lem fat i = choose (eqb (get_or fat i 0) free_sector) (i ∷ []) []

frees_snoc : (fat : List ℕ) (i c : ℕ) → frees_from fat i (suc c) ≡ frees_from fat i c ++ tail_of_lem fat (i + c)
unfolding frees_from tail_of_lem
frees_snoc fat i zero = rw add-zero
frees_snoc fat i (suc c) =
    let rest : frees_from fat (suc i) (suc c) ≡ frees_from fat (suc i) c ++ tail_of_lem fat (i + suc c) =
    frees_snoc fat (suc i) c ∙ ap (λ (k : ℕ). frees_from fat (suc i) c ++ tail_of_lem fat k) (omega arith) in
    ⊎_elim
    (λ (e : get_or fat i 0 ≡ free_sector). frees_yes fat i (suc c) e ∙ ap (λ (l : List ℕ). i ∷ l) rest ∙ sym (ap (λ (l : List ℕ). l ++ tail_of_lem fat (i + suc c)) (frees_yes fat i c e)))
    (λ (d : get_or fat i 0 ≢ free_sector). frees_no fat i (suc c) d ∙ rest ∙ sym (ap (λ (l : List ℕ). l ++ tail_of_lem fat (i + suc c)) (frees_no fat i c d)))
    (same_or (get_or fat i 0) free_sector)

frees_end : (fat : List ℕ) (n : ℕ) → frees_of (n + 1) fat ≡ frees_of n fat ++ tail_of_lem fat n
unfolding frees_of
frees_end fat n = rw add-one (frees_snoc fat 0 n ∙ ap (λ (k : ℕ). frees_from fat 0 n ++ tail_of_lem fat k) (zero-add n))

pub frees_end_yes : (fat : List ℕ) (n : ℕ) → get_or fat n 0 ≡ free_sector → frees_of (n + 1) fat ≡ frees_of n fat ++ (n ∷ [])
unfolding tail_of_lem
frees_end_yes fat n e = frees_end fat n ∙ rw (eq-eqb (get_or fat n 0) free_sector e)

pub frees_end_no : (fat : List ℕ) (n : ℕ) → (get_or fat n 0 ≡ free_sector → ⊥) → frees_of (n + 1) fat ≡ frees_of n fat
unfolding tail_of_lem
frees_end_no fat n d = frees_end fat n ∙ rw (ne_eqb (get_or fat n 0) free_sector d) (append-nil (frees_of n fat))

-- there are at most as many as there are sectors
few_from : (fat : List ℕ) (i c : ℕ) → length (frees_from fat i c) ≤ c
unfolding frees_from
few_from fat i zero = omega arith
few_from fat i (suc c) = at (eqb (get_or fat i 0) free_sector) (few_from fat (suc i) c)
  where
    at : (t : Bool) → length (frees_from fat (suc i) c) ≤ c → length (choose t (i ∷ frees_from fat (suc i) c) (frees_from fat (suc i) c)) ≤ suc c
    at true h = omega arith
    at false h = omega arith

pub frees_few : (n : ℕ) (fat : List ℕ) → length (frees_of n fat) ≤ n
unfolding frees_of
frees_few n fat = few_from fat 0 n

-- what is listed is FREE and in the range
abbrev FreeIn : List ℕ → ℕ → ℕ → ℕ → Type 0
FreeIn fat i end t = (i ≤ t) × (t < end) × (get_or fat t 0 ≡ free_sector)

listed_from : (fat : List ℕ) (i c j : ℕ) → j < length (frees_from fat i c) → FreeIn fat i (i + c) (get_or (frees_from fat i c) j 0)
unfolding frees_from
listed_from fat i zero j h = absurd (omega arith)
listed_from fat i (suc c) j h =
    let rest : (k : ℕ) → k < length (frees_from fat (suc i) c) → FreeIn fat (suc i) (suc i + c) (get_or (frees_from fat (suc i) c) k 0) = listed_from fat (suc i) c in
    ⊎_elim
    (λ (e : get_or fat i 0 ≡ free_sector). rw (frees_yes fat i c e) (front e rest j (rw (frees_yes fat i c e) at h)))
    (λ (d : get_or fat i 0 ≢ free_sector). rw (frees_no fat i c d) (wider (get_or (frees_from fat (suc i) c) j 0) (rest j (rw (frees_no fat i c d) at h))))
    (same_or (get_or fat i 0) free_sector)
  where
    wider : (t : ℕ) → FreeIn fat (suc i) (suc i + c) t → FreeIn fat i (i + suc c) t
    wider t f = (omega arith, omega arith, f.2)

    front : get_or fat i 0 ≡ free_sector → ((k : ℕ) → k < length (frees_from fat (suc i) c) → FreeIn fat (suc i) (suc i + c) (get_or (frees_from fat (suc i) c) k 0))
        → (k : ℕ) → k < suc (length (frees_from fat (suc i) c)) → FreeIn fat i (i + suc c) (get_or (i ∷ frees_from fat (suc i) c) k 0)
    front e rest zero l = (omega arith, omega arith, e)
    front e rest (suc k) l = wider (get_or (frees_from fat (suc i) c) k 0) (rest k (omega arith))

-- every FREE sector is listed
abbrev PlaceIn : List ℕ → ℕ → Type 0
PlaceIn l t = (j : ℕ) × (j < length l) × (get_or l j 0 ≡ t)

place_from : (fat : List ℕ) (i c t : ℕ) → FreeIn fat i (i + c) t → PlaceIn (frees_from fat i c) t
place_from fat i zero t f = absurd (omega arith)
place_from fat i (suc c) t f =
    let rest : i ≢ t → PlaceIn (frees_from fat (suc i) c) t = λ d. place_from fat (suc i) c t (omega arith, omega arith, f.2) in
    ⊎_elim
    (λ (e : get_or fat i 0 ≡ free_sector).
    rw (frees_yes fat i c e)
    (⊎_elim (λ (s : i ≡ t). (0, omega arith, s)) (λ (d : i ≢ t). let p = rest d in (suc p.0, omega arith, p.2)) (same_or i t)))
    (λ (d : get_or fat i 0 ≢ free_sector). rw (frees_no fat i c d) (rest (λ s. d (ap (λ (k : ℕ). get_or fat k 0) s ∙ f.2))))
    (same_or (get_or fat i 0) free_sector)

ascend_from : (fat : List ℕ) (i c j k : ℕ) → j < k → k < length (frees_from fat i c) → get_or (frees_from fat i c) j 0 < get_or (frees_from fat i c) k 0
unfolding frees_from
ascend_from fat i zero j k h l = absurd (omega arith)
ascend_from fat i (suc c) j k h l =
    let rest : (j k : ℕ) → j < k → k < length (frees_from fat (suc i) c) → get_or (frees_from fat (suc i) c) j 0 < get_or (frees_from fat (suc i) c) k 0 =
    ascend_from fat (suc i) c in
    ⊎_elim
    (λ (e : get_or fat i 0 ≡ free_sector). rw (frees_yes fat i c e) (front rest j k h (rw (frees_yes fat i c e) at l)))
    (λ (d : get_or fat i 0 ≢ free_sector). rw (frees_no fat i c d) (rest j k h (rw (frees_no fat i c d) at l)))
    (same_or (get_or fat i 0) free_sector)
  where
    front : ((j k : ℕ) → j < k → k < length (frees_from fat (suc i) c) → get_or (frees_from fat (suc i) c) j 0 < get_or (frees_from fat (suc i) c) k 0)
        → (j k : ℕ) → j < k → k < suc (length (frees_from fat (suc i) c)) → get_or (i ∷ frees_from fat (suc i) c) j 0 < get_or (i ∷ frees_from fat (suc i) c) k 0
    front rest j zero h l = absurd (omega arith)
    front rest zero (suc k) h l = (listed_from fat (suc i) c k (omega arith)).0
    front rest (suc j) (suc k) h l = rest j k (omega arith) (omega arith)

-- document 01: the free list holds the FREE sectors below n, and no other
pub frees_exactly : (n : ℕ) (fat : List ℕ) (t : ℕ)
    → ((j : ℕ) × (j < length (frees_of n fat)) × (get_or (frees_of n fat) j 0 ≡ t)) ↔ ((t < n) × (get_or fat t 0 ≡ free_sector))
unfolding frees_of
frees_exactly n fat t = (
  λ p. rw (← p.2) (let f = listed_from fat 0 n p.0 p.1 in (omega (arith, f.1), f.2)),
  λ f. place_from fat 0 n t (omega arith, omega arith, f.1),
)

-- document 01: ascending
pub frees_ascend : (n : ℕ) (fat : List ℕ) (i j : ℕ) → i < j → j < length (frees_of n fat) → get_or (frees_of n fat) i 0 < get_or (frees_of n fat) j 0
unfolding frees_of
frees_ascend n fat i j h l = ascend_from fat 0 n i j h l

-- the loop that lists, before sector i: the FREE sectors below i, and then what was there
pub record Listing (fat before : List ℕ) (i count : ℕ) (frees : List ℕ) : Type 0 where
  pub most : i ≤ length fat
  pub few : count ≤ i
  pub long : length frees ≡ length before
  pub number : count ≡ length (frees_of i fat)
  pub list : frees ≡ frees_of i fat ++ drop count before

pub listing_begun : (fat frees : List ℕ) → Listing fat frees 0 0 frees
unfolding frees_of frees_from
listing_begun fat frees = record { most = omega arith; few = omega arith; long = refl; number = refl; list = refl }

module _ {fat before : List ℕ} {i count : ℕ} {frees : List ℕ} (g : Listing fat before i count frees) where
  pub listing_ends : length fat ≤ i → Listed fat before count frees
  listing_ends h =
      let all : i ≡ length fat = omega (arith, g.most) in
      record { number = rw all at g.number; list = rw all at g.list }

  module _ (h : i < length fat) where
    pub listing_more : length fat ≤ length before → get_or fat i 0 ≡ free_sector → Listing fat before (i + 1) (count + 1) (set frees count i)
    listing_more room e = record {
      most = omega arith;
      few = omega (arith, g.few);
      long = length-set frees count i ∙ g.long;
      number = rw (frees_end_yes fat i e, length-append) (omega (arith, g.number));
      list =
          ap (λ (l : List ℕ). set l count i) g.list
          ∙ ap (λ (l : List ℕ). set (frees_of i fat ++ l) count i) (drop-cons before count 0 (omega (arith, g.few)))
          ∙ set_at (frees_of i fat) (get_or before count 0) (drop (suc count) before) i count (sym g.number)
          ∙ rw (frees_end_yes fat i e, add-one count) (sym (append_snoc (frees_of i fat) i (drop (suc count) before)));
    }

    pub listing_same : (get_or fat i 0 ≡ free_sector → ⊥) → Listing fat before (i + 1) count frees
    listing_same d = record {
      most = omega arith;
      few = omega (arith, g.few);
      long = g.long;
      number = rw (frees_end_no fat i d) g.number;
      list = rw (frees_end_no fat i d) g.list;
    }
