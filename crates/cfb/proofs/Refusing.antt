-- The refusals of a change, from those of opening its chain (document 01, rows 26 and 25). Assumes nothing.
use Prim.Native.Nat.{ℕ, ◌+◌, ◌-◌, ◌≤◌, ◌<◌, min}
use mathlib.Core.Path.{◌≡◌, refl, sym, ◌∙◌, ap}
use mathlib.Core.Bool.{Bool, true, false, not}
use mathlib.Core.List.{List, [], ◌∷◌, ◌++◌}
use mathlib.Core.Logic.{◌⊎◌, inl, inr, ⊎_elim, ◌≢◌}
use native.Mathlib.Omega.{arith}
use borrow.Author.Tests.{eq-eqb, ne_eqb}
use lib.Dec.{eqb, ltb}
use lib.ListN.{length, get_or, take, replicate, length-replicate, get_or-replicate, get_or-append, get_or-eq_default}
use lib.Seq.{get_or-append-add}
use Rattle.lists.specs.Lists.{choose, both}
use Rattle.lists.specs.Rows.{Row, row, refusal, distinct, fresh}
use Rattle.lists.proofs.Cases.{same_or, below_or}
use Rattle.lists.proofs.Rows.{stop, pass, append_given, append_none}
use Rattle.lists.proofs.Tab.{length_tab}
use Rattle.consts.specs.Consts.{max_regular, end_of_chain}
use Rattle.header.specs.Versions.{is_strict}
use Rattle.fat.specs.Lists.{room_of}
use Rattle.judge.specs.Judge.{pointed, marks_of}
use Rattle.judge.proofs.Judging.{mark_at, mark_of}
use Rattle.alloc.specs.Opening.{Tables, open_tables, shortest, padded}
use Rattle.agree.specs.Agree.{agreement}
use Rattle.agree.proofs.Meaning.{agrees_exactly}
use Rattle.walk.specs.Walk.{lists, refuses}
use Rattle.walk.proofs.Walking.{walk_past}
use Rattle.std.specs.Prelude.{Result, Ok, Err}
use Rattle.consts.specs.Refusals.{number_of}
use Rattle.consts.specs.declared.refusal.Refusal.{Refusal}
use Rattle.consts.proofs.Refusals.{refusal_ends, ends_refused, ends_accepted, ends_same, number_not}
use Rattle.cfb.specs.Calls.{outcome_no, state_len, walked, agreed_rows, walk_rows, chain_rows, chain_no, chain_ids, ids_left}
use Rattle.cfb.specs.Changes.{start_pointed, change_rows, change_no, ChangeListed}
use Rattle.cfb.specs.Listed.{ChainListed}
use Rattle.cfb.specs.declared.State.{State}
use Rattle.cfb.proofs.Agreed.{agreed_marks}
use Rattle.cfb.proofs.Lying.{lists_chain, agreed, known}

-- the numbers that rows 11 and 19, and 20 to 22, can give
data Early : ℕ → Type 0 where
  is_0 : Early 0
  is_11 : Early 11
  is_19 : Early 19

data Later : ℕ → Type 0 where
  is_0 : Later 0
  is_20 : Later 20
  is_21 : Later 21
  is_22 : Later 22

module _ (s : State) (img : List ℕ) (t : Tables) (room start : ℕ) where
  early : Early (refusal (agreed_rows s img t room))
  unfolding agreed_rows refusal
  early = at (ltb (min (shortest t) room) (room_of (state_len s) (length img))) (not (agreement s.mode img s.used s.sectors s.free s.header t))
    where
      at : (a b : Bool) → Early (choose a 11 (choose b 19 0))
      at true b = Early.is_11
      at false true = Early.is_19
      at false false = Early.is_0

  later : Later (refusal (walk_rows (walked s t start)))
  unfolding walk_rows refusal
  later = at (eqb (outcome_no (walked s t start)) 20) (eqb (outcome_no (walked s t start)) 21) (eqb (outcome_no (walked s t start)) 22)
    where
      at : (a b c : Bool) → Later (choose a 20 (choose b 21 (choose c 22 0)))
      at true b c = Later.is_20
      at false true c = Later.is_21
      at false false true = Later.is_22
      at false false false = Later.is_0

  -- chain_no and change_no, where lengths and agreement are refused, and where they are not
  chain_early : refusal (agreed_rows s img t room) ≢ 0 → chain_no s img t room start ≡ refusal (agreed_rows s img t room)
  unfolding chain_no chain_rows
  chain_early n = append_given (agreed_rows s img t room) _ n

  chain_later : refusal (agreed_rows s img t room) ≡ 0 → chain_no s img t room start ≡ refusal (walk_rows (walked s t start))
  unfolding chain_no chain_rows agreed_rows distinct fresh
  chain_later z = append_none (agreed_rows s img t room) _ refl z

  abbrev mode_rows : List Row
  mode_rows = row 26 (not (is_strict s.mode)) ∷ (walk_rows (walked s t start) ++ (row 25 (start_pointed s t start) ∷ []))

  change_early : refusal (agreed_rows s img t room) ≢ 0 → change_no s img t room start ≡ refusal (agreed_rows s img t room)
  unfolding change_no change_rows
  change_early n = append_given (agreed_rows s img t room) mode_rows n

  change_later : refusal (agreed_rows s img t room) ≡ 0 → change_no s img t room start ≡ refusal mode_rows
  unfolding change_no change_rows agreed_rows distinct fresh
  change_later z = append_none (agreed_rows s img t room) mode_rows refl z

  -- 11 and 19 come first
  pub refused_early : (chain_no s img t room start ≡ 11) ⊎ (chain_no s img t room start ≡ 19) → change_no s img t room start ≡ chain_no s img t room start
  refused_early e = at (same_or (refusal (agreed_rows s img t room)) 0)
    where
      at : (refusal (agreed_rows s img t room) ≡ 0) ⊎ (refusal (agreed_rows s img t room) ≢ 0) → change_no s img t room start ≡ chain_no s img t room start
      at (inl z) = absurd (none e (chain_later z) later)
        where
          none : {k w : ℕ} → (k ≡ 11) ⊎ (k ≡ 19) → k ≡ w → Later w → ⊥
          none (inl a) q Later.is_0 = omega arith
          none (inl a) q Later.is_20 = omega arith
          none (inl a) q Later.is_21 = omega arith
          none (inl a) q Later.is_22 = omega arith
          none (inr a) q Later.is_0 = omega arith
          none (inr a) q Later.is_20 = omega arith
          none (inr a) q Later.is_21 = omega arith
          none (inr a) q Later.is_22 = omega arith
      at (inr n) = change_early n ∙ sym (chain_early n)

  module _ (n11 : chain_no s img t room start ≢ 11) (n19 : chain_no s img t room start ≢ 19) where
    passed : refusal (agreed_rows s img t room) ≡ 0
    passed = at early refl
      where
        at : {k : ℕ} → Early k → refusal (agreed_rows s img t room) ≡ k → refusal (agreed_rows s img t room) ≡ 0
        at Early.is_0 e = e
        at Early.is_11 e = absurd (n11 (chain_early (λ z. omega (arith, e, z)) ∙ e))
        at Early.is_19 e = absurd (n19 (chain_early (λ z. omega (arith, e, z)) ∙ e))

    -- then 26
    pub refused_mode : is_strict s.mode ≡ false → change_no s img t room start ≡ 26
    refused_mode f = change_later passed ∙ stop 26 _ _ (ap not f)

    module _ (strict : is_strict s.mode ≡ true) where
      strict_rows : change_no s img t room start ≡ refusal (walk_rows (walked s t start) ++ (row 25 (start_pointed s t start) ∷ []))
      strict_rows = change_later passed ∙ pass 26 _ _ (ap not strict)

      -- then 20 to 22
      pub refused_walk : chain_no s img t room start ≢ 0 → change_no s img t room start ≡ chain_no s img t room start
      refused_walk n =
          strict_rows ∙ append_given (walk_rows (walked s t start)) _ (λ z. n (chain_later passed ∙ z)) ∙ sym (chain_later passed)

      -- and then 25
      pub refused_start : chain_no s img t room start ≡ 0 → change_no s img t room start ≡ choose (start_pointed s t start) 25 0
      unfolding walk_rows refusal distinct fresh
      refused_start z = strict_rows ∙ append_none (walk_rows (walked s t start)) (row 25 (start_pointed s t start) ∷ []) refl (sym (chain_later passed) ∙ z)

-- an element of a list with zeros after it
pub padded_front : (xs : List ℕ) (m i : ℕ) → i < length xs → get_or (padded xs m) i 0 ≡ get_or xs i 0
unfolding padded
padded_front xs m i h = get_or-append xs (replicate (m - length xs) 0) 0 i h

zeros_zero : (m i : ℕ) → get_or {A = ℕ} (replicate m 0) i 0 ≡ 0
zeros_zero m i =
    ⊎_elim (λ (l : i < m). get_or-replicate m i 0 0 l) (λ (g : m ≤ i). get_or-eq_default (replicate m 0) 0 (rw (length-replicate {A = ℕ} m 0) g)) (below_or i m)

pub padded_past : (xs : List ℕ) (m i : ℕ) → length xs ≤ i → get_or (padded xs m) i 0 ≡ 0
unfolding padded
padded_past xs m i h =
    let at : i ≡ length xs + (i - length xs) = omega arith in
    ap (λ (j : ℕ). get_or (xs ++ replicate (m - length xs) 0) j 0) at ∙ get_or-append-add xs (replicate (m - length xs) 0) (i - length xs) 0 ∙ zeros_zero (m - length xs) (i - length xs)

-- a mark is 1 exactly where the sector is pointed at
mark_tested : (p : Bool) → eqb (mark_of p) 1 ≡ p
mark_tested true = refl
mark_tested false = refl

-- the marks of n sectors of a table, with zeros after them, tell whether a start is pointed at
module _ (n : ℕ) (fat marks : List ℕ) (start : ℕ) (held : marks ≡ padded (marks_of n fat) (length marks)) (few : n ≤ max_regular) where
  length_of_marks : length (marks_of n fat) ≡ n
  unfolding marks_of
  length_of_marks = length_tab _ n

  mark_below : start < n → eqb (get_or marks start 0) 1 ≡ both (not (eqb start end_of_chain)) (pointed fat n start)
  mark_below l =
      let mark : get_or marks start 0 ≡ mark_of (pointed fat n start) =
      ap (λ (xs : List ℕ). get_or xs start 0) held ∙ padded_front (marks_of n fat) (length marks) start (rw length_of_marks l) ∙ mark_at n fat (marks_of n fat) start refl l in
      ap (λ (v : ℕ). eqb v 1) mark ∙ mark_tested (pointed fat n start) ∙ sym (ap (λ (b : Bool). both (not b) (pointed fat n start)) (ne_eqb start end_of_chain (omega arith)))

  mark_end : start ≡ end_of_chain → eqb (get_or marks start 0) 1 ≡ both (not (eqb start end_of_chain)) (pointed fat n start)
  mark_end e =
      let mark : get_or marks start 0 ≡ 0 = ap (λ (xs : List ℕ). get_or xs start 0) held ∙ padded_past (marks_of n fat) (length marks) start (rw length_of_marks (omega arith)) in
      ap (λ (v : ℕ). eqb v 1) mark ∙ sym (ap (λ (b : Bool). both (not b) (pointed fat n start)) (eq-eqb start end_of_chain e))

-- a refusal lists nothing
not_lists : {k : ℕ} {ids : List ℕ} → refuses k ≡ lists ids → ⊥
not_lists e = let z : ◌≡◌ {A = ℕ} 0 1 = cc in omega arith

-- a state's marks tell whether the start of a chain that opens is pointed at
pub start_marked : (s : State) (img : List ℕ) (t : Tables) (room start : ℕ) → chain_no s img t room start ≡ 0 → eqb (get_or t.marks start 0) 1 ≡ start_pointed s t start
unfolding start_pointed open_tables
start_marked s img t room start z =
    ⊎_elim
    (λ (l : start < s.sectors). mark_below s.sectors (take s.sectors t.fat) t.marks start held few l)
    (λ (g : s.sectors ≤ start). mark_end s.sectors (take s.sectors t.fat) t.marks start held few (is_end g))
    (below_or start s.sectors)
  where
    few : s.sectors ≤ max_regular
    few = omega (arith, (known s img t room start z).few, (known s img t room start z).count)

    held : t.marks ≡ padded (marks_of s.sectors (take s.sectors t.fat)) (length t.marks)
    held = agreed_marks s.mode img s.used s.sectors s.free s.header t ((agrees_exactly s.mode img s.used s.sectors s.free s.header t).0 (agreed s img t room start z))

    is_end : s.sectors ≤ start → start ≡ end_of_chain
    is_end g =
        ⊎_elim
        (λ (e : start ≡ end_of_chain). e)
        (λ (d : start ≢ end_of_chain). absurd (not_lists (sym (walk_past (take s.sectors t.fat) start d (omega (arith, (known s img t room start z).count))) ∙ lists_chain s img t room start z)))
        (same_or start end_of_chain)

-- the number in the id list and in the answer
module _ (s : State) (img : List ℕ) (t : Tables) (ids : List ℕ) (start : ℕ) (w : Result ℕ Refusal) (ids' : List ℕ) (l : ChainListed s img t ids start w ids') where
  -- the number of the answer is that of opening the chain
  pub listed_refused : (e : Refusal) → w ≡ Err e → chain_no s img t (length ids) start ≡ number_of e
  listed_refused e q = sym (ends_refused l.answer e q).1

  pub listed_none : (c : ℕ) → w ≡ Ok c → chain_no s img t (length ids) start ≡ 0
  listed_none c q = (ends_accepted l.answer c q).0

  -- a change that ends as opening the chain does
  pub change_same : change_no s img t (length ids) start ≡ chain_no s img t (length ids) start → ChangeListed s img t ids start w ids'
  change_same e = record {
    answer = ends_same (sym e) l.answer;
    list = l.list ∙ ap (λ (k : ℕ). ids_left k ids (chain_ids s t start)) (sym e);
  }

-- a change that is refused by a number of its own
pub change_refused : (s : State) (img : List ℕ) (t : Tables) (ids : List ℕ) (start : ℕ) (e : Refusal) (ids' : List ℕ) → change_no s img t (length ids) start ≡ number_of e → number_of e ≢ 11
    → ids' ≡ replicate (length ids) 0 → ChangeListed s img t ids start (Err e) ids'
unfolding ids_left
change_refused s img t ids start e ids' n m z = record {
  answer = refusal_ends e (sym n);
  list = z ∙ sym (ap (λ (j : ℕ). ids_left j ids (chain_ids s t start)) n ∙ rw (ne_eqb (number_of e) 0 (number_not e), ne_eqb (number_of e) 11 m));
}
