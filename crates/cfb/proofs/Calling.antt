-- The listing of a chain: each of its ends is that of document 01's rows. Assumes nothing.
use Prim.Native.Nat.{ℕ, ◌-◌, ◌≤◌, ◌<◌, min}
use mathlib.Core.Path.{◌≡◌, refl, sym, ◌∙◌, ap}
use mathlib.Core.Bool.{true, false, not}
use mathlib.Core.List.{List}
use native.Mathlib.Omega.{arith}
use borrow.Author.Tests.{ne_eqb, lt-ltb, le-ltb, ltb-false}
use lib.Dec.{eqb, ltb}
use lib.ListN.{length, take, replicate}
use lib.Seq.{take_at}
use Rattle.lists.specs.Lists.{choose}
use Rattle.lists.specs.Rows.{refusal}
use Rattle.lists.proofs.Rows.{stop, pass}
use Rattle.consts.specs.Consts.{max_regular}
use Rattle.fat.specs.Lists.{room_of}
use Rattle.alloc.specs.Opening.{Tables, shortest, padded}
use Rattle.agree.specs.Agree.{agreement}
use Rattle.walk.specs.Steps.{Once}
use Rattle.walk.specs.Walk.{Outcome, lists, refuses, walk_of}
use Rattle.walk.specs.Walked.{StandsFor, WalkLeft}
use Rattle.std.specs.Prelude.{Result, Ok, Err}
use Rattle.consts.specs.Refusals.{number_of}
use Rattle.consts.specs.declared.refusal.Refusal.{Refusal}
use Rattle.consts.specs.declared.refusal.Refusal.TheVariants.{ShortTable, Disagrees}
use Rattle.consts.proofs.Refusals.{refusal_ends, value_ends, number_not}
use Rattle.walk.proofs.Walking.{Fate, past, ended, broken, back, spent, fate}
use Rattle.walk.proofs.Exactly.{never_spent}
use Rattle.cfb.specs.Calls.{outcome_no, outcome_ids, state_len, walked, agreed_rows, walk_rows, chain_rows, chain_no, chain_ids, ids_left}
use Rattle.cfb.specs.Listed.{cleared, ChainListed}
use Rattle.cfb.specs.declared.State.{State}

-- what a walk that is not spent can come to
pub data Number : ℕ → Type 0 where
  is_0 : Number 0
  is_20 : Number 20
  is_21 : Number 21
  is_22 : Number 22

pub walk_number : (fat : List ℕ) (start : ℕ) → length fat ≤ max_regular → Once fat → Number (outcome_no (walk_of fat start))
unfolding outcome_no
walk_number fat start few once = at (walk_of fat start) refl (fate fat start few)
  where
    at : (w : Outcome) → walk_of fat start ≡ w → Fate fat start w → Number (outcome_no w)
    at _ e (past d h) = is_20
    at _ e (ended k p q) = is_0
    at _ e (broken b) = is_21
    at _ e (back k l g q) = is_22
    at _ e (spent g) = absurd (never_spent fat start few once e)

not_eleven : {n : ℕ} → Number n → n ≡ 11 → ⊥
not_eleven is_0 e = omega arith
not_eleven is_20 e = omega arith
not_eleven is_21 e = omega arith
not_eleven is_22 e = omega arith

-- the rows 20 to 22 give that number
walk_rows_lem : (w : Outcome) → Number (outcome_no w) → refusal (walk_rows w) ≡ outcome_no w
unfolding walk_rows refusal
walk_rows_lem w k = at (outcome_no w) k
  where
    at : (n : ℕ) → Number n → choose (eqb n 20) 20 (choose (eqb n 21) 21 (choose (eqb n 22) 22 0)) ≡ n
    at _ is_0 = refl
    at _ is_20 = refl
    at _ is_21 = refl
    at _ is_22 = refl

-- the row of the lengths, by what was found out
pub room_short : {a b a' b' : ℕ} → a ≡ a' → b ≡ b' → a < b → ltb a' b' ≡ true
room_short {a} {b} {a'} {b'} p q h = lt-ltb a' b' (omega arith)

pub room_long : {a b a' b' : ℕ} → a ≡ a' → b ≡ b' → b ≤ a → ltb a' b' ≡ false
room_long {a} {b} {a'} {b'} p q h = le-ltb a' b' (omega arith)

-- a list that has the room has a place for each sector
pub room_enough : (short : ℕ) {a n r ids now : ℕ} → a ≡ n → n ≤ r → ltb (min short ids) r ≡ false → now ≡ ids → a ≤ now
room_enough short {a} {n} {r} {ids} p h l k = let low : r ≤ min short ids = ltb-false (min short ids) r l in omega arith

-- the id list after each end
left_listed : (ids xs : List ℕ) → padded xs (length ids) ≡ ids_left 0 ids xs
unfolding ids_left
left_listed ids xs = refl

left_alone : (ids xs : List ℕ) → ids ≡ ids_left 11 ids xs
unfolding ids_left
left_alone ids xs = refl

left_zero : (k : ℕ) (ids xs : List ℕ) → (k ≡ 0 → ⊥) → (k ≡ 11 → ⊥) → replicate (length ids) 0 ≡ ids_left k ids xs
unfolding ids_left
left_zero k ids xs n m = rw (ne_eqb k 0 n, ne_eqb k 11 m)

module _ (s : State) (img : List ℕ) (t : Tables) (ids : List ℕ) (start : ℕ) where
  refused_so : (e : Refusal) (after : List ℕ) → chain_no s img t (length ids) start ≡ number_of e → after ≡ ids_left (number_of e) ids (chain_ids s t start) → ChainListed s img t ids start (Err e) after
  refused_so e after n l = record {
    answer = refusal_ends e (sym n);
    list = l ∙ ap (λ (x : ℕ). ids_left x ids (chain_ids s t start)) (sym n);
  }

  -- a table or the id list is too short
  pub listed_short : ltb (min (shortest t) (length ids)) (room_of (state_len s) (length img)) ≡ true → ChainListed s img t ids start (Err ShortTable) ids
  unfolding chain_no chain_rows agreed_rows
  listed_short h = refused_so ShortTable ids (stop 11 _ _ h) (left_alone ids _)

  module _ (long : ltb (min (shortest t) (length ids)) (room_of (state_len s) (length img)) ≡ false) where
    -- state and tables are not what an opening gives
    pub listed_apart : (after : List ℕ) → agreement s.mode img s.used s.sectors s.free s.header t ≡ false → after ≡ replicate (length ids) 0
        → ChainListed s img t ids start (Err Disagrees) after
    unfolding chain_no chain_rows agreed_rows
    listed_apart after f e =
        refused_so Disagrees after (pass 11 _ _ long ∙ stop 19 _ _ (ap not f)) (e ∙ left_zero 19 ids _ (omega arith) (omega arith))

    module _ (same : agreement s.mode img s.used s.sectors s.free s.header t ≡ true)
        (few : length (take s.sectors t.fat) ≤ max_regular) (once : Once (take s.sectors t.fat)) where
      number : chain_no s img t (length ids) start ≡ outcome_no (walked s t start)
      unfolding chain_no chain_rows agreed_rows walked
      number = pass 11 _ _ long ∙ pass 19 _ _ (ap not same) ∙ walk_rows_lem (walked s t start) (walk_number _ start few once)

      -- an id list that is cleared, by the walk's answer
      cleared_listed : (r : Result ℕ Refusal) (mid : List ℕ) (count : ℕ) → r ≡ Ok count → cleared r mid ≡ padded (take count mid) (length mid)
      unfolding cleared
      cleared_listed r mid count e = rw e

      cleared_refused : (r : Result ℕ Refusal) (mid : List ℕ) (k : Refusal) → r ≡ Err k → cleared r mid ≡ replicate (length mid) 0
      unfolding cleared padded
      cleared_refused r mid k e =
          let all : length mid - 0 ≡ length mid = omega arith in
          ap (λ (x : Result ℕ Refusal). cleared x mid) e ∙ ap (λ (n : ℕ). replicate n 0) all

      -- the walk, with zeros past its ids
      pub listed_walked : (before mid after : List ℕ) (r : Result ℕ Refusal) → length before ≡ length ids → WalkLeft (take s.sectors t.fat) start before r mid → length mid ≡ length before
          → after ≡ cleared r mid → ChainListed s img t ids start r after
      unfolding chain_ids outcome_ids outcome_no walked
      listed_walked before mid after r l w lm e = at (walked s t start) refl (walk_number _ start few once) w.answer
        where
          at : (o : Outcome) → walk_of (take s.sectors t.fat) start ≡ o → Number (outcome_no (walk_of (take s.sectors t.fat) start)) → StandsFor (walk_of (take s.sectors t.fat) start) r → ChainListed s img t ids start r after
          at (lists xs) q k a =
              let z : chain_no s img t (length ids) start ≡ 0 = number ∙ ap outcome_no q in
              let mine : chain_ids s t start ≡ xs = ap outcome_ids q in
              let is : r ≡ Ok (length xs) = rw q at a in
              let front : take (length xs) mid ≡ xs = ap (take (length xs)) (w.front xs q) ∙ take_at xs _ (length xs) refl in
              record {
                answer = rw is (value_ends (length xs) z (ap length (sym mine)));
                list = e ∙ cleared_listed r mid (length xs) is ∙ ap (λ (x : List ℕ). padded x (length mid)) front ∙ ap (padded xs) (lm ∙ l) ∙ left_listed ids xs
                    ∙ ap (ids_left 0 ids) (sym mine) ∙ ap (λ (n : ℕ). ids_left n ids (chain_ids s t start)) (sym z);
              }
          at (refuses x) q k a =
              let told : (f : Refusal) × (r ≡ Err f) × (number_of f ≡ x) = rw q at a in
              let e0 : chain_no s img t (length ids) start ≡ number_of told.0 = number ∙ ap outcome_no q ∙ sym told.2 in
              let given : Number (number_of told.0) = rw (ap outcome_no q ∙ sym told.2) at k in
              let zeros : after ≡ replicate (length ids) 0 = e ∙ cleared_refused r mid told.0 told.1 ∙ ap (λ (n : ℕ). replicate n 0) (lm ∙ l) in
              let so : ChainListed s img t ids start (Err told.0) after = refused_so told.0 after e0 (zeros ∙ left_zero (number_of told.0) ids _ (number_not told.0) (not_eleven given)) in
              rw told.1 so
