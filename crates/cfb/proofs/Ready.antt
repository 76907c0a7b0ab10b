-- A change that nothing before 23 stands against has a chain in hand that fits, of sectors listed once. Assumes nothing.
use Prim.Native.Nat.{ℕ, suc, ◌+◌, ◌-◌, ◌*◌, ◌≤◌, ◌<◌, min}
use mathlib.Core.Path.{◌≡◌, refl, sym, ◌∙◌, ap}
use mathlib.Core.Bool.{Bool, true, false}
use mathlib.Core.List.{List}
use mathlib.Core.Logic.{◌⊎◌, inl, inr, ⊎_elim, ◌≢◌}
use native.Mathlib.Omega.{arith}
use borrow.Author.Tests.{ltb-false, lt-ltb, le-ltb, not-false}
use lib.Dec.{ltb}
use lib.ListN.{length, get_or, take, replicate, length-append, length-replicate, get_or-eq_default}
use lib.Seq.{get_or-take, length-take-le}
use Rattle.lists.specs.Lists.{choose}
use Rattle.lists.specs.Rows.{distinct, fresh}
use Rattle.lists.proofs.Cases.{below_or, same_or, true_or}
use Rattle.lists.proofs.Pigeon.{pigeon}
use Rattle.lists.proofs.Rows.{given_none}
use Rattle.consts.specs.Consts.{end_of_chain, free_sector}
use Rattle.header.specs.Versions.{is_strict}
use Rattle.fat.specs.Lists.{room_of}
use Rattle.alloc.specs.Opening.{Tables, shortest, padded}
use Rattle.agree.specs.Agrees.{FreesOnce}
use Rattle.agree.proofs.Meaning.{agrees_exactly}
use Rattle.walk.specs.Steps.{Sectors, Linked}
use Rattle.walk.proofs.Chains.{get_d_any, walk_sectors, lists_exactly}
use Rattle.hand.specs.Fits.{FitsHand, FitsChain}
use Rattle.moves.specs.Change.{Apart}
use Rattle.moves.proofs.Changing.{chain_bytes_small}
use Rattle.cfb.specs.Calls.{state_len, agreed_rows, walk_rows, chain_no, chain_ids}
use Rattle.cfb.specs.Causes.{Agreed}
use Rattle.std.specs.Prelude.{Result, Ok}
use Rattle.consts.specs.declared.refusal.Refusal.{Refusal}
use Rattle.consts.proofs.Refusals.{ends_accepted}
use Rattle.cfb.specs.Changes.{change_rows, change_no, chain_from, Listing}
use Rattle.cfb.specs.declared.State.{State}
use Rattle.cfb.proofs.Agreed.{Chained}
use Rattle.cfb.proofs.Fitted.{agreed_fits, agreed_frees}
use Rattle.cfb.proofs.Lying.{agreed, known, lists_chain}
use Rattle.cfb.proofs.Refusing.{padded_front, refused_early, refused_mode, refused_walk}

-- a list with zeros after it is as long as was asked for
length_padded : (xs : List ℕ) (m : ℕ) → length xs ≤ m → length (padded xs m) ≡ m
unfolding padded
length_padded xs m h = length-append xs (replicate (m - length xs) 0) ∙ omega (arith, length-replicate {A = ℕ} (m - length xs) 0)

-- a numbers and b others, all different and below n, are no more than n
module _ (n a b : ℕ) (f g : ℕ → ℕ) where
  joined : ℕ → ℕ
  joined i = choose (ltb i a) (f i) (g (i - a))

  joined_first : (i : ℕ) → i < a → joined i ≡ f i
  unfolding joined
  joined_first i h = ap (λ (c : Bool). choose c (f i) (g (i - a))) (lt-ltb i a h)

  joined_second : (i : ℕ) → a ≤ i → joined i ≡ g (i - a)
  unfolding joined
  joined_second i h = ap (λ (c : Bool). choose c (f i) (g (i - a))) (le-ltb i a h)

  apart_few : ((i : ℕ) → i < a → f i < n) → ((i : ℕ) → i < b → g i < n) → ((i j : ℕ) → i < a → j < a → f i ≡ f j → i ≡ j) → ((i j : ℕ) → i < b → j < b → g i ≡ g j → i ≡ j)
      → ((i j : ℕ) → i < a → j < b → f i ≢ g j) → a + b ≤ n
  apart_few fn gn once twice cross = pigeon n (a + b) joined (λ i h. low i h (below_or i a)) (λ i j hi hj e. at i j hi hj e (below_or i a) (below_or j a))
    where
      low : (i : ℕ) → i < a + b → (i < a) ⊎ (a ≤ i) → joined i < n
      low i h (inl l) = rw (joined_first i l) (fn i l)
      low i h (inr r) = rw (joined_second i r) (gn (i - a) (omega arith))

      at : (i j : ℕ) → i < a + b → j < a + b → joined i ≡ joined j → (i < a) ⊎ (a ≤ i) → (j < a) ⊎ (a ≤ j) → i ≡ j
      at i j hi hj e (inl l) (inl m) = once i j l m (sym (joined_first i l) ∙ e ∙ joined_first j m)
      at i j hi hj e (inl l) (inr r) = absurd (cross i (j - a) l (omega arith) (sym (joined_first i l) ∙ e ∙ joined_second j r))
      at i j hi hj e (inr r) (inl m) = absurd (cross j (i - a) m (omega arith) (sym (joined_first j m) ∙ sym e ∙ joined_second i r))
      at i j hi hj e (inr r) (inr q) = omega (arith, twice (i - a) (j - a) (omega arith) (omega arith) (sym (joined_second i r) ∙ e ∙ joined_second j q))

module _ (s : State) (img : List ℕ) (t : Tables) (room start : ℕ) (z : change_no s img t room start ≡ 0) where
  abbrev S : ℕ
  S = state_len s

  abbrev R : ℕ
  R = room_of (state_len s) (length img)

  abbrev ids : List ℕ
  ids = chain_ids s t start

  -- the chain opens, the mode is strict, and tables and id list have the room
  pub chain_zero : chain_no s img t room start ≡ 0
  chain_zero =
      ⊎_elim
      (λ (strict : is_strict s.mode ≡ true).
      ⊎_elim (λ (e : chain_no s img t room start ≡ 0). e) (λ (d : chain_no s img t room start ≢ 0). sym (refused_walk s img t room start not_11 not_19 strict d) ∙ z) (same_or (chain_no s img t room start) 0))
      (λ (other : is_strict s.mode ≡ false). absurd (omega (arith, z, refused_mode s img t room start not_11 not_19 other)))
      (true_or (is_strict s.mode))
    where
      not_11 : chain_no s img t room start ≢ 11
      not_11 e = omega (arith, z, e, refused_early s img t room start (inl e))

      not_19 : chain_no s img t room start ≢ 19
      not_19 e = omega (arith, z, e, refused_early s img t room start (inr e))

  pub strict_mode : is_strict s.mode ≡ true
  unfolding change_no change_rows agreed_rows walk_rows distinct fresh
  strict_mode = not-false _ (given_none (change_rows s img t room start) refl z 2 (omega arith))

  pub long_enough : R ≤ min (shortest t) room
  unfolding change_no change_rows agreed_rows walk_rows distinct fresh
  long_enough = ltb-false (min (shortest t) room) R (given_none (change_rows s img t room start) refl z 0 (omega arith))

  pub agrees : Agreed s img t
  agrees = (agrees_exactly s.mode img s.used s.sectors s.free s.header t).0 (agreed s img t room start chain_zero)

  pub chained : Chained S img t.fat s.sectors
  chained = known s img t room start chain_zero

  sectors : Sectors (take s.sectors t.fat) ids
  sectors = walk_sectors _ start _ chained.few (lists_chain s img t room start chain_zero)

  pub linked : Linked (take s.sectors t.fat) start ids
  linked = (lists_exactly _ start _ chained.few).0 (lists_chain s img t room start chain_zero)

  hand : FitsHand S R (chain_from s img t room start).hand
  unfolding chain_from
  hand = agreed_fits s.mode img s.used s.sectors s.free s.header t agrees (omega (arith, long_enough))

  pub frees : FreesOnce s.sectors (take s.sectors t.fat) (take s.free t.frees)
  frees = agreed_frees s.mode img s.used s.sectors s.free s.header t agrees

  -- the sectors of the chain and the FREE ones are below n
  count_few : length ids ≤ s.sectors
  count_few = omega (arith, sectors.most, chained.count)

  pub id_below : (j : ℕ) → j < length ids → get_or ids j 0 < s.sectors
  id_below j h = omega (arith, sectors.within j h, chained.count)

  pub free_long : length (take s.free t.frees) ≡ s.free
  unfolding chain_from
  free_long = length-take-le s.free t.frees (omega (arith, hand.free_few, hand.frees_long, hand.disk.inside))

  pub free_at_lem : (j : ℕ) → j < s.free → get_or (take s.free t.frees) j 0 ≡ get_or t.frees j 0
  free_at_lem j h = get_or-take s.free t.frees j 0 h

  -- the entry of each sector of the chain is END or a sector
  pub next_kind : (j : ℕ) → j < length ids → (get_or (take s.sectors t.fat) (get_or ids j 0) 0 ≡ end_of_chain) ⊎ (get_or (take s.sectors t.fat) (get_or ids j 0) 0 < s.sectors)
  next_kind j h =
      ⊎_elim
      (λ (l : suc j < length ids). inr (omega (arith, linked.next j h, get_d_any ids (suc j) end_of_chain 0 l, id_below (suc j) l)))
      (λ (g : length ids ≤ suc j). inl (linked.next j h ∙ get_or-eq_default ids end_of_chain g))
      (below_or (suc j) (length ids))

  -- so no sector of the chain is FREE
  next_used : (j : ℕ) → j < length ids → get_or (take s.sectors t.fat) (get_or ids j 0) 0 ≢ free_sector
  next_used j h e = ⊎_elim (λ x. omega (arith, x, e)) (λ x. omega (arith, x, e, chained.few, chained.count)) (next_kind j h)

  ids_frees : (i j : ℕ) → i < length ids → j < s.free → get_or ids i 0 ≢ get_or t.frees j 0
  ids_frees i j hi hj e =
      next_used i hi (ap (λ (x : ℕ). get_or (take s.sectors t.fat) x 0) (e ∙ sym (free_at_lem j hj)) ∙ frees.free j (omega (arith, free_long)))

  frees_once : (i j : ℕ) → i < s.free → j < s.free → get_or t.frees i 0 ≡ get_or t.frees j 0 → i ≡ j
  frees_once i j hi hj e = frees.once i j (omega (arith, free_long)) (omega (arith, free_long)) (free_at_lem i hi ∙ e ∙ sym (free_at_lem j hj))

  -- so both together are no more than n
  all_few : length ids + s.free ≤ s.sectors
  all_few =
      apart_few s.sectors (length ids) s.free (λ i. get_or ids i 0) (λ j. get_or t.frees j 0) id_below
      (λ j h. rw (sym (free_at_lem j h)) (frees.below j (omega (arith, free_long))))
      sectors.apart frees_once ids_frees

  -- the chain in hand
  ids_long : length (padded ids room) ≡ room
  ids_long = length_padded ids room (omega (arith, count_few, chained.room, long_enough))

  pub ready_fits : FitsChain S R (chain_from s img t room start)
  unfolding chain_from
  ready_fits = record {
    fits = hand;
    ids_long = omega (arith, ids_long, long_enough);
    within = λ j h. rw (padded_front ids room j h) (id_below j h);
    few = all_few;
  }

  pub ready_apart : Apart (chain_from s img t room start)
  unfolding chain_from
  ready_apart = record {
    ids_once = λ i j hi hj e. sectors.apart i j hi hj (sym (padded_front ids room i hi) ∙ e ∙ padded_front ids room j hj);
    frees_once = frees_once;
    ids_frees = λ i j hi hj e. ids_frees i j hi hj (sym (padded_front ids room i hi) ∙ e);
  }

-- the sectors of a state whose chain is listed for a change are no more than there is room for
pub listing_room : (s : State) (lent : ℕ) (w : Result ℕ Refusal) (ids : List ℕ) → Listing s lent w ids → (c : ℕ) → w ≡ Ok c → s.sectors ≤ room_of (state_len s) lent
unfolding chain_from
listing_room s lent w ids l c e =
    rw (← l.long) (ready_fits s l.image l.tables (length l.before) l.start (ends_accepted l.listed.answer c e).0).fits.disk.inside

-- and the bytes of the chain are few
pub listing_small : (s : State) (lent : ℕ) (w : Result ℕ Refusal) (ids : List ℕ) → Listing s lent w ids → (c : ℕ) → w ≡ Ok c → {S : ℕ} → S ≡ state_len s → S * c ≤ 1073741824
unfolding chain_from
listing_small s lent w ids l c e q =
    let told = ends_accepted l.listed.answer c e in
    rw (q, told.1) (chain_bytes_small _ _ _ (ready_fits s l.image l.tables (length l.before) l.start told.0))
