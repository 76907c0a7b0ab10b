-- Each number of the calls that read is given exactly when document 01 says. Assumes nothing.
use Prim.Native.Nat.{ℕ, ◌*◌, ◌≤◌, ◌<◌}
use mathlib.Core.Path.{◌≡◌, refl, sym, ap}
use mathlib.Core.Bool.{true, not}
use mathlib.Core.List.{List, [], ◌∷◌}
use mathlib.Core.Logic.{◌≢◌, ◌↔◌}
use native.Mathlib.Omega.{arith}
use borrow.Author.Tests.{lt-ltb, ltb-true, eqb-true, eq-eqb, not-true, not-false}
use lib.Dec.{eqb, ltb}
use lib.ListN.{length}
use Rattle.lists.specs.Rows.{Row, row, test_of, ascend, by_number, Explained, Judged}
use Rattle.lists.proofs.Cases.{refuted, not_both}
use Rattle.lists.proofs.Exactly.{◌▸◌, exactly, accepted, explained_by, explained_append, tested_append}
use Rattle.agree.specs.Agree.{agreement}
use Rattle.agree.proofs.Meaning.{agrees_exactly}
use Rattle.alloc.specs.Opening.{Tables}
use Rattle.walk.specs.Walk.{Outcome, lists, refuses, walk_of}
use Rattle.walk.proofs.Exactly.{past_exactly, breaks_exactly, returns_exactly}
use Rattle.cfb.specs.Calls.{outcome_no, state_len, walked, agreed_rows, walk_rows, chain_rows, chain_no, chain_ids, read_rows, read_no}
use Rattle.cfb.specs.Causes.{Agreed, state_fat, ChainCause, ReadCause}
use Rattle.cfb.specs.declared.State.{State}
use Rattle.cfb.proofs.Agreed.{Chained, agreed_chained}

-- an outcome with a number other than 0 is that refusal
outcome_refuses : (w : Outcome) (k : ℕ) → k ≢ 0 → outcome_no w ≡ k → w ≡ refuses k
unfolding outcome_no
outcome_refuses (lists ids) k n e = absurd (n (sym e))
outcome_refuses (refuses j) k n e = ap refuses e

module _ (s : State) (img : List ℕ) (t : Tables) (room start : ℕ) where
  -- what agrees can be walked
  known : Agreed s img t → Chained (state_len s) img t.fat s.sectors
  known a = agreed_chained s.mode img s.used s.sectors s.free s.header t a

  same : (agreement s.mode img s.used s.sectors s.free s.header t ≡ true) ↔ Agreed s img t
  same = agrees_exactly s.mode img s.used s.sectors s.free s.header t

  -- the number of a walk that is refused
  number_of_lem : (k : ℕ) → walk_of (state_fat s t) start ≡ refuses k → eqb (outcome_no (walk_of (state_fat s t) start)) k ≡ true
  unfolding outcome_no
  number_of_lem k e = eq-eqb _ k (ap outcome_no e)

  -- each cause makes the test of its row hold
  pub chain_tested : (k : ℕ) → ChainCause s img t room start k → test_of (chain_rows s img t room start) k ≡ true
  unfolding test_of chain_rows agreed_rows walk_rows walked
  chain_tested k (ChainCause.short h) = lt-ltb _ _ h
  chain_tested k (ChainCause.apart n) = ap not (refuted _ (λ e. n (same.0 e)))
  chain_tested k (ChainCause.past a d h) = number_of_lem 20 ((past_exactly (state_fat s t) start (known a).few).1 (d, omega (arith, h, (known a).count)))
  chain_tested k (ChainCause.breaks a b) = number_of_lem 21 ((breaks_exactly (state_fat s t) start (known a).few).1 b)
  chain_tested k (ChainCause.returns a r) = number_of_lem 22 ((returns_exactly (state_fat s t) start (known a).few (known a).once).1 r)

  -- a row of the walk that holds is its refusal
  refused_as : (k : ℕ) → k ≢ 0 → eqb (outcome_no (walk_of (state_fat s t) start)) k ≡ true → walk_of (state_fat s t) start ≡ refuses k
  refused_as k n e = outcome_refuses _ k n (eqb-true _ k e)

  -- the first test that holds has its cause
  pub chain_told : Explained (ChainCause s img t room start) (chain_rows s img t room start)
  unfolding chain_rows agreed_rows walk_rows walked
  chain_told =
      (λ e. ChainCause.short (ltb-true _ _ e)) ▸ λ f1.
      (λ e. ChainCause.apart (λ a. not_both (same.1 a) (not-true _ e))) ▸ λ f2.
      (λ e. let a = same.0 (not-false _ f2) in let p = (past_exactly (state_fat s t) start (known a).few).0 (refused_as 20 (omega arith) e) in
      ChainCause.past a p.0 (omega (arith, p.1, (known a).count))) ▸ λ f3.
      (λ e. let a = same.0 (not-false _ f2) in ChainCause.breaks a ((breaks_exactly (state_fat s t) start (known a).few).0 (refused_as 21 (omega arith) e))) ▸ λ f4.
      (λ e. let a = same.0 (not-false _ f2) in ChainCause.returns a ((returns_exactly (state_fat s t) start (known a).few (known a).once).0 (refused_as 22 (omega arith) e))) ▸ λ f5. tt

  chain_judged : Judged by_number (chain_rows s img t room start) (ChainCause s img t room start)
  unfolding ascend chain_rows agreed_rows walk_rows
  chain_judged = record { none = refl; ascends = refl; tested = chain_tested; told = chain_told }

  -- document 01: each number of opening a chain is given exactly when its cause holds and none before it does
  pub chain_exactly : (k : ℕ) → 1 ≤ k → (chain_no s img t room start ≡ k) ↔ (ChainCause s img t room start k × ((j : ℕ) → j < k → ChainCause s img t room start j → ⊥))
  unfolding chain_no
  chain_exactly = exactly chain_judged

  -- a chain is opened exactly when nothing stands against it
  pub chain_accepts : (chain_no s img t room start ≡ 0) ↔ ((j : ℕ) → ChainCause s img t room start j → ⊥)
  unfolding chain_no
  chain_accepts = accepted chain_judged

  module _ (offset : ℕ) where
    -- the row of a read's own
    abbrev last_row : List Row
    last_row = row 23 (ltb (state_len s * length (chain_ids s t start)) offset) ∷ []

    read_tested : (k : ℕ) → ReadCause s img t room start offset k → test_of (read_rows s img t room start offset) k ≡ true
    unfolding read_rows test_of chain_rows agreed_rows walk_rows
    read_tested k (ReadCause.chain j c) = tested_append (chain_rows s img t room start) last_row k (chain_tested k c)
    read_tested k (ReadCause.beyond h) = lt-ltb _ _ h

    read_told : Explained (ReadCause s img t room start offset) (read_rows s img t room start offset)
    unfolding read_rows
    read_told =
        let last : Explained (ReadCause s img t room start offset) last_row = (λ e. ReadCause.beyond (ltb-true _ _ e)) ▸ λ f. tt in
        let first : Explained (ReadCause s img t room start offset) (chain_rows s img t room start) = explained_by (ChainCause s img t room start) (ReadCause s img t room start offset) (λ k c. ReadCause.chain k c) (chain_rows s img t room start) chain_told in
        explained_append (ReadCause s img t room start offset) (chain_rows s img t room start) last_row first last

    read_judged : Judged by_number (read_rows s img t room start offset) (ReadCause s img t room start offset)
    unfolding ascend read_rows chain_rows agreed_rows walk_rows
    read_judged = record { none = refl; ascends = refl; tested = read_tested; told = read_told }

    -- and so is each number of a read
    pub read_exactly : (k : ℕ) → 1 ≤ k → (read_no s img t room start offset ≡ k) ↔ (ReadCause s img t room start offset k × ((j : ℕ) → j < k → ReadCause s img t room start offset j → ⊥))
    unfolding read_no
    read_exactly = exactly read_judged

    -- a chain is read exactly when nothing stands against it
    pub read_accepts : (read_no s img t room start offset ≡ 0) ↔ ((j : ℕ) → ReadCause s img t room start offset j → ⊥)
    unfolding read_no
    read_accepts = accepted read_judged
