-- Each number of the calls that change is given exactly when document 01 says, in the order of its table. Assumes nothing.
use Prim.Native.Nat.{ℕ, ◌*◌, ◌≤◌, ◌<◌}
use mathlib.Core.Path.{◌≡◌, refl, ap}
use mathlib.Core.Bool.{true, not}
use mathlib.Core.List.{List, [], ◌∷◌}
use mathlib.Core.Logic.{◌≢◌, ◌↔◌}
use native.Mathlib.Omega.{arith}
use borrow.Author.Tests.{lt-ltb, ltb-true, ne_eqb, eqb-false, not-true}
use lib.Dec.{eqb, ltb}
use lib.ListN.{length, get_or}
use Rattle.lists.specs.Rows.{Row, row, test_of, ascend, Explained, Judged}
use Rattle.lists.proofs.Cases.{both_left, both_right, both_true}
use Rattle.lists.proofs.Exactly.{◌▸◌, exactly, accepted, explained_by, explained_append, tested_append}
use Rattle.consts.specs.Consts.{end_of_chain}
use Rattle.header.specs.Versions.{is_strict}
use Rattle.header.specs.declared.Validation.{Validation}
use Rattle.header.specs.declared.Validation.TheVariants.{Permissive, Strict}
use Rattle.judge.specs.Judge.{pointed}
use Rattle.judge.proofs.Judging.{pointed_by, pointer_of}
use Rattle.alloc.specs.Opening.{Tables}
use Rattle.room.specs.Needed.{resize_more, write_more}
use Rattle.cfb.specs.Calls.{state_len, agreed_rows, walk_rows, chain_rows, chain_ids}
use Rattle.cfb.specs.Causes.{state_fat, ChainCause, order, ChangeCause, ResizeCause, WriteCause}
use Rattle.cfb.specs.Changes.{start_pointed, change_rows, no_room, resize_rows, resize_no, write_rows, write_no}
use Rattle.cfb.specs.declared.State.{State}
use Rattle.cfb.proofs.Given.{chain_tested, chain_told}

-- a state that is not strict is permissive
not_strict : (m : Validation) → not (is_strict m) ≡ true → m ≡ Permissive
not_strict Permissive e = refl
not_strict Strict e = let z : ◌≡◌ {A = ℕ} 0 1 = cc in absurd (omega arith)

module _ (s : State) (img : List ℕ) (t : Tables) (room start : ℕ) where
  -- a start that some entry points at
  start_tested : (i : ℕ) → i < s.sectors → get_or (state_fat s t) i 0 ≡ start → start ≢ end_of_chain → start_pointed s t start ≡ true
  unfolding start_pointed
  start_tested i h e d = both_true (ap not (ne_eqb start end_of_chain d)) (pointed_by (state_fat s t) s.sectors start i h e)

  start_told : start_pointed s t start ≡ true → ChangeCause s img t room start 25
  unfolding start_pointed
  start_told e =
      let at = pointer_of (state_fat s t) s.sectors start (both_right (not (eqb start end_of_chain)) _ e) in
      ChangeCause.inside at.0 at.1 at.2 (eqb-false start end_of_chain (not-true _ (both_left _ (pointed (state_fat s t) s.sectors start) e)))

  change_tested : (k : ℕ) → ChangeCause s img t room start k → test_of (change_rows s img t room start) k ≡ true
  unfolding test_of change_rows chain_rows agreed_rows walk_rows
  change_tested k (ChangeCause.chain j (ChainCause.short h)) = chain_tested s img t room start 11 (ChainCause.short h)
  change_tested k (ChangeCause.chain j (ChainCause.apart n)) = chain_tested s img t room start 19 (ChainCause.apart n)
  change_tested k (ChangeCause.chain j (ChainCause.past a d h)) = chain_tested s img t room start 20 (ChainCause.past a d h)
  change_tested k (ChangeCause.chain j (ChainCause.breaks a b)) = chain_tested s img t room start 21 (ChainCause.breaks a b)
  change_tested k (ChangeCause.chain j (ChainCause.returns a r)) = chain_tested s img t room start 22 (ChainCause.returns a r)
  change_tested k (ChangeCause.forgiving e) = ap (λ (m : Validation). not (is_strict m)) e
  change_tested k (ChangeCause.inside i h e d) = start_tested i h e d

  change_told : Explained (ChangeCause s img t room start) (change_rows s img t room start)
  unfolding change_rows chain_rows agreed_rows walk_rows
  change_told =
      let told = chain_told s img t room start in
      (λ e. ChangeCause.chain 11 (told.0 e)) ▸ λ f11.
      (λ e. ChangeCause.chain 19 ((told.1 f11).0 e)) ▸ λ f19.
      (λ e. ChangeCause.forgiving (not_strict s.mode e)) ▸ λ f26.
      (λ e. ChangeCause.chain 20 (((told.1 f11).1 f19).0 e)) ▸ λ f20.
      (λ e. ChangeCause.chain 21 ((((told.1 f11).1 f19).1 f20).0 e)) ▸ λ f21.
      (λ e. ChangeCause.chain 22 (((((told.1 f11).1 f19).1 f20).1 f21).0 e)) ▸ λ f22.
      start_told ▸ λ f25. tt

  module _ (len : ℕ) where
    abbrev resize_row : List Row
    resize_row = row 24 (no_room s (length img) (resize_more (state_len s) (length (chain_ids s t start)) len)) ∷ []

    resize_tested : (k : ℕ) → ResizeCause s img t room start len k → test_of (resize_rows s img t room start len) k ≡ true
    unfolding resize_rows no_room test_of change_rows agreed_rows walk_rows
    resize_tested k (ResizeCause.change j c) = tested_append (change_rows s img t room start) resize_row k (change_tested k c)
    resize_tested k (ResizeCause.full h) = lt-ltb _ _ h

    resize_told : Explained (ResizeCause s img t room start len) (resize_rows s img t room start len)
    unfolding resize_rows no_room
    resize_told =
        let last : Explained (ResizeCause s img t room start len) resize_row = (λ e. ResizeCause.full (ltb-true _ _ e)) ▸ λ f. tt in
        let first : Explained (ResizeCause s img t room start len) (change_rows s img t room start) =
        explained_by (ChangeCause s img t room start) (ResizeCause s img t room start len) (λ k c. ResizeCause.change k c) (change_rows s img t room start) change_told in
        explained_append (ResizeCause s img t room start len) (change_rows s img t room start) resize_row first last

    resize_judged : Judged order (resize_rows s img t room start len) (ResizeCause s img t room start len)
    unfolding ascend order resize_rows change_rows agreed_rows walk_rows
    resize_judged = record { none = refl; ascends = refl; tested = resize_tested; told = resize_told }

    -- document 01: each number of a resize is given exactly when its cause holds and none before it in the table does
    pub resize_exactly : (k : ℕ) → 1 ≤ k → (resize_no s img t room start len ≡ k) ↔ (ResizeCause s img t room start len k × ((j : ℕ) → order j < order k → ResizeCause s img t room start len j → ⊥))
    unfolding resize_no
    resize_exactly = exactly resize_judged

    -- a chain is resized exactly when nothing stands against it
    pub resize_accepts : (resize_no s img t room start len ≡ 0) ↔ ((j : ℕ) → ResizeCause s img t room start len j → ⊥)
    unfolding resize_no
    resize_accepts = accepted resize_judged

  module _ (offset bytes : ℕ) where
    abbrev write_row : List Row
    write_row = row 23 (ltb (state_len s * length (chain_ids s t start)) offset) ∷ row 24 (no_room s (length img) (write_more (state_len s) (length (chain_ids s t start)) offset bytes)) ∷ []

    write_tested : (k : ℕ) → WriteCause s img t room start offset bytes k → test_of (write_rows s img t room start offset bytes) k ≡ true
    unfolding write_rows no_room test_of change_rows agreed_rows walk_rows
    write_tested k (WriteCause.change j c) = tested_append (change_rows s img t room start) write_row k (change_tested k c)
    write_tested k (WriteCause.beyond h) = lt-ltb _ _ h
    write_tested k (WriteCause.full h) = lt-ltb _ _ h

    write_told : Explained (WriteCause s img t room start offset bytes) (write_rows s img t room start offset bytes)
    unfolding write_rows no_room
    write_told =
        let last : Explained (WriteCause s img t room start offset bytes) write_row = (λ e. WriteCause.beyond (ltb-true _ _ e)) ▸ λ f23. (λ e. WriteCause.full (ltb-true _ _ e)) ▸ λ f24. tt in
        let first : Explained (WriteCause s img t room start offset bytes) (change_rows s img t room start) =
        explained_by (ChangeCause s img t room start) (WriteCause s img t room start offset bytes) (λ k c. WriteCause.change k c) (change_rows s img t room start) change_told in
        explained_append (WriteCause s img t room start offset bytes) (change_rows s img t room start) write_row first last

    write_judged : Judged order (write_rows s img t room start offset bytes) (WriteCause s img t room start offset bytes)
    unfolding ascend order write_rows change_rows agreed_rows walk_rows
    write_judged = record { none = refl; ascends = refl; tested = write_tested; told = write_told }

    -- and so is each number of a write
    pub write_exactly : (k : ℕ) → 1 ≤ k
        → (write_no s img t room start offset bytes ≡ k) ↔ (WriteCause s img t room start offset bytes k × ((j : ℕ) → order j < order k → WriteCause s img t room start offset bytes j → ⊥))
    unfolding write_no
    write_exactly = exactly write_judged

    -- a chain is written exactly when nothing stands against it
    pub write_accepts : (write_no s img t room start offset bytes ≡ 0) ↔ ((j : ℕ) → WriteCause s img t room start offset bytes j → ⊥)
    unfolding write_no
    write_accepts = accepted write_judged
