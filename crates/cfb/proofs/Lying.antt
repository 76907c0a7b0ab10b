-- A chain that is listed lies in its image, so its bytes can be read. Assumes nothing.
use Prim.Native.Nat.{ℕ, ◌*◌, ◌≤◌, ◌<◌}
use mathlib.Core.Path.{◌≡◌, refl, sym, ◌∙◌, ap}
use mathlib.Core.Bool.{true, false}
use mathlib.Core.List.{List, []}
use native.Mathlib.Omega.{arith}
use borrow.Author.Tests.{not-false, eqb-false}
use lib.Dec.{eqb}
use lib.ListN.{length, take, length-take}
use Rattle.lists.specs.Rows.{distinct, fresh}
use Rattle.lists.proofs.Rows.{given_none}
use Rattle.alloc.specs.Opening.{Tables}
use Rattle.agree.specs.Agree.{agreement}
use Rattle.walk.specs.Walk.{Outcome, lists, refuses, walk_of}
use Rattle.walk.proofs.Exactly.{never_spent}
use Rattle.walk.proofs.Chains.{walk_sectors}
use Rattle.chain.specs.Bytes.{Lies, Readable, ReadLeft}
use Rattle.chain.proofs.Bytes.{sectors_lie}
use Rattle.cfb.specs.Calls.{outcome_no, outcome_ids, state_len, walked, agreed_rows, walk_rows, chain_rows, chain_no, chain_ids}
use Rattle.agree.proofs.Meaning.{agrees_exactly}
use Rattle.std.specs.Prelude.{Result, Ok}
use Rattle.consts.specs.declared.refusal.Refusal.{Refusal}
use Rattle.consts.proofs.Refusals.{ends_accepted}
use Rattle.cfb.specs.Listed.{ChainListed}
use Rattle.cfb.specs.declared.State.{State}
use Rattle.cfb.proofs.Agreed.{Chained, agreed_chained}
use Rattle.cfb.proofs.Answering.{listed_front, chain_done}
use Rattle.cfb.proofs.Calling.{Number, is_0, is_20, is_21, is_22, walk_number}

-- an outcome of number 0 that is not a spent walk lists its ids
outcome_lists : (w : Outcome) → outcome_no w ≡ 0 → (w ≡ refuses 0 → ⊥) → w ≡ lists (outcome_ids w)
unfolding outcome_no outcome_ids
outcome_lists (lists ids) z n = refl
outcome_lists (refuses k) z n = absurd (n (ap refuses z))

-- rows 20 to 22 are passed only by the number 0
passed_0 : (w : ℕ) → Number w → eqb w 20 ≡ false → eqb w 21 ≡ false → eqb w 22 ≡ false → w ≡ 0
passed_0 _ is_0 a b c = refl
passed_0 _ is_20 a b c = absurd (eqb-false 20 20 a refl)
passed_0 _ is_21 a b c = absurd (eqb-false 21 21 b refl)
passed_0 _ is_22 a b c = absurd (eqb-false 22 22 c refl)

module _ (s : State) (img : List ℕ) (t : Tables) (room start : ℕ) (z : chain_no s img t room start ≡ 0) where
  -- state and tables agree
  pub agreed : agreement s.mode img s.used s.sectors s.free s.header t ≡ true
  unfolding chain_no chain_rows agreed_rows walk_rows distinct fresh
  agreed = not-false _ (given_none (chain_rows s img t room start) refl z 1 (omega arith))

  pub known : Chained (state_len s) img t.fat s.sectors
  known = agreed_chained _ img _ _ _ _ t ((agrees_exactly s.mode img s.used s.sectors s.free s.header t).0 agreed)

  -- the walk is not refused
  number_0 : outcome_no (walk_of (take s.sectors t.fat) start) ≡ 0
  unfolding chain_no chain_rows agreed_rows walk_rows walked distinct fresh
  number_0 =
      let none = given_none (chain_rows s img t room start) refl z in
      passed_0 _ (walk_number _ start known.few known.once) (none 2 (omega arith)) (none 3 (omega arith)) (none 4 (omega arith))

  -- the walk lists the chain
  pub lists_chain : walk_of (take s.sectors t.fat) start ≡ lists (chain_ids s t start)
  unfolding chain_ids walked
  lists_chain = outcome_lists _ number_0 (never_spent _ start known.few known.once)

  pub chain_lies : Lies (state_len s) (length img) (chain_ids s t start)
  chain_lies =
      let own = walk_sectors _ start _ known.few lists_chain in
      sectors_lie (state_len s) (length img) (take s.sectors t.fat) (chain_ids s t start) known.holds own.most own.within

-- what is said of a chain by the length of its sectors is said by an equal one
pub read_own : {S S' : ℕ} {img ids buf buf' : List ℕ} {offset bytes : ℕ} → S ≡ S' → ReadLeft S img ids offset buf bytes buf' → ReadLeft S' img ids offset buf bytes buf'
read_own e r = rw e at r

pub past_own : (c : ℕ) {S S' offset : ℕ} → S ≡ S' → S * c < offset → S' * c < offset
past_own c e h = rw e at h

pub within_own : (c : ℕ) {S S' offset : ℕ} → S ≡ S' → offset ≤ S * c → offset ≤ S' * c
within_own c e h = rw e at h

module _ (s : State) (img : List ℕ) (t : Tables) (ids : List ℕ) (start : ℕ) (w : Result ℕ Refusal) (ids' : List ℕ) (l : ChainListed s img t ids start w ids') (c : ℕ) (e : w ≡ Ok c) where
  -- the ids stand at the front of the list
  front : take c ids' ≡ chain_ids s t start
  front = listed_front s img t ids start w ids' l 0 [] c e

  done : (chain_no s img t (length ids) start ≡ 0) × (c ≡ length (chain_ids s t start))
  done = chain_done s img t ids start w ids' l 0 [] c e

  pub listed_count : length (take c ids') ≡ c
  listed_count = ap length front ∙ sym done.1

  pub listed_within : c ≤ length ids'
  listed_within = omega (arith, listed_count, length-take c ids')

  lies : Lies (state_len s) (length img) (take c ids')
  lies = rw front (chain_lies s img t (length ids) start done.0)

  -- all its bytes are fewer than the image's
  pub listed_bytes : {S : ℕ} → S ≡ state_len s → S * c ≤ length img
  listed_bytes q = rw (q, ← listed_count) lies.all

  -- it can be read from an offset that is not past its end
  pub listed_readable : {S offset : ℕ} → S ≡ state_len s → offset ≤ S * c → Readable S (length img) (take c ids') offset
  listed_readable {S} {offset} q h = rw q (record { lies = lies; seeks = rw listed_count (within_own c q h) })
