-- A change that nothing before 23 stands against has well-formed tables and a held chain in hand; the ids of a held chain are the walk from its start. Assumes nothing.
use Prim.Native.Nat.{ℕ, ◌<◌}
use mathlib.Core.Path.{◌≡◌, refl, ◌∙◌, sym, ap}
use mathlib.Core.Bool.{not, false}
use mathlib.Core.List.{List}
use mathlib.Core.Logic.{⊎_elim, ◌≢◌}
use native.Mathlib.Omega.{arith}
use borrow.Author.Tests.{ne_eqb}
use lib.ListN.{length, get_or, take, get_or-eq_default}
use lib.Seq.{take_at}
use Rattle.lists.specs.Rows.{distinct, fresh}
use Rattle.lists.proofs.Cases.{same_or, both_true, not_both}
use Rattle.lists.proofs.Rows.{given_none}
use Rattle.consts.specs.Consts.{end_of_chain}
use Rattle.judge.specs.Judge.{marks_of}
use Rattle.judge.proofs.Judging.{pointed_by}
use Rattle.alloc.specs.Opening.{Tables, padded}
use Rattle.alloc.proofs.Filled.{front_padded, length_marks}
use Rattle.walk.specs.Steps.{Linked, Unpointed}
use Rattle.walk.specs.Walk.{lists, walk_of}
use Rattle.walk.proofs.Chains.{get_d_any, lists_exactly}
use Rattle.hand.specs.Hand.{Chain}
use Rattle.hand.specs.Fits.{FitsChain}
use Rattle.moves.specs.Change.{ids_of}
use Rattle.moves.proofs.Changing.{chain_listed, chain_id}
use Rattle.cfb.specs.Calls.{state_len, agreed_rows, walk_rows, chain_ids}
use Rattle.cfb.specs.Changes.{start_pointed, change_rows, change_no, chain_from, start_in}
use Rattle.cfb.specs.declared.State.{State}
use Rattle.cfb.proofs.Agreed.{agreed_marks}
use Rattle.cfb.proofs.Ending.{start_none, start_some}
use Rattle.cfb.proofs.Ready.{agrees, strict_mode, chained, frees, id_below, linked}
use Rattle.cfb.proofs.Refusing.{padded_front, padded_past}
use Rattle.promises.specs.Tails.{Blank}
use Rattle.promises.specs.Whole.{Formed, Held, fat_held}
use Rattle.promises.proofs.Base.{agreed_formed}
use Rattle.promises.proofs.Graph.{held_length}

-- a chain is one from its own first id
linked_own : (fat ids own : List ℕ) (start : ℕ) → own ≡ ids → Linked fat start ids → Linked fat (get_or own 0 end_of_chain) own
linked_own fat ids own start e l = rw e (record { first = refl; within = l.within; next = l.next })

-- the chain in hand before a change
module _ (s : State) (img : List ℕ) (t : Tables) (room start : ℕ) where
  pub before_ids : ids_of (chain_from s img t room start) ≡ chain_ids s t start
  unfolding ids_of chain_from padded
  before_ids = take_at (chain_ids s t start) _ (length (chain_ids s t start)) refl

  module _ (z : change_no s img t room start ≡ 0) where
    abbrev fat : List ℕ
    fat = take s.sectors t.fat

    -- document 01, 25: no entry is the start
    not_pointed : start_pointed s t start ≡ false
    unfolding change_no change_rows agreed_rows walk_rows distinct fresh
    not_pointed = given_none (change_rows s img t room start) refl z 6 (omega arith)

    start_unpointed : start ≢ end_of_chain → Unpointed fat start
    unfolding start_pointed
    start_unpointed d = record {
      none = λ i l e. not_both (both_true (ap not (ne_eqb start end_of_chain d)) (pointed_by fat s.sectors start i (omega (arith, l, (chained s img t room start z).count)) e)) not_pointed;
    }

    first_start : 0 < length (chain_ids s t start) → get_or (chain_ids s t start) 0 0 ≡ start
    first_start p = get_d_any (chain_ids s t start) 0 0 end_of_chain p ∙ (linked s img t room start z).first

    start_low : 0 < length (chain_ids s t start) → start ≢ end_of_chain
    start_low p = omega (arith, first_start p, id_below s img t room start z 0 p, (chained s img t room start z).few, (chained s img t room start z).count)

    unpointed_own : (v : ℕ) → v ≡ start → start ≢ end_of_chain → Unpointed fat v
    unpointed_own v e d = rw e (start_unpointed d)

    -- MS-CFB 2.3: it is one of the FAT's, and nothing points at its first sector
    pub held_of : Held (chain_from s img t room start)
    unfolding chain_from
    held_of = record {
      linked = linked_own fat (chain_ids s t start) (ids_of (chain_from s img t room start)) start before_ids (linked s img t room start z);
      unpointed = λ p. unpointed_own _ (padded_front (chain_ids s t start) room 0 p ∙ first_start p) (start_low p);
    }

    -- document 01, 12 and 14 to 18: and the tables are well formed
    pub formed_of : Formed (state_len s) (chain_from s img t room start).hand
    unfolding chain_from
    formed_of = record {
      tables = agreed_formed s.mode img s.used s.sectors s.free s.header t (agrees s img t room start z) (strict_mode s img t room start z);
      marks =
          front_padded _ t.marks s.sectors (length t.marks) (agreed_marks s.mode img s.used s.sectors s.free s.header t (agrees s img t room start z))
          (length_marks s.sectors fat);
      frees = frees s img t room start z;
    }

    -- document 01, 19: and the marks are zero past those of the sectors
    pub blank_of : Blank (chain_from s img t room start).hand
    unfolding chain_from
    blank_of i l =
        ap (λ (xs : List ℕ). get_or xs i 0) (agreed_marks s.mode img s.used s.sectors s.free s.header t (agrees s img t room start z))
        ∙ padded_past (marks_of s.sectors fat) (length t.marks) i (omega (arith, l, length_marks s.sectors fat))

-- document 01, Walk: the ids of a held chain are what the walk from its start lists
pub held_walk : (S R : ℕ) (c : Chain) → FitsChain S R c → Held c → walk_of (fat_held c.hand.disk) (start_in c.ids c.count) ≡ lists (ids_of c)
held_walk S R c f h =
    ap (walk_of (fat_held c.hand.disk)) (sym from)
    ∙ (lists_exactly (fat_held c.hand.disk) (get_or (ids_of c) 0 end_of_chain) (ids_of c)
    (omega (arith, held_length S R c f, f.fits.disk.inside, f.fits.disk.few))).1 h.linked
  where
    from : get_or (ids_of c) 0 end_of_chain ≡ start_in c.ids c.count
    from =
        ⊎_elim
        (λ (e : c.count ≡ 0). get_or-eq_default (ids_of c) end_of_chain (omega (arith, e, chain_listed S R c f)) ∙ start_none c.ids c.count e)
        (λ (d : c.count ≢ 0).
        get_d_any (ids_of c) 0 end_of_chain 0 (omega (arith, d, chain_listed S R c f)) ∙ chain_id S R c f 0 (omega (arith, d)) ∙ start_some c.ids c.count d)
        (same_or c.count 0)
