-- The id list that an accepted change leaves: the chain's ids, and zeros behind them (document 01, "Calls on a chain"). Assumes nothing.
use Prim.Native.Nat.{ℕ, zero, suc, ◌≤◌, ◌<◌}
use mathlib.Core.Path.{◌≡◌, ◌∙◌}
use mathlib.Core.List.{List}
use mathlib.Core.Logic.{⊎_elim}
use native.Mathlib.Omega.{arith}
use lib.ListN.{length, get_or, take, length-take}
use lib.Seq.{get_or-set_other}
use Rattle.lists.proofs.Cases.{below_or}
use Rattle.fat.specs.Lists.{ceil}
use Rattle.alloc.specs.Opening.{Tables}
use Rattle.room.specs.Needed.{resize_more, write_more}
use Rattle.hand.specs.Hand.{Chain, taken_id, extend_one, extend}
use Rattle.moves.specs.Change.{shrink, with_image, resized, written, edited}
use Rattle.moves.specs.declared.change.Edit.{Edit}
use Rattle.moves.specs.declared.change.Edit.TheVariants.{Write, Resize}
use Rattle.moves.proofs.Extending.{extend_none, extend_more}
use Rattle.moves.proofs.Shrinking.{shrink_none, shrink_some}
use Rattle.moves.proofs.Changing.{resized_more, resized_fewer}
use Rattle.cfb.specs.Calls.{state_len, chain_ids}
use Rattle.cfb.specs.Changes.{chain_from}
use Rattle.cfb.specs.declared.State.{State}
use Rattle.cfb.proofs.Refusing.{padded_past}

-- zeros stand behind the ids of a chain in hand
abbrev pub Cleared : Chain → Type 0
Cleared c = (i : ℕ) → c.count ≤ i → get_or c.ids i 0 ≡ 0

one_cleared : (S : ℕ) (c : Chain) → Cleared c → Cleared (extend_one S c)
unfolding extend_one
one_cleared S c k i l = get_or-set_other c.ids c.count i (taken_id S c.hand) 0 (omega (arith, l)) ∙ k i (omega (arith, l))

extend_cleared : (S m : ℕ) (c : Chain) → Cleared c → Cleared (extend S c m)
extend_cleared S zero c k = rw extend_none k
extend_cleared S (suc m) c k = rw extend_more (extend_cleared S m (extend_one S c) (one_cleared S c k))

-- the front of a list is no longer than was asked for
take_short : (m : ℕ) (xs : List ℕ) → length (take m xs) ≤ m
take_short m xs = simp length-take (omega arith)

shrink_cleared : (S m : ℕ) (c : Chain) → Cleared c → Cleared (shrink S c m)
shrink_cleared S m c k =
    ⊎_elim
    (λ (u : m < c.count). rw (shrink_some S c m u) (λ i l. padded_past (take m c.ids) (length c.ids) i (omega (arith, l, take_short m c.ids))))
    (λ (g : c.count ≤ m). rw (shrink_none S c m g) k)
    (below_or m c.count)

with_cleared : (c : Chain) (img : List ℕ) → Cleared c → Cleared (with_image c img)
unfolding with_image
with_cleared c img k i l = k i l

-- document 01: a resize and a write keep it so,
resized_cleared : (S len : ℕ) (c : Chain) → Cleared c → Cleared (resized S c len)
resized_cleared S len c k =
    ⊎_elim
    (λ (l : c.count < ceil len S). rw (resized_more S c len l) (extend_cleared S (resize_more S c.count len) c k))
    (λ (g : ceil len S ≤ c.count). rw (resized_fewer S c len g) (with_cleared (shrink S c (ceil len S)) _ (shrink_cleared S (ceil len S) c k)))
    (below_or c.count (ceil len S))

written_cleared : (S offset : ℕ) (buf : List ℕ) (c : Chain) → Cleared c → Cleared (written S c offset buf)
unfolding written with_image
written_cleared S offset buf c k = extend_cleared S (write_more S c.count offset (length buf)) c k

-- and so does any edit
edited_cleared : (S : ℕ) (e : Edit) (buf : List ℕ) (c : Chain) → Cleared c → Cleared (edited S c e buf)
edited_cleared S (Write offset) buf c k = written_cleared S offset buf c k
edited_cleared S (Resize len) buf c k = resized_cleared S len c k

before_cleared : (s : State) (img : List ℕ) (t : Tables) (room start : ℕ) → Cleared (chain_from s img t room start)
unfolding chain_from
before_cleared s img t room start i l = padded_past (chain_ids s t start) room i l

-- document 01: on success the id list holds the chain's ids after the call, then zeros
pub edit_cleared : (s : State) (img : List ℕ) (t : Tables) (room start : ℕ) (e : Edit) (buf : List ℕ) → Cleared (edited (state_len s) (chain_from s img t room start) e buf)
edit_cleared s img t room start e buf = edited_cleared (state_len s) e buf (chain_from s img t room start) (before_cleared s img t room start)
