-- The chain that an edit names is still the same chain after it: it keeps its first sectors, and those that it has no more are FREE. Assumes nothing.
use Prim.Native.Nat.{ℕ, ◌+◌, ◌-◌, ◌≤◌, ◌<◌}
use mathlib.Core.Path.{◌≡◌, refl, sym, ◌∙◌, ap}
use mathlib.Core.List.{List}
use mathlib.Core.Logic.{⊎_elim}
use native.Mathlib.Omega.{arith}
use lib.ListN.{length, get_or, take}
use lib.Seq.{get_or-take, length-take-le}
use Rattle.lists.proofs.Cases.{below_or}
use Rattle.consts.specs.Consts.{end_of_chain, free_sector}
use Rattle.fat.specs.Lists.{ceil, room_of}
use Rattle.alloc.specs.Opening.{Tables}
use Rattle.room.specs.Needed.{resize_more, write_more}
use Rattle.walk.specs.Walk.{Outcome, lists, refuses}
use Rattle.walk.proofs.Chains.{get_d_any, lists_exactly}
use Rattle.hand.specs.Hand.{Chain}
use Rattle.hand.specs.Fits.{FitsChain}
use Rattle.moves.specs.Change.{with_image, resized, written, edited, FitsResize, FitsWrite, FitsEdit}
use Rattle.moves.specs.declared.change.Edit.{Edit}
use Rattle.moves.specs.declared.change.Edit.TheVariants.{Write, Resize}
use Rattle.moves.proofs.Shrinking.{shrink_free}
use Rattle.moves.proofs.Changing.{resized_more, resized_fewer, resize_shrink, resized_fits, resized_count, written_count}
use Rattle.moves.proofs.Editing.{edit_write, edit_resize}
use Rattle.edits.proofs.Edits.{ids_stay, ids_kept, resized_freed}
use Rattle.cfb.specs.Calls.{state_len, walked, outcome_ids, chain_ids}
use Rattle.cfb.specs.Changes.{change_no, edit_no, chain_from}
use Rattle.cfb.specs.declared.State.{State}
use Rattle.cfb.proofs.Refusing.{padded_front}
use Rattle.promises.specs.Whole.{Formed, fat_held}
use Rattle.promises.proofs.Base.{roles_of}
use Rattle.promises.proofs.Graph.{held_length}
use Rattle.promises.proofs.Calls.{edit_fits, edit_forms}

-- document 01, Resize: the chain keeps its first sectors, as many as it has before and after
pub resized_stay : (S R len : ℕ) (c : Chain) → FitsResize S R len c → (p : ℕ) → p < c.count → p < (resized S c len).count → get_or (resized S c len).ids p 0 ≡ get_or c.ids p 0
unfolding with_image
resized_stay S R len c f p a b =
    let q : p < ceil len S = omega (arith, b, resized_count S R len c f) in
    ⊎_elim
    (λ (l : c.count < ceil len S). rw (resized_more S c len l) (ids_stay S R (resize_more S c.count len) c f.fits p a))
    (λ (g : ceil len S ≤ c.count). rw (resized_fewer S c len g) (ids_kept S R (ceil len S) c (resize_shrink S R len c f (ceil len S) g) p q))
    (below_or c.count (ceil len S))

resized_free : (S R len : ℕ) (c : Chain) (f : FitsResize S R len c) → ceil len S ≤ c.count → (resized S c len).hand.free ≡ c.hand.free + (c.count - ceil len S)
unfolding with_image
resized_free S R len c f g = rw (resized_fewer S c len g) (shrink_free S R (ceil len S) c (resize_shrink S R len c f (ceil len S) g))

-- and the sectors that it has no more are FREE
pub resized_gone : (S R len : ℕ) (c : Chain) → FitsResize S R len c → Formed S (resized S c len).hand → (p : ℕ) → p < c.count → (resized S c len).count ≤ p
    → get_or (resized S c len).hand.disk.fat (get_or c.ids p 0) 0 ≡ free_sector
resized_gone S R len c f w p a b =
    let e = resized_count S R len c f in
    let i : ℕ = p - ceil len S in
    let under : i < c.count - ceil len S = omega (arith, a, b, e) in
    let fewer : ceil len S ≤ c.count = omega (arith, a, b, e) in
    let place : ceil len S + i ≡ p = omega (arith, b, e) in
    let n : ℕ = (resized S c len).hand.free in
    let many : n ≡ c.hand.free + (c.count - ceil len S) = resized_free S R len c f fewer in
    let g = resized_fits S R len c f in
    let j : ℕ = c.hand.free + i in
    let lower : j < n = omega (arith, many, under) in
    let long : length (take n (resized S c len).hand.frees) ≡ n = length-take-le n (resized S c len).hand.frees (omega (arith, g.fits.free_few, g.fits.disk.inside, g.fits.frees_long)) in
    let within : j < length (take n (resized S c len).hand.frees) = omega (arith, long, lower) in
    let listed : get_or (take n (resized S c len).hand.frees) j 0 ≡ get_or c.ids p 0 =
    get_or-take n (resized S c len).hand.frees j 0 lower ∙ resized_freed S R len c f i under ∙ ap (λ (k : ℕ). get_or c.ids k 0) place in
    let below : get_or c.ids p 0 < (resized S c len).hand.disk.sectors = rw listed at (w.frees.below j within) in
    sym (get_or-take (resized S c len).hand.disk.sectors (resized S c len).hand.disk.fat (get_or c.ids p 0) 0 below)
    ∙ ap (λ (x : ℕ). get_or (fat_held (resized S c len).hand.disk) x 0) (sym listed)
    ∙ w.frees.free j within

-- document 01, Write: it keeps all of its sectors
pub written_stay : (S R offset : ℕ) (buf : List ℕ) (c : Chain) → FitsWrite S R offset (length buf) c → (p : ℕ) → p < c.count → get_or (written S c offset buf).ids p 0 ≡ get_or c.ids p 0
unfolding written with_image
written_stay S R offset buf c f p a = ids_stay S R (write_more S c.count offset (length buf)) c f.fits p a

-- either, by the edit: the chain keeps its first sectors,
edited_stay : (S R : ℕ) (e : Edit) (buf : List ℕ) (c : Chain) → FitsEdit S R e (length buf) c → (p : ℕ) → p < c.count → p < (edited S c e buf).count
    → get_or (edited S c e buf).ids p 0 ≡ get_or c.ids p 0
edited_stay S R (Write offset) buf c f p a b = written_stay S R offset buf c (edit_write S R offset (length buf) c f) p a
edited_stay S R (Resize len) buf c f p a b = resized_stay S R len c (edit_resize S R len (length buf) c f) p a b

-- and the sectors that it has no more, of which a write leaves none, are FREE
edited_gone : (S R : ℕ) (e : Edit) (buf : List ℕ) (c : Chain) → FitsEdit S R e (length buf) c → Formed S (edited S c e buf).hand → (p : ℕ) → p < c.count → (edited S c e buf).count ≤ p
    → get_or (edited S c e buf).hand.disk.fat (get_or c.ids p 0) 0 ≡ free_sector
edited_gone S R (Write offset) buf c f w p a b = absurd (omega (arith, a, b, written_count S c offset buf))
edited_gone S R (Resize len) buf c f w p a b = resized_gone S R len c (edit_resize S R len (length buf) c f) w p a b

module _ (s : State) (img : List ℕ) (t : Tables) (room start : ℕ) where
  abbrev before : Chain
  before = chain_from s img t room start

  before_at : (p : ℕ) → p < length (chain_ids s t start) → get_or before.ids p 0 ≡ get_or (chain_ids s t start) p 0
  unfolding chain_from
  before_at p a = padded_front (chain_ids s t start) room p a

  before_count : before.count ≡ length (chain_ids s t start)
  unfolding chain_from
  before_count = refl

  -- an accepted edit
  module _ (e : Edit) (buf : List ℕ) (z : edit_no s img t room start e (length buf) ≡ 0) where
    abbrev after : Chain
    after = edited (state_len s) before e buf

    -- the chain that it names keeps its first sectors, as many as it has before and after,
    pub edit_stays : (p : ℕ) → p < length (chain_ids s t start) → p < after.count → get_or after.ids p 0 ≡ get_or (chain_ids s t start) p 0
    edit_stays p a b = edited_stay (state_len s) _ e buf before (edit_fits s img t room start e buf z) p (rw before_count a) b ∙ before_at p a

    -- and those that it has no more are FREE
    pub edit_gone : (p : ℕ) → p < length (chain_ids s t start) → after.count ≤ p → get_or after.hand.disk.fat (get_or (chain_ids s t start) p 0) 0 ≡ free_sector
    edit_gone p a b =
        ap (λ (x : ℕ). get_or after.hand.disk.fat x 0) (sym (before_at p a))
        ∙ edited_gone (state_len s) _ e buf before (edit_fits s img t room start e buf z) (edit_forms s img t room start e buf z) p (rw before_count a) b

-- ids that are listed were listed by a walk
listed_walk : (o : Outcome) → 0 < length (outcome_ids o) → o ≡ lists (outcome_ids o)
unfolding outcome_ids
listed_walk (lists ids) some = refl
listed_walk (refuses k) some = absurd (omega (arith, some))

-- document 01, Walk: a chain of some sectors begins with its start
pub first_named : (s : State) (img : List ℕ) (t : Tables) (room start : ℕ) → change_no s img t room start ≡ 0 → 0 < length (chain_ids s t start) → get_or (chain_ids s t start) 0 0 ≡ start
unfolding chain_from chain_ids walked
first_named s img t room start z some =
    let f : FitsChain (state_len s) (room_of (state_len s) (length img)) (chain_from s img t room start) = (roles_of s img t room start z).fits in
    get_d_any (chain_ids s t start) 0 0 end_of_chain some
    ∙ ((lists_exactly (take s.sectors t.fat) start (chain_ids s t start) (omega (arith, held_length (state_len s) _ (chain_from s img t room start) f, f.fits.disk.inside, f.fits.disk.few))).0
    (listed_walk (walked s t start) some)).first
