-- The loop of `walk`: where it stands, a turn of it, and what each way out leaves. Assumes nothing.
use Prim.Native.Nat.{ℕ, suc, ◌+◌, ◌≤◌, ◌<◌}
use mathlib.Core.Path.{◌≡◌, refl, ◌∙◌, sym, ap}
use mathlib.Core.Bool.{true, false}
use mathlib.Core.List.{List, ◌++◌}
use mathlib.Core.Logic.{◌≢◌}
use native.Mathlib.Omega.{arith}
use Rattle.std.specs.Prelude.{Result, Ok, Err}
use native.Mathlib.Numerals.{add-one}
use lib.ListN.{length, get_or, set, take, drop}
use lib.Seq.{take_at, drop_at}
use Rattle.lists.specs.Lists.{tab}
use Rattle.lists.proofs.Tab.{length_tab, filled_none, filled_more, length_filled}
use Rattle.consts.specs.Consts.{max_regular, end_of_chain}
use Rattle.consts.specs.Refusals.{number_of}
use Rattle.consts.specs.declared.refusal.Refusal.{Refusal}
use Rattle.consts.specs.declared.refusal.Refusal.TheVariants.{BadStart, BrokenChain, Loop}
use Rattle.walk.specs.Walk.{Outcome, lists, refuses, leads, walk_of}
use Rattle.walk.specs.Walked.{StandsFor, Walkable, WalkLeft}
use Rattle.walk.specs.Steps.{stepped}
use Rattle.walk.proofs.Steps.{stepped_next, stepped_none, Going, going_none, going_more, going_most}
use Rattle.walk.proofs.Walking.{leads_true, leads_false, walk_past, walk_back, walk_bad, walk_ends}

-- what is left where the walk's outcome is known
left_refuses : (fat : List ℕ) (start : ℕ) (before after : List ℕ) (e : Refusal) → walk_of fat start ≡ refuses (number_of e) → WalkLeft fat start before (Err e) after
left_refuses fat start before after e w =
    record { answer = rw w (e, refl, refl); front = λ ids o. let z : ◌≡◌ {A = ℕ} 0 1 = cc in absurd (omega arith) }

left_lists : (fat : List ℕ) (start : ℕ) (before after ids : List ℕ) (k : ℕ) → walk_of fat start ≡ lists ids → length ids ≡ k → after ≡ ids ++ drop k before
    → WalkLeft fat start before (Ok k) after
left_lists fat start before after ids k w e a =
    record { answer = rw w (ap Ok (sym e)); front = λ l h. let same : l ≡ ids = cc in rw (same, e) a }

-- where the loop stands: count steps are taken and listed, and id, where they lead, is END or a sector and not the start
pub record Walks (fat : List ℕ) (start : ℕ) (before ids : List ℕ) (id count : ℕ) : Type 0 where
  pub asks : Walkable fat before
  pub here : id ≡ stepped fat start count
  pub going : Going fat start count
  pub onward : leads (length fat) id ≡ true
  pub fresh : 0 < count → id ≢ start
  pub list : ids ≡ tab (stepped fat start) count ++ drop count before

pub walks_begun : (fat : List ℕ) (start : ℕ) (before : List ℕ) → Walkable fat before → leads (length fat) start ≡ true → Walks fat start before before start 0
walks_begun fat start before a t = record {
  asks = a;
  here = sym (stepped_none fat start);
  going = going_none;
  onward = t;
  fresh = λ pos. absurd (omega arith);
  list = filled_none (stepped fat start) before;
}

-- the start is neither END nor a sector
pub walks_past : (fat : List ℕ) (start : ℕ) (before : List ℕ) → length fat ≤ max_regular → leads (length fat) start ≡ false
    → WalkLeft fat start before (Err BadStart) before
walks_past fat start before few f =
    let c = leads_false (length fat) start few f in left_refuses fat start before before BadStart (walk_past fat start c.0 c.1)

module _ {fat : List ℕ} {start : ℕ} {before ids : List ℕ} {id count : ℕ} (g : Walks fat start before ids id count) where
  -- the steps so far met different sectors, so the list has room for their ids
  walks_most : count ≤ length before
  walks_most = omega (arith, going_most g.asks.few g.asks.once g.going, g.asks.room)

  pub walks_length : length ids ≡ length before
  walks_length = ap length g.list ∙ length_filled (stepped fat start) before count walks_most

  -- the loop is over: END is met
  pub walks_over : id ≡ end_of_chain → WalkLeft fat start before (Ok count) ids
  walks_over e =
      left_lists fat start before ids (tab (stepped fat start) count) count (walk_ends g.asks.few count g.going.path (sym g.here ∙ e))
      (length_tab (stepped fat start) count) g.list

  -- a turn of the loop, at an id that is not END
  module _ (more : id ≢ end_of_chain) where
    pub turn_sector : id < length fat
    turn_sector = leads_true (length fat) id g.onward more

    turn_going : Going fat start (suc count)
    turn_going = going_more g.going (rw (← g.here) turn_sector) (λ pos. rw (← g.here) (g.fresh pos))

    -- one sector more, different from those before
    pub turn_most : count < length fat
    turn_most = going_most g.asks.few g.asks.once turn_going

    pub turn_room : count < length ids
    turn_room = omega (arith, turn_most, g.asks.room, walks_length)

    turn_next : stepped fat start (suc count) ≡ get_or fat id 0
    turn_next = stepped_next fat start count ∙ ap (λ (x : ℕ). get_or fat x 0) (sym g.here)

    pub turn_on : leads (length fat) (get_or fat id 0) ≡ true → get_or fat id 0 ≢ start → Walks fat start before (set ids count id) (get_or fat id 0) (count + 1)
    turn_on t d = record {
      asks = g.asks;
      here = rw add-one (sym turn_next);
      going = rw add-one turn_going;
      onward = t;
      fresh = λ pos. d;
      list =
          ap (λ (l : List ℕ). set l count id) g.list
          ∙ filled_more (stepped fat start) before count id (omega (arith, turn_most, g.asks.room)) g.here;
    }

    pub turn_bad : (after : List ℕ) → leads (length fat) (get_or fat id 0) ≡ false → WalkLeft fat start before (Err BrokenChain) after
    turn_bad after f =
        let c = leads_false (length fat) (get_or fat id 0) g.asks.few f in
        left_refuses fat start before after BrokenChain (walk_bad g.asks.few turn_going turn_most (rw turn_next c.1) (rw turn_next c.0))

    pub turn_back : (after : List ℕ) → get_or fat id 0 ≡ start → WalkLeft fat start before (Err Loop) after
    turn_back after e = left_refuses fat start before after Loop (walk_back g.asks.few turn_going turn_most (turn_next ∙ e))

-- for callers: the outcome that an answer stands for, and the lent list
answer_lists : (w : Outcome) (k : ℕ) → StandsFor w (Ok k) → (ids : List ℕ) × (w ≡ lists ids) × (length ids ≡ k)
answer_lists (lists ids) k e = (ids, refl, cc)
answer_lists (refuses n) k (e, is, at) = cc

answer_refuses : (w : Outcome) (e : Refusal) → StandsFor w (Err e) → w ≡ refuses (number_of e)
answer_refuses (lists ids) e is = cc
answer_refuses (refuses n) e (d, is, at) = let same : d ≡ e = cc in ap refuses (sym at ∙ ap number_of same)

module _ {fat : List ℕ} {start : ℕ} {before after : List ℕ} {r : Result ℕ Refusal} (w : WalkLeft fat start before r after) where
  pub left_refused : (e : Refusal) → r ≡ Err e → walk_of fat start ≡ refuses (number_of e)
  left_refused e is = answer_refuses (walk_of fat start) e (rw is at w.answer)

  pub left_listed : (k : ℕ) → r ≡ Ok k → (walk_of fat start ≡ lists (take k after)) × (drop k after ≡ drop k before)
  left_listed k e = of (answer_lists (walk_of fat start) k (rw e at w.answer))
    where
      of : (ids : List ℕ) × (walk_of fat start ≡ lists ids) × (length ids ≡ k) → (walk_of fat start ≡ lists (take k after)) × (drop k after ≡ drop k before)
      of (ids, o, l) =
          let shape : after ≡ ids ++ drop k before = w.front ids o ∙ ap (λ (m : ℕ). ids ++ drop m before) l in (
            o ∙ ap lists (sym (ap (take k) shape ∙ take_at ids (drop k before) k l)),
            ap (drop k) shape ∙ drop_at ids (drop k before) k l,
          )
