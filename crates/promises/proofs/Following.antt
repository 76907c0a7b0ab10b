-- The contracts of opening, writing, resizing and freeing leave in hand what the third demand speaks of. Assumes nothing.
use Prim.Native.Nat.{ℕ}
use mathlib.Core.Path.{◌≡◌, refl, ◌∙◌, ap}
use mathlib.Core.Bool.{Bool, true, false}
use mathlib.Core.List.{List}
use lib.Dec.{eqb}
use lib.ListN.{length}
use Rattle.lists.specs.Lists.{choose}
use Rattle.header.specs.declared.Validation.TheVariants.{Strict}
use Rattle.alloc.specs.Opening.{Tables, open_no, shortest}
use Rattle.hand.specs.Hand.{Chain}
use Rattle.cfb.specs.Changes.{state_from, tables_in, Changes, ChainEdits}
use Rattle.alloc.specs.Opened.{tables_left}
use Rattle.cfb.specs.Face.{tables_of, state_of, Opens}
use Rattle.cfb.specs.declared.State.{State}
use Rattle.cfb.specs.declared.Called.{Called}
use Rattle.cfb.specs.declared.Opened.{Opened}
use Rattle.promises.specs.Demand.{InHand, Asked, hand_of, after, opened}

-- what is in hand, by its parts
abbrev pub hand : State → List ℕ → Tables → InHand
hand s img t = record { state = s; image = img; tables = t }

hand_same : (s s' : State) (img img' : List ℕ) (t t' : Tables) → s ≡ s' → img ≡ img' → t ≡ t' → hand s img t ≡ hand s' img' t'
hand_same s s' img img' t t' a b c = rw (a, b, c)

-- one choice for each part is one for all
chosen : (k : Bool) (s s' : State) (img img' : List ℕ) (t t' : Tables) → hand (choose k s s') (choose k img img') (choose k t t') ≡ choose k (hand s img t) (hand s' img' t')
chosen true s s' img img' t t' = refl
chosen false s s' img img' t t' = refl

changes_follow : (s : State) (img : List ℕ) (t : Tables) (ids : List ℕ) (k : ℕ) (c : Chain) (bytes : ℕ) (r : Called) (img' : List ℕ) (t' : Tables) (ids' : List ℕ) → Changes s img t ids k c bytes r img' t' ids'
    → hand r.state img' t' ≡ choose (eqb k 0) (hand_of s c) (hand s img t)
unfolding hand_of
changes_follow s img t ids k c bytes r img' t' ids' w =
    hand_same _ _ _ _ _ _ w.state w.image w.tables ∙ chosen (eqb k 0) (state_from s c) s c.hand.disk.image img (tables_in c) t

-- document 01, Write, Resize and Free: the contract of State::change leaves in hand what `after` says; those of State::write, State::resize and State::free are its own at a write, at a resize and at a resize to 0
pub edit_follows : (s : State) (img : List ℕ) (t : Tables) (ids : List ℕ) (ask : Asked) (r : Called) (img' : List ℕ) (t' : Tables) (ids' : List ℕ)
    → ChainEdits s img t ids ask.start ask.edit ask.buf r img' t' ids' → hand r.state img' t' ≡ after (hand s img t) (length ids) ask
unfolding after
edit_follows s img t ids ask r img' t' ids' w = changes_follow s img t ids _ _ _ r img' t' ids' w

-- Opening an image: the contract of State::open leaves in hand what `opened` says, where a strict opening accepts
pub open_follows : (img : List ℕ) (used : ℕ) (t : Tables) (r : Opened) (img' : List ℕ) (t' : Tables) → Opens Strict img used t r img' t' → open_no Strict img used (shortest t) ≡ 0
    → hand r.state img' t' ≡ opened img used t
unfolding opened
open_follows img used t r img' t' w z =
    hand_same _ _ _ _ _ _ (w.state ∙ ap (λ (k : ℕ). state_of k Strict img used) z) w.image (w.tables ∙ ap (λ (k : ℕ). tables_left k t (tables_of img used)) z)
