-- The answers of write and resize, from the listing of their chain and from what the change leaves. Assumes nothing.
use Prim.Native.Nat.{ℕ, ◌+◌, ◌*◌, ◌≤◌}
use mathlib.Core.Path.{◌≡◌, sym, ◌∙◌, ap}
use mathlib.Core.Bool.{Bool}
use mathlib.Core.List.{List, [], ◌∷◌}
use mathlib.Core.Logic.{◌≢◌}
use native.Mathlib.Omega.{arith}
use native.Mathlib.Nat.{add-mul, one-mul, mul-le-mul_right}
use borrow.Author.Tests.{eq-eqb, ne_eqb, ltb-false}
use lib.Dec.{eqb}
use lib.ListN.{length, replicate}
use Rattle.lists.specs.Lists.{choose}
use Rattle.fat.specs.Lists.{room_of}
use Rattle.alloc.specs.Opening.{Tables, padded}
use Rattle.std.specs.Prelude.{Result, Ok, Err}
use Rattle.consts.specs.Refusals.{number_of}
use Rattle.consts.specs.declared.refusal.Refusal.{Refusal}
use Rattle.consts.proofs.Refusals.{ends_refused, ends_accepted}
use Rattle.hand.specs.Hand.{Chain}
use Rattle.hand.specs.Fits.{FitsChain}
use Rattle.moves.proofs.Changing.{chain_room}
use Rattle.moves.specs.Change.{seek_of, edit_more, edited, FitsEdit}
use Rattle.moves.specs.declared.change.Edit.{Edit}
use Rattle.moves.specs.declared.change.Edit.TheVariants.{Write, Resize}
use Rattle.cfb.specs.Calls.{state_len, chain_ids, ids_left, told_by}
use Rattle.cfb.specs.Changes.{no_room, resize_rows, resize_no, write_rows, write_no, edit_no, chain_from, state_from, tables_in, start_in, Changes, Judged, done_with}
use Rattle.cfb.specs.declared.State.{State}
use Rattle.cfb.specs.declared.Called.{Called}
use Rattle.cfb.proofs.Answering.{told_refused, told_done, told_apart}
use Rattle.cfb.proofs.Fitted.{hand_in}
use Rattle.cfb.proofs.Judging.{row_passed, rows_passed}
use Rattle.cfb.proofs.Ready.{ready_fits, ready_apart}

-- what stands beside each end
left_as : {A : Type 0} (k : ℕ) (a b : A) → k ≢ 0 → b ≡ choose (eqb k 0) a b
left_as k a b n = ap (λ (t : Bool). choose t a b) (sym (ne_eqb k 0 n))

made_as : {A : Type 0} (k : ℕ) (a b : A) → k ≡ 0 → a ≡ choose (eqb k 0) a b
made_as k a b z = ap (λ (t : Bool). choose t a b) (sym (eq-eqb k 0 z))

-- a change that was made: of a chain in hand, and the image that is its disk's
pub changes_made : (s : State) (img : List ℕ) (t : Tables) (ids : List ℕ) (k : ℕ) (after : Chain) (bytes : ℕ) (r : Called) (c : Chain)
    → k ≡ 0 → c ≡ after → r ≡ done_with s c.hand.disk.image c.hand.disk.sectors c.hand.free c.ids c.count bytes → Changes s img t ids k after bytes r c.hand.disk.image (tables_in c) c.ids
unfolding done_with state_from
changes_made s img t ids k after bytes r c z e q = record {
  answer = ap (λ (x : Called). told_by x.answer) q ∙ ap (λ (x : Chain). 0 ∷ x.count ∷ start_in x.ids x.count ∷ bytes ∷ []) e ∙ told_done k _ _ _ z;
  state = ap (λ (x : Called). x.state) q ∙ ap (state_from s) e ∙ made_as k _ s z;
  image = ap (λ (x : Chain). x.hand.disk.image) e ∙ made_as k _ img z;
  tables = ap tables_in e ∙ made_as k _ t z;
  list = ap (λ (x : Chain). x.ids) e ∙ made_as k _ _ z;
}

left_refused : (k : ℕ) (ids xs : List ℕ) → k ≢ 0 → ids_left k ids xs ≡ choose (eqb k 11) ids (replicate (length ids) 0)
unfolding ids_left
left_refused k ids xs n = sym (left_as k (padded xs (length ids)) _ n)

left_made : (k : ℕ) (ids xs : List ℕ) → k ≡ 0 → ids_left k ids xs ≡ padded xs (length ids)
unfolding ids_left
left_made k ids xs z = sym (made_as k (padded xs (length ids)) _ z)

module _ (k : ℕ) (ids chain : List ℕ) (w : Result ℕ Refusal) (ids' : List ℕ) (l : Judged k ids chain w ids') where
  -- a change that is refused
  pub changes_refused : (s : State) (img : List ℕ) (t : Tables) (after : Chain) (bytes : ℕ) (e : Refusal) → w ≡ Err e
      → Changes s img t ids k after bytes (record { answer = Err e; state = s }) img t ids'
  changes_refused s img t after bytes e q =
      let known = ends_refused l.answer e q in
      record {
        answer = ap (λ (n : ℕ). n ∷ []) known.1 ∙ told_refused _ _ _ _ known.0;
        state = left_as _ _ s known.0;
        image = left_as _ _ img known.0;
        tables = left_as _ _ t known.0;
        list = l.list ∙ left_refused k ids chain known.0 ∙ left_as _ _ _ known.0;
      }

  -- one that is not
  pub judged_zero : (c : ℕ) → w ≡ Ok c → k ≡ 0
  judged_zero c e = (ends_accepted l.answer c e).0

-- the chain that was listed is the one in hand
pub judged_chain : (s : State) (img : List ℕ) (t : Tables) (ids : List ℕ) (start k : ℕ) (w : Result ℕ Refusal) (ids' : List ℕ) → Judged k ids (chain_ids s t start) w ids' → (c : ℕ) → w ≡ Ok c
    → record { hand = hand_in img s.sectors s.free t; ids = ids'; count = c } ≡ chain_from s img t (length ids) start
unfolding chain_from
judged_chain s img t ids start k w ids' l c e =
    let known = ends_accepted l.answer c e in
    let mine : ids' ≡ padded (chain_ids s t start) (length ids) = l.list ∙ left_made k ids (chain_ids s t start) known.0 in
    rw (mine, known.1)

-- an edit that nothing stands against can be made
pub edit_ready : (s : State) (img : List ℕ) (t : Tables) (room start : ℕ) (edit : Edit) (bytes : ℕ) → edit_no s img t room start edit bytes ≡ 0
    → FitsEdit (state_len s) (room_of (state_len s) (length img)) edit bytes (chain_from s img t room start)
unfolding chain_from no_room seek_of edit_more resize_no resize_rows write_no write_rows
edit_ready s img t room start (Write offset) bytes z =
    let passed = rows_passed s img t room start _ z in
    let within = row_passed 23 _ _ (λ q. omega arith) passed.1 in
    record {
      fits = record { fits = ready_fits s img t room start passed.0; room = ltb-false _ _ (row_passed 24 _ _ (λ q. omega arith) within.1).0 };
      apart = ready_apart s img t room start passed.0;
      seeks = ltb-false _ _ within.0;
    }
edit_ready s img t room start (Resize len) bytes z =
    let passed = rows_passed s img t room start _ z in
    record {
      fits = record { fits = ready_fits s img t room start passed.0; room = ltb-false _ _ (row_passed 24 _ _ (λ q. omega arith) passed.1).0 };
      apart = ready_apart s img t room start passed.0;
      seeks = omega arith;
    }

-- what is said by the length of a state's sectors, and of the chain in hand, is said by an equal length and of an equal chain
pub edit_own : (img : List ℕ) (edit : Edit) (bytes : ℕ) {S S' : ℕ} {c c' : Chain} → S ≡ S' → c ≡ c' → FitsEdit S' (room_of S' (length img)) edit bytes c' → FitsEdit S (room_of S (length img)) edit bytes c
edit_own img edit bytes p q f = rw (p, q) f

pub edited_own : (edit : Edit) (buf : List ℕ) {S S' : ℕ} {c c' : Chain} → S ≡ S' → c ≡ c' → edited S c edit buf ≡ edited S' c' edit buf
edited_own edit buf p q = rw (p, q)

-- a chain in hand that fits: its image holds its header and its sectors, and its list its ids
fits_lies : (S R : ℕ) (c : Chain) → FitsChain S R c
    → (512 ≤ length c.hand.disk.image) × ((c.hand.disk.sectors + 1) * S ≤ length c.hand.disk.image) × (c.count ≤ length c.ids)
fits_lies S R c f =
    let d = f.fits.disk in
    let less : (c.hand.disk.sectors + 1) * S ≤ (R + 1) * S = mul-le-mul_right S (omega (arith, d.inside)) in
    let least : S ≤ (R + 1) * S = omega (arith, scaled_left R S) in
    (omega (arith, d.header, d.holds.fits), omega (arith, d.holds.fits), chain_room S R c f)
  where
    scaled_left : (r x : ℕ) → x ≤ (r + 1) * x
    scaled_left r x = omega (arith, add-mul r 1 x, one-mul x)

pub made_lies : (S R : ℕ) (c after : Chain) → c ≡ after → FitsChain S R after
    → (512 ≤ length c.hand.disk.image) × ((c.hand.disk.sectors + 1) * S ≤ length c.hand.disk.image) × (c.count ≤ length c.ids)
made_lies S R c after e f = fits_lies S R c (rw e f)

-- any two results that the contract of a change permits are the same
pub changes_unique : {s : State} {img : List ℕ} {t : Tables} {ids : List ℕ} {k : ℕ} {after : Chain} {bytes : ℕ} {r q : Called} {img' img'' : List ℕ} {t' t'' : Tables} {ids' ids'' : List ℕ}
    → Changes s img t ids k after bytes r img' t' ids' → Changes s img t ids k after bytes q img'' t'' ids''
    → (r.answer ≡ q.answer) × (r.state ≡ q.state) × (img' ≡ img'') × (t' ≡ t'') × (ids' ≡ ids'')
changes_unique {r = r} {q} a b =
    (told_apart r.answer q.answer (a.answer ∙ sym b.answer), a.state ∙ sym b.state, a.image ∙ sym b.image, a.tables ∙ sym b.tables, a.list ∙ sym b.list)
