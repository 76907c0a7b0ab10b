-- The third demand: after any list of edits, what is in hand is what the bytes say, and each call did its edit and nothing else. Assumes nothing.
use Prim.Native.Nat.{ℕ, zero, suc, ◌*◌, ◌≤◌, ◌<◌}
use mathlib.Core.Path.{◌≡◌, refl, sym, ◌∙◌, ap}
use mathlib.Core.List.{List, [], ◌∷◌, append-nil, flat_map}
use mathlib.Core.Logic.{⊎_elim, ◌≢◌}
use native.Mathlib.Omega.{arith}
use borrow.Author.Tests.{eq-eqb, ne_eqb}
use lib.ListN.{length, get_or, take}
use lib.Seq.{get_or-take}
use Rattle.lists.proofs.Cases.{same_or}
use Rattle.consts.specs.Consts.{free_sector}
use Rattle.header.specs.Versions.{length_of}
use Rattle.header.specs.Read.{header_of}
use Rattle.header.specs.declared.Validation.TheVariants.{Strict}
use Rattle.header.specs.declared.Version.{Version}
use Rattle.header.specs.declared.Version.TheVariants.{V3, V4}
use Rattle.fat.specs.Lists.{ceil}
use Rattle.sectors.specs.Sectors.{sector_of}
use Rattle.alloc.specs.Opening.{Tables, open_no, shortest, padded}
use Rattle.walk.specs.Walk.{lists, walk_of}
use Rattle.chain.specs.Bytes.{chain_bytes}
use Rattle.hand.specs.Hand.{Chain}
use Rattle.moves.specs.Change.{ids_of}
use Rattle.moves.proofs.Changing.{chain_listed}
use Rattle.moves.proofs.Editing.{edited_fits}
use Rattle.edits.specs.Untouched.{Other, Others}
use Rattle.cfb.specs.Calls.{state_len, walked, chain_ids, outcome_ids}
use Rattle.cfb.specs.Changes.{chain_from, state_from, tables_in, start_in}
use Rattle.cfb.proofs.Refusing.{padded_front}
use Rattle.promises.specs.Demand.{InHand, Asked, free, asked_no, chain_named, chain_after, hand_of, after, Call, after_all, opened, ids_from, bytes_from, bytes_after, Elsewhere, Another, Promised}
use Rattle.promises.specs.Whole.{fat_held}
use Rattle.promises.proofs.After.{AgreesAfter, edit_agrees, edit_strict, edit_len}
use Rattle.promises.proofs.Calls.{Walks, edit_rows, edit_fits, edit_bytes, edit_keeps, edit_walks}
use Rattle.promises.proofs.Naming.{first_named, edit_stays, edit_gone}
use Rattle.promises.proofs.Others.{Absent, edit_others_walk, edit_others_bytes}
use Rattle.promises.proofs.Kept.{Sure, sure_fresh, opened_sure}

-- what is known of an accepted call that leaves the chain c in hand, whose bytes were to become xs
pub record Done (h : InHand) (room : ℕ) (ask : Asked) (c : Chain) (xs : List ℕ) : Type 0 where
  pub strict : (state_from h.state c).mode ≡ Strict
  pub agrees : AgreesAfter h.state c
  pub len : length_of (header_of c.hand.disk.image).version ≡ state_len h.state
  pub walks : Walks c
  pub count : length (ids_of c) ≡ c.count
  pub first : 0 < length (ids_from h ask.start) → get_or (ids_from h ask.start) 0 0 ≡ ask.start
  pub stays : (p : ℕ) → p < length (ids_from h ask.start) → p < c.count → get_or c.ids p 0 ≡ get_or (ids_from h ask.start) p 0
  pub gone : (p : ℕ) → p < length (ids_from h ask.start) → c.count ≤ p → get_or c.hand.disk.fat (get_or (ids_from h ask.start) p 0) 0 ≡ free_sector
  pub bytes : chain_bytes (state_len h.state) c.hand.disk.image (ids_of c) ≡ xs
  pub keeps : (others : List ℕ) → Others (state_len h.state) (chain_named h room ask) others
      → chain_bytes (state_len h.state) c.hand.disk.image others ≡ chain_bytes (state_len h.state) h.image others
  pub others : (x : ℕ) (ids : List ℕ) → Absent (ids_from h ask.start) x → walk_of (take h.state.sectors h.tables.fat) x ≡ lists ids
      → walk_of (fat_held c.hand.disk) x ≡ lists ids
  pub others_bytes : (x : ℕ) (ids : List ℕ) → Absent (ids_from h ask.start) x → walk_of (take h.state.sectors h.tables.fat) x ≡ lists ids
      → chain_bytes (state_len h.state) c.hand.disk.image ids ≡ chain_bytes (state_len h.state) h.image ids

-- and where they become what the demand says of what was asked for
abbrev DoneAsked : InHand → ℕ → Asked → Type 0
DoneAsked h room ask =
    Done h room ask (chain_after h room ask) (bytes_after (state_len h.state) ask.edit ask.buf (bytes_from h ask.start) (length (ids_from h ask.start)))

-- bytes of a chain by equal parts, and those of one sector
bytes_own : (S S' : ℕ) (img img' ids ids' : List ℕ) → S ≡ S' → img ≡ img' → ids ≡ ids' → chain_bytes S img ids ≡ chain_bytes S' img' ids'
bytes_own S S' img img' ids ids' a b c = rw (a, b, c)

bytes_one : (S : ℕ) (img : List ℕ) (i : ℕ) → chain_bytes S img (i ∷ []) ≡ sector_of S img i
unfolding chain_bytes flat_map
bytes_one S img i = append-nil (sector_of S img i)

one_each : (P : ℕ → Type 0) (i : ℕ) → P i → (j : ℕ) → j < length (i ∷ []) → P (get_or (i ∷ []) j 0)
one_each P i p zero l = p
one_each P i p (suc j) l = absurd (omega (arith, l))

module _ (h : InHand) (room : ℕ) (ask : Asked) (c : Chain) (xs : List ℕ) (d : Done h room ask c xs) where
  done_sure : Sure (hand_of h.state c)
  unfolding hand_of
  done_sure = record { strict = d.strict; agrees = d.agrees }

  -- the walk in hand after the call is that of the FAT that it leaves
  done_walked : (x : ℕ) → walked (hand_of h.state c).state (hand_of h.state c).tables x ≡ walk_of (fat_held c.hand.disk) x
  unfolding hand_of state_from tables_in walked
  done_walked x = refl

  done_len : state_len (hand_of h.state c).state ≡ state_len h.state
  unfolding hand_of state_from
  done_len = d.len

  done_ids : ids_from (hand_of h.state c) (start_in c.ids c.count) ≡ ids_of c
  unfolding chain_ids outcome_ids
  done_ids = ap outcome_ids (done_walked (start_in c.ids c.count) ∙ d.walks)

  done_image : (hand_of h.state c).image ≡ c.hand.disk.image
  unfolding hand_of
  done_image = refl

  done_bytes : bytes_from (hand_of h.state c) (start_in c.ids c.count) ≡ xs
  done_bytes = bytes_own _ _ _ _ _ _ done_len done_image done_ids ∙ d.bytes

  done_start : 0 < length (ids_from h ask.start) → 0 < length (ids_from (hand_of h.state c) (start_in c.ids c.count)) → start_in c.ids c.count ≡ ask.start
  unfolding start_in
  done_start a b =
      let l : 0 < c.count = omega (arith, b, ap (λ (xs : List ℕ). length xs) done_ids, d.count) in
      rw (ne_eqb c.count 0 (omega (arith, l))) (d.stays 0 a l ∙ d.first a)

  done_same : (p : ℕ) → p < length (ids_from h ask.start) → p < length (ids_from (hand_of h.state c) (start_in c.ids c.count))
      → get_or (ids_from (hand_of h.state c) (start_in c.ids c.count)) p 0 ≡ get_or (ids_from h ask.start) p 0
  unfolding ids_of
  done_same p a b =
      let l : p < c.count = omega (arith, b, ap (λ (xs : List ℕ). length xs) done_ids, d.count) in
      ap (λ (xs : List ℕ). get_or xs p 0) done_ids ∙ get_or-take c.count c.ids p 0 l ∙ d.stays p a l

  done_gone : (p : ℕ) → p < length (ids_from h ask.start) → length (ids_from (hand_of h.state c) (start_in c.ids c.count)) ≤ p
      → get_or (hand_of h.state c).tables.fat (get_or (ids_from h ask.start) p 0) 0 ≡ free_sector
  unfolding hand_of tables_in
  done_gone p a b = d.gone p a (omega (arith, b, ap (λ (xs : List ℕ). length xs) done_ids, d.count))

  done_others : (x : ℕ) (ids : List ℕ) → Another h ask x ids → walked (hand_of h.state c).state (hand_of h.state c).tables x ≡ lists ids
  unfolding walked
  done_others x ids a = done_walked x ∙ d.others x ids a.apart a.walks

  done_others_bytes : (x : ℕ) (ids : List ℕ) → Another h ask x ids → chain_bytes (state_len h.state) (hand_of h.state c).image ids ≡ chain_bytes (state_len h.state) h.image ids
  unfolding walked hand_of
  done_others_bytes x ids a = d.others_bytes x ids a.apart a.walks

  other_one : (i : ℕ) → Elsewhere h room ask i → Other (state_len h.state) (chain_named h room ask) i
  unfolding chain_from
  other_one i w = record {
    inside = w.inside;
    no_fat = w.not_fat;
    no_difat = w.not_difat;
    no_id = λ p l q. w.not_named p l (sym (padded_front (ids_from h ask.start) room p l) ∙ q);
    no_free = w.not_free;
  }

  done_elsewhere : (i : ℕ) → Elsewhere h room ask i → sector_of (state_len h.state) (hand_of h.state c).image i ≡ sector_of (state_len h.state) h.image i
  done_elsewhere i w =
      ap (λ (img : List ℕ). sector_of (state_len h.state) img i) done_image
      ∙ sym (bytes_one (state_len h.state) c.hand.disk.image i)
      ∙ d.keeps (i ∷ []) (record { each = one_each (Other (state_len h.state) (chain_named h room ask)) i (other_one i w) })
      ∙ bytes_one (state_len h.state) h.image i

-- an accepted call
edit_done : (h : InHand) (room : ℕ) (ask : Asked) → asked_no h room ask ≡ 0 → DoneAsked h room ask
edit_done h room ask z =
    record {
      strict = edit_strict h.state h.image h.tables room ask.start ask.edit ask.buf z;
      agrees = edit_agrees h.state h.image h.tables room ask.start ask.edit ask.buf z;
      len = edit_len h.state h.image h.tables room ask.start ask.edit ask.buf z;
      walks = edit_walks h.state h.image h.tables room ask.start ask.edit ask.buf z;
      count = chain_listed (state_len h.state) _ _ (edited_fits (state_len h.state) _ ask.edit ask.buf _ (edit_fits h.state h.image h.tables room ask.start ask.edit ask.buf z));
      first = first_named h.state h.image h.tables room ask.start (edit_rows h.state h.image h.tables room ask.start ask.edit (length ask.buf) z);
      stays = edit_stays h.state h.image h.tables room ask.start ask.edit ask.buf z;
      gone = edit_gone h.state h.image h.tables room ask.start ask.edit ask.buf z;
      bytes = edit_bytes h.state h.image h.tables room ask.start ask.edit ask.buf z;
      keeps = edit_keeps h.state h.image h.tables room ask.start ask.edit ask.buf z;
      others = edit_others_walk h.state h.image h.tables room ask.start ask.edit ask.buf z;
      others_bytes = edit_others_bytes h.state h.image h.tables room ask.start ask.edit ask.buf z;
    }

-- document 01, Free: a resize to no byte leaves none
no_byte : (v : Version) → padded [] (length_of v * ceil 0 (length_of v)) ≡ []
unfolding padded ceil
no_byte V3 = refl
no_byte V4 = refl

pub free_leaves_none : (h : InHand) (start : ℕ) (old : List ℕ) (count : ℕ) → bytes_after (state_len h.state) (free start).edit (free start).buf old count ≡ []
free_leaves_none h start old count = no_byte h.state.header.version

-- a call is accepted, or it leaves what is in hand
after_accepted : (h : InHand) (room : ℕ) (ask : Asked) → asked_no h room ask ≡ 0 → after h room ask ≡ hand_of h.state (chain_after h room ask)
unfolding after
after_accepted h room ask z = rw (eq-eqb _ _ z)

after_refused : (h : InHand) (room : ℕ) (ask : Asked) → asked_no h room ask ≢ 0 → after h room ask ≡ h
unfolding after
after_refused h room ask z = rw (ne_eqb _ _ z)

-- what agreed agrees after a call
after_sure : (h : InHand) (room : ℕ) (ask : Asked) → Sure h → Sure (after h room ask)
after_sure h room ask s =
    ⊎_elim
    (λ (z : asked_no h room ask ≡ 0). rw (after_accepted h room ask z) (done_sure h room ask _ _ (edit_done h room ask z)))
    (λ (d : asked_no h room ask ≢ 0). rw (after_refused h room ask d) s)
    (same_or (asked_no h room ask) 0)

-- and after any list of them
all_sure : (cs : List Call) (h : InHand) → Sure h → Sure (after_all h cs)
unfolding after_all
all_sure [] h s = s
all_sure (c ∷ cs) h s = all_sure cs (after h c.room c.asks) (after_sure h c.room c.asks s)

-- the clauses about one call, of what agrees
call_promised : (h : InHand) (room : ℕ) (ask : Asked) → Sure h → Promised h room ask (after h room ask)
call_promised h room ask s =
    record {
      fresh = sure_fresh (after h room ask) (after_sure h room ask s);
      exactly = λ z. rw (after_accepted h room ask z) (done_bytes h room ask _ _ (edit_done h room ask z));
      start = λ z. rw (after_accepted h room ask z) (done_start h room ask _ _ (edit_done h room ask z));
      same = λ z. rw (after_accepted h room ask z) (done_same h room ask _ _ (edit_done h room ask z));
      gone = λ z. rw (after_accepted h room ask z) (done_gone h room ask _ _ (edit_done h room ask z));
      refused = after_refused h room ask;
      elsewhere = λ i w.
          ⊎_elim
          (λ (z : asked_no h room ask ≡ 0). rw (after_accepted h room ask z) (done_elsewhere h room ask _ _ (edit_done h room ask z) i w))
          (λ (d : asked_no h room ask ≢ 0). rw (after_refused h room ask d))
          (same_or (asked_no h room ask) 0);
      others = λ x ids a.
          ⊎_elim
          (λ (z : asked_no h room ask ≡ 0). rw (after_accepted h room ask z) (done_others h room ask _ _ (edit_done h room ask z) x ids a))
          (λ (d : asked_no h room ask ≢ 0). rw (after_refused h room ask d) a.walks)
          (same_or (asked_no h room ask) 0);
      others_bytes = λ x ids a.
          ⊎_elim
          (λ (z : asked_no h room ask ≡ 0). rw (after_accepted h room ask z) (done_others_bytes h room ask _ _ (edit_done h room ask z) x ids a))
          (λ (d : asked_no h room ask ≢ 0). rw (after_refused h room ask d))
          (same_or (asked_no h room ask) 0);
    }

-- The third demand: of an image that opened strictly, after any list of calls, the next call does what is promised of each. The list may be empty, so that it holds of the first call too, and so of every one in a list.
pub demand_three : (img : List ℕ) (used : ℕ) (t : Tables) → open_no Strict img used (shortest t) ≡ 0 → (cs : List Call) (room : ℕ) (ask : Asked)
    → Promised (after_all (opened img used t) cs) room ask (after (after_all (opened img used t) cs) room ask)
demand_three img used t z cs room ask = call_promised (after_all (opened img used t) cs) room ask (all_sure cs (opened img used t) (opened_sure img used t z))
