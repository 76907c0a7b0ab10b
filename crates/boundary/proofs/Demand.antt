-- What C has in hand after any run is, in words, what the third demand speaks of, and so the demand holds of every further call by C. Assumes nothing.
use Prim.Native.Nat.{ℕ, ◌≤◌}
use mathlib.Core.Path.{◌≡◌, refl, sym, ◌∙◌, ap, ap₂, subst}
use mathlib.Core.Bool.{Bool, true, false}
use mathlib.Core.List.{List}
use native.Mathlib.Omega.{arith}
use lib.Dec.{eqb}
use lib.ListN.{length, get_or, take}
use lib.Seq.{take_at}
use Rattle.lists.specs.Lists.{choose, Below}
use Rattle.header.specs.declared.Validation.{Validation}
use Rattle.header.specs.declared.Validation.TheVariants.{Strict}
use Rattle.alloc.specs.Opening.{Tables, open_no, shortest, padded, left_in}
use Rattle.alloc.specs.Opened.{tables_left}
use Rattle.agree.specs.Agrees.{Permuted}
use Rattle.moves.specs.Change.{edited, bytes_of}
use Rattle.moves.specs.declared.change.Edit.{Edit}
use Rattle.moves.specs.declared.change.Edit.TheVariants.{Write, Resize}
use Rattle.cfb.specs.Calls.{state_len}
use Rattle.cfb.specs.Changes.{chain_from, state_from, tables_in}
use Rattle.cfb.proofs.Refusing.{padded_past}
use Rattle.cfb.specs.Face.{tables_of, state_of}
use Rattle.cfb.specs.declared.State.{State}
use Rattle.layout.specs.Layout.{mode_of}
use Rattle.states.specs.States.{state_words, holds, held_in}
use Rattle.states.specs.Answers.{given, held_no}
use Rattle.states.proofs.Again.{state_again, opened_holds}
use Rattle.export.specs.Opening.{OpenGives}
use Rattle.export.specs.Changes.{ChangeGives, WriteChainGives, ResizeChainGives}
use Rattle.export.proofs.Changing.{held_number, changed_holds}
use Rattle.promises.specs.Demand.{InHand, Asked, write, resize, free, asked_no, chain_named, chain_after, hand_of, after, Call, after_all, opened, start_after, Fresh, Promised}
use Rattle.promises.proofs.Following.{hand}
use Rattle.promises.proofs.Demand.{demand_three}
use Rattle.boundary.specs.Runs.{InWords, worded, hand_in, Got, Gives, OfBytes, Leads, done, call, Run, Same, Keeps}
use Rattle.boundary.proofs.Bytes.{chosen_so, OnChain, resized_bytes, written_bytes, of_bytes, bytes_of_lem}

-- what is in hand comes back from its words
in_again : (h : InHand) → hand_in (worded h) ≡ h
in_again h = ap (λ (s : State). hand s h.image h.tables) (state_again h.state)

-- what is in words, by its parts
abbrev laid : List ℕ → List ℕ → Tables → InWords
laid words img t = record { words = words; image = img; tables = t }

-- equal parts make the same
laid_same : (a a' b b' : List ℕ) (t t' : Tables) → a ≡ a' → b ≡ b' → t ≡ t' → laid a b t ≡ laid a' b' t'
laid_same a a' b b' t t' p q r = rw (p, q, r)

-- one choice for each part is one for all
worded_chosen : (k : Bool) (x y : InHand)
    → laid (choose k (state_words x.state) (state_words y.state)) (choose k x.image y.image) (choose k x.tables y.tables) ≡ worded (choose k x y)
worded_chosen true x y = refl
worded_chosen false x y = refl

-- the contract of each of the three functions is that of what it asks for
pub write_gives : (w : InWords) (ids : List ℕ) (start offset : ℕ) (buf : List ℕ) (g : Got)
    → WriteChainGives w.words w.image w.tables ids start offset buf g.number g.answer g.left.words g.left.image g.left.tables g.ids → Gives w ids (write start offset buf) g
write_gives w ids start offset buf g x = x

pub resize_gives : (w : InWords) (ids : List ℕ) (start len : ℕ) (g : Got)
    → ResizeChainGives w.words w.image w.tables ids start len g.number g.answer g.left.words g.left.image g.left.tables g.ids → Gives w ids (resize start len) g
resize_gives w ids start len g x = x

pub free_gives : (w : InWords) (ids : List ℕ) (start : ℕ) (g : Got)
    → ResizeChainGives w.words w.image w.tables ids start 0 g.number g.answer g.left.words g.left.image g.left.tables g.ids → Gives w ids (free start) g
free_gives w ids start g x = x

-- a change at the edge on what is in hand, whose number and chain are those of s
abbrev Change : InWords → InHand → List ℕ → Asked → Got → Type 0
Change w s ids a g =
    ChangeGives w.words w.image w.tables ids (held_no w.words (asked_no s (length ids) a)) (chain_after s (length ids) a) (bytes_of a.edit (length a.buf)) g.number g.answer g.left.words g.left.image g.left.tables g.ids

-- what is in hand has an image of bytes, and words that hold a state
record Whole (h : InHand) : Type 0 where
  image : Below 256 h.image
  words : holds (state_words h.state) ≡ true

-- what C has is h in words
record Follows (h : InHand) (w : InWords) : Type 0 where
  same : w ≡ worded h
  whole : Whole h

-- one call by C on the words of h
module _ (h : InHand) (w : InWords) (f : Follows h w) (ids : List ℕ) (a : Asked) (g : Got) (small : OfBytes a.edit a.buf) (x : Gives w ids a g) where
  -- it is a change of h
  change_of : Change (worded h) h ids a g
  change_of =
      subst (λ (s : InHand). Change (worded h) s ids a g) (in_again h)
      (subst (λ (v : InWords). Gives v ids a g) f.same x)

  -- its number is that of document 01's table, for the words hold a state
  same_number : held_no (state_words h.state) (asked_no h (length ids) a) ≡ asked_no h (length ids) a
  same_number = sym (held_number (state_words h.state) (asked_no h (length ids) a) f.whole.words)

  call_number : g.number ≡ asked_no h (length ids) a
  call_number = change_of.number ∙ same_number

  -- where it is accepted, it answers the start of the chain after it
  call_start : g.number ≡ 0 → get_or g.answer 1 0 ≡ start_after h (length ids) a
  unfolding given
  call_start z =
      ap (λ (xs : List ℕ). get_or xs 1 0)
      (change_of.answer
      ∙ ap (λ (n : ℕ). given n (chain_after h (length ids) a).count (start_after h (length ids) a) (bytes_of a.edit (length a.buf))) (sym change_of.number ∙ z))

  -- it leaves, in words, what is in hand after the edit
  call_left : g.left ≡ worded (after h (length ids) a)
  unfolding after hand_of
  call_left =
      laid_same _ _ _ _ _ _
      (change_of.state
      ∙ ap₂ (λ (n : ℕ) (s : State). choose (eqb n 0) (state_words (state_from s (chain_after h (length ids) a))) (state_words h.state)) same_number (state_again h.state))
      (change_of.image ∙ ap (λ (n : ℕ). choose (eqb n 0) (chain_after h (length ids) a).hand.disk.image h.image) same_number)
      (change_of.tables ∙ ap (λ (n : ℕ). choose (eqb n 0) (tables_in (chain_after h (length ids) a)) h.tables) same_number)
      ∙ worded_chosen (eqb (asked_no h (length ids) a) 0) (hand_of h.state (chain_after h (length ids) a)) h

  -- the chain that it names is in an image of bytes, and so is what it makes of that chain
  named_bytes : OnChain (chain_named h (length ids) a)
  unfolding chain_from
  named_bytes = of_bytes _ f.whole.image

  chain_bytes_lem : (e : Edit) (buf : List ℕ) → OfBytes e buf → OnChain (edited (state_len h.state) (chain_named h (length ids) a) e buf)
  chain_bytes_lem (Write offset) buf b = written_bytes _ _ offset buf named_bytes b
  chain_bytes_lem (Resize len) buf b = resized_bytes _ _ len named_bytes

  -- so that the words hold a state where it is accepted, and where it is refused
  done_whole : Whole (hand_of h.state (chain_after h (length ids) a))
  unfolding hand_of
  done_whole = record { image = bytes_of_lem _ (chain_bytes_lem a.edit a.buf small); words = changed_holds h.state (chain_after h (length ids) a) (bytes_of_lem _ (chain_bytes_lem a.edit a.buf small)) }

  call_follows : Follows (after h (length ids) a) g.left
  unfolding after
  call_follows = record { same = call_left; whole = chosen_so Whole (eqb (asked_no h (length ids) a) 0) _ h done_whole f.whole }

-- any list of calls leaves, in words, what is in hand after their edits
leads_follow : (last w : InWords) (cs : List Call) → Leads last w cs → (h : InHand) → Follows h w → Follows (after_all h cs) last
unfolding after_all
leads_follow last w cs done h f = f
leads_follow last w cs (call v ids a g rest small x then) h f = leads_follow last g.left rest then (after h (length ids) a) (call_follows h v f ids a g small x)

-- an opening by C whose mode word means strict: its number, and what it leaves where that is 0
module _ (mode : ℕ) (img : List ℕ) (used : ℕ) (t : Tables) (r : ℕ) (words img' : List ℕ) (t' : Tables) (strict : mode_of mode ≡ Strict) (x : OpenGives mode img used t r words img' t') where
  open_number : r ≡ open_no Strict img used (shortest t)
  open_number = x.number ∙ ap (λ (m : Validation). open_no m img used (shortest t)) strict

  open_left : open_no Strict img used (shortest t) ≡ 0 → laid words img' t' ≡ worded (opened img used t)
  unfolding opened
  open_left z =
      let none : open_no (mode_of mode) img used (shortest t) ≡ 0 = ap (λ (m : Validation). open_no m img used (shortest t)) strict ∙ z in
      laid_same _ _ _ _ _ _
      (x.state ∙ ap₂ (λ (k : ℕ) (m : Validation). state_words (state_of k m img used)) none strict)
      x.image
      (x.tables ∙ ap (λ (k : ℕ). tables_left k t (tables_of img used)) none)

-- a run: its opening is accepted, and what C has after it
module _ (img : List ℕ) (used : ℕ) (t : Tables) (cs : List Call) (w : InWords) (run : Run img used t cs w) where
  run_opens : open_no Strict img used (shortest t) ≡ 0
  run_opens = sym (open_number _ img used t _ _ _ _ run.strict run.opens)

  run_follows : Follows (after_all (opened img used t) cs) w
  unfolding opened
  run_follows = leads_follow w run.first cs run.calls (opened img used t) (record {
    same = open_left _ img used t _ _ _ _ run.strict run.opens run_opens;
    whole = record { image = run.bytes; words = opened_holds 0 Strict img used run.bytes };
  })

  -- What C has in hand after any run is what the third demand speaks of: its words are those of the state, image and tables are the same.
  pub boundary_follows : w ≡ worded (after_all (opened img used t) cs)
  boundary_follows = run_follows.same

-- an opening leaves zeros behind its free list
opened_rest : (img : List ℕ) (used : ℕ) (t : Tables) (s : State) (i : ℕ) → (opened img used t).state ≡ s → s.free ≤ i → get_or (opened img used t).tables.frees i 0 ≡ 0
unfolding opened state_of tables_left left_in padded
opened_rest img used t s i e l =
    let past : length (tables_of img used).frees ≤ i = omega (arith, l, ap (λ (x : State). x.free) e) in
    padded_past (tables_of img used).frees (length t.frees) i past

-- what opens afresh to what is in hand does so for C
fresh_same : (w : InWords) → Fresh (hand_in w) → state_words (held_in w.words) ≡ w.words → (mode r : ℕ) (words img : List ℕ) (t : Tables) → mode_of mode ≡ Strict
    → OpenGives mode w.image (get_or w.words 1 0) w.tables r words img t → Same w r words img t
unfolding held_in opened state_of tables_left left_in
fresh_same w f again mode r words img t strict x =
    let all = open_left mode w.image (get_or w.words 1 0) w.tables r words img t strict x f.opens in
    record {
      number = open_number mode w.image (get_or w.words 1 0) w.tables r words img t strict x ∙ f.opens;
      words = ap (λ (v : InWords). v.words) all ∙ ap state_words f.state ∙ again;
      image = x.image;
      fat = ap (λ (v : InWords). v.tables.fat) all ∙ f.fat;
      fats = ap (λ (v : InWords). v.tables.fats) all ∙ f.fats;
      difats = ap (λ (v : InWords). v.tables.difats) all ∙ f.difats;
      marks = ap (λ (v : InWords). v.tables.marks) all ∙ f.marks;
      frees =
          subst (λ (xs : List ℕ). Permuted xs (take (get_or w.words 3 0) w.tables.frees))
          (sym (ap (λ (v : InWords). take (get_or w.words 3 0) v.tables.frees) all ∙ take_at _ _ _ (ap (λ (s : State). s.free) f.state))) f.frees;
      frees_rest = λ i past inside. (ap (λ (v : InWords). get_or v.tables.frees i 0) all ∙ opened_rest w.image (get_or w.words 1 0) w.tables (held_in w.words) i f.state past, f.frees_rest i past inside);
    }

-- the demand of what is in hand, told of its words
keeps_so : (w : InWords) (ids : List ℕ) (a : Asked) (g : Got) (h k : InHand) → w ≡ worded h → g.left ≡ worded k → g.number ≡ asked_no h (length ids) a
    → (g.number ≡ 0 → get_or g.answer 1 0 ≡ start_after h (length ids) a) → Promised h (length ids) a k → holds (state_words k.state) ≡ true → Keeps w ids a g
keeps_so w ids a g h k before left number start p held =
    let was : hand_in w ≡ h = ap (λ (v : InWords). hand_in v) before ∙ in_again h in
    let is : hand_in g.left ≡ k = ap (λ (v : InWords). hand_in v) left ∙ in_again k in
    let words : g.left.words ≡ state_words k.state = ap (λ (v : InWords). v.words) left in
    let again : state_words (held_in g.left.words) ≡ g.left.words = ap state_words (ap (λ (v : InHand). v.state) is) ∙ sym words in
    let promised : Promised (hand_in w) (length ids) a (hand_in g.left) =
    subst (λ (v : InHand). Promised v (length ids) a (hand_in g.left)) (sym was) (subst (λ (v : InHand). Promised h (length ids) a v) (sym is) p) in
    record {
      number = number ∙ ap (λ (v : InHand). asked_no v (length ids) a) (sym was);
      start = λ z. start z ∙ ap (λ (v : InHand). start_after v (length ids) a) (sym was);
      promised = promised;
      holding = ap holds words ∙ held;
      words = again;
      fresh = fresh_same g.left promised.fresh again;
    }

-- The third demand for a caller in C: after any run, whatever call of the three comes next keeps it. The run may have no call, so that it holds of the first one too, and so of every one in a run.
pub demand_three_words : (img : List ℕ) (used : ℕ) (t : Tables) (cs : List Call) (w : InWords) → Run img used t cs w
    → (ids : List ℕ) (a : Asked) (g : Got) → OfBytes a.edit a.buf → Gives w ids a g → Keeps w ids a g
demand_three_words img used t cs w run ids a g small x =
    let h = after_all (opened img used t) cs in
    let f = run_follows img used t cs w run in
    keeps_so w ids a g h (after h (length ids) a) f.same (call_left h w f ids a g small x) (call_number h w f ids a g small x)
    (call_start h w f ids a g small x) (demand_three img used t (run_opens img used t cs w run) cs (length ids) a) (call_follows h w f ids a g small x).whole.words
