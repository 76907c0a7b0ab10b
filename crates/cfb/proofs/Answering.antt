-- The answers of open and read, from the listing of a chain. Assumes nothing.
use Prim.Native.Nat.{ℕ, ◌*◌, ◌≤◌, ◌<◌}
use mathlib.Core.Path.{◌≡◌, refl, sym, ◌∙◌, ap}
use mathlib.Core.List.{List, [], ◌∷◌}
use mathlib.Core.Logic.{⊎_elim, ◌≢◌}
use native.Mathlib.Omega.{arith}
use borrow.Author.Tests.{eq-eqb, ne_eqb, lt-ltb, le-ltb}
use lib.Dec.{eqb, ltb}
use lib.ListN.{length, get_or, take, replicate}
use lib.Seq.{take_at}
use Rattle.lists.specs.Lists.{choose}
use Rattle.lists.specs.Rows.{row, refusal, distinct, fresh}
use Rattle.lists.proofs.Cases.{same_or}
use Rattle.lists.proofs.Rows.{stop, pass, append_given, append_none}
use Rattle.alloc.specs.Opening.{Tables, padded}
use Rattle.std.specs.Prelude.{Result, Ok, Err}
use Rattle.consts.specs.Refusals.{number_of, ends_with}
use Rattle.consts.specs.declared.refusal.Refusal.{Refusal}
use Rattle.consts.specs.declared.refusal.Refusal.TheVariants.{Offset}
use Rattle.consts.proofs.Refusals.{number_apart, ends_refused, ends_accepted}
use Rattle.chain.specs.Bytes.{ReadLeft}
use Rattle.cfb.specs.Calls.{state_len, agreed_rows, walk_rows, chain_rows, chain_no, chain_ids, read_rows, read_no, ids_left, told_by, told, ChainOpens, ChainReads, Reads}
use Rattle.cfb.specs.Listed.{ChainListed}
use Rattle.cfb.specs.declared.State.{State}
use Rattle.cfb.specs.declared.Called.{Called}
use Rattle.cfb.specs.declared.Done.{Done}

pub told_refused : (k ids start bytes : ℕ) → k ≢ 0 → k ∷ [] ≡ told k ids start bytes
unfolding told
told_refused k ids start bytes n = rw (ne_eqb k 0 n)

pub told_done : (k ids start bytes : ℕ) → k ≡ 0 → 0 ∷ ids ∷ start ∷ bytes ∷ [] ≡ told k ids start bytes
unfolding told
told_done k ids start bytes z = rw (eq-eqb k 0 z)

left_read : (k : ℕ) (now buf : List ℕ) → k ≢ 0 → buf ≡ choose (eqb k 0) now buf
left_read k now buf n = rw (ne_eqb k 0 n)

pub left_zero : (k : ℕ) (ids xs : List ℕ) → k ≢ 0 → k ≢ 11 → replicate (length ids) 0 ≡ ids_left k ids xs
unfolding ids_left
left_zero k ids xs n m = rw (ne_eqb k 0 n, ne_eqb k 11 m)

left_front : (k : ℕ) (ids xs : List ℕ) → k ≡ 0 → take (length xs) (ids_left k ids xs) ≡ xs
unfolding ids_left padded
left_front k ids xs z = rw (eq-eqb k 0 z) (take_at xs _ (length xs) refl)

module _ (s : State) (img : List ℕ) (t : Tables) (ids : List ℕ) (start : ℕ) (w : Result ℕ Refusal) (ids' : List ℕ) (l : ChainListed s img t ids start w ids') where
  -- open hands a refusal on, and tells how many ids were listed
  pub opens_refused : (e : Refusal) → w ≡ Err e → ChainOpens s img t ids start (record { answer = Err e; state = s }) img t ids'
  opens_refused e q =
      let known = ends_refused l.answer e q in
      record { answer = ap (λ (k : ℕ). k ∷ []) known.1 ∙ told_refused _ _ _ _ known.0; state = refl; image = refl; tables = refl; list = l.list }

  pub opens_listed : (c : ℕ) → w ≡ Ok c → ChainOpens s img t ids start (record { answer = Ok (record { ids = c; start = start; bytes = 0 }); state = s }) img t ids'
  opens_listed c q =
      let known = ends_accepted l.answer c q in
      record { answer = ap (λ (n : ℕ). 0 ∷ n ∷ start ∷ 0 ∷ []) known.1 ∙ told_done _ _ _ _ known.0; state = refl; image = refl; tables = refl; list = l.list }

  module _ (offset : ℕ) (buf : List ℕ) where
    -- a chain that is refused is not read
    pub reads_refused : (e : Refusal) → w ≡ Err e → Reads s img t ids start offset buf (Err e) ids' buf
    unfolding read_no read_rows chain_no
    reads_refused e q =
        let known = ends_refused l.answer e q in
        let same : read_no s img t (length ids) start offset ≡ chain_no s img t (length ids) start = append_given (chain_rows s img t (length ids) start) _ known.0 in
        let some : read_no s img t (length ids) start offset ≢ 0 = λ z. known.0 (sym same ∙ z) in
        record {
          answer = ap (λ (k : ℕ). k ∷ []) (known.1 ∙ sym same) ∙ told_refused _ _ _ _ some;
          list = l.list ∙ ap (λ (k : ℕ). ids_left k ids (chain_ids s t start)) (sym same);
          buffer = left_read _ _ buf some;
        }

    module _ (c : ℕ) (e : w ≡ Ok c) where
      -- a chain that is listed: the number, how many ids, and the ids themselves
      pub chain_done : (chain_no s img t (length ids) start ≡ 0) × (c ≡ length (chain_ids s t start))
      chain_done = ends_accepted l.answer c e

      pub listed_front : take c ids' ≡ chain_ids s t start
      listed_front =
          ap (take c) l.list ∙ ap (λ (n : ℕ). take n (ids_left (chain_no s img t (length ids) start) ids (chain_ids s t start))) chain_done.1
          ∙ left_front _ ids (chain_ids s t start) chain_done.0

      last : read_no s img t (length ids) start offset ≡ refusal (row 23 (ltb (state_len s * length (chain_ids s t start)) offset) ∷ [])
      unfolding read_no read_rows chain_no chain_rows agreed_rows walk_rows distinct fresh
      last = append_none (chain_rows s img t (length ids) start) _ refl chain_done.0

      length_is : state_len s * c ≡ state_len s * length (chain_ids s t start)
      length_is = ap (λ (n : ℕ). state_len s * n) chain_done.1

      -- the offset lies past the chain
      pub reads_past : (after : List ℕ) → state_len s * c < offset → after ≡ replicate (length ids) 0 → Reads s img t ids start offset buf (Err Offset) after buf
      reads_past after h z =
          let mine : read_no s img t (length ids) start offset ≡ 23 = last ∙ stop 23 _ [] (lt-ltb _ offset (omega (arith, length_is))) in
          let some : read_no s img t (length ids) start offset ≢ 0 = λ q. absurd (omega (arith, mine, q)) in
          record {
            answer = ap (λ (k : ℕ). k ∷ []) (sym mine) ∙ told_refused _ _ _ _ some;
            list = z ∙ left_zero 23 ids (chain_ids s t start) (omega arith) (omega arith) ∙ ap (λ (k : ℕ). ids_left k ids (chain_ids s t start)) (sym mine);
            buffer = left_read _ _ buf some;
          }

      -- the chain is read
      pub reads_done : (bytes : ℕ) (buf' : List ℕ) → offset ≤ state_len s * c → ReadLeft (state_len s) img (take c ids') offset buf bytes buf'
          → Reads s img t ids start offset buf (Ok (record { ids = c; start = start; bytes = bytes })) ids' buf'
      unfolding refusal
      reads_done bytes buf' h r =
          let none : read_no s img t (length ids) start offset ≡ 0 = last ∙ pass 23 _ [] (le-ltb _ offset (omega (arith, length_is))) in
          let mine : ReadLeft (state_len s) img (chain_ids s t start) offset buf bytes buf' = rw listed_front at r in
          record {
            answer = ap (λ (n : ℕ). 0 ∷ n ∷ start ∷ bytes ∷ []) chain_done.1 ∙ ap (λ (n : ℕ). 0 ∷ length (chain_ids s t start) ∷ start ∷ n ∷ []) mine.count ∙ told_done _ _ _ _ none;
            list = l.list ∙ ap (λ (k : ℕ). ids_left k ids (chain_ids s t start)) (chain_done.0 ∙ sym none);
            buffer = mine.bytes ∙ open_read none;
          }
        where
          open_read : {k : ℕ} {now : List ℕ} → k ≡ 0 → now ≡ choose (eqb k 0) now buf
          open_read {k} z = rw (eq-eqb k 0 z)

-- what a read leaves of the rest: nothing else is written
pub reads_rest : {s : State} {img : List ℕ} {t : Tables} {ids : List ℕ} {start offset : ℕ} {buf ids' buf' : List ℕ} (r : Result Done Refusal) → Reads s img t ids start offset buf r ids' buf'
    → ChainReads s img t ids start offset buf (record { answer = r; state = s }) img t ids' buf'
reads_rest r a = record { answer = a.answer; state = refl; image = refl; tables = refl; list = a.list; buffer = a.buffer }

-- the number that an answer ends with is the first that it tells
pub number_told : (a : Result Done Refusal) → ends_with a ≡ get_or (told_by a) 0 0
number_told (Ok d) = refl
number_told (Err e) = refl

-- two answers with the same numbers are one
pub told_apart : (v w : Result Done Refusal) → told_by v ≡ told_by w → v ≡ w
told_apart (Ok d) (Ok f) e =
    let p : d.ids ≡ f.ids = ap (λ (xs : List ℕ). get_or xs 1 0) e in
    let q : d.start ≡ f.start = ap (λ (xs : List ℕ). get_or xs 2 0) e in
    let u : d.bytes ≡ f.bytes = ap (λ (xs : List ℕ). get_or xs 3 0) e in
    λ i. Ok (record { ids = p i; start = q i; bytes = u i })
told_apart (Ok d) (Err k) e = let z : ◌≡◌ {A = ℕ} 4 1 = ap (λ (xs : List ℕ). length xs) e in absurd (omega arith)
told_apart (Err j) (Ok f) e = let o : ◌≡◌ {A = ℕ} 1 4 = ap (λ (xs : List ℕ). length xs) e in absurd (omega arith)
told_apart (Err j) (Err k) e = ap Err (number_apart j k (ap (λ (xs : List ℕ). get_or xs 0 0) e))

module _ {s : State} {img : List ℕ} {t : Tables} {ids : List ℕ} {start : ℕ} {r q : Called} {img' img'' : List ℕ} {t' t'' : Tables} {ids' ids'' : List ℕ} where
  -- any two results that the contract of open permits are the same
  pub opens_unique : ChainOpens s img t ids start r img' t' ids' → ChainOpens s img t ids start q img'' t'' ids''
      → (r.answer ≡ q.answer) × (r.state ≡ q.state) × (img' ≡ img'') × (t' ≡ t'') × (ids' ≡ ids'')
  opens_unique a b =
      (told_apart r.answer q.answer (a.answer ∙ sym b.answer), a.state ∙ sym b.state, a.image ∙ sym b.image, a.tables ∙ sym b.tables, a.list ∙ sym b.list)

  -- and so are those of read
  pub reads_unique : {offset : ℕ} {buf buf' buf'' : List ℕ} → ChainReads s img t ids start offset buf r img' t' ids' buf' → ChainReads s img t ids start offset buf q img'' t'' ids'' buf''
      → (r.answer ≡ q.answer) × (r.state ≡ q.state) × (img' ≡ img'') × (t' ≡ t'') × (ids' ≡ ids'') × (buf' ≡ buf'')
  reads_unique a b = (
    told_apart r.answer q.answer (a.answer ∙ sym b.answer),
    a.state ∙ sym b.state,
    a.image ∙ sym b.image,
    a.tables ∙ sym b.tables,
    a.list ∙ sym b.list,
    a.buffer ∙ sym b.buffer,
  )
