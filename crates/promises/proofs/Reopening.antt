-- A strict opening of the bytes finds the tables in hand, and before a change the tables in hand are those that an opening finds. Assumes nothing.
use Prim.Native.Nat.{ℕ, ◌+◌, ◌-◌, ◌*◌, ◌/◌, ◌≤◌, ◌<◌, min}
use mathlib.Core.Path.{◌≡◌, refl, sym, ◌∙◌, ap, subst}
use mathlib.Core.Bool.{Bool, true, not}
use mathlib.Core.List.{List, [], ◌∷◌, ◌++◌}
use mathlib.Core.Logic.{◌⊎◌, inl, inr, ⊎_elim}
use native.Mathlib.Omega.{arith}
use native.Mathlib.Nat.{add-mul, one-mul, mul-le-mul_right, mul-mod_left, mul-div_cancel}
use borrow.Author.Tests.{le-ltb, ltb-false, not-false}
use lib.ListN.{length, get_or, take, drop, replicate, length-take, length-drop, length-replicate, get_or-replicate, take-append-drop, get_or-eq_default}
use lib.Seq.{ext_get_or, get_or-drop, length-take-le}
use Rattle.lists.specs.Lists.{part, same_list}
use Rattle.lists.specs.Rows.{Row, row, refusal, distinct, fresh}
use Rattle.lists.proofs.Cases.{below_or}
use Rattle.lists.proofs.Pigeon.{pigeon}
use Rattle.lists.proofs.Rows.{pass, given_none, append_accepts}
use Rattle.lists.proofs.Splice.{get_d_part}
use Rattle.words.proofs.Laws.{le_ext}
use Rattle.consts.specs.Consts.{signature}
use Rattle.fields.specs.Fields.{fats_at, difat_at, major_at, order_at, shift_at, mini_at, dirs_at, dir_at, cutoff_at, minifat_at, minifats_at, offset_of, width_of, number_at, list_of, ids_then_free}
use Rattle.header.specs.Versions.{length_of, is_strict}
use Rattle.header.specs.Read.{fixed_of, fixed_rows, header_rows, read_rows, read_no, header_of}
use Rattle.header.specs.declared.judge.Fixed.{Fixed}
use Rattle.header.specs.declared.Header.{Header}
use Rattle.header.specs.declared.Validation.{Validation}
use Rattle.header.specs.declared.Validation.TheVariants.{Strict}
use Rattle.header.proofs.Given.{strict}
use Rattle.fat.specs.Lists.{sectors_in, room_of, difats_in, fats_in}
use Rattle.judge.specs.Judge.{marks_of, frees_of}
use Rattle.stores.specs.Stores.{NotIn}
use Rattle.alloc.specs.Opening.{Tables, first_rows, table_rows, open_fat, open_tables, shortest, padded}
use Rattle.alloc.proofs.First.{early_passed}
use Rattle.alloc.proofs.Filled.{front_padded, length_open_fat, length_marks, length_fats, length_difats}
use Rattle.points.specs.Frees.{FreesOnce}
use Rattle.agree.specs.Agrees.{Held, Agrees}
use Rattle.sound.specs.Sound.{Encodes, Sound, Accepts}
use Rattle.sound.proofs.Sound.{strict_sound, opens_sound}
use Rattle.hand.specs.Hand.{Hand}
use Rattle.hand.specs.Fits.{FitsHand}
use Rattle.agree.proofs.Meaning.{ascending_once}
use Rattle.cfb.specs.Calls.{state_len}
use Rattle.cfb.specs.Changes.{change_no, chain_from}
use Rattle.cfb.specs.declared.State.{State}
use Rattle.cfb.proofs.Agreed.{parts, agreed_front}
use Rattle.cfb.proofs.Fitted.{hand_in, agreed_fits}
use Rattle.cfb.proofs.Ready.{agrees, strict_mode}
use Rattle.cfb.proofs.Refusing.{padded_past}
use Rattle.promises.specs.Coded.{Coded}
use Rattle.promises.specs.Tails.{Tailed}
use Rattle.promises.specs.Whole.{Formed, fat_held, fats_list, difats_list}
use Rattle.promises.proofs.Encoding.{encoded_coded, coded_encoded}

-- parts of equally long lists are the same where their elements are
part_same : (b c : List ℕ) (o k : ℕ) → length b ≡ length c → ((i : ℕ) → i < k → get_or b (o + i) 0 ≡ get_or c (o + i) 0) → part b o k ≡ part c o k
unfolding part
part_same b c o k e h =
    ext_get_or 0 (part b o k) (part c o k)
    (length-take k (drop o b) ∙ ap (min k) (length-drop o b ∙ ap (λ (m : ℕ). m - o) e ∙ sym (length-drop o c)) ∙ sym (length-take k (drop o c)))
    (λ i l.
    let s : i < k = omega (arith, l, length-take k (drop o b)) in
    get_d_part b o k i s ∙ h i s ∙ sym (get_d_part c o k i s))

-- the rows of a header, by its signature, its numbers and its list
rows_same : (m : Validation) (p p' : List ℕ) (x x' : Fixed) (t t' : Bool) → p ≡ p' → x ≡ x' → t ≡ t'
    → ◌≡◌ {A = List Row} (row 2 (not (same_list p signature)) ∷ (fixed_rows m x ++ (row 9 (not t) ∷ []))) (row 2 (not (same_list p' signature)) ∷ (fixed_rows m x' ++ (row 9 (not t') ∷ [])))
rows_same m p p' x x' t t' u v w = rw (u, v, w)

-- MS-CFB 2.2: two images of one length have the same bytes in the header's fields that no change stores: all below 68 but those of the FAT's count
pub record Alike (img img' : List ℕ) : Type 0 where
  pub long : length img' ≡ length img
  pub bytes : (b : ℕ) → NotIn (offset_of fats_at) (width_of fats_at) b → b < offset_of difat_at → get_or img' b 0 ≡ get_or img b 0

-- document 01, 2 to 9: the second image's header is accepted, and those fields are read as the first one's
pub record Headed (img img' : List ℕ) : Type 0 where
  pub rows : refusal (header_rows Strict img') ≡ 0
  pub version : (header_of img').version ≡ (header_of img).version
  pub dirs : (header_of img').dirs ≡ (header_of img).dirs
  pub dir : (header_of img').dir ≡ (header_of img).dir
  pub minifat : (header_of img').minifat ≡ (header_of img).minifat
  pub minifats : (header_of img').minifats ≡ (header_of img).minifats

module _ (img img' : List ℕ) (a : Alike img img') where
  before_fats : (i : ℕ) → offset_of i + width_of i ≤ offset_of fats_at → number_at img' i ≡ number_at img i
  unfolding number_at
  before_fats i h = le_ext (width_of i) img' img (offset_of i) (offset_of i) (λ b l. a.bytes (offset_of i + b) (inl (omega (arith, h, l))) (omega (arith, h, l)))

  after_fats : (i : ℕ) → offset_of fats_at + width_of fats_at ≤ offset_of i → offset_of i + width_of i ≤ offset_of difat_at → number_at img' i ≡ number_at img i
  unfolding number_at
  after_fats i g h = le_ext (width_of i) img' img (offset_of i) (offset_of i) (λ b l. a.bytes (offset_of i + b) (inr (omega (arith, g))) (omega (arith, h, l)))

  fixed_same : fixed_of img' ≡ fixed_of img
  unfolding fixed_of
  fixed_same =
      rw (
        before_fats order_at (omega arith),
        before_fats major_at (omega arith),
        before_fats shift_at (omega arith),
        before_fats mini_at (omega arith),
        before_fats dirs_at (omega arith),
        after_fats cutoff_at (omega arith) (omega arith),
      )

  -- document 01, 2 to 9: such a header is accepted where the first one is and its own list is sector numbers and then FREE
  pub headed : refusal (header_rows Strict img) ≡ 0 → ids_then_free (list_of img') ≡ true → Headed img img'
  unfolding header_rows fixed_rows header_of distinct fresh
  headed z t = record {
    rows =
        ap refusal (rows_same Strict (part img' 0 8) (part img 0 8) (fixed_of img') (fixed_of img) (ids_then_free (list_of img')) (ids_then_free (list_of img))
        (part_same img' img 0 8 a.long (λ i l. a.bytes (0 + i) (inl (omega (arith, l))) (omega (arith, l))))
        fixed_same
        (t ∙ sym (not-false _ (given_none (header_rows Strict img) refl z 7 (omega arith)))))
        ∙ z;
    version = rw (before_fats major_at (omega arith));
    dirs = rw (before_fats major_at (omega arith), before_fats dirs_at (omega arith));
    dir = after_fats dir_at (omega arith) (omega arith);
    minifat = after_fats minifat_at (omega arith) (omega arith);
    minifats = after_fats minifats_at (omega arith) (omega arith);
  }

-- a table with zeros past its count is its front and zeros
tail_padded : (xs ys : List ℕ) (k : ℕ) → k ≤ length xs → take k xs ≡ ys → ((i : ℕ) → k ≤ i → get_or xs i 0 ≡ 0) → xs ≡ padded ys (length xs)
unfolding padded
tail_padded xs ys k l e z =
    let long : length ys ≡ k = ap length (sym e) ∙ length-take-le k xs l in
    let rest : drop k xs ≡ replicate (length xs - k) 0 =
    ext_get_or 0 (drop k xs) (replicate (length xs - k) 0) (length-drop k xs ∙ sym (length-replicate {A = ℕ} (length xs - k) 0))
    (λ i h. get_or-drop k xs i 0 ∙ z (k + i) (omega arith) ∙ sym (get_or-replicate (length xs - k) i 0 0 (omega (arith, h, length-drop k xs)))) in
    sym (take-append-drop k xs) ∙ ap (λ (l : List ℕ). l ++ drop k xs) e ∙ ap (λ (l : List ℕ). ys ++ l) (rest ∙ ap (λ (m : ℕ). replicate (length xs - m) 0) (sym long))

-- document 01: lists of the FREE sectors, each once, are no longer than one another
once_few : (n : ℕ) (fat xs ys : List ℕ) → FreesOnce n fat xs → FreesOnce n fat ys → length xs ≤ length ys
once_few n fat xs ys f g =
    pigeon (length ys) (length xs) (λ i. pick i (below_or i (length xs)))
    (λ i h. within i h (below_or i (length xs)))
    (λ i j hi hj e.
    f.once i j hi hj
    (sym (picked i hi (below_or i (length xs))) ∙ ap (λ (p : ℕ). get_or ys p 0) e ∙ picked j hj (below_or j (length xs))))
  where
    at : (i : ℕ) → i < length xs → (j : ℕ) × (j < length ys) × (get_or ys j 0 ≡ get_or xs i 0)
    at i h = g.all (get_or xs i 0) (f.below i h) (f.free i h)

    pick : (i : ℕ) → (i < length xs) ⊎ (length xs ≤ i) → ℕ
    pick i (inl h) = (at i h).0
    pick i (inr h) = 0

    within : (i : ℕ) → i < length xs → (w : (i < length xs) ⊎ (length xs ≤ i)) → pick i w < length ys
    within i l (inl h) = (at i h).1
    within i l (inr h) = absurd (omega (arith, l, h))

    picked : (i : ℕ) → i < length xs → (w : (i < length xs) ⊎ (length xs ≤ i)) → get_or ys (pick i w) 0 ≡ get_or xs i 0
    picked i l (inl h) = (at i h).2
    picked i l (inr h) = absurd (omega (arith, l, h))

pub once_counts : (n : ℕ) (fat xs : List ℕ) → FreesOnce n fat xs → length xs ≡ length (frees_of n fat)
once_counts n fat xs f = omega (arith, once_few n fat xs (frees_of n fat) f (ascending_once n fat), once_few n fat (frees_of n fat) xs (ascending_once n fat) f)

once_own : (n : ℕ) (fat fat' xs : List ℕ) → fat ≡ fat' → FreesOnce n fat xs → FreesOnce n fat' xs
once_own n fat fat' xs e f = rw e at f

-- what is held of a count is held of an equal one
held_own : (S : ℕ) (img : List ℕ) (h : Header) (n n' free : ℕ) (t : Tables) → n ≡ n' → Held n (open_tables S img h n) free t → Held n' (open_tables S img h n') free t
held_own S img h n n' free t e q = rw e at q

sound_own : (S : ℕ) (img : List ℕ) (h : Header) (n n' : ℕ) (fat fats difats : List ℕ) → n ≡ n' → Sound S img h n fat fats difats → Sound S img h n' fat fats difats
sound_own S img h n n' fat fats difats e q = rw e at q

-- the lent tables in hand
abbrev pub tables_hand : Hand → Tables
tables_hand h = record { fat = h.disk.fat; fats = h.disk.fats; difats = h.disk.difats; frees = h.frees; marks = h.marks }

-- sectors that are one more than their bytes' own count
count_whole : (S n : ℕ) → 1 ≤ S → sectors_in S ((n + 1) * S) ≡ n
unfolding sectors_in
count_whole S n some = let q : (n + 1) * S / S ≡ n + 1 = mul-div_cancel (n + 1) {n = S} some in omega (arith, q)

module _ (h : Hand) where
  abbrev img : List ℕ
  img = h.disk.image

  abbrev S : ℕ
  S = length_of (header_of img).version

  abbrev n : ℕ
  n = h.disk.sectors

  abbrev used : ℕ
  used = (n + 1) * S

  module _ (R : ℕ) (f : FitsHand S R h) (room : room_of S (length img) ≤ R) (w : Formed S h) (c : Coded S h.disk) (t : Tailed S h) (z : refusal (header_rows Strict img) ≡ 0) where
    counted : sectors_in S used ≡ n
    counted = count_whole S n (omega (arith, f.disk.header))

    sound : Sound S img (header_of img) n (fat_held h.disk) (fats_list S h.disk) (difats_list S h.disk)
    sound = record { encodes = coded_encoded S R h.disk f.disk c; formed = w.tables }

    accepts : Accepts S img (header_of img) n (fat_held h.disk) (fats_list S h.disk) (difats_list S h.disk)
    accepts = (strict_sound S img (header_of img) n _ _ _).1 sound

    fits : used ≤ length img
    fits =
        let m : (n + 1) * S ≤ (R + 1) * S = mul-le-mul_right S (omega (arith, f.disk.inside)) in
        omega (arith, m, f.disk.holds.fits)

    read : read_no Strict img ≡ 0
    unfolding read_no read_rows
    read = pass 1 _ _ (le-ltb (length img) 512 (omega (arith, fits, add-mul n 1 S, one-mul S, f.disk.header))) ∙ z

    long : room_of S (length img) ≤ shortest (tables_hand h)
    unfolding shortest
    long = omega (arith, room, f.disk.fat_long, f.disk.fats_long, f.disk.difats_long, f.frees_long, f.marks_long)

    first : refusal (first_rows Strict img used (shortest (tables_hand h))) ≡ 0
    unfolding sectors_in
    first =
        sym (early_passed Strict img used (shortest (tables_hand h)) (omega (arith, add-mul n 1 S, one-mul S, f.disk.header)) fits read S refl (mul-mod_left (n + 1) S)
        (omega (arith, counted, f.disk.inside, f.disk.few)) (header_of img) refl long).number

    frees_long : length (take h.free h.frees) ≡ h.free
    frees_long = length-take-le h.free h.frees (omega (arith, f.free_few, f.disk.inside, f.frees_long))

    frees_once : FreesOnce n (open_fat S img (header_of img) n) (take h.free h.frees)
    frees_once = once_own n _ _ _ accepts.fat_is w.frees

    holds : Held n (open_tables S img (header_of img) n) h.free (tables_hand h)
    unfolding open_tables
    holds = record {
      fat = tail_padded h.disk.fat _ n (omega (arith, f.disk.inside, f.disk.fat_long)) accepts.fat_is t.fat;
      fats = tail_padded h.disk.fats _ _ (omega (arith, f.disk.fats_many, f.disk.fats_long)) accepts.fats_are t.fats;
      difats = tail_padded h.disk.difats _ _ (omega (arith, f.disk.difats_many, f.disk.difats_long)) accepts.difats_are t.difats;
      marks = tail_padded h.marks _ n (omega (arith, f.disk.inside, f.marks_long)) (w.marks ∙ ap (marks_of n) accepts.fat_is) t.marks;
      count = sym frees_long ∙ once_counts n (open_fat S img (header_of img) n) (take h.free h.frees) frees_once;
      frees = frees_once;
      rest = λ j g l. t.frees j g;
    }

    -- document 01, 19: a strict opening of the bytes in hand finds the tables in hand
    pub reopens : Agrees Strict img used n h.free (header_of img) (tables_hand h)
    reopens = record {
      opens = (opens_sound img used (shortest (tables_hand h))).1 (first, record { fat = _; fats = _; difats = _; sound = sound_own S img (header_of img) n _ _ _ _ (sym counted) sound });
      header = refl;
      count = sym counted;
      tables = held_own S img (header_of img) n _ h.free (tables_hand h) (sym counted) holds;
    }

-- an image that opens, with tables that hold what the opening gives
module _ (m : Validation) (img : List ℕ) (used free : ℕ) (t : Tables) where
  abbrev own_len : ℕ
  own_len = length_of (header_of img).version

  abbrev own : ℕ
  own = sectors_in own_len used

  module _ (a : Agrees m img used own free (header_of img) t) where
    firsts : refusal (first_rows m img used (shortest t)) ≡ 0
    firsts = (parts m img used (shortest t) a.opens).0

    -- document 01, 2 to 9 and 11
    rows_own : refusal (header_rows m img) ≡ 0
    unfolding first_rows header_rows fixed_rows distinct fresh
    rows_own =
        let none = given_none (first_rows m img used (shortest t)) refl firsts in
        ((append_accepts (header_rows m img) _ refl).0 (sym (pass 1 _ _ (none 0 (omega arith))) ∙ firsts)).0

    list_own : ids_then_free (list_of img) ≡ true
    unfolding header_rows fixed_rows distinct fresh
    list_own = not-false _ (given_none (header_rows m img) refl rows_own 7 (omega arith))

    long_own : room_of own_len (length img) ≤ shortest t
    unfolding first_rows header_rows fixed_rows distinct fresh
    long_own = ltb-false _ _ (given_none (first_rows m img used (shortest t)) refl firsts 10 (omega arith))

    fits_own : FitsHand own_len (room_of own_len (length img)) (hand_in img own free t)
    fits_own = agreed_fits m img used own free (header_of img) t a long_own

    -- MS-CFB 2.2, 2.3, 2.5: the bytes encode those tables
    encodes_own : is_strict m ≡ true → Encodes own_len img (header_of img) own (open_fat own_len img (header_of img) own) (fats_in own_len img (header_of img) own) (difats_in own_len img (header_of img) own)
    encodes_own s =
        ((strict_sound own_len img (header_of img) own _ _ _).0
        (record {
          number = ap (λ (b : Bool). refusal (table_rows b own_len img (header_of img) own)) (sym s) ∙ (parts m img used (shortest t) a.opens).1;
          fat_is = refl;
          fats_are = refl;
          difats_are = refl;
        })
        ).encodes

    coded_own : is_strict m ≡ true → Coded own_len (hand_in img own free t).disk
    unfolding open_tables
    coded_own s =
        encoded_coded own_len _ (hand_in img own free t).disk fits_own.disk
        (encodes_as
        (sym (agreed_front m img used own free (header_of img) t a))
        (sym (front_padded _ t.fats _ (length t.fats) a.tables.fats (length_fats own_len img (header_of img) own)))
        (sym (front_padded _ t.difats _ (length t.difats) a.tables.difats (length_difats own_len img (header_of img) own)))
        (encodes_own s))
        list_own
      where
        encodes_as : {fat fat' fats fats' difats difats' : List ℕ} → fat ≡ fat' → fats ≡ fats' → difats ≡ difats' → Encodes own_len img (header_of img) own fat fats difats
            → Encodes own_len img (header_of img) own fat' fats' difats'
        encodes_as p q r e = rw (p, q, r) at e

    tailed_own : Tailed own_len (hand_in img own free t)
    unfolding open_tables
    tailed_own = record {
      fat = λ i l. past t.fat _ i a.tables.fat (omega (arith, l, length_open_fat own_len img (header_of img) own));
      fats = λ i l. past t.fats _ i a.tables.fats (omega (arith, l, length_fats own_len img (header_of img) own));
      difats = λ i l. past t.difats _ i a.tables.difats (omega (arith, l, length_difats own_len img (header_of img) own));
      frees = λ i l. ⊎_elim (λ (h : i < length t.frees). a.tables.rest i l h) (λ (g : length t.frees ≤ i). get_or-eq_default t.frees 0 g) (below_or i (length t.frees));
      marks = λ i l. past t.marks _ i a.tables.marks (omega (arith, l, length_marks own (open_fat own_len img (header_of img) own)));
    }
      where
        past : (now xs : List ℕ) (i : ℕ) → now ≡ padded xs (length now) → length xs ≤ i → get_or now i 0 ≡ 0
        past now xs i e g = ap (λ (l : List ℕ). get_or l i 0) e ∙ padded_past xs (length now) i g

-- what agrees, with the header and the count of the image
agrees_own : (m : Validation) (img : List ℕ) (used sectors n free : ℕ) (h h' : Header) (t : Tables) → h ≡ h' → sectors ≡ n → Agrees m img used sectors free h t → Agrees m img used n free h' t
agrees_own m img used sectors n free h h' t p q a = rw (p, q) at a

coded_as : (img : List ℕ) (n n' free : ℕ) (h h' : Header) (t : Tables) → h ≡ h' → n ≡ n' → Coded (length_of h.version) (hand_in img n free t).disk → Coded (length_of h'.version) (hand_in img n' free t).disk
coded_as img n n' free h h' t p q c = rw (p, q) at c

tailed_as : (img : List ℕ) (n n' free : ℕ) (h h' : Header) (t : Tables) → h ≡ h' → n ≡ n' → Tailed (length_of h.version) (hand_in img n free t) → Tailed (length_of h'.version) (hand_in img n' free t)
tailed_as img n n' free h h' t p q c = rw (p, q) at c

-- document 01, 19: state and tables that agree with their image
module _ (m : Validation) (img : List ℕ) (used sectors free : ℕ) (h : Header) (t : Tables) (a : Agrees m img used sectors free h t) where
  as_own : Agrees m img used (own m img used free t) free (header_of img) t
  as_own = agrees_own m img used sectors _ free h (header_of img) t a.header a.count a

  -- MS-CFB 2.2, 2.3, 2.5: the bytes of a strict opening say what the tables say
  pub agreed_coded : is_strict m ≡ true → Coded (length_of h.version) (hand_in img sectors free t).disk
  agreed_coded s = coded_as img _ sectors free (header_of img) h t (sym a.header) (sym a.count) (coded_own m img used free t as_own s)

  -- document 01, 19: the tables are zero past their counts
  pub agreed_tailed : Tailed (length_of h.version) (hand_in img sectors free t)
  agreed_tailed = tailed_as img _ sectors free (header_of img) h t (sym a.header) (sym a.count) (tailed_own m img used free t as_own)

  -- document 01, 2 to 9: the header is accepted
  pub agreed_headed : refusal (header_rows m img) ≡ 0
  agreed_headed = rows_own m img used free t as_own

-- the chain in hand before a change that nothing before 23 stands against
module _ (s : State) (img : List ℕ) (t : Tables) (room start : ℕ) (z : change_no s img t room start ≡ 0) where
  -- MS-CFB 2.2, 2.3, 2.5: the bytes say what its tables say
  pub before_coded : Coded (state_len s) (chain_from s img t room start).hand.disk
  unfolding chain_from
  before_coded = agreed_coded s.mode img s.used s.sectors s.free s.header t (agrees s img t room start z) (strict_mode s img t room start z)

  -- document 01, 19: its tables are zero past their counts
  pub before_tailed : Tailed (state_len s) (chain_from s img t room start).hand
  unfolding chain_from
  before_tailed = agreed_tailed s.mode img s.used s.sectors s.free s.header t (agrees s img t room start z)

  -- document 01, 2 to 9: the image's header passes a strict reading
  pub before_headed : refusal (header_rows Strict img) ≡ 0
  before_headed =
      ap (λ (m : Validation). refusal (header_rows m img)) (sym (strict s.mode (strict_mode s img t room start z)))
      ∙ agreed_headed s.mode img s.used s.sectors s.free s.header t (agrees s img t room start z)

-- document 01, 19: the same, with the sector's length as another number
pub reopens_at : (h : Hand) (S R : ℕ) → length_of (header_of h.disk.image).version ≡ S → FitsHand S R h → room_of S (length h.disk.image) ≤ R → Formed S h → Coded S h.disk → Tailed S h
    → refusal (header_rows Strict h.disk.image) ≡ 0 → Agrees Strict h.disk.image ((h.disk.sectors + 1) * S) h.disk.sectors h.free (header_of h.disk.image) (tables_hand h)
reopens_at h S R e f room w c t z =
    subst
    (λ (x : ℕ).
    FitsHand x R h → room_of x (length h.disk.image) ≤ R → Formed x h → Coded x h.disk → Tailed x h
    → Agrees Strict h.disk.image ((h.disk.sectors + 1) * x) h.disk.sectors h.free (header_of h.disk.image) (tables_hand h))
    e
    (λ f' room' w' c' t'. reopens h R f' room' w' c' t' z)
    f room w c t
