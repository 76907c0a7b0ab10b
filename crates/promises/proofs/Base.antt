-- A strict state that agrees with its image has well-formed tables, and each sector of its chain in hand one role. Assumes nothing.
use Prim.Native.Nat.{ℕ, ◌≤◌, ◌<◌}
use mathlib.Core.Path.{◌≡◌, refl, sym, ◌∙◌, ap}
use mathlib.Core.Bool.{Bool, true}
use mathlib.Core.List.{List}
use mathlib.Core.Logic.{⊎_elim, ◌≢◌}
use native.Mathlib.Omega.{arith}
use lib.ListN.{length, get_or, take}
use lib.Seq.{get_or-take}
use Rattle.lists.specs.Rows.{refusal}
use Rattle.consts.specs.Consts.{difat_sector, fat_sector, end_of_chain, free_sector}
use Rattle.header.specs.Versions.{length_of, is_strict}
use Rattle.header.specs.Read.{header_of}
use Rattle.header.specs.declared.Header.{Header}
use Rattle.header.specs.declared.Validation.{Validation}
use Rattle.fat.specs.Lists.{sectors_in, room_of, fat_count, difat_count, difats_in, fats_in}
use Rattle.alloc.specs.Opening.{Tables, table_rows, open_fat, open_tables, shortest}
use Rattle.alloc.proofs.Filled.{front_padded}
use Rattle.agree.specs.Agrees.{Agrees}
use Rattle.sound.specs.Sound.{WellFormed, Accepts}
use Rattle.sound.proofs.Sound.{strict_sound}
use Rattle.edits.specs.Roles.{Roles}
use Rattle.cfb.specs.Calls.{state_len, chain_ids}
use Rattle.cfb.specs.Changes.{change_no, chain_from}
use Rattle.cfb.specs.declared.State.{State}
use Rattle.cfb.proofs.Agreed.{parts, agreed_front}
use Rattle.cfb.proofs.Ready.{agrees, strict_mode, frees, free_long, free_at_lem, next_kind, ready_fits, ready_apart}
use Rattle.cfb.proofs.Fitted.{length_fats, length_difats}
use Rattle.cfb.proofs.Refusing.{padded_front}

-- the tables of an agreeing strict state, cut to their counts
abbrev pub fats_cut : Header → ℕ → Tables → List ℕ
fats_cut h n t = take (fat_count (length_of h.version) n) t.fats

abbrev pub difats_cut : Header → ℕ → Tables → List ℕ
difats_cut h n t = take (difat_count (length_of h.version) (fat_count (length_of h.version) n)) t.difats

formed_own : (h h' : Header) (n n' : ℕ) (fat fat' fats fats' difats difats' : List ℕ) → h ≡ h' → n ≡ n' → fat ≡ fat' → fats ≡ fats' → difats ≡ difats'
    → WellFormed (length_of h.version) n fat fats difats → WellFormed (length_of h'.version) n' fat' fats' difats'
formed_own h h' n n' fat fat' fats fats' difats difats' p q a b c w = rw (p, q, a, b, c) at w

-- document 01, 12 to 18: they are well formed
pub agreed_formed : (m : Validation) (img : List ℕ) (used sectors free : ℕ) (h : Header) (t : Tables) → Agrees m img used sectors free h t → is_strict m ≡ true
    → WellFormed (length_of h.version) sectors (take sectors t.fat) (fats_cut h sectors t) (difats_cut h sectors t)
unfolding open_tables
agreed_formed m img used sectors free h t a strict =
    formed_own (header_of img) h n sectors _ (take sectors t.fat) _ (fats_cut h sectors t) _ (difats_cut h sectors t) (sym a.header) (sym a.count)
    (sym (agreed_front m img used sectors free h t a))
    (sym (front_padded _ t.fats _ (length t.fats) a.tables.fats (length_fats S img (header_of img) n ∙ fats_own)))
    (sym (front_padded _ t.difats _ (length t.difats) a.tables.difats (length_difats S img (header_of img) n ∙ difats_own)))
    ((strict_sound S img (header_of img) n (open_fat S img (header_of img) n) (fats_in S img (header_of img) n) (difats_in S img (header_of img) n)).0 accepts).formed
  where
    S : ℕ
    S = length_of (header_of img).version

    n : ℕ
    n = sectors_in S used

    accepts : Accepts S img (header_of img) n (open_fat S img (header_of img) n) (fats_in S img (header_of img) n) (difats_in S img (header_of img) n)
    accepts = record {
      number = ap (λ (b : Bool). refusal (table_rows b S img (header_of img) n)) (sym strict) ∙ (parts m img used (shortest t) a.opens).1;
      fat_is = refl;
      fats_are = refl;
      difats_are = refl;
    }

    fats_own : fat_count S n ≡ fat_count (length_of h.version) sectors
    fats_own = rw (a.header, a.count)

    difats_own : difat_count S (fat_count S n) ≡ difat_count (length_of h.version) (fat_count (length_of h.version) sectors)
    difats_own = rw (a.header, a.count)

-- each sector of the chain in hand of a change that nothing before 23 stands against has one role
module _ (s : State) (img : List ℕ) (t : Tables) (room start : ℕ) (z : change_no s img t room start ≡ 0) where
  abbrev fat : List ℕ
  fat = take s.sectors t.fat

  abbrev k : ℕ
  k = fat_count (state_len s) s.sectors

  abbrev d : ℕ
  d = difat_count (state_len s) k

  formed : WellFormed (state_len s) s.sectors fat (fats_cut s.header s.sectors t) (difats_cut s.header s.sectors t)
  formed = agreed_formed s.mode img s.used s.sectors s.free s.header t (agrees s img t room start z) (strict_mode s img t room start z)

  -- the listed sectors and their marks
  fats_few : length (fats_cut s.header s.sectors t) ≡ k
  fats_few = formed.fats_length

  difats_few : length (difats_cut s.header s.sectors t) ≡ d
  difats_few = formed.difats_length ∙ ap (difat_count (state_len s)) fats_few

  fat_mark : (p : ℕ) → p < k → get_or fat (get_or t.fats p 0) 0 ≡ fat_sector
  fat_mark p h = ap (λ (i : ℕ). get_or fat i 0) (sym (get_or-take k t.fats p 0 h)) ∙ formed.fats_marked p (omega (arith, fats_few))

  difat_mark : (p : ℕ) → p < d → get_or fat (get_or t.difats p 0) 0 ≡ difat_sector
  difat_mark p h = ap (λ (i : ℕ). get_or fat i 0) (sym (get_or-take d t.difats p 0 h)) ∙ formed.difats_marked p (omega (arith, difats_few))

  -- those of the chain and the FREE ones
  id_at : (j : ℕ) → j < length (chain_ids s t start) → get_or (chain_from s img t room start).ids j 0 ≡ get_or (chain_ids s t start) j 0
  unfolding chain_from
  id_at j h = padded_front (chain_ids s t start) room j h

  id_mark : (j v : ℕ) → j < length (chain_ids s t start) → end_of_chain ≢ v → s.sectors ≤ v → get_or fat (get_or (chain_ids s t start) j 0) 0 ≢ v
  id_mark j v h n l e = ⊎_elim (λ x. n (sym x ∙ e)) (λ x. omega (arith, x, e, l)) (next_kind s img t room start z j h)

  free_mark : (j : ℕ) → j < s.free → get_or fat (get_or t.frees j 0) 0 ≡ free_sector
  free_mark j h = ap (λ (i : ℕ). get_or fat i 0) (sym (free_at_lem s img t room start z j h)) ∙ (frees s img t room start z).free j (omega (arith, free_long s img t room start z))

  few : s.sectors ≤ 16384
  unfolding chain_from
  few = let f = (ready_fits s img t room start z).fits.disk in omega (arith, f.inside, f.few)

  pub roles_of : Roles (state_len s) (room_of (state_len s) (length img)) (chain_from s img t room start)
  unfolding chain_from
  roles_of = record {
    fits = ready_fits s img t room start z;
    apart = ready_apart s img t room start z;
    fats_once = λ i j hi hj e. formed.fats_differ i j (omega (arith, fats_few)) (omega (arith, fats_few)) (get_or-take k t.fats i 0 hi ∙ e ∙ sym (get_or-take k t.fats j 0 hj));
    difats_once = λ i j hi hj e. formed.difats_differ i j (omega (arith, difats_few)) (omega (arith, difats_few)) (get_or-take d t.difats i 0 hi ∙ e ∙ sym (get_or-take d t.difats j 0 hj));
    fats_difats = λ p q hp hq e. omega (arith, fat_mark p hp, difat_mark q hq, ap (λ (i : ℕ). get_or fat i 0) e);
    ids_fats = λ j p hj hp e. id_mark j fat_sector hj (λ x. omega (arith, x)) (omega (arith, few)) (ap (λ (i : ℕ). get_or fat i 0) (sym (id_at j hj) ∙ e) ∙ fat_mark p hp);
    ids_difats = λ j p hj hp e. id_mark j difat_sector hj (λ x. omega (arith, x)) (omega (arith, few)) (ap (λ (i : ℕ). get_or fat i 0) (sym (id_at j hj) ∙ e) ∙ difat_mark p hp);
    frees_fats = λ j p hj hp e. omega (arith, free_mark j hj, fat_mark p hp, ap (λ (i : ℕ). get_or fat i 0) e);
    frees_difats = λ j p hj hp e. omega (arith, free_mark j hj, difat_mark p hp, ap (λ (i : ℕ). get_or fat i 0) e);
  }
