-- Lent tables that were zero hold what was loaded into their fronts, and zeros after it. Assumes nothing.
use Prim.Native.Nat.{ℕ, ◌≤◌}
use mathlib.Core.Path.{◌≡◌, refl, sym, ◌∙◌, ap}
use mathlib.Core.Bool.{Bool, true, false}
use mathlib.Core.List.{List, ◌++◌}
use native.Mathlib.Omega.{arith}
use lib.ListN.{length, take, drop, replicate, length-replicate}
use lib.Seq.{take_at}
use Rattle.std.proofs.lemmas.List.{take-replicate, drop-replicate}
use Rattle.lists.proofs.Tab.{length_tab}
use Rattle.header.specs.declared.Header.{Header}
use Rattle.fat.specs.Lists.{fat_count, difat_count, difats_of, fats_of, difats_in, fats_in}
use Rattle.judge.specs.Judge.{forgiven_fat, marks_of}
use Rattle.fat.specs.Loaded.{Counted}
use Rattle.alloc.specs.Opened.{TablesLoaded, Zeroed, AllFilled, AllLoaded, Lent}
use Rattle.std.specs.Prelude.{Result, Ok, Err}
use Rattle.std.specs.Result.{is_err}
use Rattle.consts.specs.declared.refusal.Refusal.{Refusal}
use Rattle.consts.proofs.Refusals.{number_not}
use Rattle.lent.specs.Tables.{tables_in, zeroed, SameTables}
use Rattle.lent.specs.declared.TablesMut.{TablesMut}
use Rattle.alloc.specs.Opening.{Tables, open_fat, padded}

-- the front of a list of zeros
pub zero_front : (xs : List ℕ) (n : ℕ) → xs ≡ replicate (length xs) 0 → n ≤ length xs → take n xs ≡ replicate n 0
zero_front xs n e h = ap (take n) e ∙ take-replicate n (length xs) 0 h

-- what was put over the front, and zeros after it
pub put_front : (xs ys front : List ℕ) (n : ℕ) → xs ≡ replicate (length xs) 0 → front ≡ ys → length ys ≡ n → front ++ drop n xs ≡ padded ys (length xs)
unfolding padded
put_front xs ys front n e f l = rw (f, ap (drop n) e ∙ drop-replicate n (length xs) 0, l)

-- the lengths of what is loaded
pub length_open_fat : (S : ℕ) (img : List ℕ) (h : Header) (n : ℕ) → length (open_fat S img h n) ≡ n
unfolding open_fat forgiven_fat
length_open_fat S img h n = length_tab _ n

pub length_marks : (n : ℕ) (fat : List ℕ) → length (marks_of n fat) ≡ n
unfolding marks_of
length_marks n fat = length_tab _ n

pub length_fats : (S : ℕ) (img : List ℕ) (h : Header) (n : ℕ) → length (fats_in S img h n) ≡ fat_count S n
unfolding fats_in fats_of
length_fats S img h n = length_tab _ (fat_count S n)

pub length_difats : (S : ℕ) (img : List ℕ) (h : Header) (n : ℕ) → length (difats_in S img h n) ≡ difat_count S (fat_count S n)
unfolding difats_in difats_of
length_difats S img h n = length_tab _ (difat_count S (fat_count S n))

module _ {S n len : ℕ} {t : Tables} (z : Zeroed S n len t) where
  -- the counts of zeroed tables
  pub zeroed_counted : {k d : ℕ} → k ≡ fat_count S n → d ≡ difat_count S k → Counted S n len k d
  zeroed_counted ek ed = record { holds = z.holds; short = z.short; few = z.few; fats = ek; difats = ed }

  -- the tables, loaded into their fronts
  pub filled : {strict : Bool} {img : List ℕ} {h : Header} {n' k d : ℕ} {r : Result ℕ Refusal} {o : Tables} → n' ≡ n → k ≡ fat_count S n → d ≡ difat_count S k → TablesLoaded strict S img h n' (length t.frees) r o
      → AllFilled strict S img h n t r (record { fat = o.fat ++ drop n t.fat; fats = o.fats ++ drop k t.fats; difats = o.difats ++ drop d t.difats; frees = o.frees; marks = o.marks ++ drop n t.marks })
  filled {strict} {img} {h} {r = r} {o} e ek ed loaded =
      let l : TablesLoaded strict S img h n (length t.frees) r o = rw e at loaded in
      record {
        number = l.number;
        free = l.free;
        fat_holds = λ q. put_front t.fat _ _ n z.fat_zero (l.fat_holds q) (length_open_fat S img h n);
        fats_hold = λ q. put_front t.fats _ _ _ z.fats_zero (l.fats_hold q) (length_fats S img h n ∙ sym ek);
        difats_hold = λ q. put_front t.difats _ _ _ z.difats_zero (l.difats_hold q) (length_difats S img h n ∙ sym (ed ∙ ap (difat_count S) ek));
        frees_hold = l.frees_hold;
        marks_hold = λ q. put_front t.marks _ _ n z.marks_zero (l.marks_hold q) (length_marks n (open_fat S img h n));
      }

-- counts stay right when their numbers are had as lengths
pub counted_same : (S n len k d n' k' d' : ℕ) → n' ≡ n → k' ≡ k → d' ≡ d → Counted S n len k d → Counted S n' len k' d'
counted_same S n len k d n' k' d' en ek ed c = rw (en, ek, ed) c

-- the front of a padded list is the list
pub front_padded : (xs now : List ℕ) (n m : ℕ) → now ≡ padded xs m → length xs ≡ n → take n now ≡ xs
unfolding padded
front_padded xs now n m e l = ap (take n) e ∙ take_at xs _ n l

-- zeros are as many as they are, and as many as they were made
zeros_own : (a : ℕ) → replicate {A = ℕ} a 0 ≡ replicate (length (replicate {A = ℕ} a 0)) 0
zeros_own a = ap (λ (k : ℕ). replicate k 0) (sym (length-replicate {A = ℕ} a 0))

longer : (n a : ℕ) → n ≤ a → n ≤ length (replicate {A = ℕ} a 0)
longer n a h = omega (arith, length-replicate {A = ℕ} a 0)

-- lent tables that were made zero
pub lent_zeroed : {S n len : ℕ} {t t' : Tables} → Lent S n len t → t' ≡ zeroed t → Zeroed S n len t'
lent_zeroed l e =
    rw e
    (record {
      holds = l.holds;
      short = l.short;
      few = l.few;
      fat_zero = zeros_own _;
      fats_zero = zeros_own _;
      difats_zero = zeros_own _;
      marks_zero = zeros_own _;
      fat_long = longer _ _ l.fat_long;
      fats_long = longer _ _ l.fats_long;
      difats_long = longer _ _ l.difats_long;
      frees_long = longer _ _ l.frees_long;
      marks_long = longer _ _ l.marks_long;
    })

-- tables that are made zero twice, and whose lengths stayed
pub zeroed_same : {a b : TablesMut} → SameTables a b → zeroed (tables_in b) ≡ zeroed (tables_in a)
zeroed_same s = rw (s.fat_long, s.fats_long, s.difats_long, s.frees_long, s.marks_long)

-- what was loaded into zeroed tables was loaded into tables of that length
module _ {strict : Bool} {S : ℕ} {img : List ℕ} {h : Header} {n : ℕ} {t zero t' : Tables} where
  -- every table is loaded
  pub filled_loaded : (r : Result ℕ Refusal) → false ≡ is_err r → zero ≡ zeroed t → AllFilled strict S img h n zero r t' → AllLoaded strict S img h n t r t'
  filled_loaded (Err w) b e filled = absurd (cc)
  filled_loaded (Ok free) b e filled =
      let f = rw e at filled in
      let long = λ (xs : List ℕ). length-replicate {A = ℕ} (length xs) 0 in
      record {
        filled = record {
          number = f.number;
          free = f.free;
          fat_holds = λ q. f.fat_holds q ∙ ap (padded _) (long t.fat);
          fats_hold = λ q. f.fats_hold q ∙ ap (padded _) (long t.fats);
          difats_hold = λ q. f.difats_hold q ∙ ap (padded _) (long t.difats);
          frees_hold = λ q. f.frees_hold q ∙ ap (padded _) (long t.frees);
          marks_hold = λ q. f.marks_hold q ∙ ap (padded _) (long t.marks);
        };
        zero = λ q. absurd (q refl);
      }

  -- a refused loading says its number, and the tables are zero
  pub refused_loaded : (r : Result ℕ Refusal) → true ≡ is_err r → AllFilled strict S img h n zero r t' → {t'' : Tables} → t'' ≡ zeroed t → AllLoaded strict S img h n t r t''
  refused_loaded (Ok free) b f z = absurd (cc)
  refused_loaded (Err w) b f z =
      record {
        filled = record {
          number = f.number;
          free = tt;
          fat_holds = λ q. absurd (number_not w q);
          fats_hold = λ q. absurd (number_not w q);
          difats_hold = λ q. absurd (number_not w q);
          frees_hold = λ q. absurd (number_not w q);
          marks_hold = λ q. absurd (number_not w q);
        };
        zero = λ _. z;
      }
