-- A refusal is told by its number, and every refusal has one above 0. Assumes nothing.
use Prim.Native.Nat.{ℕ, ◌<◌}
use mathlib.Core.Path.{◌≡◌, refl, sym, ◌∙◌, ap}
use mathlib.Core.List.{[], ◌∷◌}
use native.Mathlib.Omega.{arith}
use lib.ListN.{get_or}
use Rattle.std.specs.Prelude.{Result, Ok, Err, IfOk}
use Rattle.std.proofs.lemmas.Result.{IfOk-at_ok}
use Rattle.consts.specs.Refusals.{number_of, ends_with, Ends}
use Rattle.consts.specs.declared.refusal.Refusal.{Refusal}
use Rattle.consts.specs.declared.refusal.Refusal.TheVariants.{TooShort, Signature, ByteOrder, Version, SectorShift, MiniSectorShift, DirSectors, Cutoff, HeaderList, WholeSectors, ShortTable, FatLists, FatTail, Unmarked, PastEnd, PointedTwice, InvalidEntry, FreePointee, Disagrees, BadStart, BrokenChain, Loop, Offset, NoRoom, MidChain, PermissiveChange}

-- the refusal of a number
refusal_of : ℕ → Refusal
refusal_of n =
    get_or
    (TooShort ∷ TooShort ∷ Signature ∷ ByteOrder ∷ Version ∷ SectorShift ∷ MiniSectorShift ∷ DirSectors ∷ Cutoff ∷ HeaderList ∷ WholeSectors ∷ ShortTable ∷ FatLists ∷ FatTail ∷ Unmarked ∷ PastEnd ∷ PointedTwice ∷ InvalidEntry ∷ FreePointee ∷ Disagrees ∷ BadStart ∷ BrokenChain ∷ Loop ∷ Offset ∷ NoRoom ∷ MidChain ∷ PermissiveChange ∷ []) n TooShort

refusal_back : (e : Refusal) → refusal_of (number_of e) ≡ e
unfolding refusal_of
refusal_back TooShort = refl
refusal_back Signature = refl
refusal_back ByteOrder = refl
refusal_back Version = refl
refusal_back SectorShift = refl
refusal_back MiniSectorShift = refl
refusal_back DirSectors = refl
refusal_back Cutoff = refl
refusal_back HeaderList = refl
refusal_back WholeSectors = refl
refusal_back ShortTable = refl
refusal_back FatLists = refl
refusal_back FatTail = refl
refusal_back Unmarked = refl
refusal_back PastEnd = refl
refusal_back PointedTwice = refl
refusal_back InvalidEntry = refl
refusal_back FreePointee = refl
refusal_back Disagrees = refl
refusal_back BadStart = refl
refusal_back BrokenChain = refl
refusal_back Loop = refl
refusal_back Offset = refl
refusal_back NoRoom = refl
refusal_back MidChain = refl
refusal_back PermissiveChange = refl

-- two refusals with one number are one
pub number_apart : (e f : Refusal) → number_of e ≡ number_of f → e ≡ f
number_apart e f same = sym (refusal_back e) ∙ ap refusal_of same ∙ refusal_back f

-- the number of a refusal is not that of an acceptance
pub number_some : (e : Refusal) → 0 < number_of e
number_some TooShort = omega arith
number_some Signature = omega arith
number_some ByteOrder = omega arith
number_some Version = omega arith
number_some SectorShift = omega arith
number_some MiniSectorShift = omega arith
number_some DirSectors = omega arith
number_some Cutoff = omega arith
number_some HeaderList = omega arith
number_some WholeSectors = omega arith
number_some ShortTable = omega arith
number_some FatLists = omega arith
number_some FatTail = omega arith
number_some Unmarked = omega arith
number_some PastEnd = omega arith
number_some PointedTwice = omega arith
number_some InvalidEntry = omega arith
number_some FreePointee = omega arith
number_some Disagrees = omega arith
number_some BadStart = omega arith
number_some BrokenChain = omega arith
number_some Loop = omega arith
number_some Offset = omega arith
number_some NoRoom = omega arith
number_some MidChain = omega arith
number_some PermissiveChange = omega arith

pub number_not : (e : Refusal) → number_of e ≡ 0 → ⊥
number_not e z = omega (arith, number_some e, z)

-- two answers that carry nothing but a refusal, with one number, are one
pub ends_apart : (r s : Result (Unit {0}) Refusal) → ends_with r ≡ ends_with s → r ≡ s
ends_apart (Ok x) (Ok y) same = refl
ends_apart (Ok x) (Err f) same = absurd (number_not f (sym same))
ends_apart (Err e) (Ok y) same = absurd (number_not e same)
ends_apart (Err e) (Err f) same = ap Err (number_apart e f same)

-- two answers with one number are one, where what they accept with is told
pub answers_apart : {A : Type 0} (r s : Result A Refusal) (x : A) → ends_with r ≡ ends_with s → IfOk r (λ y. y ≡ x) → IfOk s (λ y. y ≡ x) → r ≡ s
answers_apart (Ok y) (Ok z) x same p q = ap Ok (p ∙ sym q)
answers_apart (Ok y) (Err f) x same p q = absurd (number_not f (sym same))
answers_apart (Err e) (Ok z) x same p q = absurd (number_not e same)
answers_apart (Err e) (Err f) x same p q = ap Err (number_apart e f same)

-- an answer that ends with k: a refusal has that number, and what is accepted is what the answer carries
module _ {A : Type 0} {k : ℕ} {v : A} where
  pub refusal_ends : (e : Refusal) → number_of e ≡ k → Ends k v (Err e)
  refusal_ends e n = record { number = n; value = tt }

  pub value_ends : (x : A) → k ≡ 0 → x ≡ v → Ends k v (Ok x)
  value_ends x z e = record { number = sym z; value = e }

  pub ends_refused : {r : Result A Refusal} → Ends k v r → (e : Refusal) → r ≡ Err e → (k ≡ 0 → ⊥) × (number_of e ≡ k)
  ends_refused a e q = let n : number_of e ≡ k = sym (ap ends_with q) ∙ a.number in (λ z. number_not e (n ∙ z), n)

  pub ends_accepted : {r : Result A Refusal} → Ends k v r → (x : A) → r ≡ Ok x → (k ≡ 0) × (x ≡ v)
  ends_accepted a x q = (sym (sym (ap ends_with q) ∙ a.number), IfOk-at_ok (λ y. y ≡ v) q a.value)

  pub ends_same : {r : Result A Refusal} {l : ℕ} → k ≡ l → Ends k v r → Ends l v r
  ends_same e a = record { number = a.number ∙ e; value = a.value }
