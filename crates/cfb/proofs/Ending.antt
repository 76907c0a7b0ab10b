-- What a change ends with: whether there is room, where the chain starts, and the state. Assumes nothing.
use Prim.Native.Nat.{ℕ, ◌+◌, ◌-◌, ◌*◌, ◌≤◌, ◌<◌}
use mathlib.Core.Path.{◌≡◌, sym, ◌∙◌, ap}
use mathlib.Core.Bool.{Bool, false, not}
use mathlib.Core.List.{List}
use mathlib.Core.Logic.{⊎_elim, ◌≢◌}
use native.Mathlib.Omega.{arith}
use borrow.Author.Tests.{eq-eqb, ne_eqb, lt-ltb, le-ltb, le-leb, lt-leb}
use lib.Dec.{ltb, leb}
use lib.ListN.{get_or}
use Rattle.lists.specs.Lists.{choose}
use Rattle.lists.proofs.Cases.{below_or}
use Rattle.consts.specs.Consts.{end_of_chain}
use Rattle.header.specs.Read.{header_of}
use Rattle.header.specs.declared.Header.{Header}
use Rattle.std.specs.Prelude.{Ok}
use Rattle.fat.specs.Lists.{room_of}
use Rattle.disk.specs.Disk.{count_after}
use Rattle.disk.proofs.Fitting.{count_none}
use Rattle.moves.specs.Change.{bytes_of}
use Rattle.moves.specs.declared.change.Edit.{Edit}
use Rattle.moves.specs.declared.change.Edit.TheVariants.{Write, Resize}
use Rattle.cfb.specs.Calls.{state_len}
use Rattle.cfb.specs.Changes.{no_room, start_in, done_with}
use Rattle.cfb.specs.declared.State.{State}

-- what is free needs no room
pub room_free : (s : State) (lent more : ℕ) → s.sectors ≤ room_of (state_len s) lent → more ≤ s.free → false ≡ no_room s lent more
unfolding no_room
room_free s lent more h l =
    let none : more - s.free ≡ 0 = omega arith in
    let same : count_after (state_len s) s.sectors (more - s.free) ≡ s.sectors = ap (count_after (state_len s) s.sectors) none ∙ count_none (state_len s) s.sectors in
    sym (le-ltb (room_of (state_len s) lent) _ (omega arith))

not_leb : (a b : ℕ) → not (leb a b) ≡ ltb b a
not_leb a b = ⊎_elim (λ (l : b < a). ap not (lt-leb a b l) ∙ sym (lt-ltb b a l)) (λ (g : a ≤ b). ap not (le-leb a b g) ∙ sym (le-ltb b a g)) (below_or b a)

-- what is not is counted
pub room_asked : (s : State) (lent more S R : ℕ) (b : Bool) → S ≡ state_len s → R ≡ room_of (state_len s) lent → b ≡ leb (count_after S s.sectors (more - s.free)) R → not b ≡ no_room s lent more
unfolding no_room
room_asked s lent more S R b p q e =
    ap not (e ∙ ap (λ (x : ℕ). leb (count_after x s.sectors (more - s.free)) R) p ∙ ap (leb (count_after (state_len s) s.sectors (more - s.free))) q) ∙ not_leb (count_after (state_len s) s.sectors (more - s.free)) (room_of (state_len s) lent)

-- where a chain starts
pub start_none : (ids : List ℕ) (count : ℕ) → count ≡ 0 → end_of_chain ≡ start_in ids count
unfolding start_in
start_none ids count z = sym (ap (λ (b : Bool). choose b end_of_chain (get_or ids 0 0)) (eq-eqb count 0 z))

pub start_some : (ids : List ℕ) (count : ℕ) → count ≢ 0 → get_or ids 0 0 ≡ start_in ids count
unfolding start_in
start_some ids count n = sym (ap (λ (b : Bool). choose b end_of_chain (get_or ids 0 0)) (ne_eqb count 0 n))

-- the used bytes, by an equal length of sectors
pub used_own : (n most : ℕ) {len len' : ℕ} → len ≡ len' → (n + 1) * len' ≤ most → (n + 1) * len ≤ most
used_own n most e h = rw e h

-- how many bytes an edit tells of
pub bytes_write : (edit : Edit) (given offset : ℕ) → edit ≡ Write offset → given ≡ bytes_of edit given
bytes_write edit given offset e = rw e

pub bytes_resize : (edit : Edit) (given len : ℕ) → edit ≡ Resize len → 0 ≡ bytes_of edit given
bytes_resize edit given len e = rw e

-- the answer and the state
pub done_as : (s : State) (img : List ℕ) (sectors free : ℕ) (ids : List ℕ) (count bytes told start len : ℕ) (header : Header) → start ≡ start_in ids count → told ≡ bytes → len ≡ state_len s → header ≡ header_of img
    → record { answer = Ok (record { ids = count; start = start; bytes = told }); state = record { mode = s.mode; used = (sectors + 1) * len; sectors = sectors; free = free; header = header } }
    ≡ done_with s img sectors free ids count bytes
unfolding done_with
done_as s img sectors free ids count bytes told start len header p b q r = rw (p, b, q, r)
