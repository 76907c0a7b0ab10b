-- What the disk's moves leave alone: the bytes that stand outside the header bytes that document 01 names and the sectors that they store. Assumes nothing.
use Prim.Native.Nat.{ℕ, suc, ◌+◌, ◌-◌, ◌*◌, ◌/◌, ◌%◌, ◌≤◌, ◌<◌}
use mathlib.Core.Path.{◌≡◌, refl, ◌∙◌}
use mathlib.Core.Bool.{true, false}
use mathlib.Core.List.{List}
use mathlib.Core.Logic.{inl, inr, ⊎_elim, ◌≢◌}
use native.Mathlib.Omega.{arith}
use native.Mathlib.Nat.{mod-lt, div-le_self}
use borrow.Author.Tests.{lt-ltb, le-ltb, eq-eqb, ne_eqb}
use lib.ListN.{length, get_or, set}
use lib.Seq.{get_or-set_same}
use Rattle.stores.specs.Stores.{NotIn, Beside}
use Rattle.lists.specs.Lists.{splice}
use Rattle.lists.proofs.Cases.{below_or, same_or, true_or}
use Rattle.lists.proofs.Splice.{splice_below, splice_above}
use Rattle.words.specs.Words.{digits}
use Rattle.words.proofs.Laws.{length_digits}
use Rattle.consts.specs.Consts.{difat_sector}
use Rattle.fields.specs.Fields.{difat_at, difats_at, entries_at, offset_of}
use Rattle.sectors.specs.Sectors.{start_of, per_sector}
use Rattle.sectors.specs.Init.{init_bytes}
use Rattle.sectors.specs.declared.init.SectorInit.{SectorInit}
use Rattle.sectors.specs.declared.init.SectorInit.TheVariants.{Difat}
use Rattle.sectors.proofs.New.{length_init}
use Rattle.fat.specs.Lists.{difat_count}
use Rattle.disk.specs.Disk.{Disk, store, entry_place, set_fat, push_fat, list_fat, list_difat, link_place, append_difat, needs_difat, store_place, hold_place, list_place}
use Rattle.disk.specs.Fits.{Fits}
use Rattle.disk.proofs.Counting.{difat_none, difat_suc, needs_full, needs_not}
use Rattle.disk.proofs.Keeping.{Kept, kept_then, kept_none, each_many, entry_inside, header_inside, sectors_inside, link_inside, entries_inside, number_kept, init_kept, set_kept, push_kept, grow_kept, list_kept}
use Rattle.disk.proofs.Fitting.{difat_new, difat_marked, difat_linked, difat_listed, place_inside, place_in_sector}
use Rattle.edits.specs.Untouched.{Unnamed}

-- a run within a sector leaves what stands beside the sector
pub beside_run : (S i b x w : ℕ) → x + w ≤ S → Beside S i b → NotIn (start_of S i + x) w b
beside_run S i b x w h s = ⊎_elim (λ (l : b < start_of S i). inl (omega arith)) (λ (g : start_of S i + S ≤ b). inr (omega arith)) s

-- a run stored leaves what stands beside the run
pub run_spares : (img : List ℕ) (o : ℕ) (xs : List ℕ) (w b : ℕ) → length xs ≡ w → o + w ≤ length img → NotIn o w b → get_or (splice img o xs) b 0 ≡ get_or img b 0
run_spares img o xs w b e h s =
    ⊎_elim
    (λ (l : b < o). splice_below img o xs (omega (arith, e, h)) b l)
    (λ (g : o + w ≤ b). splice_above img o xs (omega (arith, e, h)) b (omega (arith, e, g)))
    s

-- a move that keeps what the code asks for, and the bytes that P says
pub record Moved (P : ℕ → Type 0) (S R k j : ℕ) (d e : Disk) : Type 0 where
  pub kept : Kept S R k j d e
  pub spares : (b : ℕ) → P b → get_or e.image b 0 ≡ get_or d.image b 0

module _ (P : ℕ → Type 0) where
  -- one move after another, and none
  pub moved_then : (S R k j k' j' : ℕ) (d e f : Disk) → Moved P S R k j d e → (Fits S R k j e → Moved P S R k' j' e f) → Moved P S R k' j' d f
  moved_then S R k j k' j' d e f a g =
      record { kept = kept_then S R k j k' j' d e f a.kept (λ x. (g x).kept); spares = λ b p. (g a.kept.fits).spares b p ∙ a.spares b p }

  pub moved_none : (S R k j : ℕ) (d : Disk) → Fits S R k j d → Moved P S R k j d d
  moved_none S R k j d f = record { kept = kept_none S R k j d f; spares = λ b p. refl }

  module _ (S R k j : ℕ) (d : Disk) (f : Fits S R k j d) where
    pub number_moved : (o v : ℕ) → o + 4 ≤ length d.image → ((b : ℕ) → P b → NotIn o 4 b) → Moved P S R k j d (store d o (digits 4 v))
    unfolding store
    number_moved o v h s =
        record { kept = number_kept S R k j d f o v h; spares = λ b p. run_spares d.image o (digits 4 v) 4 b (length_digits 4 v) h (s b p) }

    pub init_moved : (i : ℕ) (init : SectorInit) → i < R → ((b : ℕ) → P b → Beside S i b) → Moved P S R k j d (store d (start_of S i) (init_bytes S init))
    unfolding store
    init_moved i init l s =
        record {
          kept = init_kept S R k j d f i init l;
          spares = λ b p.
              run_spares d.image (start_of S i) (init_bytes S init) S b (length_init S init f.holds.entries (omega (arith, each_many S R k j d f)))
              (sectors_inside S R k j d f i l) (s b p);
        }

    entry_spared : (i b : ℕ) (fats : List ℕ) → Beside S (get_or fats (i / per_sector S) 0) b → NotIn (entry_place S fats i) 4 b
    unfolding entry_place
    entry_spared i b fats s =
        beside_run S (get_or fats (i / per_sector S) 0) b (4 * (i % per_sector S)) 4
        (omega (arith, mod-lt i {m = per_sector S} (omega (arith, each_many S R k j d f)), f.holds.entries)) s

    pub set_moved : (i v : ℕ) → i / per_sector S < k → ((b : ℕ) → P b → Beside S (get_or d.fats (i / per_sector S) 0) b) → Moved P S R k j d (set_fat S d i v)
    unfolding set_fat
    set_moved i v l s =
        record {
          kept = set_kept S R k j d f i v l;
          spares = λ b p.
              run_spares d.image (entry_place S d.fats i) (digits 4 v) 4 b (length_digits 4 v) (entries_inside S R k j d f i l) (entry_spared i b d.fats (s b p));
        }

    pub push_moved : (v : ℕ) → d.sectors / per_sector S < k → d.sectors < R → ((b : ℕ) → P b → Beside S (get_or d.fats (d.sectors / per_sector S) 0) b)
        → Moved P S R k j d (push_fat S d v)
    unfolding push_fat
    push_moved v l room s =
        record {
          kept = push_kept S R k j d f v l room;
          spares = λ b p.
              run_spares d.image (entry_place S d.fats d.sectors) (digits 4 v) 4 b (length_digits 4 v) (entries_inside S R k j d f d.sectors l)
              (entry_spared d.sectors b d.fats (s b p));
        }

    list_moved : (id : ℕ) → id < d.sectors → j < R → Moved P S R k (suc j) d (list_difat d j id)
    unfolding list_difat
    list_moved id l room = record { kept = list_kept S R k j d f id l room; spares = λ b p. refl }

    -- the FAT's next sector, which has its own entry
    pub grow_moved : (v : ℕ) → d.sectors / per_sector S ≡ k → d.sectors < R → ((b : ℕ) → P b → Beside S d.sectors b)
        → Moved P S R (suc k) j d (push_fat S (list_fat d k d.sectors) v)
    unfolding push_fat list_fat
    grow_moved v e room s =
        let low : k < R = omega (arith, e, div-le_self d.sectors (per_sector S), room) in
        let own : get_or (set d.fats k d.sectors) (d.sectors / per_sector S) 0 ≡ d.sectors
        = rw e (get_or-set_same d.fats k d.sectors 0 (omega (arith, low, f.fats_long))) in
        record {
          kept = grow_kept S R k j d f v e room;
          spares = λ b p.
              let beside : Beside S (get_or (set d.fats k d.sectors) (d.sectors / per_sector S) 0) b = rw own (s b p) in
              let inside : start_of S (get_or (set d.fats k d.sectors) (d.sectors / per_sector S) 0) + S ≤ length d.image = rw own (sectors_inside S R k j d f d.sectors room) in
              run_spares d.image (entry_place S (set d.fats k d.sectors) d.sectors) (digits 4 v) 4 b (length_digits 4 v)
              (entry_inside S (length d.image) (set d.fats k d.sectors) d.sectors f.holds.entries (omega (arith, each_many S R k j d f)) inside)
              (entry_spared d.sectors b (set d.fats k d.sectors) beside);
        }

  -- a DIFAT sector is linked from header 68 or from the last one
  link_spared : (S j b : ℕ) (difats : List ℕ) → S ≡ 4 * per_sector S → 128 ≤ per_sector S → (j ≡ 0 → NotIn (offset_of difat_at) 4 b) → (j ≢ 0 → Beside S (get_or difats (j - 1) 0) b)
      → NotIn (link_place S difats j) 4 b
  unfolding link_place
  link_spared S j b difats e many first last =
      ⊎_elim
      (λ (z : j ≡ 0). rw (eq-eqb j 0 z) (first z))
      (λ (z : j ≢ 0). rw (ne_eqb j 0 z) (beside_run S (get_or difats (j - 1) 0) b (4 * (per_sector S - 1)) 4 (omega (arith, e, many)) (last z)))
      (same_or j 0)

  difat_moved : (S R k j : ℕ) (d : Disk) → d.sectors / per_sector S < k → d.sectors < R → j < R → Fits S R k j d
      → ((b : ℕ) → P b → j ≡ 0 → NotIn (offset_of difat_at) 4 b) → ((b : ℕ) → P b → NotIn (offset_of difats_at) 4 b)
      → ((b : ℕ) → P b → Beside S d.sectors b) → ((b : ℕ) → P b → Beside S (get_or d.fats (d.sectors / per_sector S) 0) b)
      → ((b : ℕ) → P b → j ≢ 0 → Beside S (get_or d.difats (j - 1) 0) b) → Moved P S R k (suc j) d (append_difat S d j)
  unfolding append_difat store push_fat list_difat
  difat_moved S R k j d l room more f first count own entry last =
      moved_then S R k j k (suc j) d (difat_new S d) (append_difat S d j) (init_moved S R k j d f d.sectors Difat room own) (λ f1.
      moved_then S R k j k (suc j) (difat_new S d) (difat_marked S d) (append_difat S d j) (push_moved S R k j (difat_new S d) f1 difat_sector l room entry) (λ f2.
      moved_then S R k j k (suc j) (difat_marked S d) (difat_linked S d j) (append_difat S d j)
      (number_moved S R k j (difat_marked S d) f2 (link_place S d.difats j) d.sectors (link_inside S R k j (difat_marked S d) f2)
      (λ b p. link_spared S j b d.difats f.holds.entries (each_many S R k j d f) (first b p) (last b p))) (λ f3.
      moved_then S R k (suc j) k (suc j) (difat_linked S d j) (difat_listed S d j) (append_difat S d j) (list_moved S R k j (difat_linked S d j) f3 d.sectors (omega arith) more) (λ f4.
      number_moved S R k (suc j) (difat_listed S d j) f4 (offset_of difats_at) (j + 1) (omega (arith, header_inside S R k (suc j) (difat_listed S d j) f4, f4.header)) count))))

  -- the bytes are none of those that document 01 names where a FAT sector is added at place p
  abbrev pub Names : ℕ → ℕ → Type 0
  Names S p = (b : ℕ) → P b → Unnamed p (suc p) (difat_count S p) (difat_count S (suc p)) b

  -- a DIFAT sector added where none holds place p
  hold_moved : (S R k p : ℕ) (d : Disk) → 109 ≤ p → p < R → d.sectors / per_sector S < k → (needs_difat S p ≡ true → d.sectors < R) → Fits S R k (difat_count S p) d
      → Names S p → (needs_difat S p ≡ true → (b : ℕ) → P b → Beside S d.sectors b) → ((b : ℕ) → P b → Beside S (get_or d.fats (d.sectors / per_sector S) 0) b)
      → ((b : ℕ) → P b → (q : ℕ) → q < difat_count S p → Beside S (get_or d.difats q 0) b) → Moved P S R k (difat_count S (suc p)) d (hold_place S d p)
  unfolding hold_place
  hold_moved S R k p d far small l room f fields own entry difats =
      let two : 2 ≤ per_sector S = omega (arith, each_many S R k (difat_count S p) d f) in
      ⊎_elim
      (λ (t : needs_difat S p ≡ true).
      let more : difat_count S p < difat_count S (suc p) = omega (arith, needs_full S p two t, difat_suc S p two far) in
      rw (t, difat_suc S p two far)
      (difat_moved S R k ((p - 109) / (per_sector S - 1)) d l (room t) (omega (arith, div-le_self (p - 109) (per_sector S - 1), small)) (rw (needs_full S p two t) at f)
      (λ b x z. (fields b x).first_difat (needs_full S p two t ∙ z) more) (λ b x. (fields b x).number_of_difats more) (own t) entry
      (λ b x n. difats b x ((p - 109) / (per_sector S - 1) - 1) (omega (arith, n, needs_full S p two t)))))
      (λ (t : needs_difat S p ≡ false). rw (t, difat_suc S p two far) (moved_none S R k _ d (rw (needs_not S p two far t) at f)))
      (true_or (needs_difat S p))

  -- a FAT sector in its place of the DIFAT
  pub place_moved : (S R k p : ℕ) (d : Disk) (id : ℕ) → p < R → d.sectors / per_sector S < k → (needs_difat S p ≡ true → d.sectors < R) → Fits S R k (difat_count S p) d
      → Names S p → (needs_difat S p ≡ true → (b : ℕ) → P b → Beside S d.sectors b) → ((b : ℕ) → P b → Beside S (get_or d.fats (d.sectors / per_sector S) 0) b)
      → ((b : ℕ) → P b → (q : ℕ) → q < difat_count S p → Beside S (get_or d.difats q 0) b)
      → (109 ≤ p → (b : ℕ) → P b → Beside S (get_or (hold_place S d p).difats ((p - 109) / (per_sector S - 1)) 0) b)
      → Moved P S R k (difat_count S (suc p)) d (list_place S d p id)
  unfolding list_place store_place
  place_moved S R k p d id small l room f fields own entry difats held =
      let two : 2 ≤ per_sector S = omega (arith, each_many S R k (difat_count S p) d f) in
      ⊎_elim
      (λ (near : p < 109).
      rw (lt-ltb p 109 near, difat_none S (suc p) two near)
      (number_moved S R k 0 d (rw (difat_none S p two (omega (arith, near))) at f) (offset_of entries_at + 4 * p) id (omega (arith, header_inside S R k (difat_count S p) d f, f.header, near))
      (λ b x. (fields b x).entry p (omega arith) (omega arith) near)))
      (λ (far : 109 ≤ p).
      rw (le-ltb p 109 far)
      (moved_then S R k (difat_count S (suc p)) k (difat_count S (suc p)) d (hold_place S d p) _ (hold_moved S R k p d far small l room f fields own entry difats) (λ g.
      number_moved S R k (difat_count S (suc p)) (hold_place S d p) g
      (start_of S (get_or (hold_place S d p).difats ((p - 109) / (per_sector S - 1)) 0) + 4 * ((p - 109) % (per_sector S - 1))) id
      (omega (arith, place_inside S R k p (hold_place S d p) far g, place_in_sector S p f.holds.entries two))
      (λ b x. beside_run S (get_or (hold_place S d p).difats ((p - 109) / (per_sector S - 1)) 0) b (4 * ((p - 109) % (per_sector S - 1))) 4
      (place_in_sector S p f.holds.entries two) (held far b x)))))
      (below_or p 109)
