-- The bytes of an image after a chain is resized or written, from those after it is extended or cut. Assumes nothing.
use Prim.Native.Nat.{ℕ, ◌+◌, ◌-◌, ◌*◌, ◌/◌, ◌%◌, ◌≤◌, ◌<◌}
use mathlib.Core.Path.{◌≡◌, refl, ◌∙◌, sym, ap}
use mathlib.Core.List.{List, [], ◌++◌, append-nil}
use mathlib.Core.Logic.{⊎_elim, ◌≢◌}
use native.Mathlib.Omega.{arith}
use native.Mathlib.Nat.{mul_comm, mul-one, mul-add, mul-le-mul_left, div-add-mod, mod-lt}
use lib.ListN.{length, get_or, take, drop, replicate, length-replicate, drop_of_length-le}
use lib.Seq.{take_all, take-take, length-take-le}
use Rattle.lists.specs.Lists.{splice}
use Rattle.lists.proofs.Cases.{below_or, same_or}
use Rattle.sectors.specs.Sectors.{start_of, sector_of}
use Rattle.fat.specs.Lists.{ceil}
use Rattle.fat.proofs.Listing.{ceil_enough}
use Rattle.alloc.specs.Opening.{padded}
use Rattle.chain.specs.Bytes.{chain_bytes}
use Rattle.stores.specs.Stores.{write_bytes, tail_of, zero_tail, Writable, Outside, Beside}
use Rattle.chain.proofs.Bytes.{length_chain}
use Rattle.stores.proofs.Stored.{write_chain, write_apart}
use Rattle.stores.proofs.Zeroed.{tail_none, tail_some, zero_chain, zero_apart, zero_sector}
use Rattle.room.specs.Needed.{resize_more, write_more}
use Rattle.disk.proofs.Keeping.{sectors_inside}
use Rattle.room.proofs.Needing.{ceil_whole, ceil_part, ceil_within}
use Rattle.hand.specs.Hand.{Chain, extend}
use Rattle.hand.specs.Fits.{FitsChain}
use Rattle.moves.specs.Change.{shrink, with_image, ids_of, resized, written, FitsShrink, FitsResize, FitsWrite}
use Rattle.moves.proofs.Extending.{extend_count, extend_fits}
use Rattle.moves.proofs.Shrinking.{shrink_fits, shrink_ids, shrink_count, shrink_long}
use Rattle.moves.proofs.Changing.{chain_listed, chain_id, chain_lies, chain_writable, shrunk_writable, resized_more, resized_fewer, resize_shrink, write_covers}
use Rattle.moves.proofs.Staying.{extend_apart}
use Rattle.edits.specs.Roles.{Roles}
use Rattle.edits.specs.Untouched.{UnnamedFrom, Unlisted, Other, Others}
use Rattle.edits.proofs.Named.{unnamed_past}
use Rattle.edits.proofs.Joining.{sector_stays, chain_stays, sector_past, other_unlisted}
use Rattle.edits.proofs.Extended.{extended_bytes, extended_spares, extended_other}
use Rattle.edits.proofs.Shrunk.{shrunk_unlisted, shrunk_sector, shrunk_bytes, shrunk_other}

-- a resize that asks for a sector more asks for more than there are
pub resize_asks : (S : ℕ) (c : Chain) (len i : ℕ) → i < resize_more S c.count len → c.count < ceil len S
unfolding resize_more
resize_asks S c len i l = omega (arith, l)

-- how many bytes a chain has
bytes_counted : (S R : ℕ) (c : Chain) → FitsChain S R c → length (chain_bytes S c.hand.disk.image (ids_of c)) ≡ S * c.count
bytes_counted S R c f =
    length_chain S c.hand.disk.image (ids_of c) (chain_lies S R c f) ∙ ap (λ (k : ℕ). S * k) (chain_listed S R c f)

-- sectors that belong to others keep their bytes where what is neither named nor in a listed sector stays
pub others_stay : (S R : ℕ) (c e : Chain) → FitsChain S R c → length e.hand.disk.image ≡ length c.hand.disk.image
    → ((b : ℕ) → UnnamedFrom S c.hand.disk e.hand.disk b → Unlisted S e b → get_or e.hand.disk.image b 0 ≡ get_or c.hand.disk.image b 0)
    → ((i : ℕ) → Other S c i → Other S e i)
    → (others : List ℕ) → Others S c others → chain_bytes S e.hand.disk.image others ≡ chain_bytes S c.hand.disk.image others
others_stay S R c e f same stays keeps others o =
    chain_stays S c.hand.disk.image e.hand.disk.image others (λ j l.
    sector_stays S c.hand.disk.image e.hand.disk.image (get_or others j 0) same
    (sectors_inside S R _ _ c.hand.disk f.fits.disk (get_or others j 0) (omega (arith, (o.each j l).inside, f.fits.disk.inside)))
    (λ x hx.
    stays (start_of S (get_or others j 0) + x) (unnamed_past (sector_past S (get_or others j 0) x f.fits.disk.header))
    (other_unlisted S e (get_or others j 0) x hx (keeps (get_or others j 0) (o.each j l)))))

-- the image holds other bytes: the lists stay
with_unlisted : (S : ℕ) (c : Chain) (img : List ℕ) (b : ℕ) → Unlisted S (with_image c img) b → Unlisted S c b
unfolding with_image
with_unlisted S c img b u = record { aside = u.aside; in_no_id = u.in_no_id }

with_other : (S : ℕ) (c : Chain) (img : List ℕ) (i : ℕ) → Other S c i → Other S (with_image c img) i
unfolding with_image
with_other S c img i o = record { inside = o.inside; no_fat = o.no_fat; no_difat = o.no_difat; no_id = o.no_id; no_free = o.no_free }

with_bytes : (S : ℕ) (c : Chain) (img : List ℕ) → chain_bytes S (with_image c img).hand.disk.image (ids_of (with_image c img)) ≡ chain_bytes S img (ids_of c)
unfolding with_image ids_of
with_bytes S c img = refl

with_image_lem : (c : Chain) (img : List ℕ) → (with_image c img).hand.disk.image ≡ img
unfolding with_image
with_image_lem c img = refl

-- a byte in no sector of a chain
outside_of : (S R : ℕ) (c : Chain) (b : ℕ) → FitsChain S R c → ((p : ℕ) → p < c.count → Beside S (get_or c.ids p 0) b) → Outside S (ids_of c) b
outside_of S R c b f n =
    record { each = λ i l. let low : i < c.count = rw (chain_listed S R c f) at l in rw (chain_id S R c f i low) (n i low) }

-- a run up to the end of a list
splice_end : (xs ys : List ℕ) (o : ℕ) → o + length ys ≡ length xs → splice xs o ys ≡ take o xs ++ ys
unfolding splice
splice_end xs ys o e =
    let rest : drop (o + length ys) xs ≡ [] = drop_of_length-le xs {i = o + length ys} (omega (arith, e)) in
    rw (rest, append-nil ys)

-- the zeros up to the end of a sector: as many as rounding up adds
tail_is : (S len : ℕ) → 1 ≤ S → tail_of S len ≡ S * ceil len S - len
tail_is S len h =
    ⊎_elim
    (λ (e : len % S ≡ 0).
    let whole : S * ceil len S ≡ S * (len / S) = ap (λ (k : ℕ). S * k) (sym (ceil_whole len S h e)) in
    omega (arith, tail_none S len e, whole, div-add-mod len S, e))
    (λ (e : len % S ≢ 0).
    let part : S * ceil len S ≡ S * (len / S + 1) = ap (λ (k : ℕ). S * k) (sym (ceil_part len S h e)) in
    omega (arith, tail_some S len e, part, mul-add S (len / S) 1, mul-one S, div-add-mod len S, mod-lt len h))
    (same_or (len % S) 0)

-- a chain that is resized
module _ (S R len : ℕ) (c : Chain) (f : FitsResize S R len c) where
  some : 1 ≤ S
  some = omega (arith, f.fits.fits.fits.disk.header)

  abbrev old : List ℕ
  old = chain_bytes S c.hand.disk.image (ids_of c)

  abbrev left : Chain
  left = shrink S c (ceil len S)

  enough : len ≤ S * ceil len S
  enough = omega (arith, (ceil_enough len S some).0, mul_comm S (ceil len S))

  old_long : length old ≡ S * c.count
  old_long = bytes_counted S R c f.fits.fits

  module _ (r : Roles S R c) where
    -- sectors are asked for: zeros follow the old bytes, which all stand below the new length
    grown_bytes : c.count < ceil len S → chain_bytes S (resized S c len).hand.disk.image (ids_of (resized S c len)) ≡ padded (take len old) (S * ceil len S)
    unfolding padded resize_more
    grown_bytes l =
        let past : S * c.count ≤ len = ⊎_elim
        (λ (h : len < S * c.count). absurd (omega (arith, ceil_within len S c.count some (omega (arith, h)), l)))
        (λ (g : S * c.count ≤ len). g)
        (below_or len (S * c.count)) in
        let all : take len old ≡ old = take_all len old (omega (arith, old_long, past)) in
        let sum : c.count + (ceil len S - c.count) ≡ ceil len S = omega (arith, l) in
        let total : S * ceil len S ≡ S * c.count + S * (ceil len S - c.count) = ap (λ (k : ℕ). S * k) (sym sum) ∙ mul-add S c.count (ceil len S - c.count) in
        let zeros : S * (ceil len S - c.count) ≡ S * ceil len S - length old = omega (arith, old_long, total) in
        rw (resized_more S c len l, all) (extended_bytes S R (ceil len S - c.count) c f.fits r ∙ ap (λ (k : ℕ). old ++ replicate k 0) zeros)

    -- none are: the first sectors stay, with zeros from the new length on
    module _ (g : ceil len S ≤ c.count) where
      shrinks : FitsShrink S R (ceil len S) c
      shrinks = resize_shrink S R len c f (ceil len S) g

      can_zero : Writable S (length left.hand.disk.image) (ids_of left) len 0
      can_zero = shrunk_writable S R len c shrinks f.apart

      cut_bytes : chain_bytes S (resized S c len).hand.disk.image (ids_of (resized S c len)) ≡ padded (take len old) (S * ceil len S)
      unfolding padded
      cut_bytes =
          let front : length (take (S * ceil len S) old) ≡ S * ceil len S = length-take-le (S * ceil len S) old (omega (arith, old_long, mul-le-mul_left S g)) in
          let zeros : length {A = ℕ} (replicate (tail_of S len) 0) ≡ tail_of S len = length-replicate {A = ℕ} (tail_of S len) 0 in
          let long : length (take len old) ≡ len = length-take-le len old (omega (arith, old_long, mul-le-mul_left S g, enough)) in
          let tail : tail_of S len ≡ S * ceil len S - length (take len old) = omega (arith, tail_is S len some, long) in
          rw (resized_fewer S c len g)
          (with_bytes S left (zero_tail S left.hand.disk.image (ids_of left) len)
          ∙ zero_chain S left.hand.disk.image (ids_of left) len can_zero
          ∙ ap (λ (u : List ℕ). splice u len (replicate (tail_of S len) 0)) (shrunk_bytes S R (ceil len S) c shrinks r)
          ∙ splice_end (take (S * ceil len S) old) (replicate (tail_of S len) 0) len (omega (arith, front, zeros, tail_is S len some, enough))
          ∙ ap (λ (u : List ℕ). u ++ replicate (tail_of S len) 0) (take-take len (S * ceil len S) old enough)
          ∙ ap (λ (k : ℕ). take len old ++ replicate k 0) tail)

      -- a sector that is freed keeps its bytes
      pub freed_sector : (i : ℕ) → i < c.count - ceil len S
          → sector_of S (resized S c len).hand.disk.image (get_or c.ids (ceil len S + i) 0) ≡ sector_of S c.hand.disk.image (get_or c.ids (ceil len S + i) 0)
      freed_sector i l =
          let low : ceil len S + i < c.count = omega (arith, l) in
          let fits = shrink_fits S R (ceil len S) c shrinks in
          let count : left.count ≡ ceil len S = shrink_count S R (ceil len S) c shrinks in
          let same : length left.hand.disk.image ≡ length c.hand.disk.image = (shrink_long S R (ceil len S) c shrinks).hand.disk.image_same in
          rw (resized_fewer S c len g, with_image_lem)
          (zero_sector S left.hand.disk.image (ids_of left) len can_zero (get_or c.ids (ceil len S + i) 0)
          (rw same (sectors_inside S R _ _ c.hand.disk r.fits.fits.disk (get_or c.ids (ceil len S + i) 0) (omega (arith, r.fits.within (ceil len S + i) low, r.fits.fits.disk.inside))))
          (λ q h e.
          let hq : q < left.count = rw (chain_listed S R left fits) at h in
          let lq : q < ceil len S = omega (arith, hq, count) in
          let s : q ≡ ceil len S + i
          = r.apart.ids_once q (ceil len S + i) (omega (arith, lq, g)) low (sym (shrink_ids S R (ceil len S) c shrinks q lq) ∙ sym (chain_id S R left fits q hq) ∙ e) in
          absurd (omega (arith, s, lq)))
          ∙ shrunk_sector S R (ceil len S) c shrinks r (ceil len S + i) low)

    pub resized_holds : chain_bytes S (resized S c len).hand.disk.image (ids_of (resized S c len)) ≡ padded (take len old) (S * ceil len S)
    resized_holds = ⊎_elim (λ (l : c.count < ceil len S). grown_bytes l) (λ (g : ceil len S ≤ c.count). cut_bytes g) (below_or c.count (ceil len S))

    -- what is neither named nor in a listed sector stays, and what belongs to others does so then
    pub resized_spares : (b : ℕ) → UnnamedFrom S c.hand.disk (resized S c len).hand.disk b → Unlisted S (resized S c len) b
        → get_or (resized S c len).hand.disk.image b 0 ≡ get_or c.hand.disk.image b 0
    resized_spares b n u =
        ⊎_elim
        (λ (l : c.count < ceil len S).
        let n' : UnnamedFrom S c.hand.disk (extend S c (resize_more S c.count len)).hand.disk b = rw (resized_more S c len l) at n in
        let u' : Unlisted S (extend S c (resize_more S c.count len)) b = rw (resized_more S c len l) at u in
        rw (resized_more S c len l) (extended_spares S R (resize_more S c.count len) c f.fits b n' u'))
        (λ (g : ceil len S ≤ c.count).
        let u' : Unlisted S left b = with_unlisted S left _ b (rw (resized_fewer S c len g) at u) in
        let fits = shrink_fits S R (ceil len S) c (shrinks g) in
        rw (resized_fewer S c len g, with_image_lem)
        (zero_apart S left.hand.disk.image (ids_of left) len (can_zero g) b (outside_of S R left b fits u'.in_no_id)
        ∙ shrunk_unlisted S R (ceil len S) c (shrinks g) b u'))
        (below_or c.count (ceil len S))

    pub resized_other : (i : ℕ) → Other S c i → Other S (resized S c len) i
    resized_other i o =
        ⊎_elim
        (λ (l : c.count < ceil len S). rw (resized_more S c len l) (extended_other S R (resize_more S c.count len) c f.fits i o))
        (λ (g : ceil len S ≤ c.count). rw (resized_fewer S c len g) (with_other S left _ i (shrunk_other S R (ceil len S) c (shrinks g) r i o)))
        (below_or c.count (ceil len S))

-- a chain that is written
module _ (S R offset : ℕ) (buf : List ℕ) (c : Chain) (f : FitsWrite S R offset (length buf) c) (r : Roles S R c) where
  abbrev more : ℕ
  more = write_more S c.count offset (length buf)

  abbrev wide : Chain
  wide = extend S c more

  wide_fits : FitsChain S R wide
  wide_fits = extend_fits S R more c f.fits

  can_write : Writable S (length wide.hand.disk.image) (ids_of wide) offset (length buf)
  can_write =
      chain_writable S R wide wide_fits (extend_apart S R more c f.fits f.apart) offset (length buf)
      (rw (extend_count S c more) (write_covers S R offset (length buf) c f))

  pub written_holds : chain_bytes S (written S c offset buf).hand.disk.image (ids_of (written S c offset buf))
      ≡ splice (chain_bytes S c.hand.disk.image (ids_of c) ++ replicate (S * more) 0) offset buf
  unfolding written
  written_holds =
      with_bytes S wide (write_bytes S wide.hand.disk.image (ids_of wide) offset buf)
      ∙ write_chain S wide.hand.disk.image (ids_of wide) offset buf can_write
      ∙ ap (λ (u : List ℕ). splice u offset buf) (extended_bytes S R more c f.fits r)

  pub written_spares : (b : ℕ) → UnnamedFrom S c.hand.disk (written S c offset buf).hand.disk b → Unlisted S (written S c offset buf) b
      → get_or (written S c offset buf).hand.disk.image b 0 ≡ get_or c.hand.disk.image b 0
  unfolding written with_image
  written_spares b n u =
      let u' : Unlisted S wide b = with_unlisted S wide _ b u in
      write_apart S wide.hand.disk.image (ids_of wide) offset buf can_write b (outside_of S R wide b wide_fits u'.in_no_id)
      ∙ extended_spares S R more c f.fits b n u'

  pub written_other : (i : ℕ) → Other S c i → Other S (written S c offset buf) i
  unfolding written
  written_other i o = with_other S wide _ i (extended_other S R more c f.fits i o)
