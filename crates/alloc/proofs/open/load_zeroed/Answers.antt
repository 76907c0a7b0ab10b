-- The counts computed are those that n sectors ask for, and each table is loaded into a front of that count: `filled`.
use Prim.Native.Nat.{ℕ, ◌-◌, ◌≤◌}
use mathlib.Core.Path.{◌≡◌, sym, ◌∙◌, ap}
use native.Mathlib.Omega.{arith}
use lib.ListN.{length, take, replicate}
use lib.Seq.{length-take-le}
use Rattle.sectors.specs.Sectors.{per_sector}
use Rattle.fat.specs.Lists.{fat_count, difat_count, ceil}
use Rattle.fat.specs.Loaded.{Counted}
use Rattle.fat.proofs.Listing.{ceil_few, fats_few, difats_few}
use Rattle.alloc.proofs.Filled.{zero_front, zeroed_counted, counted_same, filled}
use Rattle.alloc.proofs.open.load_zeroed.Goals as goal
use Rattle.alloc.proofs.open.load_zeroed.Goals.{After-ceil-d}

module _ (c : After-ceil-d) where
  -- the counts that the code computes are those that n sectors ask for
  count_fats : c.ceil-k.result ≡ fat_count c.args.s c.args.n
  unfolding fat_count
  count_fats = c.ceil-k.ensures

  count_difats : c.ceil-d.result ≡ difat_count c.args.s c.ceil-k.result
  unfolding difat_count
  count_difats = c.ceil-d.ensures ∙ ap (λ (k : ℕ). ceil k (per_sector c.args.s - 1)) c.saturating_sub.ensures

  counted : Counted c.args.s c.args.n (length c.args.image.now) c.ceil-k.result c.ceil-d.result
  counted = zeroed_counted c.requires count_fats count_difats

  -- so many sectors' ids fit into the lent lists
  fats_fit : c.ceil-k.result ≤ length c.args.tables.now.fats.now
  fats_fit = omega (arith, fats_few _ _ _ _ _ counted, c.requires.fats_long)

  difats_fit : c.ceil-d.result ≤ length c.args.tables.now.difats.now
  difats_fit = omega (arith, difats_few _ _ _ _ _ counted, c.requires.difats_long)

pub ceil-d-requires : goal.ceil-d-requires
ceil-d-requires c =
    (omega (arith, c.requires.holds.two), omega (arith, c.saturating_sub.ensures, c.ceil-k.ensures, ceil_few c.args.n (per_sector c.args.s) (omega (arith, c.requires.holds.two)), c.requires.short, c.requires.few))

pub slice_bounds-load_tables-end-3 : goal.slice_bounds-load_tables-end-3
slice_bounds-load_tables-end-3 c = fats_fit (goal.at.slice_bounds-load_tables-end-3 c).After-ceil-d

pub slice_bounds-load_tables-end-4 : goal.slice_bounds-load_tables-end-4
slice_bounds-load_tables-end-4 c = sym (length-take-le _ _ (fats_fit (goal.at.slice_bounds-load_tables-end-4 c).After-ceil-d))

pub slice_bounds-load_tables-end-5 : goal.slice_bounds-load_tables-end-5
slice_bounds-load_tables-end-5 c = difats_fit (goal.at.slice_bounds-load_tables-end-5 c).After-ceil-d

pub slice_bounds-load_tables-end-6 : goal.slice_bounds-load_tables-end-6
slice_bounds-load_tables-end-6 c = sym (length-take-le _ _ (difats_fit (goal.at.slice_bounds-load_tables-end-6 c).After-ceil-d))

pub load_tables-requires : goal.load_tables-requires
load_tables-requires c =
    let at = (goal.at.load_tables-requires c).After-ceil-d in
    let n : length (take c.args.n c.args.tables.now.fat.now) ≡ c.args.n = length-take-le _ _ c.requires.fat_long in
    record {
      counted = counted_same _ _ _ _ _ _ _ _ n (length-take-le _ _ (fats_fit at)) (length-take-le _ _ (difats_fit at)) (counted at);
      fat_in_bounds = omega (arith, n, c.requires.frees_long);
      marks_value = zero_front _ _ c.requires.marks_zero c.requires.marks_long ∙ ap (λ (m : ℕ). replicate m 0) (sym n);
    }

pub returns-clause-filled : goal.returns-clause-filled
returns-clause-filled c =
    let at = (goal.at.returns-clause-filled c).After-ceil-d in
    let new = c.load_tables.new in
    filled c.requires {o = record { fat = new.fat; fats = new.fats; difats = new.difats; frees = new.frees; marks = new.marks }}
    (length-take-le _ _ c.requires.fat_long) (count_fats at) (count_difats at) c.load_tables.ensures
