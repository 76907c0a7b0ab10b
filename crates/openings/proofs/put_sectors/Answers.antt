-- `put_sectors` meets its contract: zeros everywhere, the header over them, and the entries over their sector. Assumes nothing.
use Prim.Native.Nat.{ℕ}
use mathlib.Core.Path.{◌≡◌, ◌∙◌, ap}
use mathlib.Core.List.{List}
use borrow.Rule.Slice.PartMut.{put_mid}
use lib.ListN.{replicate}
use Rattle.lists.specs.Lists.{part}
use Rattle.openings.proofs.Opened.{sectors_put}
use Rattle.openings.proofs.put_sectors.Goals as goal

pub returns : goal.returns
unfolding part
returns c =
    let zeros : c.fill.new.self ≡ replicate 12800 0 = c.fill.ensures.after (λ y e. e) ∙ ap (λ (n : ℕ). replicate n 0) c.told-image in
    sectors_put _ c.args.place c.told-case c.requires.0 (ap (λ (xs : List ℕ). put_mid 0 512 xs c.copy_from_slice.new.self) zeros) c.copy_from_slice.ensures.after
    (c.copy_from_slice-2.ensures.after ∙ c.entries_of.ensures)
