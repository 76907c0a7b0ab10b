-- `open_fat` meets its contract: tables of 128 elements suffice, and the verdict is the face's. Assumes nothing.
use Prim.Native.Nat.{ℕ}
use mathlib.Core.Path.{◌≡◌}
use mathlib.Core.List.{List}
use native.Mathlib.Omega.{arith}
use lib.ListN.{length, replicate}
use Rattle.alloc.specs.Opening.{Tables, shortest}
use Rattle.listing.proofs.Opened.{shortest_is, opened_fat}
use Rattle.listing.proofs.open_fat.Goals as goal
use Rattle.listing.proofs.open_fat.Goals.{After-open}

abbrev img : After-open → List ℕ
img c = c.args.image.now

abbrev lent : After-open → Tables
lent c = record { fat = c.args.fat.now; fats = replicate 128 0; difats = replicate 128 0; frees = replicate 128 0; marks = replicate 128 0 }

-- each of them has 128 elements
fat_whole : (c : After-open) → length (lent c).fat ≡ 128
fat_whole c = omega arith

all_whole : (c : After-open) → shortest (lent c) ≡ 128
all_whole c = shortest_is (lent c) (fat_whole c) (omega arith) (omega arith) (omega arith) (omega arith)

pub returns : goal.returns
returns c =
    let passed = goal.at.returns c in
    opened_fat (img passed.After-open) _ (lent passed.After-open) _ _ c.requires (fat_whole passed.After-open) (all_whole passed.After-open) c.open.ensures.opens
