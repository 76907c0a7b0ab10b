-- The image's FAT is loaded into the room, marked there, and compared with what it is forgiven.
use mathlib.Core.Path.{◌≡◌, ◌∙◌, ap}
use lib.ListN.{length}
use Rattle.fat.specs.Lists.{fat_of}
use Rattle.fat.proofs.Differing.{below_kept}
use Rattle.compare.proofs.Keeping.{permissive_told}
use Rattle.compare.proofs.permissive.same_permissive.Goals as goal
use Rattle.compare.proofs.permissive.same_permissive.Goals.{After-load_fat}

long : (c : After-load_fat) → length c.load_fat.new.fat ≡ length c.args.fat.now
long c = c.load_fat.auto.fat ∙ c.requires.room_len

raw_is : (c : After-load_fat) → c.load_fat.new.fat ≡ fat_of c.args.s c.args.image.now c.args.fats.now (length c.args.fat.now)
raw_is c = c.load_fat.ensures ∙ ap (fat_of c.args.s c.args.image.now c.args.fats.now) c.requires.room_len

pub set_listed-requires : goal.set_listed-requires
set_listed-requires c =
    let passed = goal.at.set_listed-requires c in
    record { difats_value = below_kept _ _ _ (long passed.After-load_fat) c.requires.difats_value; fats_value = below_kept _ _ _ (long passed.After-load_fat) c.requires.covers.below }

pub returns : goal.returns
returns c =
    let passed = goal.at.returns c in
    permissive_told _ _ _ _ _ _ _ (raw_is passed.After-load_fat) c.set_listed.ensures c.is_forgiven.ensures
