-- Each mode compares in its own way, and its test is the definition's.
use Rattle.agree.proofs.Judging.{fat_strict, fat_permissive}
use Rattle.agree.proofs.tables.same_fat.Goals as goal

pub same_strict-requires : goal.same_strict-requires
same_strict-requires c = record { covers = c.requires.covers; difats_value = c.requires.below }

pub returns-then-strict : goal.returns-then-strict
returns-then-strict c = fat_strict _ _ _ _ _ _ c.if-strict.true c.same_strict.ensures

pub same_permissive-requires : goal.same_permissive-requires
same_permissive-requires c = record { covers = c.requires.covers; difats_value = c.requires.below; room_len = c.requires.same }

pub returns : goal.returns
returns c = fat_permissive _ _ _ _ _ _ c.if-strict.false c.same_permissive.ensures
