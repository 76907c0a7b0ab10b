-- Each entry is tested against FREE, and the flag keeps what each test said.
use Prim.Native.Nat.{◌+◌}
use Rattle.std.proofs.Common.{rules, tests, arith, ◌∙◌, ◌&&◌, true}
use Rattle.std.proofs.lemmas.Iterator.{YieldsList-from_range}
use Rattle.std.proofs.lemmas.Iterator.Consumers.{fold_from_yields_List}
use Rattle.lists.proofs.Cases.{every_fold}
use Rattle.sectors.specs.Sectors.{free_at, free_from}
use Rattle.sectors.proofs.free_from.Goals as goal

pub returns : goal.returns
unfolding free_from free_at
returns c =
    fold_from_yields_List _ (λ b j. b && free_at c.args.sector.now j) true _ c.fold.ensures.ran (YieldsList-from_range c.args.from (c.args.from + c.args.count) c.args.count (cc) (omega arith))
    (λ a x b q k. search (rules, tests))
    ∙ every_fold (free_at c.args.sector.now) c.args.from c.args.count true
