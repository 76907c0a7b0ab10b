use Rattle.std.proofs.Common.{rules, ◌≡◌, ◌∙◌, eqb, count_by}
use Rattle.consts.specs.Consts.{free_sector}
use Rattle.points.proofs.Testing.{frees_counted}
use Rattle.points.proofs.frees.count_free.Goals as goal

pub returns : goal.returns
returns c =
    let n : c.sum-count.result ≡ count_by (λ e. eqb e free_sector) c.args.fat.now = search rules in n ∙ frees_counted c.args.fat.now
