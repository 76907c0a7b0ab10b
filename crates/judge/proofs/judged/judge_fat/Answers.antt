-- Row 14 is tested first, rows 15 to 17 by judging the FAT with its listed sectors marked, and row 18 last: at a return the rows before it are passed.
use mathlib.Core.Path.{◌≡◌, refl, sym, ◌∙◌, ap}
use Prim.Native.Nat.{ℕ}
use mathlib.Core.Bool.{false, not}
use native.Mathlib.Omega.{arith}
use lib.ListN.{replicate}
use Rattle.lists.specs.Lists.{both}
use Rattle.consts.specs.Consts.{difat_sector, fat_sector}
use Rattle.judge.specs.Judge.{all_marked, marked_fat}
use Rattle.judge.specs.Judged.{Judged}
use Rattle.std.proofs.lemmas.Result.{err_from_is_err_and}
use Rattle.consts.proofs.Refusals.{number_not}
use Rattle.judge.proofs.Rows.{judged_same, fat_14, fat_wrong, fat_marks, fat_18, fat_0}
use Rattle.judge.proofs.judged.judge_fat.Goals as goal
use Rattle.judge.proofs.judged.judge_fat.Goals.{In_ok-judge, Else-unmarked}

none_lacks : (c : Else-unmarked) → both c.args.strict (not (both
    (all_marked c.args.fat.now c.args.difats.now difat_sector)
    (all_marked c.args.fat.now c.args.fats.now fat_sector))) ≡ false
none_lacks c = sym c.unmarked.ensures ∙ c.if-unmarked.false

judged : (c : In_ok-judge) → Judged c.args.strict (marked_fat c.args.fat.now c.args.difats.now c.args.fats.now) 0 c.judge.new.fat c.judge.new.marks
judged c = judged_same _ _ _ _ _ _ c.set_listed.ensures c.in_ok-judge.ensures

pub returns-then-unmarked : goal.returns-then-unmarked
returns-then-unmarked c = fat_14 _ _ _ _ _ _ (sym c.unmarked.ensures ∙ c.if-unmarked.true)

pub judge-requires : goal.judge-requires
judge-requires c =
    record { fat_len_bound = omega (arith, c.set_listed.auto.fat, c.requires.fat_len_bound); marks_value = c.requires.marks_value ∙ ap (λ (k : ℕ). replicate k 0) (sym c.set_listed.auto.fat) }

pub returns-in_err-judge : goal.returns-in_err-judge
returns-in_err-judge c =
    let passed = goal.at.returns-in_err-judge c in
    let p = err_from_is_err_and c.from_residual.result c.from_residual.ensures.1 in
    rw (p.1, p.2) (fat_wrong _ _ _ _ (none_lacks passed.Else-unmarked) _ _ _ (judged_same _ _ _ _ _ _ c.set_listed.ensures c.in_err-judge.ensures) (number_not _))

pub none_dangles-requires : goal.none_dangles-requires
none_dangles-requires c =
    let passed = goal.at.none_dangles-requires c in
    fat_marks _ _ _ _ (none_lacks passed.Else-unmarked) _ _ _ (judged passed.In_ok-judge) refl

pub returns-then-not-none_dangles : goal.returns-then-not-none_dangles
returns-then-not-none_dangles c =
    let passed = goal.at.returns-then-not-none_dangles c in
    fat_18 _ _ _ _ (none_lacks passed.Else-unmarked) _ _ _ (judged passed.In_ok-judge) refl _ c.none_dangles.ensures (c.if-not-none_dangles.true)

pub returns : goal.returns
returns c =
    let passed = goal.at.returns c in
    fat_0 _ _ _ _ (none_lacks passed.Else-unmarked) _ _ _ (judged passed.In_ok-judge) refl _ c.none_dangles.ensures (c.if-not-none_dangles.false)
