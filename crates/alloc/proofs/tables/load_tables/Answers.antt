-- Rows 12 and 13 are tested here, the rows from 14 on by `judge_fat` on the FAT that was loaded. Right lists cover every entry of it.
use mathlib.Core.Path.{◌≡◌, sym, ◌∙◌, ap}
use Prim.Native.Nat.{ℕ}
use mathlib.Core.Bool.{true}
use native.Mathlib.Omega.{arith}
use Rattle.fat.specs.Loaded.{Covers}
use lib.ListN.{length, replicate}
use Rattle.std.proofs.Common.{rules}
use Rattle.std.proofs.lemmas.Result.{err_from_is_err_and}
use Rattle.fat.proofs.Differing.{below_kept}
use Rattle.alloc.proofs.Opening.{lists_fats, lists_difats, lists_cover, tables_12, tables_13, tables_wrong, tables_judged}
use Rattle.alloc.proofs.tables.load_tables.Goals as goal
use Rattle.alloc.proofs.tables.load_tables.Goals.{Else-not-load_lists}

-- the lists are right, and cover the FAT's entries
right : (c : Else-not-load_lists) → c.load_lists.result ≡ true
right c = c.if-not-load_lists.false

covers : (c : Else-not-load_lists) → Covers c.args.s (length c.args.fat.now) (length c.args.image.now) c.load_lists.new.fats (length c.args.fat.now)
covers c = lists_cover _ _ _ _ _ _ _ c.load_lists.ensures (right c) _ _ _ c.requires.counted c.load_lists.auto.fats

pub returns-then-not-load_lists : goal.returns-then-not-load_lists
returns-then-not-load_lists c = tables_12 _ _ _ _ _ _ c.load_lists.ensures c.if-not-load_lists.true

pub tail_free-requires : goal.tail_free-requires
tail_free-requires c = covers c

pub returns-then-not-tail_free : goal.returns-then-not-tail_free
returns-then-not-tail_free c = tables_13 _ _ _ _ _ _ c.load_lists.ensures c.if-not-load_lists.false c.tail_free.ensures c.if-not-tail_free.true

pub load_fat-requires : goal.load_fat-requires
load_fat-requires c =
    let passed = goal.at.load_fat-requires c in
    covers passed.Else-not-load_lists

pub judge_fat-requires : goal.judge_fat-requires
judge_fat-requires c =
    let passed = goal.at.judge_fat-requires c in
    let k = c.load_fat.auto.fat in
    record {
      difats_value = (
        below_kept _ _ _ k (lists_difats _ _ _ _ _ _ _ c.load_lists.ensures (right passed.Else-not-load_lists)),
        below_kept _ _ _ k (lists_fats _ _ _ _ _ _ _ c.load_lists.ensures (right passed.Else-not-load_lists)),
      );
      fat_len_bound = omega (arith, k, c.requires.counted.few);
      marks_value = c.requires.marks_value ∙ ap (λ (m : ℕ). replicate m 0) (sym k);
    }

pub returns-in_err-judge_fat : goal.returns-in_err-judge_fat
returns-in_err-judge_fat c =
    let e = err_from_is_err_and c.from_residual.result c.from_residual.ensures.1 in
    rw (e.1, e.2)
    (tables_wrong _ _ _ _ _ _ c.load_lists.ensures c.if-not-load_lists.false c.tail_free.ensures c.if-not-tail_free.false c.load_fat.ensures c.load_fat.auto.fat {o = record { fat = c.judge_fat.new.fat; fats = c.load_lists.new.fats; difats = c.load_lists.new.difats; frees = c.load_lists.new.scratch; marks = c.judge_fat.new.marks }} c.in_err-judge_fat.ensures)

pub returns : goal.returns
returns c =
    tables_judged _ _ _ _ _ _ c.load_lists.ensures c.if-not-load_lists.false c.tail_free.ensures c.if-not-tail_free.false c.load_fat.ensures c.load_fat.auto.fat
    c.in_ok-judge_fat.ensures (search rules) c.load_lists.auto.scratch c.list_free.ensures
