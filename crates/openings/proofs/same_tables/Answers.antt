-- `same_tables` meets its contract: each table is compared with its place in the record. Assumes nothing.
use mathlib.Core.Path.{refl, ◌∙◌, sym}
use Rattle.std.proofs.lemmas.Slice.Eq.{slice_eq-Decides}
use Rattle.std.proofs.lemmas.Bool.Decides.{Decides-eqb}
use Rattle.lists.specs.Lists.{part}
use Rattle.records.proofs.Held.{never}
use Rattle.openings.proofs.Opened.{tables_same_lem}
use Rattle.openings.proofs.same_tables.Goals as goal
use Rattle.openings.proofs.same_tables.Goals.{then-same_table, else-same_table, then-same_table-2, else-same_table-2, then-same_table-3, else-same_table-3}

pub returns-then-same_table-4 : goal.returns-then-same_table-4
unfolding part
returns-then-same_table-4 c =
    λ e.
    elim c.if-same_table-3.branch [
      | else-same_table-3 x ↦ never (sym x.if-same_table-3.false ∙ sym x.value-is ∙ c.if-same_table-4.true)
      | then-same_table-3 x ↦ elim c.if-same_table-2.branch [
        | else-same_table-2 y ↦ never (sym y.if-same_table-2.false ∙ sym y.value-is ∙ x.if-same_table-3.true)
        | then-same_table-2 y ↦ elim c.if-same_table.branch [
          | else-same_table z ↦ never (sym z.if-same_table.false ∙ sym z.value-is ∙ y.if-same_table-2.true)
          | then-same_table z ↦
              tables_same_lem _ (z.if-same_table.ensures refl)
              (z.same_table-then-same_table.ensures (sym z.value-is ∙ y.if-same_table-2.true))
              (y.same_table-then-same_table-2.ensures (sym y.value-is ∙ x.if-same_table-3.true))
              (x.same_table-then-same_table-3.ensures (sym x.value-is ∙ c.if-same_table-4.true))
              ((slice_eq-Decides Decides-eqb _ _ _ c.eq.ensures).0 e)
        ]
      ]
    ]
