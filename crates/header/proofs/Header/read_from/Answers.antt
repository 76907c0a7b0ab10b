-- Each test is the next row of the table of refusals: at a return the rows before it are passed and its own holds. Where all are passed the content is that of the bytes.
use Prim.Native.Nat.{◌≤◌}
use mathlib.Core.Path.{◌≡◌, sym, ◌∙◌, ap}
use mathlib.Core.Bool.{true}
use lib.ListN.{length}
use Rattle.lists.specs.Lists.{part, same_list}
use Rattle.lists.specs.Rows.{refusal}
use Rattle.consts.specs.Consts.{signature}
use Rattle.std.proofs.lemmas.Result.{err_from_is_err_and}
use Rattle.consts.specs.Refusals.{number_of, ends_with}
use Rattle.consts.specs.declared.refusal.Refusal.TheVariants.{TooShort, Signature, HeaderList}
use Rattle.consts.proofs.Refusals.{number_not}
use Rattle.fields.specs.Fields.{list_of, ids_then_free}
use Rattle.header.specs.Read.{fixed_of, fixed_rows, header_of}
use Rattle.header.specs.declared.judge.Fixed.{Fixed}
use Rattle.header.specs.declared.Header.{Header}
use Rattle.header.proofs.Reading.{gives_1, gives_2, gives_fixed, gives_9, gives_0, says_no, says_yes}
use Rattle.header.proofs.Header.read_from.Goals as goal
use Rattle.header.proofs.Header.read_from.Goals.{After-ids_then_free, After-judge, Else-not-signed}

whole : (c : Else-not-signed) → 512 ≤ length c.args.b.now
whole c = c.if-b-lt-HEADER_LEN.false

signed : (c : Else-not-signed) → same_list (part c.args.b.now 0 8) signature ≡ true
signed c = sym c.signed.ensures ∙ c.if-not-signed.false

-- what the judge says
judged : (c : After-judge) → ends_with c.judge.result ≡ refusal (fixed_rows c.args.validation (fixed_of c.args.b.now))
judged c = c.judge.ensures ∙ ap (λ (f : Fixed). refusal (fixed_rows c.args.validation f)) c.judged_by.ensures

listed : (c : After-ids_then_free) → c.ids_then_free.result ≡ ids_then_free (list_of c.args.b.now)
unfolding header_of
listed c = c.ids_then_free.ensures ∙ ap (λ (h : Header). ids_then_free h.list) c.content-header.ensures

pub returns-then-b-lt-HEADER_LEN : goal.returns-then-b-lt-HEADER_LEN
returns-then-b-lt-HEADER_LEN c = says_no _ _ TooShort (gives_1 _ _ c.if-b-lt-HEADER_LEN.true)

pub returns-then-not-signed : goal.returns-then-not-signed
returns-then-not-signed c = says_no _ _ Signature (gives_2 _ _ c.if-b-lt-HEADER_LEN.false (sym c.signed.ensures ∙ c.if-not-signed.true))

pub returns-in_err-judge : goal.returns-in_err-judge
returns-in_err-judge c =
    let at = goal.at.returns-in_err-judge c in
    let e = err_from_is_err_and c.from_residual.result c.from_residual.ensures.1 in
    let no : number_of c.in_err-judge.field-0.0 ≡ refusal (fixed_rows c.args.validation (fixed_of c.args.b.now)) = sym (ap ends_with c.in_err-judge.was) ∙ judged at.After-judge in
    rw (e.1, e.2) (says_no _ _ c.in_err-judge.field-0.0 (gives_fixed _ _ (whole at.Else-not-signed) (signed at.Else-not-signed) _ no (number_not _)))

pub returns-then-not-ids_then_free : goal.returns-then-not-ids_then_free
returns-then-not-ids_then_free c =
    let at = goal.at.returns-then-not-ids_then_free c in
    let passed = sym (ap ends_with c.in_ok-judge.was) ∙ judged at.After-judge in
    says_no _ _ HeaderList
    (gives_9 _ _ (whole at.Else-not-signed) (signed at.Else-not-signed) passed (sym (listed at.After-ids_then_free) ∙ c.if-not-ids_then_free.true))

pub returns : goal.returns
returns c =
    let at = goal.at.returns c in
    let passed = sym (ap ends_with c.in_ok-judge.was) ∙ judged at.After-judge in
    says_yes _ _ _ c.content-header.ensures
    (gives_0 _ _ (whole at.Else-not-signed) (signed at.Else-not-signed) passed (sym (listed at.After-ids_then_free) ∙ c.if-not-ids_then_free.false))
