-- The causes are tested in the order of their numbers: at a return those before it are passed, by the laws of First.
use mathlib.Core.Path.{◌≡◌, sym, ◌∙◌, ap}
use Rattle.std.proofs.lemmas.Result.{err_from_is_err_and}
use Rattle.consts.specs.declared.refusal.Refusal.TheVariants.{TooShort, WholeSectors, ShortTable}
use Rattle.consts.proofs.Refusals.{number_not}
use Rattle.header.specs.Versions.{length_of}
use Rattle.header.specs.Read.{read_no, header_of}
use Rattle.header.specs.declared.Header.{Header}
use Rattle.alloc.proofs.First.{early_below, early_above, early_header, early_odd, early_many, early_short, early_passed, early_no}
use Rattle.alloc.proofs.early.judge_early.Goals as goal
use Rattle.alloc.proofs.early.judge_early.Goals.{After-sector_len-len}

-- the header that was read is the image's own, and so is its sectors' length
module _ (c : After-sector_len-len) where
  read : read_no c.args.validation c.args.image.now ≡ 0
  read = sym c.in_ok-header.ensures.number

  own : c.sector_len-len.result ≡ length_of (header_of c.args.image.now).version
  own = c.sector_len-len.ensures ∙ ap (λ (h : Header). length_of h.version) c.in_ok-header.ensures.header

pub returns-then-used-lt-HEADER_LEN : goal.returns-then-used-lt-HEADER_LEN
returns-then-used-lt-HEADER_LEN c = early_no _ _ _ _ TooShort (early_below _ _ _ _ c.if-used-lt-HEADER_LEN.true)

pub returns-then-image-used : goal.returns-then-image-used
returns-then-image-used c = early_no _ _ _ _ TooShort (early_above _ _ _ _ c.if-image-used.true)

pub returns-in_err-header : goal.returns-in_err-header
returns-in_err-header c =
    let e = err_from_is_err_and c.from_residual.result c.from_residual.ensures.1 in
    rw (e.1, e.2) (early_no _ _ _ _ _ (early_header _ _ _ _ c.if-used-lt-HEADER_LEN.false c.if-image-used.false _ c.in_err-header.ensures.number (number_not _)))

pub returns-then-used-len-ne0 : goal.returns-then-used-len-ne0
returns-then-used-len-ne0 c =
    let at = (goal.at.returns-then-used-len-ne0 c).After-sector_len-len in
    early_no _ _ _ _ WholeSectors (early_odd _ _ _ _ c.if-used-lt-HEADER_LEN.false c.if-image-used.false (read at) _ (own at) c.if-used-len-ne0.true)

pub returns-then-sectors-gt-MOST : goal.returns-then-sectors-gt-MOST
returns-then-sectors-gt-MOST c =
    let at = (goal.at.returns-then-sectors-gt-MOST c).After-sector_len-len in
    early_no _ _ _ _ WholeSectors (early_many _ _ _ _ c.if-used-lt-HEADER_LEN.false c.if-image-used.false (read at) _ (own at) c.if-sectors-gt-MOST.true)

pub returns-then-short-room : goal.returns-then-short-room
returns-then-short-room c =
    let at = (goal.at.returns-then-short-room c).After-sector_len-len in
    early_no _ _ _ _ ShortTable
    (early_short _ _ _ _ c.if-used-lt-HEADER_LEN.false c.if-image-used.false (read at) _ (own at) c.if-used-len-ne0.false c.if-sectors-gt-MOST.false (rw c.room.ensures at c.if-short-room.true))

pub returns : goal.returns
returns c =
    let at = (goal.at.returns c).After-sector_len-len in
    early_passed _ _ _ _ c.if-used-lt-HEADER_LEN.false c.if-image-used.false (read at) _ (own at) c.if-used-len-ne0.false c.if-sectors-gt-MOST.false _ c.in_ok-header.ensures.header (rw c.room.ensures at c.if-short-room.false)
