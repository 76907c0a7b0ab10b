-- Each test is the next row of the table of refusals, as in reading. Where all are passed the three stores stand end to end and make the 512 bytes.
use mathlib.Core.Path.{◌≡◌, sym, ◌∙◌, ap}
use Prim.Native.Nat.{ℕ}
use lib.ListN.{length}
use Rattle.header.specs.Versions.{major_of}
use Rattle.header.specs.Read.{counts_dirs}
use Rattle.fields.specs.Fields.{unreadable}
use Rattle.header.specs.declared.Validation.TheVariants.{Strict}
use Rattle.consts.specs.declared.refusal.Refusal.TheVariants.{TooShort, DirSectors, HeaderList}
use Rattle.header.proofs.Writing.{gives_1, gives_7, gives_9, gives_0, says_no, says_yes, header_stored}
use borrow.Author.Rules.{rules}
use Rattle.header.proofs.Header.write_to.Goals as goal
use Rattle.header.proofs.Header.write_to.Goals.{After-counts_dirs, After-list-2-1, After-unreadable}

-- what the two looks at the header say
counted : (c : After-counts_dirs) → counts_dirs Strict (major_of c.args.self.version) c.args.self.dirs ≡ c.counts_dirs.result
counted c = sym (c.counts_dirs.ensures ∙ ap (λ (k : ℕ). counts_dirs Strict k c.args.self.dirs) c.number.ensures)

looked : (c : After-unreadable) → unreadable c.args.self.list c.args.self.difat ≡ c.unreadable.result
looked c = sym c.unreadable.ensures

-- the list has its 109 entries
entries_there : (c : After-list-2-1) → length c.args.self.list ≡ 109
entries_there c = search rules

pub returns-then-buf-lt-HEADER_LEN : goal.returns-then-buf-lt-HEADER_LEN
returns-then-buf-lt-HEADER_LEN c = says_no _ _ TooShort (gives_1 _ _ c.if-buf-lt-HEADER_LEN.true)

pub returns-then-counts_dirs : goal.returns-then-counts_dirs
returns-then-counts_dirs c =
    let passed = goal.at.returns-then-counts_dirs c in
    says_no _ _ DirSectors (gives_7 _ _ c.if-buf-lt-HEADER_LEN.false (counted passed.After-counts_dirs ∙ c.if-counts_dirs.true))

pub returns-then-unreadable : goal.returns-then-unreadable
returns-then-unreadable c =
    let passed = goal.at.returns-then-unreadable c in
    says_no _ _ HeaderList (gives_9 _ _ c.if-buf-lt-HEADER_LEN.false (counted passed.After-counts_dirs ∙ c.if-counts_dirs.false) (looked passed.After-unreadable ∙ c.if-unreadable.true))

pub returns : goal.returns
returns c =
    let passed = goal.at.returns c in
    says_yes _ _ _
    (header_stored c.args.self _ _ _ _ c.if-buf-lt-HEADER_LEN.false (entries_there passed.After-list-2-1)
    c.put_start.ensures c.put_numbers.ensures c.put_list.ensures)
    (gives_0 _ _ c.if-buf-lt-HEADER_LEN.false (counted passed.After-counts_dirs ∙ c.if-counts_dirs.false)
    (looked passed.After-unreadable ∙ c.if-unreadable.false))
