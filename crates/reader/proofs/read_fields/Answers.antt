-- One reader gives each field's number in turn: before call k it stands at field 2 + k of the bytes that were lent.
use Rattle.std.proofs.Common.{ℕ, ◌+◌, ◌<◌, ◌≡◌, List, Bor, ap, ◌∙◌, arith}
use Rattle.reader.specs.Serve.{served_at, stepped, numbers_of}
use Rattle.reader.specs.declared.Reader.{Reader}
use Rattle.reader.proofs.Serving.{place_moves}
use Rattle.reader.proofs.read_fields.Goals as goal

-- a reader of the bytes b at field k
abbrev stands : Bor (List ℕ) → ℕ → Reader
stands b k = record { bytes = b; at = k }

-- a call gives the number of field k, and leaves the reader at the field behind it
turn : (b : Bor (List ℕ)) (k n : ℕ) (r r' : Reader) → r ≡ stands b k → k < 18 → (n ≡ served_at r.bytes.now r.at) × (r' ≡ stepped r) → (n ≡ served_at b.now k) × (r' ≡ stands b (k + 1))
unfolding stepped
turn b k n r r' e h s = (
  s.0 ∙ ap (λ (x : Reader). served_at x.bytes.now x.at) e,
  s.1 ∙ ap stepped e ∙ ap (stands b) (place_moves k h),
)

pub returns : goal.returns
unfolding numbers_of
returns c =
    let b = c.args.b in
    let begun : c.new-r.result ≡ stands b 2 = λ i. record { bytes = c.new-r.ensures.0 i; at = c.new-r.ensures.1 i } in
    let minor = turn b 2 _ _ _ begun (omega arith) c.read_number-minor.ensures in
    let major = turn b 3 _ _ _ minor.1 (omega arith) c.read_number-major.ensures in
    let order = turn b 4 _ _ _ major.1 (omega arith) c.read_number-order.ensures in
    let shift = turn b 5 _ _ _ order.1 (omega arith) c.read_number-shift.ensures in
    let mini = turn b 6 _ _ _ shift.1 (omega arith) c.read_number-mini.ensures in
    let reserved = turn b 7 _ _ _ mini.1 (omega arith) c.read_number.ensures in
    let dirs = turn b 8 _ _ _ reserved.1 (omega arith) c.read_number-dirs.ensures in
    let fats = turn b 9 _ _ _ dirs.1 (omega arith) c.read_number-fats.ensures in
    let dir = turn b 10 _ _ _ fats.1 (omega arith) c.read_number-dir.ensures in
    let transaction = turn b 11 _ _ _ dir.1 (omega arith) c.read_number-transaction.ensures in
    let cutoff = turn b 12 _ _ _ transaction.1 (omega arith) c.read_number-cutoff.ensures in
    let minifat = turn b 13 _ _ _ cutoff.1 (omega arith) c.read_number-minifat.ensures in
    let minifats = turn b 14 _ _ _ minifat.1 (omega arith) c.read_number-minifats.ensures in
    let difat = turn b 15 _ _ _ minifats.1 (omega arith) c.read_number-difat.ensures in
    let difats = turn b 16 _ _ _ difat.1 (omega arith) c.read_number-difats.ensures in
    λ i.
    record {
      minor = minor.0 i;
      major = major.0 i;
      order = order.0 i;
      shift = shift.0 i;
      mini = mini.0 i;
      dirs = dirs.0 i;
      fats = fats.0 i;
      dir = dir.0 i;
      transaction = transaction.0 i;
      cutoff = cutoff.0 i;
      minifat = minifat.0 i;
      minifats = minifats.0 i;
      difat = difat.0 i;
      difats = difats.0 i;
    }
