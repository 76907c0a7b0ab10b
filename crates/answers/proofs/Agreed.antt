-- From what the library says of a call to its agreement with the record. Assumes nothing.
use Rattle.std.proofs.Common.{◌≡◌, ℕ, ◌+◌, ◌-◌, ◌*◌, ◌%◌, ◌^◌, eqb, List, length, take, drop, sym, ap, ◌∙◌, ap₂, arith}
use Rattle.lists.specs.Lists.{choose, part, splice}
use Rattle.words.specs.Words.{le}
use Rattle.header.specs.Versions.{numbered_of}
use Rattle.std.specs.Prelude.{Result, Ok}
use Rattle.std.specs.Result.{result_unwrap_or}
use Rattle.consts.specs.Refusals.{ends_with}
use Rattle.consts.specs.declared.refusal.Refusal.{Refusal}
use Rattle.header.specs.Read.{none, ReadSays}
use Rattle.header.specs.Write.{write_no, header_bytes, WriteSays}
use Rattle.header.proofs.Reading.{left_by}
use Rattle.header.specs.declared.Version.{Version}
use Rattle.header.specs.declared.Validation.{Validation}
use Rattle.header.specs.declared.Header.{Header}
use Rattle.records.specs.Records.{length_in, number_in, mode_in, numbers_in, header_in}
use Rattle.answers.specs.Answers.{before, after, ReadAgrees, WriteAgrees, ListedAs, ListAgrees}

-- the bytes from o to the end o + k are a part
pub part_between : (b : List ℕ) (o k : ℕ) → take (o + k - o) (drop o b) ≡ part b o k
unfolding part
part_between b o k =
    let count : o + k - o ≡ k = omega arith in
    ap (λ (n : ℕ). take n (drop o b)) count

-- a version that is read off a word
pub version_at : {n : Result Version Refusal} {v : Version} {word : ℕ} (number : ℕ) → word ≡ number → n ≡ numbered_of word → n ≡ Ok v → numbered_of number ≡ Ok v
version_at number e f k = ap numbered_of (sym e) ∙ sym f ∙ k

-- a reading that gave the number and the header of the record
pub read_agrees : (b : List ℕ) {v : Version} {m : Validation} {s : List ℕ} {r : Result Header Refusal} {len no : ℕ} → numbered_of (le 4 b 552) ≡ Ok v → len ≡ length_in b → m ≡ mode_in b
    → s ≡ part b 8 len → ReadSays s m r → ends_with r ≡ no → no ≡ number_in b → result_unwrap_or r none ≡ header_in v (part b 552 468) → ReadAgrees b
read_agrees b {v} {r = r} named l e f says n k h =
    let right : ReadSays (part b 8 (length_in b)) (mode_in b) r = rw (← l, ← e, ← f) says in
    record { version = v; named = named; number = sym right.number ∙ n ∙ k; words = sym (left_by _ _ r right) ∙ h }

-- the byte after 7 i + 3 is 7 (i + 1) + 3
pub byte_next : (i : ℕ) {v : ℕ} → v ≡ (7 * i + 3) % 256 → (v + 7) % 2 ^ 8 ≡ (7 * (i + 1) + 3) % 256
byte_next i e = omega arith

-- a writing over the bytes of the record's buffer that left certain bytes
pub written_agrees : (h : Header) (n : ℕ) {buf left bytes : List ℕ} {written : Result (Unit {0}) Refusal} {no : ℕ} → buf ≡ before n → length buf ≡ n → WriteSays h buf left written
    → ends_with written ≡ no → left ≡ bytes → (write_no h n ≡ no) × (after h n ≡ bytes)
unfolding after
written_agrees h n {left = left} {bytes = bytes} e l says k s = (
  sym (says.number ∙ ap (write_no h) l) ∙ k,
  sym (says.buffer ∙ ap₂ (λ (q : ℕ) (d : List ℕ). choose (eqb (write_no h q) 0) (splice d 0 (header_bytes h)) d) l e) ∙ s,
)

-- a writing that gave the number and the bytes of the record
pub write_agrees : (b : List ℕ) {v : Version} {len n no : ℕ} {h : Header} {bytes : List ℕ} → numbered_of (le 4 b 8) ≡ Ok v → len ≡ length_in b → h ≡ header_in v (part b 8 468)
    → no ≡ number_in b → n ≡ len → bytes ≡ part b 476 len → (write_no h n ≡ no) × (after h n ≡ bytes) → WriteAgrees b
write_agrees b {v} named l e k q f w =
    let number : write_no (header_in v (part b 8 468)) (length_in b) ≡ number_in b = rw (← e, ← l, ← q) (w.0 ∙ k) in
    record { version = v; named = named; number = number; bytes = rw (← e, ← l) (ap (after _) (sym q) ∙ w.1 ∙ f) }

-- a short list that has the number and the lines of the record
pub list_agrees : (b : List ℕ) {len no : ℕ} {xs : List ℕ} → len ≡ length_in b → xs ≡ numbers_in (part b 8 240) 60 → no ≡ number_in b
    → ListedAs (take len xs) (part b 248 776) no → ListAgrees b
list_agrees b l e k listed = rw (← l, ← e, ← k) listed
