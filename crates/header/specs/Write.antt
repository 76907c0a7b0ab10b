-- What writing a header gives: document 01's refusals 1, 7 and 9, and the bytes by MS-CFB 2.2. Assumes nothing.
use Rattle.std.specs.Prelude.{ℕ, ◌^◌, ◌<◌, ◌≡◌, List, [], ◌∷◌, ◌++◌, eqb, ltb, length, replicate, Result}
use Rattle.lists.specs.Lists.{choose, splice, Below}
use Rattle.lists.specs.Rows.{Row, row, refusal}
use Rattle.words.specs.Words.{digits}
use Rattle.consts.specs.Consts.{signature, minor_version, byte_order, mini_shift, mini_cutoff}
use Rattle.fields.specs.Fields.{list_bytes, unreadable}
use Rattle.header.specs.Versions.{major_of, shift_of}
use Rattle.header.specs.Read.{counts_dirs}
use Rattle.header.specs.declared.Version.{Version}
use Rattle.header.specs.declared.Validation.TheVariants.{Strict}
use Rattle.header.specs.declared.Header.{Header}
use Rattle.consts.specs.Refusals.{ends_with}
use Rattle.consts.specs.declared.refusal.Refusal.{Refusal}

-- document 01: the writer's refusals, of h into n lent bytes
unfoldable pub write_rows : Header → ℕ → List Row
write_rows h n =
    row 1 (ltb n 512)
    ∷ row 7 (counts_dirs Strict (major_of h.version) h.dirs)
    ∷ row 9 (unreadable h.list h.difat)
    ∷ []

-- the number that a writing ends with
unfoldable pub write_no : Header → ℕ → ℕ
unfolding write_rows
write_no h n = refusal (write_rows h n)

-- MS-CFB 2.2, the first 40 bytes: signature, class, minor and major version, byte order, the two shifts, reserved
unfoldable pub start_bytes : Version → List ℕ
start_bytes v =
    signature ++ (replicate 16 0
    ++ (digits 2 minor_version ++ (digits 2 (major_of v) ++ (digits 2 byte_order ++ (digits 2 (shift_of v) ++ (digits 2 mini_shift
    ++ replicate 6 0))))))

-- MS-CFB 2.2, the 36 bytes from 40 on: the counts and first sectors, with transaction 0 and the cutoff
unfoldable pub number_bytes : Header → List ℕ
number_bytes h =
    digits 4 h.dirs ++ (digits 4 h.fats ++ (digits 4 h.dir
    ++ (digits 4 0 ++ (digits 4 mini_cutoff
    ++ (digits 4 h.minifat ++ (digits 4 h.minifats ++ (digits 4 h.difat ++ digits 4 h.difats)))))))

-- MS-CFB 2.2: the bytes of a header
unfoldable pub header_bytes : Header → List ℕ
unfolding start_bytes number_bytes list_bytes
header_bytes h = start_bytes h.version ++ (number_bytes h ++ list_bytes h.list)

-- what the writer says of h and a buffer: document 01's number, and what the buffer then holds
pub record WriteSays (h : Header) (before after : List ℕ) (r : Result (Unit {0}) Refusal) : Type 0 where
  pub number : ends_with r ≡ write_no h (length before)
  pub buffer : after ≡ choose (eqb (write_no h (length before)) 0) (splice before 0 (header_bytes h)) before

-- a header of the code's own types: every number below 2 ^ 32, and 109 entries
pub record Sized (h : Header) : Type 0 where
  pub dirs : h.dirs < 2 ^ 32
  pub fats : h.fats < 2 ^ 32
  pub dir : h.dir < 2 ^ 32
  pub minifat : h.minifat < 2 ^ 32
  pub minifats : h.minifats < 2 ^ 32
  pub difat : h.difat < 2 ^ 32
  pub difats : h.difats < 2 ^ 32
  pub entries : length h.list ≡ 109
  pub list : Below (2 ^ 32) h.list
