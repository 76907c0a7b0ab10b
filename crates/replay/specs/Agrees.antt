-- What it is for the library to agree with a record of the list, of any kind, and what a replay of many counts. Assumes nothing.
use Rattle.std.specs.Prelude.{ℕ, ◌+◌, ◌≡◌, List, get_or}
use Rattle.answers.specs.Answers.{ReadAgrees, WriteAgrees, ListAgrees}
use Rattle.openings.specs.Openings.{ImageAgrees}

-- the library agrees with the record, by its kind: R, W, P, or one of an image, O or C
pub data Agrees (b : List ℕ) : Type 0 where
  reads : get_or b 0 0 ≡ 82 → ReadAgrees b → Agrees b
  writes : get_or b 0 0 ≡ 87 → WriteAgrees b → Agrees b
  lists : get_or b 0 0 ≡ 80 → ListAgrees b → Agrees b
  images : ImageAgrees b → Agrees b

-- so many records were replayed, and so many of them differ: with each of the others the library agrees
pub data Replays : ℕ → ℕ → Type 0 where
  none : Replays 0 0
  same : {n d : ℕ} (b : List ℕ) → Agrees b → Replays n d → Replays (n + 1) d
  differs : {n d : ℕ} → Replays n d → Replays (n + 1) (d + 1)
