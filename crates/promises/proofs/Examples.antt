-- Document 01's image Q: what agrees with it, and what does not. Assumes nothing.
use Prim.Native.Nat.{ℕ}
use mathlib.Core.Path.{◌≡◌, refl}
use mathlib.Core.Bool.{Bool, true, false}
use mathlib.Core.List.{List, [], ◌∷◌}
use lib.ListN.{replicate}
use Rattle.lists.specs.Lists.{every, tab, part, same_list}
use Rattle.lists.specs.Rows.{refusal}
use Rattle.words.specs.Words.{le, digits}
use Rattle.consts.specs.Consts.{end_of_chain, fat_sector, free_sector}
use Rattle.fields.specs.Fields.{number_at, list_of, ids_then_free}
use Rattle.header.specs.Versions.{version_of}
use Rattle.header.specs.Read.{header_of, unknown, counts_dirs, dirs_of, end_if_free}
use Rattle.header.specs.Write.{header_bytes}
use Rattle.header.specs.declared.Validation.TheVariants.{Strict}
use Rattle.alloc.specs.Opening.{Tables}
use Rattle.alloc.proofs.Examples.{header_q, image_q}
use Rattle.agree.specs.Agree.{agreement}

-- Q's tables in a room of 7, with a last slot of the FAT, a free list and marks of one's choice
tables_of : ℕ → List ℕ → List ℕ → Tables
tables_of last frees marks =
    record {
      fat = fat_sector ∷ 2 ∷ 3 ∷ end_of_chain ∷ free_sector ∷ free_sector ∷ last ∷ [];
      fats = replicate 7 0;
      difats = replicate 7 0;
      frees = frees;
      marks = marks;
    }

-- whether they agree with Q
agrees_q : ℕ → List ℕ → List ℕ → Bool
unfolding agreement image_q header_q header_of header_bytes refusal digits same_list part number_at le unknown version_of counts_dirs ids_then_free list_of tab every end_if_free dirs_of tables_of
agrees_q last frees marks = agreement Strict image_q 3584 6 2 header_q (tables_of last frees marks)

q_agrees : agrees_q 0 (4 ∷ 5 ∷ 0 ∷ 0 ∷ 0 ∷ 0 ∷ 0 ∷ []) (0 ∷ 0 ∷ 1 ∷ 1 ∷ 0 ∷ 0 ∷ 0 ∷ []) ≡ true
unfolding agrees_q
q_agrees = refl

-- the free list in the other order
q_descending : agrees_q 0 (5 ∷ 4 ∷ 0 ∷ 0 ∷ 0 ∷ 0 ∷ 0 ∷ []) (0 ∷ 0 ∷ 1 ∷ 1 ∷ 0 ∷ 0 ∷ 0 ∷ []) ≡ true
unfolding agrees_q
q_descending = refl

-- a FREE sector twice, and the other left out
q_twice : agrees_q 0 (4 ∷ 4 ∷ 0 ∷ 0 ∷ 0 ∷ 0 ∷ 0 ∷ []) (0 ∷ 0 ∷ 1 ∷ 1 ∷ 0 ∷ 0 ∷ 0 ∷ []) ≡ false
unfolding agrees_q
q_twice = refl

-- a mark where no entry points
q_mark : agrees_q 0 (4 ∷ 5 ∷ 0 ∷ 0 ∷ 0 ∷ 0 ∷ 0 ∷ []) (0 ∷ 1 ∷ 1 ∷ 1 ∷ 0 ∷ 0 ∷ 0 ∷ []) ≡ false
unfolding agrees_q
q_mark = refl

-- rubbish past the FAT's count
q_rubbish : agrees_q 9 (4 ∷ 5 ∷ 0 ∷ 0 ∷ 0 ∷ 0 ∷ 0 ∷ []) (0 ∷ 0 ∷ 1 ∷ 1 ∷ 0 ∷ 0 ∷ 0 ∷ []) ≡ false
unfolding agrees_q
q_rubbish = refl
