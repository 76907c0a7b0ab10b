-- Document 01's image Q, opened by the definitions. Assumes nothing.
use Prim.Native.Nat.{ℕ, ◌-◌}
use mathlib.Core.Path.{◌≡◌, refl}
use mathlib.Core.List.{List, [], ◌∷◌, ◌++◌}
use lib.ListN.{length, replicate}
use Rattle.lists.specs.Lists.{every, tab, part, same_list}
use Rattle.lists.specs.Rows.{refusal}
use Rattle.words.specs.Words.{le, digits}
use Rattle.consts.specs.Consts.{end_of_chain, fat_sector, free_sector}
use Rattle.fields.specs.Fields.{number_at, list_of, ids_then_free, list_bytes}
use Rattle.header.specs.Versions.{version_of}
use Rattle.header.specs.Read.{header_of, unknown, counts_dirs, end_if_free}
use Rattle.header.specs.Write.{header_bytes}
use Rattle.header.specs.declared.Version.TheVariants.{V3}
use Rattle.header.specs.declared.Validation.TheVariants.{Strict}
use Rattle.header.specs.declared.Header.{Header}
use Rattle.alloc.specs.Opening.{open_no}

-- version 3, one FAT sector at 0
unfoldable pub header_q : Header
header_q = record { version = V3; dirs = 0; fats = 1; dir = 1; minifat = end_of_chain; minifats = 0; difat = end_of_chain; difats = 0; list = 0 ∷ replicate 108 free_sector }

-- Q with other entries
unfoldable pub image_of : List ℕ → List ℕ
image_of entries = header_bytes header_q ++ (list_bytes entries ++ (list_bytes (replicate (128 - length entries) free_sector) ++ replicate 3072 7))

unfoldable pub image_q : List ℕ
unfolding image_of
image_q = image_of (fat_sector ∷ 2 ∷ 3 ∷ end_of_chain ∷ free_sector ∷ free_sector ∷ [])

q_opens : open_no Strict image_q 3584 7 ≡ 0
unfolding open_no image_q header_q header_of header_bytes refusal digits same_list part number_at le unknown version_of counts_dirs ids_then_free list_of tab every end_if_free
q_opens = refl
