-- The text that document 01 prints for its image Q, and three more, each computed from the definitions. Assumes nothing.
use Prim.Native.Nat.{ℕ, ◌-◌}
use mathlib.Core.Path.{◌≡◌, refl}
use mathlib.Core.List.{List, [], ◌∷◌, ◌++◌}
use lib.ListN.{length, replicate}
use Rattle.lists.specs.Lists.{every, tab, part, same_list}
use Rattle.lists.specs.Rows.{refusal}
use Rattle.words.specs.Words.{le, digits}
use Rattle.consts.specs.Consts.{end_of_chain, fat_sector, free_sector}
use Rattle.fields.specs.Fields.{number_at, list_of, ids_then_free, list_bytes}
use Rattle.header.specs.Versions.{version_of}
use Rattle.header.specs.Read.{header_of, unknown, counts_dirs, end_if_free}
use Rattle.header.specs.Write.{header_bytes}
use Rattle.header.specs.declared.Version.TheVariants.{V3}
use Rattle.header.specs.declared.Header.{Header}
use Rattle.listing.specs.Listing.{listing}

-- document 01, image Q: version 3, one FAT sector at 0
unfoldable pub header_q : Header
header_q = record { version = V3; dirs = 0; fats = 1; dir = 1; minifat = end_of_chain; minifats = 0; difat = end_of_chain; difats = 0; list = 0 ∷ replicate 108 free_sector }

-- an image of six sectors with certain entries, as scripts/make-image-q makes it
unfoldable pub image_of : List ℕ → List ℕ
image_of entries = header_bytes header_q ++ (list_bytes entries ++ (list_bytes (replicate (128 - length entries) free_sector) ++ replicate 2560 7))

-- document 01, "For Q": sectors 6 free 2, FAT, 2..=3, EOC, 2 FREE
pub q_listing : listing (image_of (fat_sector ∷ 2 ∷ 3 ∷ end_of_chain ∷ free_sector ∷ free_sector ∷ []))
    ≡ 115 ∷ 101 ∷ 99 ∷ 116 ∷ 111 ∷ 114 ∷ 115 ∷ 32 ∷ 54 ∷ 32 ∷ 102 ∷ 114 ∷ 101 ∷ 101 ∷ 32 ∷ 50 ∷ 10
    ∷ 70 ∷ 65 ∷ 84 ∷ 10
    ∷ 50 ∷ 46 ∷ 46 ∷ 61 ∷ 51 ∷ 10
    ∷ 69 ∷ 79 ∷ 67 ∷ 10
    ∷ 50 ∷ 32 ∷ 70 ∷ 82 ∷ 69 ∷ 69 ∷ 10 ∷ []
unfolding listing image_of header_q header_of header_bytes refusal digits same_list part number_at le unknown version_of counts_dirs ids_then_free list_of tab every end_if_free
q_listing = refl

-- document 01, case 10: with 0xfffffffa as sector 3's entry, refused 15
pub dangling_listing : listing (image_of (fat_sector ∷ 2 ∷ 3 ∷ 0xffff_fffa ∷ free_sector ∷ free_sector ∷ []))
    ≡ 114 ∷ 101 ∷ 102 ∷ 117 ∷ 115 ∷ 101 ∷ 100 ∷ 32 ∷ 49 ∷ 53 ∷ 10 ∷ []
unfolding listing image_of header_q header_of header_bytes refusal digits same_list part number_at le unknown version_of counts_dirs ids_then_free list_of tab every end_if_free
dangling_listing = refl

-- document 01, refusal 1: no input
pub empty_listing : listing [] ≡ 114 ∷ 101 ∷ 102 ∷ 117 ∷ 115 ∷ 101 ∷ 100 ∷ 32 ∷ 49 ∷ 10 ∷ []
unfolding listing refusal
empty_listing = refl

-- document 01, "longer input is `refused 1`"
pub long_listing : listing (replicate 65537 0) ≡ 114 ∷ 101 ∷ 102 ∷ 117 ∷ 115 ∷ 101 ∷ 100 ∷ 32 ∷ 49 ∷ 10 ∷ []
unfolding listing
long_listing = refl
