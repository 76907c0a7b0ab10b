-- The numbers of a compound file, from MS-CFB 2.1 and 2.2 and from the first two groups of the Rust's consts.rs. Assumes nothing.
use Rattle.std.specs.Prelude.{ℕ, ◌^◌, List, [], ◌∷◌}

-- MS-CFB 2.2: the header is 512 bytes long.
abbrev pub header_len : ℕ
header_len = 512

-- MS-CFB 2.6.1: a directory entry is 128 bytes long.
abbrev pub dir_entry_len : ℕ
dir_entry_len = 128

-- MS-CFB 2.2: the header holds the first 109 entries of the DIFAT.
abbrev pub header_difat : ℕ
header_difat = 109

-- MS-CFB 2.2, Header Signature: the first eight bytes of a file.
abbrev pub signature : List ℕ
signature = 0xd0 ∷ 0xcf ∷ 0x11 ∷ 0xe0 ∷ 0xa1 ∷ 0xb1 ∷ 0x1a ∷ 0xe1 ∷ []

-- MS-CFB 2.2, Minor Version: the number for versions 3 and 4.
abbrev pub minor_version : ℕ
minor_version = 0x3e

-- MS-CFB 2.2, Byte Order: the mark of little-endian numbers.
abbrev pub byte_order : ℕ
byte_order = 0xfffe

-- MS-CFB 2.2, Mini Sector Shift: the shift of the mini stream's sectors.
abbrev pub mini_shift : ℕ
mini_shift = 6

-- MS-CFB 2.2, Mini Sector Shift: a mini sector is two to the shift bytes long.
abbrev pub mini_len : ℕ
mini_len = 2 ^ mini_shift

-- MS-CFB 2.2, Mini Stream Cutoff Size: a shorter stream is in the mini stream.
abbrev pub mini_cutoff : ℕ
mini_cutoff = 4096

-- MS-CFB 2.1, MAXREGSECT: the largest number of a sector.
abbrev pub max_regular : ℕ
max_regular = 0xffff_fffa

-- MS-CFB 2.1: reserved, and no sector of a file.
abbrev pub invalid_sector : ℕ
invalid_sector = 0xffff_fffb

-- MS-CFB 2.1, DIFSECT: the sector is one of the DIFAT.
abbrev pub difat_sector : ℕ
difat_sector = 0xffff_fffc

-- MS-CFB 2.1, FATSECT: the sector is one of the FAT.
abbrev pub fat_sector : ℕ
fat_sector = 0xffff_fffd

-- MS-CFB 2.1, ENDOFCHAIN: the last sector of a chain.
abbrev pub end_of_chain : ℕ
end_of_chain = 0xffff_fffe

-- MS-CFB 2.1, FREESECT: the sector is in no chain.
abbrev pub free_sector : ℕ
free_sector = 0xffff_ffff
