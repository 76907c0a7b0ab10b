-- What the bytes of an image say of the tables in hand, place by place (MS-CFB 2.2, 2.3, 2.5), over the sector's length S. Assumes nothing.
use Rattle.std.specs.Prelude.{ℕ, ◌+◌, ◌-◌, ◌*◌, ◌≤◌, ◌<◌, ◌≡◌, List, ltb, get_or}
use Rattle.lists.specs.Lists.{choose}
use Rattle.words.specs.Words.{le}
use Rattle.consts.specs.Consts.{free_sector}
use Rattle.fields.specs.Fields.{fats_at, difats_at, entries_at, offset_of}
use Rattle.sectors.specs.Sectors.{per_sector}
use Rattle.sound.specs.Sound.{Ends}
use Rattle.disk.specs.Disk.{Disk, entry_place, link_place, far_place}
use Rattle.edits.specs.Roles.{fats_held, difats_held}

-- MS-CFB 2.5: where place p of the DIFAT stands in the image: in the header below 109, then in the DIFAT sectors
unfoldable pub place_of : ℕ → List ℕ → ℕ → ℕ
place_of S difats p = choose (ltb p 109) (offset_of entries_at + 4 * p) (far_place S difats p)

-- MS-CFB 2.3: the k sectors of the FAT hold the entries of n sectors, and FREE after them
pub record Entries (S : ℕ) (img fats : List ℕ) (k n : ℕ) (fat : List ℕ) : Type 0 where
  pub each : (i : ℕ) → i < n → le 4 img (entry_place S fats i) ≡ get_or fat i 0
  pub rest : (i : ℕ) → n ≤ i → i < k * per_sector S → le 4 img (entry_place S fats i) ≡ free_sector

-- MS-CFB 2.5: the places of the DIFAT, 109 in the header and those of its j sectors, hold the k sectors of the FAT, and FREE after them
pub record Places (S : ℕ) (img difats : List ℕ) (j k : ℕ) (fats : List ℕ) : Type 0 where
  pub each : (p : ℕ) → p < k → le 4 img (place_of S difats p) ≡ get_or fats p 0
  pub rest : (p : ℕ) → k ≤ p → p < 109 + j * (per_sector S - 1) → le 4 img (place_of S difats p) ≡ free_sector

-- MS-CFB 2.5: header 68 and the last entries of the j sectors of the DIFAT lead from each of them to the next, and end there
pub record Links (S : ℕ) (img difats : List ℕ) (j : ℕ) : Type 0 where
  pub each : (i : ℕ) → i < j → le 4 img (link_place S difats i) ≡ get_or difats i 0
  pub last : Ends (le 4 img (link_place S difats j))

-- the bytes say what the tables say, of which k sectors are the FAT's and j the DIFAT's
pub record CodedAs (S k j : ℕ) (d : Disk) : Type 0 where
  -- MS-CFB 2.2, Number of FAT Sectors
  pub number_of_fats : le 4 d.image (offset_of fats_at) ≡ k
  -- MS-CFB 2.2, Number of DIFAT Sectors
  pub number_of_difats : le 4 d.image (offset_of difats_at) ≡ j
  pub entries : Entries S d.image d.fats k d.sectors d.fat
  pub places : Places S d.image d.difats j k d.fats
  pub links : Links S d.image d.difats j

-- as many of them as document 01 asks for
abbrev pub Coded : ℕ → Disk → Type 0
Coded S d = CodedAs S (fats_held S d) (difats_held S d) d
