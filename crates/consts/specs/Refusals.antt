-- The numbers of the refusals (document 01's tables), and their text. Assumes nothing.
use Rattle.std.specs.Prelude.{ℕ, ◌≡◌, List, ◌++◌, codes, Result, Ok, Err, IfOk}
use Rattle.std.specs.Fmt.{decimal}
use Rattle.consts.specs.declared.refusal.Refusal.{Refusal}
use Rattle.consts.specs.declared.refusal.Refusal.TheVariants.{TooShort, Signature, ByteOrder, Version, SectorShift, MiniSectorShift, DirSectors, Cutoff, HeaderList, WholeSectors, ShortTable, FatLists, FatTail, Unmarked, PastEnd, PointedTwice, InvalidEntry, FreePointee, Disagrees, BadStart, BrokenChain, Loop, Offset, NoRoom, MidChain, PermissiveChange}

-- document 01: the number of each refusal
abbrev pub number_of : Refusal → ℕ
number_of TooShort = 1
number_of Signature = 2
number_of ByteOrder = 3
number_of Version = 4
number_of SectorShift = 5
number_of MiniSectorShift = 6
number_of DirSectors = 7
number_of Cutoff = 8
number_of HeaderList = 9
number_of WholeSectors = 10
number_of ShortTable = 11
number_of FatLists = 12
number_of FatTail = 13
number_of Unmarked = 14
number_of PastEnd = 15
number_of PointedTwice = 16
number_of InvalidEntry = 17
number_of FreePointee = 18
number_of Disagrees = 19
number_of BadStart = 20
number_of BrokenChain = 21
number_of Loop = 22
number_of Offset = 23
number_of NoRoom = 24
number_of MidChain = 25
number_of PermissiveChange = 26

-- the text of a refusal: the word, a space, and the decimal digits of its number
abbrev pub refusal_text : Refusal → List ℕ
refusal_text e = codes "refusal " ++ decimal (number_of e)

-- the number that an answer ends with: 0 for an acceptance
abbrev pub ends_with : {A : Type 0} → Result A Refusal → ℕ
ends_with (Ok x) = 0
ends_with (Err e) = number_of e

-- an answer that ends with k, and carries v where that is 0
pub record Ends {A : Type 0} (k : ℕ) (v : A) (r : Result A Refusal) : Type 0 where
  pub number : ends_with r ≡ k
  pub value : IfOk r (λ x. x ≡ v)
