-- What is in hand of an open image, and the moves on it (document 01, "Calls on a chain"), over the sector's length S. Assumes nothing.
use Rattle.std.specs.Prelude.{ℕ, zero, suc, ◌-◌, List, eqb, ltb, get_or, set}
use Rattle.lists.specs.Lists.{choose}
use Rattle.consts.specs.Consts.{free_sector}
use Rattle.disk.specs.Disk.{Disk, set_fat, ready, new_sector, reused}

-- the disk, the lent free list over its whole length and how many sectors it lists, and the lent marks
pub record Hand : Type 0 where
  pub disk : Disk
  pub frees : List ℕ
  pub free : ℕ
  pub marks : List ℕ

-- the same, with another list of DIFAT sectors
unfoldable pub with_difats : List ℕ → Hand → Hand
with_difats difats h =
    record {
      disk = record { image = h.disk.image; fat = h.disk.fat; fats = h.disk.fats; difats = difats; sectors = h.disk.sectors };
      frees = h.frees;
      free = h.free;
      marks = h.marks;
    }

-- document 01: the mark of t, where t is one of n sectors; END and FREE are none
unfoldable pub marked : ℕ → List ℕ → ℕ → ℕ → List ℕ
marked n marks t v = choose (ltb t n) (set marks t v) marks

-- entry i becomes v: the sector that it pointed at loses its mark, and the one that it points at then has it
unfoldable pub point : ℕ → Hand → ℕ → ℕ → Hand
unfolding set_fat marked
point S h i v =
    record {
      disk = set_fat S h.disk i v;
      frees = h.frees;
      free = h.free;
      marks = marked h.disk.sectors (marked h.disk.sectors h.marks (get_or h.disk.fat i 0) 0) v 1;
    }

-- document 01: sectors are taken from the end of the free list; when it is empty, id n
unfoldable pub taken_id : ℕ → Hand → ℕ
unfolding ready
taken_id S h = choose (eqb h.free 0) (ready S h.disk).sectors (get_or h.frees (h.free - 1) 0)

-- document 01: a sector is taken: the last of the free list, whose place there is zero then, or a new one
unfoldable pub take_sector : ℕ → Hand → Hand
unfolding new_sector reused
take_sector S h =
    choose (eqb h.free 0) (record { disk = new_sector S h.disk; frees = h.frees; free = h.free; marks = h.marks })
    (record {
      disk = reused S h.disk (get_or h.frees (h.free - 1) 0);
      frees = set h.frees (h.free - 1) 0;
      free = h.free - 1;
      marks = h.marks;
    })

-- document 01: a freed sector joins the free list, and keeps its bytes
unfoldable pub free_sector_of : ℕ → Hand → ℕ → Hand
unfolding point
free_sector_of S h i =
    record { disk = (point S h i free_sector).disk; frees = set h.frees h.free i; free = suc h.free; marks = (point S h i free_sector).marks }

-- c sectors of a list are freed, from place i on
unfoldable pub free_run : ℕ → Hand → List ℕ → ℕ → ℕ → Hand
unfolding free_sector_of
free_run S h ids i zero = h
free_run S h ids i (suc c) = free_run S (free_sector_of S h (get_or ids i 0)) ids (suc i) c

-- a chain in hand: the lent id list over its whole length, and how many ids it has
pub record Chain : Type 0 where
  pub hand : Hand
  pub ids : List ℕ
  pub count : ℕ

-- the last sector of a chain points at id; a chain of none begins with it
unfoldable pub linked : ℕ → Hand → List ℕ → ℕ → ℕ → Hand
unfolding point
linked S h ids count id = choose (eqb count 0) h (point S h (get_or ids (count - 1) 0) id)

-- a sector is taken, linked behind the chain's last one, and listed
unfoldable pub extend_one : ℕ → Chain → Chain
unfolding take_sector taken_id linked
extend_one S c =
    record { hand = linked S (take_sector S c.hand) c.ids c.count (taken_id S c.hand); ids = set c.ids c.count (taken_id S c.hand); count = suc c.count }

-- c sectors more at the chain's end
unfoldable pub extend : ℕ → Chain → ℕ → Chain
unfolding extend_one
extend S c zero = c
extend S c (suc m) = extend S (extend_one S c) m
