-- What a new sector holds (document 01, "Bytes of a compound file"), over the sector's length S. Assumes nothing.
use Rattle.std.specs.Prelude.{ℕ, ◌-◌, List, [], ◌∷◌, ◌++◌, replicate}
use Rattle.consts.specs.Consts.{end_of_chain, free_sector}
use Rattle.fields.specs.Fields.{list_bytes}
use Rattle.sectors.specs.Sectors.{per_sector}
use Rattle.sectors.specs.declared.init.SectorInit.{SectorInit}
use Rattle.sectors.specs.declared.init.SectorInit.TheVariants.{Zero, Fat, Difat}

-- document 01: a new FAT sector is all FREE; a new DIFAT sector is E - 1 FREE entries and END as its last; a new data sector is zero
unfoldable pub init_bytes : ℕ → SectorInit → List ℕ
unfolding list_bytes
init_bytes S Zero = replicate S 0
init_bytes S Fat = list_bytes (replicate (per_sector S) free_sector)
init_bytes S Difat = list_bytes (replicate (per_sector S - 1) free_sector ++ (end_of_chain ∷ []))
