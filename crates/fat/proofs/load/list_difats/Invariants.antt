-- The invariant: id is the next sector of the chain, those before it are below n, and they stand at the front of the list.
use Prim.Native.Nat.{◌-◌, ◌^◌, ◌<◌}
use mathlib.Core.Path.{◌≡◌}
use Rattle.sectors.specs.Sectors.{per_sector}
use Rattle.fat.specs.Lists.{difat_at}
use Rattle.fat.proofs.Loading.{Filling}
use Rattle.fat.proofs.load.list_difats.Given as goal

abbrev pub invariant-loop-place : goal.invariant-loop-place
invariant-loop-place l =
    (l.last ≡ per_sector l.s - 1) × (l.id < 2 ^ 32) × (l.id ≡ difat_at l.s l.image l.first l.place-index)
    × Filling (difat_at l.s l.image l.first) l.n l.place-index l.initial.difats l.difats
