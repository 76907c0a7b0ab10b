-- What a write makes of a chain's bytes (document 01, Calls on a chain), over the sector's length S. Assumes nothing.
use Rattle.std.specs.Prelude.{ℕ, ◌+◌, ◌-◌, ◌*◌, ◌%◌, ◌≤◌, ◌<◌, ◌≡◌, List, [], ◌∷◌, ◌⊎◌, eqb, length, get_or, take, drop, replicate}
use Rattle.lists.specs.Lists.{choose, splice}
use Rattle.sectors.specs.Sectors.{start_of}
use Rattle.chain.specs.Bytes.{chain_bytes, Lies}

-- document 01, Write: bytes put back into a chain's sectors, a sector's length into each, in order
unfoldable pub put_chain : ℕ → List ℕ → List ℕ → List ℕ → List ℕ
unfolding splice
put_chain S img [] bytes = img
put_chain S img (i ∷ is) bytes = put_chain S (splice img (start_of S i) (take S bytes)) is (drop S bytes)

-- document 01, Write: a write is read, edit, put back: the chain's bytes with xs over them from the offset on
unfoldable pub write_bytes : ℕ → List ℕ → List ℕ → ℕ → List ℕ → List ℕ
unfolding put_chain splice chain_bytes
write_bytes S img ids offset xs = put_chain S img ids (splice (chain_bytes S img ids) offset xs)

-- document 01, Resize: how many bytes follow an offset in its sector: none where a sector begins
unfoldable pub tail_of : ℕ → ℕ → ℕ
tail_of S o = choose (eqb (o % S) 0) 0 (S - o % S)

-- document 01, Resize: bytes from the new length to the end of its sector are zeroed
unfoldable pub zero_tail : ℕ → List ℕ → List ℕ → ℕ → List ℕ
unfolding write_bytes tail_of
zero_tail S img ids o = write_bytes S img ids o (replicate (tail_of S o) 0)

-- a chain that can be written: it lies in the image, no sector is listed twice, and the run fits
pub record Writable (S len : ℕ) (ids : List ℕ) (offset count : ℕ) : Type 0 where
  pub lies : Lies S len ids
  pub apart : (i j : ℕ) → i < length ids → j < length ids → get_or ids i 0 ≡ get_or ids j 0 → i ≡ j
  pub fits : offset + count ≤ S * length ids

-- byte b is none of the w bytes from o on
abbrev pub NotIn : ℕ → ℕ → ℕ → Type 0
NotIn o w b = (b < o) ⊎ (o + w ≤ b)

-- byte b does not stand in sector i
abbrev pub Beside : ℕ → ℕ → ℕ → Type 0
Beside S i b = NotIn (start_of S i) S b

-- byte b of an image stands in none of the sectors listed
pub record Outside (S : ℕ) (ids : List ℕ) (b : ℕ) : Type 0 where
  pub each : (i : ℕ) → i < length ids → Beside S (get_or ids i 0) b
