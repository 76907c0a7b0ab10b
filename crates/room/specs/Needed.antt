-- How many sectors a change asks for (document 01, Write and Resize), over the sector's length S. Assumes nothing.
use Rattle.std.specs.Prelude.{ℕ, ◌+◌, ◌-◌}
use Rattle.fat.specs.Lists.{ceil}

-- document 01, Resize: how many sectors the new length asks for more than there are
unfoldable pub resize_more : ℕ → ℕ → ℕ → ℕ
unfolding ceil
resize_more S count len = ceil len S - count

-- document 01, Write: how many sectors a write of so many bytes from an offset on asks for more than there are
unfoldable pub write_more : ℕ → ℕ → ℕ → ℕ → ℕ
unfolding ceil
write_more S count offset bytes = ceil (offset + bytes) S - count
