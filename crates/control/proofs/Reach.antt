-- How far bytes reach into RAM.
use Rattle.std.proofs.Common.{ℕ, ◌+◌, ◌<◌, ◌≤◌, arith}
use Rattle.ram.specs.Ram.{reach_of}

pub reach_le : (len addr n : ℕ) → reach_of len addr n ≤ n
unfolding reach_of
reach_le len addr n = omega arith

-- the first address outside is an address
pub place_fits :
    (len addr n : ℕ) → len ≤ 16777216 → addr < 4294967296 → reach_of len addr n < n → addr + reach_of len addr n < 4294967296
unfolding reach_of
place_fits len addr n short fits less = omega arith
