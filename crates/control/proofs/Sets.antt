-- What a well-formed set has.
use Rattle.std.proofs.Common.{◌≡◌, ℕ, ◌<◌, true, arith}
use Rattle.sets.specs.Policy.{is_well_formed}
use Rattle.sets.specs.declared.set.CacheSet.{CacheSet}

pub formed_hand : (set : CacheSet) (ways : ℕ) → is_well_formed set ways ≡ true → set.clock_hand < ways
unfolding is_well_formed
formed_hand set ways e = grind (arith, e)
