-- What a set that fits has.
use Rattle.std.proofs.Common.{◌≡◌, ℕ, ◌<◌, Bool, true, List, length, arith}
use Rattle.sets.specs.Policy.{is_well_formed}
use Rattle.sets.specs.declared.set.CacheSet.{CacheSet}
use Rattle.threshgleam.specs.SetRules.{set_fits}

pub fits_hand :
    (set : CacheSet) (valid : List Bool) (freq : List ℕ) (bits : List Bool)
    → set_fits set valid freq bits ≡ true
    → set.clock_hand < length bits
unfolding is_well_formed
fits_hand set valid freq bits e = grind (arith, e)
