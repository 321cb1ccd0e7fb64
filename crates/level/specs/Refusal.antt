-- The refusals of a level by number and place.
use Rattle.std.specs.Prelude.{ℕ}
use Rattle.config.specs.Reasons as reasons
use Rattle.level.specs.declared.refusal.Refusal.{Refusal}
use Rattle.level.specs.declared.refusal.Refusal.TheVariants.{Unusable, BeyondLimits, LinesMisfit, RamTooLong, Outside, NotWellFormed}

abbrev pub number_of : Refusal → ℕ
number_of (Unusable reason) = reasons.number_of reason
number_of BeyondLimits = 20
number_of LinesMisfit = 21
number_of RamTooLong = 22
number_of (Outside addr) = 23
number_of NotWellFormed = 24

abbrev pub place_of : Refusal → ℕ
place_of (Unusable reason) = 0
place_of BeyondLimits = 0
place_of LinesMisfit = 0
place_of RamTooLong = 0
place_of (Outside addr) = addr
place_of NotWellFormed = 0
