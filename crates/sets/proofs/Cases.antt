-- The cases to check by hand for a set, computed over the definitions.
use Rattle.std.proofs.Common.{◌≡◌, true, false, [], ◌∷◌, refl}
use Rattle.config.specs.declared.policy.ReplacementPolicy.TheVariants.{Random}
use Rattle.sets.specs.Policy.{fresh}
use Rattle.sets.specs.Ways.{free_of}
use Rattle.sets.specs.Victim.{random_step, chosen, sweep, swept_bits, victim_of}

-- the first random state, and the victim of 4 ways
pub first_state : random_step 0xDEADBEEF ≡ 1789648770
first_state = refl

pub first_random_victim :
    (victim_of (fresh 4) Random (true ∷ true ∷ true ∷ true ∷ []) (1 ∷ 1 ∷ 1 ∷ 1 ∷ []) (false ∷ false ∷ false ∷ false ∷ [])).victim.way ≡ 2
unfolding victim_of chosen fresh free_of
first_random_victim = refl

-- Clock, 2 ways, both bits set, hand 1: victim 1, hand 0, both bits clear
pub clock_case : sweep 3 1 (true ∷ true ∷ []) ≡ swept_bits (record { way = 1; hand = 0 }) (false ∷ false ∷ [])
unfolding sweep
clock_case = refl
