-- A set's rules as C has them: policies by number, and a refusal in place of what the rules ask of a set.
use Rattle.std.specs.Prelude.{ℕ, Bool, true, false, if◌then◌else◌, List, Option, None, Some, ◌==◌, ◌&&◌, nat_lt, nat_le, length}
use Rattle.config.specs.Numbers.{lru, mru, fifo, random, lfu, clock}
use Rattle.config.specs.declared.policy.ReplacementPolicy.{ReplacementPolicy}
use Rattle.config.specs.declared.policy.ReplacementPolicy.TheVariants.{Lru, Mru, Fifo, Random, Lfu, Clock}
use Rattle.sets.specs.declared.set.CacheSet.{CacheSet}
use Rattle.sets.specs.declared.set.LineUse.{LineUse}
use Rattle.sets.specs.Policy.{touched, installed, used, is_well_formed}
use Rattle.sets.specs.Victim.{Choice, victim_of}
use Rattle.threshgleam.specs.declared.set_rules.Found.{Found}
use Rattle.threshgleam.specs.declared.set_rules.Chosen.{Chosen}

abbrev pub found_of : Option ℕ → Found
found_of None = record { found = false; way = 0 }
found_of (Some way) = record { found = true; way = way }

unfoldable pub policy_of : ℕ → Option ReplacementPolicy
policy_of number =
    if number == lru then Some Lru else
    if number == mru then Some Mru else
    if number == fifo then Some Fifo else
    if number == random then Some Random else
    if number == lfu then Some Lfu else if number == clock then Some Clock else None

abbrev pub touched_by : Option ReplacementPolicy → CacheSet → ℕ → CacheSet
touched_by None set way = set
touched_by (Some policy) set way = touched set way policy

abbrev pub installed_by : Option ReplacementPolicy → CacheSet → ℕ → CacheSet
installed_by None set way = set
installed_by (Some policy) set way = installed set way policy

abbrev pub used_by : Option ReplacementPolicy → LineUse → LineUse
used_by None line = line
used_by (Some policy) line = used line policy

-- the marks are of one set of 1 to 16 ways, and the set is well formed for them
abbrev pub set_fits : CacheSet → List Bool → List ℕ → List Bool → Bool
set_fits set valid freq bits =
    nat_lt 0 (length valid) && nat_le (length valid) 16 && length freq == length valid && length bits == length valid
    && is_well_formed set (length valid)

-- an answer, and the set's reference bits after it
pub record Answer : Type 0 where
  pub chosen : Chosen
  pub bits : List Bool

abbrev pub with_bits : Chosen → List Bool → Answer
with_bits chosen bits = record { chosen = chosen; bits = bits }

abbrev pub refused : CacheSet → List Bool → Answer
refused set bits = with_bits (record { no = 24; way = 0; set = set }) bits

abbrev pub done : Choice → Answer
done choice = with_bits (record { no = 0; way = choice.victim.way; set = choice.victim.set }) choice.bits

abbrev pub chosen_by : Option ReplacementPolicy → CacheSet → List Bool → List ℕ → List Bool → Answer
chosen_by None set valid freq bits = refused set bits
chosen_by (Some policy) set valid freq bits =
    if set_fits set valid freq bits then done (victim_of set policy valid freq bits) else refused set bits
