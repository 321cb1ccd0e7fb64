-- The policies that numbers name.
use Rattle.std.specs.Prelude.{◌≡◌, ℕ, ◌<◌, List, ◌++◌, codes, decimal, Result, MatchResult}
use Rattle.config.specs.Numbers.{lru, mru, fifo, random, lfu, clock, write_through, write_back, write_allocate, no_write_allocate}
use Rattle.config.specs.declared.policy.ReplacementPolicy.{ReplacementPolicy}
use Rattle.config.specs.declared.policy.ReplacementPolicy.TheVariants.{Lru, Mru, Fifo, Random, Lfu, Clock}
use Rattle.config.specs.declared.policy.WritePolicy.{WritePolicy}
use Rattle.config.specs.declared.policy.WritePolicy.TheVariants.{WriteThrough, WriteBack}
use Rattle.config.specs.declared.policy.WriteAllocPolicy.{WriteAllocPolicy}
use Rattle.config.specs.declared.policy.WriteAllocPolicy.TheVariants.{WriteAllocate, NoWriteAllocate}
use Rattle.config.specs.declared.policy.UnknownPolicy.{UnknownPolicy}

abbrev pub replacement_number : ReplacementPolicy → ℕ
replacement_number Lru = lru
replacement_number Mru = mru
replacement_number Fifo = fifo
replacement_number Random = random
replacement_number Lfu = lfu
replacement_number Clock = clock

abbrev pub write_number : WritePolicy → ℕ
write_number WriteThrough = write_through
write_number WriteBack = write_back

abbrev pub write_alloc_number : WriteAllocPolicy → ℕ
write_alloc_number WriteAllocate = write_allocate
write_alloc_number NoWriteAllocate = no_write_allocate

abbrev pub unknown_text : UnknownPolicy → List ℕ
unknown_text unknown = codes "no policy has number " ++ decimal unknown.0

-- the answer is the policy that has this number, or that number where it lies past the last that names one
abbrev pub Names : {P : Type 0} → (P → ℕ) → ℕ → ℕ → Result P UnknownPolicy → Type 0
Names number_of last number answer =
    MatchResult answer (λ policy. number_of policy ≡ number) (λ unknown. (unknown.0 ≡ number) × (last < number))
