-- What a hit and an install move, by the policy.
use Rattle.std.specs.Prelude.{ℕ, Bool, ◌&&◌, nat_lt, ◌+◌, ◌-◌, ◌^◌, min, true}
use Rattle.config.specs.declared.policy.ReplacementPolicy.{ReplacementPolicy}
use Rattle.config.specs.declared.policy.ReplacementPolicy.TheVariants.{Lru, Mru, Fifo, Random, Lfu, Clock}
use Rattle.sets.specs.declared.set.CacheSet.{CacheSet}
use Rattle.sets.specs.declared.set.LineUse.{LineUse}
use Rattle.sets.specs.Order.{to_front, fresh_order, is_order}

-- a fresh set
unfoldable pub fresh : ℕ → CacheSet
fresh ways =
    record {
      lru_order = fresh_order ways;
      fifo_order = fresh_order ways;
      rand_state = 0xDEADBEEF;
      clock_hand = 0;
    }

-- both orders have each way once, and the hand is at a way
unfoldable pub is_well_formed : CacheSet → ℕ → Bool
is_well_formed set ways = is_order ways set.lru_order && is_order ways set.fifo_order && nat_lt set.clock_hand ways

abbrev pub used_first : CacheSet → ℕ → CacheSet
used_first set way = record set { lru_order = to_front way set.lru_order }

-- a hit: LRU, MRU and LFU move the way to the front
unfoldable pub touched : CacheSet → ℕ → ReplacementPolicy → CacheSet
touched set way Lru = used_first set way
touched set way Mru = used_first set way
touched set way Fifo = set
touched set way Random = set
touched set way Lfu = used_first set way
touched set way Clock = set

-- an install: the same, and FIFO moves the way to the front of its own order
unfoldable pub installed : CacheSet → ℕ → ReplacementPolicy → CacheSet
installed set way Lru = used_first set way
installed set way Mru = used_first set way
installed set way Fifo = record set { fifo_order = to_front way set.fifo_order }
installed set way Random = set
installed set way Lfu = used_first set way
installed set way Clock = set

-- what a hit leaves in the line: LFU adds 1 up to the largest number, Clock sets the bit
unfoldable pub used : LineUse → ReplacementPolicy → LineUse
used line Lru = line
used line Mru = line
used line Fifo = line
used line Random = line
used line Lfu = record line { freq = min (line.freq + 1) (2 ^ 64 - 1) }
used line Clock = record line { ref_bit = true }
