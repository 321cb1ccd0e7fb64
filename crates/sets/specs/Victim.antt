-- The way that a set gives up.
use Rattle.std.specs.Prelude.{ℕ, zero, suc, ◌+◌, ◌-◌, ◌*◌, ◌%◌, ◌^◌, min, Bool, false, if◌then◌else◌, List, Option, None, Some, ◌==◌, length, take, reverse, fold, find, unwrap_or, slice_get, slice_index, slice_index_or, set}
use Rattle.config.specs.declared.policy.ReplacementPolicy.{ReplacementPolicy}
use Rattle.config.specs.declared.policy.ReplacementPolicy.TheVariants.{Lru, Mru, Fifo, Random, Lfu, Clock}
use Rattle.sets.specs.declared.set.CacheSet.{CacheSet}
use Rattle.sets.specs.declared.victim.Swept.{Swept}
use Rattle.sets.specs.declared.victim.Victim.{Victim}
use Rattle.sets.specs.Ways.{free_of}

-- ---- Random

abbrev pub random_step : ℕ → ℕ
random_step state = (state * 1664525 + 1013904223) % 2 ^ 32

-- ---- LFU

abbrev pub least : List ℕ → ℕ
least freq = fold min (2 ^ 64 - 1) freq

abbrev pub is_at : Option ℕ → ℕ → Bool
is_at None wanted = false
is_at (Some f) wanted = f == wanted

abbrev pub has_freq : List ℕ → ℕ → ℕ → Bool
has_freq freq wanted way = is_at (slice_get freq way) wanted

-- of the ways with the least frequency the one nearest the order's back
unfoldable pub lfu_of : List ℕ → List ℕ → ℕ
lfu_of freq order = unwrap_or (find (has_freq freq (least freq)) (reverse (take (length freq) order))) 0

-- ---- Clock

-- where a sweep ends, and the bits after it
pub record Sweep : Type 0 where
  pub swept : Swept
  pub bits : List Bool

abbrev pub swept_bits : Swept → List Bool → Sweep
swept_bits swept bits = record { swept = swept; bits = bits }

-- so many looks from the hand on: a set bit is cleared and passed, a clear one is taken
unfoldable pub sweep : ℕ → ℕ → List Bool → Sweep
sweep zero hand bits = swept_bits (record { way = hand; hand = hand }) bits
sweep (suc looks) hand bits =
    if slice_index_or bits hand false then sweep looks ((hand + 1) % length bits) (set bits hand false) else
    swept_bits (record { way = hand; hand = (hand + 1) % length bits }) bits

-- ---- the victim

-- a victim, and the set's reference bits after the choice
pub record Choice : Type 0 where
  pub victim : Victim
  pub bits : List Bool

abbrev pub with_bits : Victim → List Bool → Choice
with_bits victim bits = record { victim = victim; bits = bits }

-- the way goes, and nothing moves
abbrev pub gives : CacheSet → List Bool → ℕ → Choice
gives set bits way = with_bits (record { way = way; set = set }) bits

abbrev pub drawn : CacheSet → ℕ → ℕ → Victim
drawn set ways state = record { way = state % ways; set = record set { rand_state = state } }

abbrev pub clocked : CacheSet → Sweep → Choice
clocked set s = with_bits (record { way = s.swept.way; set = record set { clock_hand = s.swept.hand } }) s.bits

-- LRU takes the back, MRU the front, FIFO the back of its own order; Random draws; Clock sweeps, with at most one look more than ways
unfoldable pub chosen : CacheSet → ReplacementPolicy → List ℕ → List Bool → Choice
chosen set Lru freq bits = gives set bits (slice_index set.lru_order (length freq - 1))
chosen set Mru freq bits = gives set bits (slice_index set.lru_order 0)
chosen set Fifo freq bits = gives set bits (slice_index set.fifo_order (length freq - 1))
chosen set Random freq bits = with_bits (drawn set (length freq) (random_step set.rand_state)) bits
chosen set Lfu freq bits = gives set bits (lfu_of freq set.lru_order)
chosen set Clock freq bits = clocked set (sweep (length bits + 1) set.clock_hand bits)

abbrev pub free_or : Option ℕ → CacheSet → List Bool → Choice → Choice
free_or None set bits choice = choice
free_or (Some way) set bits choice = gives set bits way

-- the lowest invalid way, and then nothing moves; else what the policy gives up
unfoldable pub victim_of : CacheSet → ReplacementPolicy → List Bool → List ℕ → List Bool → Choice
victim_of set policy valid freq bits = free_or (free_of valid) set bits (chosen set policy freq bits)
