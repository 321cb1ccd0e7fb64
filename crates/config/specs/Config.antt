-- `config.rs` as definitions: the reasons, the limits, and where an address falls. In these numbers n / 0 is 0 and n % 0 is n, so each
-- stands for every configuration.
use Rattle.std.specs.Prelude.{ℕ, ◌+◌, ◌-◌, ◌*◌, ◌/◌, ◌%◌, ◌^◌, max, Bool, if◌then◌else◌, not, ◌&&◌, ◌==◌, nat_le, nat_lt}
use Rattle.std.specs.Int.Count.{count_trailing_zeros}
use Rattle.config.specs.Numbers.{
  lru,
  clock,
  write_through,
  write_back,
  write_allocate,
  no_write_allocate,
  non_inclusive,
  max_line_size,
  max_ways,
  max_lines,
  max_cycles,
}
use Rattle.config.specs.declared.CacheConfig.{CacheConfig}

-- x is two to the number of its trailing zeros
unfoldable pub power_of_two : ℕ → Bool
power_of_two x = x == 2 ^ count_trailing_zeros 64 x

-- bytes in a set
abbrev pub set_bytes : CacheConfig → ℕ
set_bytes c = c.line_size * c.associativity

unfoldable pub num_sets : CacheConfig → ℕ
num_sets c = c.size / set_bytes c

-- ---- the first reason that applies, or 0

-- sets not a power of two; inclusion other than NonInclusive
unfoldable pub reason_of_rest : ℕ → ℕ → ℕ
reason_of_rest sets inclusion =
    if not (power_of_two sets) then 8 else
    if not (inclusion == non_inclusive) then 9 else 0

-- line × ways over 64 bits; above size; size not a multiple of it
unfoldable pub reason_of_sets : ℕ → ℕ → ℕ → ℕ
reason_of_sets size bytes inclusion =
    if nat_le (2 ^ 64) bytes then 5 else
    if nat_lt size bytes then 6 else
    if not (size % bytes == 0) then 7 else reason_of_rest (size / bytes) inclusion

-- size 0; line size under 4; no ways; line size not a power of two
unfoldable pub reason_of : CacheConfig → ℕ
reason_of c =
    if c.size == 0 then 1 else
    if nat_lt c.line_size 4 then 2 else
    if c.associativity == 0 then 3 else
    if not (power_of_two c.line_size) then 4 else reason_of_sets c.size (set_bytes c) c.inclusion

unfoldable pub is_valid : CacheConfig → Bool
is_valid c = reason_of c == 0

-- ---- the limits

-- line size at most 256, ways at most 16, sets × ways at most 256
unfoldable pub geometry_within : CacheConfig → Bool
geometry_within c =
    nat_le c.line_size max_line_size && nat_le c.associativity max_ways && nat_le (num_sets c * c.associativity) max_lines

-- hit_latency, miss_penalty and assoc_penalty at most 1,000,000 each
unfoldable pub cycles_within : CacheConfig → Bool
cycles_within c =
    nat_le c.hit_latency max_cycles && nat_le c.miss_penalty max_cycles && nat_le c.assoc_penalty max_cycles

-- each policy number names a policy
unfoldable pub policies_within : CacheConfig → Bool
policies_within c =
    nat_le c.replacement clock && nat_le c.write_policy write_back && nat_le c.write_alloc no_write_allocate

unfoldable pub within_limits : CacheConfig → Bool
within_limits c = geometry_within c && cycles_within c && policies_within c

-- ---- where an address falls

-- offset = address mod line size
unfoldable pub addr_offset : CacheConfig → ℕ → ℕ
addr_offset c addr = addr % c.line_size

-- set = (address / line size) mod sets
unfoldable pub addr_index : CacheConfig → ℕ → ℕ
addr_index c addr = addr / c.line_size % num_sets c

-- tag = address / (line size × sets)
unfoldable pub addr_tag : CacheConfig → ℕ → ℕ
addr_tag c addr = addr / (c.line_size * num_sets c)

-- the line's first address
unfoldable pub line_base : CacheConfig → ℕ → ℕ
line_base c addr = addr - addr_offset c addr

-- tag search = hit_latency + (ways − 1) × assoc_penalty, as a number of 64 bits
unfoldable pub search_cycles : CacheConfig → ℕ
search_cycles c = (c.hit_latency + (c.associativity - 1) * c.assoc_penalty) % 2 ^ 64

-- transfer = line size / width, rounded up; width 0 counts as 1
unfoldable pub transfer_cycles : CacheConfig → ℕ
transfer_cycles c = (c.line_size + (max c.transfer_width 1 - 1)) / max c.transfer_width 1

-- `CacheConfig::default()`
unfoldable pub stock : CacheConfig
stock =
    record {
      size = 1024;
      line_size = 16;
      associativity = 2;
      replacement = lru;
      write_policy = write_back;
      write_alloc = write_allocate;
      inclusion = non_inclusive;
      hit_latency = 1;
      miss_penalty = 50;
      assoc_penalty = 1;
      transfer_width = 8;
    }

-- all numbers 0, LRU, write-through, write-allocate, NonInclusive
unfoldable pub none : CacheConfig
none =
    record {
      size = 0;
      line_size = 0;
      associativity = 0;
      replacement = lru;
      write_policy = write_through;
      write_alloc = write_allocate;
      inclusion = non_inclusive;
      hit_latency = 0;
      miss_penalty = 0;
      assoc_penalty = 0;
      transfer_width = 0;
    }
