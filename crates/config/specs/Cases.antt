-- The cases to check by hand for configurations, computed over the definitions.
use Rattle.std.specs.Prelude.{◌≡◌, ℕ, true, false, refl}
use Rattle.config.specs.Numbers.{lru, write_back, write_allocate, non_inclusive}
use Rattle.config.specs.Config.{power_of_two, num_sets, reason_of_rest, reason_of_sets, reason_of, geometry_within, cycles_within, policies_within, within_limits}
use Rattle.config.specs.declared.CacheConfig.{CacheConfig}
use Rattle.std.specs.Int.Count.{count_trailing_zeros}

-- the stock configuration with another geometry
unfoldable pub sized : ℕ → ℕ → ℕ → CacheConfig
sized size line ways =
    record {
      size = size;
      line_size = line;
      associativity = ways;
      replacement = lru;
      write_policy = write_back;
      write_alloc = write_allocate;
      inclusion = non_inclusive;
      hit_latency = 1;
      miss_penalty = 50;
      assoc_penalty = 1;
      transfer_width = 8;
    }

-- size 192, line 16, 3 ways: 4 sets, valid
pub three_ways : reason_of (sized 192 16 3) ≡ 0
unfolding sized reason_of reason_of_sets reason_of_rest power_of_two count_trailing_zeros
three_ways = refl

pub three_ways_sets : num_sets (sized 192 16 3) ≡ 4
unfolding sized num_sets
three_ways_sets = refl

-- size 96, line 16, 2 ways: reason 8
pub three_sets : reason_of (sized 96 16 2) ≡ 8
unfolding sized reason_of reason_of_sets reason_of_rest power_of_two count_trailing_zeros
three_sets = refl

-- size 0, line 3: reason 1
pub no_size : reason_of (sized 0 3 2) ≡ 1
unfolding sized reason_of
no_size = refl

-- 256 lines lie within the limits, 512 lines of 16 bytes with 2 ways beyond them
pub lines_256 : within_limits (sized 4096 16 2) ≡ true
unfolding sized within_limits geometry_within cycles_within policies_within num_sets
lines_256 = refl

pub lines_512 : within_limits (sized 8192 16 2) ≡ false
unfolding sized within_limits geometry_within cycles_within policies_within num_sets
lines_512 = refl

pub lines_512_valid : reason_of (sized 8192 16 2) ≡ 0
unfolding sized reason_of reason_of_sets reason_of_rest power_of_two count_trailing_zeros
lines_512_valid = refl
