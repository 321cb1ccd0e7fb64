-- What a valid configuration within the limits has.
use Rattle.std.proofs.Common.{◌≡◌, ◌*◌, ◌/◌, ◌<◌, ◌≤◌, true, le-mul_of_pos_right, arith}
use Rattle.std.specs.Int.Count.{count_trailing_zeros}
use Rattle.std.proofs.lemmas.Nat.{pow_pos}
use Rattle.config.specs.Config.{reason_of, reason_of_sets, reason_of_rest, is_valid, within_limits, geometry_within, num_sets, set_bytes, power_of_two}
use Rattle.config.specs.declared.CacheConfig.{CacheConfig}

pub some_line : (c : CacheConfig) → is_valid c ≡ true → 0 < c.line_size
unfolding is_valid reason_of
some_line c e = grind (arith, e)

pub some_ways : (c : CacheConfig) → is_valid c ≡ true → 0 < c.associativity
unfolding is_valid reason_of
some_ways c e = grind (arith, e)

pub some_sets : (c : CacheConfig) → is_valid c ≡ true → 0 < num_sets c
unfolding is_valid reason_of reason_of_sets reason_of_rest num_sets power_of_two
some_sets c e = grind (arith, e, pow_pos (count_trailing_zeros 64 (c.size / set_bytes c)))

pub short_line : (c : CacheConfig) → within_limits c ≡ true → c.line_size ≤ 256
unfolding within_limits geometry_within
short_line c e = grind (arith, e)

pub few_ways : (c : CacheConfig) → within_limits c ≡ true → c.associativity ≤ 16
unfolding within_limits geometry_within
few_ways c e = grind (arith, e)

pub few_lines : (c : CacheConfig) → within_limits c ≡ true → num_sets c * c.associativity ≤ 256
unfolding within_limits geometry_within
few_lines c e = grind (arith, e)

pub few_sets : (c : CacheConfig) → is_valid c ≡ true → within_limits c ≡ true → num_sets c ≤ 256
few_sets c valid within =
    omega (arith, few_lines c within, le-mul_of_pos_right (num_sets c) (some_ways c valid))
