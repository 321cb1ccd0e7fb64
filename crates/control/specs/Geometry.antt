-- Where an address falls.
use Rattle.std.specs.Prelude.{ℕ, Option, None, Some, if◌then◌else◌, ◌==◌, ◌&&◌, ◌+◌, ◌-◌, ◌*◌, ◌/◌, ◌%◌, ◌^◌, ◌<◌, ◌≤◌}
use Rattle.config.specs.declared.CacheConfig.{CacheConfig}
use Rattle.config.specs.Config.{is_valid, within_limits, num_sets, search_cycles, transfer_cycles}
use Rattle.config.specs.Numbers.{lru, mru, fifo, random, lfu, write_through, write_allocate}
use Rattle.config.specs.declared.policy.ReplacementPolicy.{ReplacementPolicy}
use Rattle.config.specs.declared.policy.ReplacementPolicy.TheVariants.{Lru, Mru, Fifo, Random, Lfu, Clock}
use Rattle.config.specs.declared.policy.WritePolicy.{WritePolicy}
use Rattle.config.specs.declared.policy.WritePolicy.TheVariants.{WriteThrough, WriteBack}
use Rattle.config.specs.declared.policy.WriteAllocPolicy.{WriteAllocPolicy}
use Rattle.config.specs.declared.policy.WriteAllocPolicy.TheVariants.{WriteAllocate, NoWriteAllocate}
use Rattle.control.specs.declared.geometry.Geometry.{Geometry}

-- what a valid configuration within the limits gives
pub record Fits (g : Geometry) : Type 0 where
  pub some_line : 0 < g.line_size
  pub short_line : g.line_size ≤ 256
  pub some_sets : 0 < g.sets
  pub few_sets : g.sets ≤ 256
  pub some_ways : 0 < g.ways
  pub few_ways : g.ways ≤ 16

-- the policies that numbers within the limits name
unfoldable pub replacement_by : ℕ → ReplacementPolicy
replacement_by number =
    if number == lru then Lru else
    if number == mru then Mru else
    if number == fifo then Fifo else
    if number == random then Random else if number == lfu then Lfu else Clock

unfoldable pub write_by : ℕ → WritePolicy
write_by number = if number == write_through then WriteThrough else WriteBack

unfoldable pub write_alloc_by : ℕ → WriteAllocPolicy
write_alloc_by number = if number == write_allocate then WriteAllocate else NoWriteAllocate

-- what a configuration gives
unfoldable pub geometry_by : CacheConfig → Geometry
geometry_by c =
    record {
      line_size = c.line_size;
      sets = num_sets c;
      ways = c.associativity;
      replacement = replacement_by c.replacement;
      write_policy = write_by c.write_policy;
      write_alloc = write_alloc_by c.write_alloc;
      search = search_cycles c;
      penalty = c.miss_penalty;
      transfer = transfer_cycles c;
    }

-- a valid configuration within the limits has one, and no other has
unfoldable pub geometry_of : CacheConfig → Option Geometry
geometry_of c = if is_valid c && within_limits c then Some (geometry_by c) else None

abbrev pub tag_of : Geometry → ℕ → ℕ
tag_of g addr = addr / g.line_size / g.sets

abbrev pub set_of : Geometry → ℕ → ℕ
set_of g addr = addr / g.line_size % g.sets

abbrev pub offset_of : Geometry → ℕ → ℕ
offset_of g addr = addr % g.line_size

abbrev pub base_of : Geometry → ℕ → ℕ
base_of g addr = addr - addr % g.line_size

-- the line with this tag in a set begins at (tag × sets + set) × line size
abbrev pub line_base : Geometry → ℕ → ℕ → ℕ
line_base g tag set = (tag * g.sets + set) * g.line_size % 2 ^ 32
