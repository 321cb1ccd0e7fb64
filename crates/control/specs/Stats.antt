-- The eight counters, which wrap past the top.
use Rattle.std.specs.Prelude.{◌+◌, ◌%◌, ◌^◌}
use Rattle.control.specs.declared.stats.CacheStats.{CacheStats}

abbrev pub nothing : CacheStats
nothing =
    record {
      hits = 0;
      misses = 0;
      evictions = 0;
      writebacks = 0;
      bytes_loaded = 0;
      bytes_stored = 0;
      total_cycles = 0;
      ram_write_bytes = 0;
    }

unfoldable pub plus : CacheStats → CacheStats → CacheStats
plus a b =
    record {
      hits = (a.hits + b.hits) % 2 ^ 64;
      misses = (a.misses + b.misses) % 2 ^ 64;
      evictions = (a.evictions + b.evictions) % 2 ^ 64;
      writebacks = (a.writebacks + b.writebacks) % 2 ^ 64;
      bytes_loaded = (a.bytes_loaded + b.bytes_loaded) % 2 ^ 64;
      bytes_stored = (a.bytes_stored + b.bytes_stored) % 2 ^ 64;
      total_cycles = (a.total_cycles + b.total_cycles) % 2 ^ 64;
      ram_write_bytes = (a.ram_write_bytes + b.ram_write_bytes) % 2 ^ 64;
    }
