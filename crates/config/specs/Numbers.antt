-- The numbers of the rules: the policies', in the order of capability/cache.rs, and the limits. The code has the same as associated
-- constants of `CacheConfig`.
use Rattle.std.specs.Prelude.{ℕ}

-- ---- replacement policies

abbrev pub lru : ℕ
lru = 0

abbrev pub mru : ℕ
mru = 1

abbrev pub fifo : ℕ
fifo = 2

abbrev pub random : ℕ
random = 3

abbrev pub lfu : ℕ
lfu = 4

abbrev pub clock : ℕ
clock = 5

-- ---- write policies

abbrev pub write_through : ℕ
write_through = 0

abbrev pub write_back : ℕ
write_back = 1

-- ---- allocation on a write

abbrev pub write_allocate : ℕ
write_allocate = 0

abbrev pub no_write_allocate : ℕ
no_write_allocate = 1

-- ---- inclusion: only the first is taken

abbrev pub non_inclusive : ℕ
non_inclusive = 0

abbrev pub inclusive : ℕ
inclusive = 1

abbrev pub exclusive : ℕ
exclusive = 2

-- ---- the limits

abbrev pub max_line_size : ℕ
max_line_size = 256

abbrev pub max_ways : ℕ
max_ways = 16

abbrev pub max_lines : ℕ
max_lines = 256

abbrev pub max_cycles : ℕ
max_cycles = 1000000
