-- What one access comes to. Read it from the end: `accessed` is the whole rule.
use Rattle.std.specs.Prelude.{ℕ, ◌+◌, ◌%◌, ◌^◌, Bool, true, false, if◌then◌else◌, ◌&&◌, ◌||◌, List, Option, None, Some}
use Rattle.config.specs.declared.policy.WritePolicy.{WritePolicy}
use Rattle.config.specs.declared.policy.WritePolicy.TheVariants.{WriteThrough, WriteBack}
use Rattle.config.specs.declared.policy.WriteAllocPolicy.{WriteAllocPolicy}
use Rattle.config.specs.declared.policy.WriteAllocPolicy.TheVariants.{WriteAllocate, NoWriteAllocate}
use Rattle.ram.specs.Ram.{reach_of}
use Rattle.sets.specs.declared.set.CacheSet.{CacheSet}
use Rattle.sets.specs.Ways.{lookup_of}
use Rattle.sets.specs.Policy.{touched, installed, used}
use Rattle.sets.specs.Victim.{Choice, victim_of}
use Rattle.control.specs.declared.geometry.Geometry.{Geometry}
use Rattle.control.specs.declared.mark.Mark.{Mark}
use Rattle.control.specs.declared.plan.Access.{Access}
use Rattle.control.specs.declared.plan.Kind.{Kind}
use Rattle.control.specs.declared.plan.Kind.TheVariants.{Fetch, Load, Store}
use Rattle.control.specs.declared.plan.Step.{Step}
use Rattle.control.specs.declared.stats.CacheStats.{CacheStats}
use Rattle.control.specs.declared.allocate.Evicted.{Evicted}
use Rattle.control.specs.Geometry.{tag_of, set_of, base_of, line_base}
use Rattle.control.specs.Mark.{mark_at}
use Rattle.control.specs.Plan.{still, outside_of, stored_of, read_of}
use Rattle.control.specs.Stats.{nothing, plus}

-- ---- what the policies say of an access

-- whether it is a store that goes to RAM before the level is asked
abbrev pub is_through : WritePolicy → Kind → Bool
is_through WriteThrough Fetch = false
is_through WriteThrough Load = false
is_through WriteThrough Store = true
is_through WriteBack kind = false

-- the bytes of such a store
abbrev pub through : Geometry → Access → ℕ
through g a = if is_through g.write_policy a.kind then a.width else 0

-- whether the access leaves its line dirty
abbrev pub dirties : WritePolicy → Kind → Bool
dirties WriteThrough kind = false
dirties WriteBack Fetch = false
dirties WriteBack Load = false
dirties WriteBack Store = true

-- whether a miss brings the line in
abbrev pub allocates : WriteAllocPolicy → Kind → Bool
allocates policy Fetch = true
allocates policy Load = true
allocates WriteAllocate Store = true
allocates NoWriteAllocate Store = false

-- ---- the counters of each part

-- bytes of a store, and those of them that went to RAM first
unfoldable pub store_stats : Geometry → Access → CacheStats
store_stats g a = record nothing { bytes_stored = stored_of a.kind a.width; ram_write_bytes = through g a }

-- a hit costs a tag search, and a write-through store the penalty of its write to RAM on top
unfoldable pub hit_stats : Geometry → Access → CacheStats
hit_stats g a =
    plus (store_stats g a)
    (record nothing {
      hits = 1;
      total_cycles = (g.search + (if is_through g.write_policy a.kind then g.penalty else 0)) % 2 ^ 64;
    })

-- a miss costs a search and the penalty, and a transfer but for a write-through store
unfoldable pub miss_stats : Geometry → Access → CacheStats
miss_stats g a =
    plus (store_stats g a)
    (record nothing {
      misses = 1;
      total_cycles = (g.search + g.penalty + (if is_through g.write_policy a.kind then 0 else g.transfer)) % 2 ^ 64;
    })

-- ---- a hit

-- touched; a store lays its bytes into the line, and under write-back leaves it dirty
unfoldable pub hit_step : Geometry → Access → ℕ → Mark → CacheSet → Step
hit_step g a way mark set =
    record {
      plan = record still { store = through g a; put = stored_of a.kind a.width; read = read_of a.kind a.width };
      stats = hit_stats g a;
      way = way;
      mark = record mark { dirty = mark.dirty || dirties g.write_policy a.kind; used = used mark.used g.replacement };
      set = touched set way g.replacement;
    }

-- ---- a store that RAM refuses before the level is asked: the bytes before the bad one stay, and nothing else moves

unfoldable pub refused_store : Access → ℕ → ℕ → Mark → CacheSet → Step
refused_store a ram_len place mark set =
    record {
      plan = record still { store = reach_of ram_len a.addr a.width; refused = Some place };
      stats = nothing;
      way = 0;
      mark = mark;
      set = set;
    }

-- ---- a miss that goes past the level: under write-back its bytes go to RAM now, and count only if all of them do

abbrev pub if_none : Option ℕ → ℕ → ℕ
if_none None n = n
if_none (Some place) n = 0

-- bytes that go to RAM only now
abbrev pub late_of : Geometry → Access → ℕ
late_of g a = if is_through g.write_policy a.kind then 0 else a.width

unfoldable pub past_step : Geometry → Access → ℕ → Mark → CacheSet → Step
past_step g a ram_len mark set =
    record {
      plan = record still { store = reach_of ram_len a.addr a.width; refused = outside_of ram_len a.addr a.width };
      stats = plus (miss_stats g a) (record nothing { ram_write_bytes = if_none (outside_of ram_len a.addr a.width) (late_of g a) });
      way = 0;
      mark = mark;
      set = set;
    }

-- ---- a miss that brings the line in

-- only a data access writes a dirty victim back, and dirty counts only where valid
abbrev pub writes_back : Kind → Mark → Bool
writes_back Fetch mark = false
writes_back Load mark = mark.valid && mark.dirty
writes_back Store mark = mark.valid && mark.dirty

abbrev pub bit : Bool → ℕ
bit false = 0
bit true = 1

-- a write-back counts each byte that RAM takes, and itself and its cycles only if RAM takes them all
abbrev pub back_stats : Geometry → ℕ → Option ℕ → CacheStats
back_stats g got None =
    record nothing { writebacks = 1; total_cycles = (g.penalty + g.transfer) % 2 ^ 64; ram_write_bytes = got }
back_stats g got (Some place) = record nothing { ram_write_bytes = got }

-- the victim's line to RAM, from `to` on
unfoldable pub written_back : Geometry → ℕ → ℕ → Evicted
written_back g to ram_len =
    record {
      stats = back_stats g (reach_of ram_len to g.line_size) (outside_of ram_len to g.line_size);
      back = reach_of ram_len to g.line_size;
      back_to = to;
      refused = outside_of ram_len to g.line_size;
    }

abbrev pub dropped : Evicted
dropped = record { stats = nothing; back = 0; back_to = 0; refused = None }

unfoldable pub evicted_of : Geometry → Kind → Mark → ℕ → ℕ → Evicted
evicted_of g kind mark set ram_len =
    if writes_back kind mark then written_back g (line_base g mark.tag set) ram_len else dropped

abbrev pub or_else : Option ℕ → Option ℕ → Option ℕ
or_else None o = o
or_else (Some place) o = Some place

-- the line that comes in
unfoldable pub filled_mark : Geometry → Access → Mark
filled_mark g a =
    record {
      tag = tag_of g a.addr;
      valid = true;
      dirty = dirties g.write_policy a.kind;
      used = record { freq = 1; ref_bit = true };
    }

-- a write-through store pays for its fill only now
unfoldable pub fill_stats : Geometry → Access → CacheStats
fill_stats g a =
    record nothing {
      bytes_loaded = g.line_size;
      total_cycles = if is_through g.write_policy a.kind then (g.penalty + g.transfer) % 2 ^ 64 else 0;
    }

unfoldable pub alloc_stats : Geometry → Access → Mark → Evicted → CacheStats
alloc_stats g a mark evicted = plus (plus (miss_stats g a) (record nothing { evictions = bit mark.valid })) evicted.stats

-- refused: the victim stays as it was, valid and dirty, although the set has moved; else the line is there and the access is served from it
abbrev pub filled_or : Option ℕ → Geometry → Access → ℕ → Mark → CacheSet → Evicted → Step
filled_or (Some place) g a way mark set evicted =
    record {
      plan = record still { store = through g a; back = evicted.back; back_to = evicted.back_to; refused = Some place };
      stats = alloc_stats g a mark evicted;
      way = way;
      mark = mark;
      set = set;
    }
filled_or None g a way mark set evicted =
    record {
      plan =
          record {
            store = through g a;
            back = evicted.back;
            back_to = evicted.back_to;
            fill = g.line_size;
            put = stored_of a.kind a.width;
            read = read_of a.kind a.width;
            load = 0;
            refused = None;
          };
      stats = plus (alloc_stats g a mark evicted) (fill_stats g a);
      way = way;
      mark = filled_mark g a;
      set = installed set way g.replacement;
    }

unfoldable pub alloc_step : Geometry → Access → ℕ → ℕ → Mark → CacheSet → Step
alloc_step g a ram_len way mark set =
    filled_or
    (or_else (evicted_of g a.kind mark (set_of g a.addr) ram_len).refused (outside_of ram_len (base_of g a.addr) g.line_size))
    g a way mark set (evicted_of g a.kind mark (set_of g a.addr) ram_len)

-- ---- one access

-- a step, and the set's reference bits after it
pub record Stepped : Type 0 where
  pub step : Step
  pub bits : List Bool

abbrev pub stepped : Step → List Bool → Stepped
stepped step bits = record { step = step; bits = bits }

-- the marks of a set's lines
pub record Marks : Type 0 where
  pub tags : List ℕ
  pub valid : List Bool
  pub dirty : List Bool
  pub freq : List ℕ
  pub bits : List Bool

abbrev pub marks : List ℕ → List Bool → List Bool → List ℕ → List Bool → Marks
marks tags valid dirty freq bits = record { tags = tags; valid = valid; dirty = dirty; freq = freq; bits = bits }

abbrev pub mark_of : Marks → List Bool → ℕ → Mark
mark_of m bits way = mark_at m.tags m.valid m.dirty m.freq bits way

abbrev pub after_choice : Geometry → Access → ℕ → Marks → Choice → Stepped
after_choice g a ram_len m choice =
    stepped (alloc_step g a ram_len choice.victim.way (mark_of m choice.bits choice.victim.way) choice.victim.set) choice.bits

abbrev pub missed : Geometry → Access → ℕ → CacheSet → Marks → Stepped
missed g a ram_len set m =
    if allocates g.write_alloc a.kind
    then after_choice g a ram_len m (victim_of set g.replacement m.valid m.freq m.bits)
    else stepped (past_step g a ram_len (mark_of m m.bits 0) set) m.bits

abbrev pub looked_up : Option ℕ → Geometry → Access → ℕ → CacheSet → Marks → Stepped
looked_up (Some way) g a ram_len set m = stepped (hit_step g a way (mark_of m m.bits way) set) m.bits
looked_up None g a ram_len set m = missed g a ram_len set m

abbrev pub after_store : Option ℕ → Geometry → Access → ℕ → CacheSet → Marks → Stepped
after_store (Some place) g a ram_len set m = stepped (refused_store a ram_len place (mark_of m m.bits 0) set) m.bits
after_store None g a ram_len set m = looked_up (lookup_of m.tags m.valid (tag_of g a.addr)) g a ram_len set m

-- a write-through store asks RAM first; then the set is asked for the tag
unfoldable pub accessed : Geometry → Access → ℕ → CacheSet → Marks → Stepped
accessed g a ram_len set m = after_store (outside_of ram_len a.addr (through g a)) g a ram_len set m
