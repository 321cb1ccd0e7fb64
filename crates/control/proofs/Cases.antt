-- The cases to check by hand for an access, computed over the definitions.
use Rattle.std.proofs.Common.{◌≡◌, false, [], ◌∷◌, refl}
use Rattle.std.specs.Prelude.{Some}
use Rattle.config.specs.declared.policy.ReplacementPolicy.TheVariants.{Lru}
use Rattle.config.specs.declared.policy.WritePolicy.TheVariants.{WriteBack}
use Rattle.config.specs.declared.policy.WriteAllocPolicy.TheVariants.{WriteAllocate}
use Rattle.ram.specs.Ram.{reach_of}
use Rattle.sets.specs.Policy.{fresh}
use Rattle.sets.specs.Ways.{lookup_of, free_of}
use Rattle.sets.specs.Victim.{victim_of}
use Rattle.control.specs.declared.geometry.Geometry.{Geometry}
use Rattle.control.specs.declared.plan.Kind.TheVariants.{Load, Store}
use Rattle.control.specs.Access.{accessed, alloc_step, miss_stats, store_stats, evicted_of, marks}
use Rattle.control.specs.Plan.{outside_of}
use Rattle.control.specs.Split.{pieces, piece_width}
use Rattle.control.specs.Stats.{plus}

-- the stock configuration: lines of 16 bytes, 32 sets of 2 ways
abbrev stock_geometry : Geometry
stock_geometry =
    record {
      line_size = 16;
      sets = 32;
      ways = 2;
      replacement = Lru;
      write_policy = WriteBack;
      write_alloc = WriteAllocate;
      search = 2;
      penalty = 50;
      transfer = 2;
    }

-- a word at offset 12 is one access, at offset 13 it is four
pub word_at_12 : pieces stock_geometry (record { kind = Store; addr = 12; width = 4 }) ≡ 1
unfolding pieces piece_width
word_at_12 = refl

pub word_at_13 : pieces stock_geometry (record { kind = Store; addr = 13; width = 4 }) ≡ 4
unfolding pieces piece_width
word_at_13 = refl

-- a miss costs search, penalty and transfer
pub miss_cycles : (miss_stats stock_geometry (record { kind = Load; addr = 0; width = 1 })).total_cycles ≡ 54
unfolding miss_stats store_stats plus
miss_cycles = refl

-- RAM of 40 bytes: a fresh read at 32 is refused at 40
pub refused_fill :
    (accessed stock_geometry (record { kind = Load; addr = 32; width = 1 }) 40 (fresh 2)
    (marks (0 ∷ 0 ∷ []) (false ∷ false ∷ []) (false ∷ false ∷ []) (0 ∷ 0 ∷ []) (false ∷ false ∷ []))).step.plan.refused
    ≡ Some 40
unfolding accessed outside_of reach_of lookup_of victim_of free_of alloc_step evicted_of
refused_fill = refl
