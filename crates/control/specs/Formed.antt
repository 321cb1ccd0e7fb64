-- The marks that a level can have.
use Rattle.std.specs.Prelude.{ℕ, ◌*◌, ◌^◌, Bool, false, not, ◌&&◌, ◌||◌, nat_lt, slice_index, slice_index_or}
use Rattle.std.specs.List.{list_all, range_with_len}
use Rattle.sets.specs.Policy.{is_well_formed}
use Rattle.control.specs.declared.geometry.Geometry.{Geometry}
use Rattle.control.specs.declared.marks.Marks.{Marks}
use Rattle.control.specs.Marks.{set_at}

-- both orders have each way once, and the hand is at a way
unfoldable pub is_set_formed : Geometry → Marks → ℕ → Bool
is_set_formed g m s = is_well_formed (set_at m s (s * g.ways) g.ways) g.ways

-- a valid line's tag × sets × line size is below 2^32
unfoldable pub is_line_formed : Geometry → Marks → ℕ → Bool
is_line_formed g m line =
    not (slice_index_or m.valid line false) || nat_lt (slice_index m.tags line * g.sets * g.line_size) (2 ^ 32)

-- the first sets, and the first lines
abbrev pub are_sets_formed : Geometry → Marks → ℕ → Bool
are_sets_formed g m sets = list_all (is_set_formed g m) (range_with_len 0 sets)

abbrev pub are_lines_formed : Geometry → Marks → ℕ → Bool
are_lines_formed g m lines = list_all (is_line_formed g m) (range_with_len 0 lines)

-- each set and each line of the level
unfoldable pub is_formed : Geometry → Marks → Bool
is_formed g m = are_sets_formed g m g.sets && are_lines_formed g m (g.sets * g.ways)
