-- The marks of a line.
use Rattle.std.specs.Prelude.{ℕ, Bool, List, false, slice_index, slice_index_or}
use Rattle.control.specs.declared.mark.Mark.{Mark}

abbrev pub mark_at : List ℕ → List Bool → List Bool → List ℕ → List Bool → ℕ → Mark
mark_at tags valid dirty freq bits way =
    record {
      tag = slice_index tags way;
      valid = slice_index_or valid way false;
      dirty = slice_index_or dirty way false;
      used = record { freq = slice_index freq way; ref_bit = slice_index_or bits way false };
    }
