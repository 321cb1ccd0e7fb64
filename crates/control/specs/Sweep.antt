-- What a sweep does to one line.
use Rattle.std.specs.Prelude.{ℕ, Bool, false, if◌then◌else◌, ◌&&◌, not}
use Rattle.ram.specs.Ram.{reach_of}
use Rattle.control.specs.declared.geometry.Geometry.{Geometry}
use Rattle.control.specs.declared.mark.Mark.{Mark}
use Rattle.control.specs.declared.sweep.LineStep.{LineStep}
use Rattle.control.specs.declared.sweep.Sweep.{Sweep}
use Rattle.control.specs.declared.sweep.Sweep.TheVariants.{Flush, Writeback, Invalidate}

-- the line goes, and its tag and use stay
abbrev pub dropped_line : Mark → Mark
dropped_line mark = record mark { valid = false; dirty = false }

-- dirty counts only where valid
abbrev pub is_stored : Sweep → Mark → Bool
is_stored Flush mark = mark.valid && mark.dirty
is_stored Writeback mark = mark.valid && mark.dirty
is_stored Invalidate mark = false

-- `writeback_dirty` clears the mark of what it stores; the others drop the line
abbrev pub swept_mark : Sweep → Mark → Mark
swept_mark Flush mark = dropped_line mark
swept_mark Writeback mark = record mark { dirty = mark.dirty && not (mark.valid && mark.dirty) }
swept_mark Invalidate mark = dropped_line mark

-- the bytes of the line that lie inside RAM
unfoldable pub swept_line : Sweep → Geometry → ℕ → Mark → ℕ → LineStep
swept_line sweep g base mark ram_len =
    record {
      back = if is_stored sweep mark then reach_of ram_len base g.line_size else 0;
      back_to = base;
      mark = swept_mark sweep mark;
    }
