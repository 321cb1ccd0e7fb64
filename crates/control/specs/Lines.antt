-- A level's lines, one by one, and a fresh level's.
use Rattle.std.specs.Prelude.{ℕ, zero, suc, ◌+◌, ◌*◌, ◌/◌, false, Option, None, Some, replicate, set}
use Rattle.std.proofs.Math.Seq.{paste}
use Rattle.sets.specs.Order.{fresh_order}
use Rattle.sets.specs.Ways.{lookup_of}
use Rattle.control.specs.declared.geometry.Geometry.{Geometry}
use Rattle.control.specs.declared.mark.Mark.{Mark}
use Rattle.control.specs.declared.marks.Marks.{Marks}
use Rattle.control.specs.declared.sweep.LineStep.{LineStep}
use Rattle.control.specs.declared.sweep.Sweep.{Sweep}
use Rattle.control.specs.Geometry.{tag_of, set_of, line_base}
use Rattle.control.specs.Mark.{mark_at}
use Rattle.control.specs.Marks.{part}
use Rattle.control.specs.Sweep.{dropped_line, swept_line}

abbrev pub line_mark : Marks → ℕ → Mark
line_mark m line = mark_at m.tags m.valid m.dirty m.freq m.reference line

abbrev pub with_mark : Marks → ℕ → Mark → Marks
with_mark m line mark =
    record m {
      tags = set m.tags line mark.tag;
      valid = set m.valid line mark.valid;
      dirty = set m.dirty line mark.dirty;
      freq = set m.freq line mark.used.freq;
      reference = set m.reference line mark.used.ref_bit;
    }

-- the way that holds the line of an address
unfoldable pub located : Geometry → ℕ → Marks → Option ℕ
located g addr m =
    lookup_of (part m.tags (set_of g addr * g.ways) g.ways) (part m.valid (set_of g addr * g.ways) g.ways) (tag_of g addr)

-- that line goes, if a way holds it
abbrev pub dropped_at : Option ℕ → Marks → ℕ → Marks
dropped_at None m base = m
dropped_at (Some way) m base = with_mark m (base + way) (dropped_line (line_mark m (base + way)))

unfoldable pub without_line : Geometry → ℕ → Marks → Marks
without_line g addr m = dropped_at (located g addr m) m (set_of g addr * g.ways)

-- a sweep's step at a line, and the marks after it
pub record SweptLevel : Type 0 where
  pub step : LineStep
  pub marks : Marks

abbrev pub swept : LineStep → Marks → SweptLevel
swept step m = record { step = step; marks = m }

unfoldable pub line_swept : Sweep → Geometry → ℕ → ℕ → Marks → LineStep
line_swept sweep g line ram_len m =
    swept_line sweep g (line_base g (line_mark m line).tag (line / g.ways)) (line_mark m line) ram_len

unfoldable pub swept_level : Sweep → Geometry → ℕ → ℕ → Marks → SweptLevel
unfolding line_swept
swept_level sweep g line ram_len m =
    swept (line_swept sweep g line ram_len m) (with_mark m line (line_swept sweep g line ram_len m).mark)

-- ---- a fresh level

abbrev pub blank : Marks
blank =
    record {
      tags = replicate 256 0;
      valid = replicate 256 false;
      dirty = replicate 256 false;
      reference = replicate 256 false;
      freq = replicate 256 0;
      lru_order = replicate 256 0;
      fifo_order = replicate 256 0;
      clock_hand = replicate 256 0;
      rand_state = replicate 256 0;
    }

abbrev pub opened_set : ℕ → ℕ → Marks → Marks
opened_set ways s m =
    record m {
      lru_order = paste m.lru_order (s * ways) (fresh_order ways) ways;
      fifo_order = paste m.fifo_order (s * ways) (fresh_order ways) ways;
      rand_state = set m.rand_state s 0xDEADBEEF;
    }

-- the first sets opened, one after another
unfoldable pub opened : ℕ → ℕ → Marks
opened ways zero = blank
opened ways (suc n) = opened_set ways n (opened ways n)

abbrev pub fresh_marks : Geometry → Marks
fresh_marks g = opened g.ways g.sets
