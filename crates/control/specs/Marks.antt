-- One access on a level's marks: a set is taken out, served, and put back.
use Rattle.std.specs.Prelude.{ℕ, ◌+◌, ◌-◌, ◌*◌, List, ◌++◌, take, drop, replicate, slice_index, set}
use Rattle.std.proofs.Math.Seq.{paste}
use Rattle.sets.specs.declared.set.CacheSet.{CacheSet}
use Rattle.control.specs.declared.geometry.Geometry.{Geometry}
use Rattle.control.specs.declared.marks.Marks.{Marks}
use Rattle.control.specs.declared.marks.Served.{Served}
use Rattle.control.specs.declared.plan.Access.{Access}
use Rattle.control.specs.declared.plan.Step.{Step}
use Rattle.control.specs.Geometry.{set_of}
use Rattle.control.specs.Access.{Stepped, accessed, marks}

-- one set's part of a list, and one set's order as an array of 16
abbrev pub part : {X : Type 0} → List X → ℕ → ℕ → List X
part xs base ways = take ways (drop base xs)

abbrev pub order_at : List ℕ → ℕ → ℕ → List ℕ
order_at flat base ways = part flat base ways ++ replicate (16 - ways) 0

unfoldable pub set_at : Marks → ℕ → ℕ → ℕ → CacheSet
set_at m s base ways =
    record {
      lru_order = order_at m.lru_order base ways;
      fifo_order = order_at m.fifo_order base ways;
      rand_state = slice_index m.rand_state s;
      clock_hand = slice_index m.clock_hand s;
    }

-- the line's marks and the set put back
unfoldable pub committed : Marks → ℕ → ℕ → ℕ → Step → Marks
committed m s base ways step =
    record {
      tags = set m.tags (base + step.way) step.mark.tag;
      valid = set m.valid (base + step.way) step.mark.valid;
      dirty = set m.dirty (base + step.way) step.mark.dirty;
      reference = set m.reference (base + step.way) step.mark.used.ref_bit;
      freq = set m.freq (base + step.way) step.mark.used.freq;
      lru_order = paste m.lru_order base step.set.lru_order ways;
      fifo_order = paste m.fifo_order base step.set.fifo_order ways;
      clock_hand = set m.clock_hand s step.set.clock_hand;
      rand_state = set m.rand_state s step.set.rand_state;
    }

-- what a call on the marks comes to, and the marks after it
pub record Outcome : Type 0 where
  pub served : Served
  pub marks : Marks

abbrev pub served : Served → Marks → Outcome
served answer m = record { served = answer; marks = m }

-- the bits that a sweep of Clock's cleared, and then the line and the set
abbrev pub after_step : Marks → ℕ → ℕ → ℕ → Stepped → Outcome
after_step m s base ways r =
    served (record { plan = r.step.plan; stats = r.step.stats; line = base + r.step.way })
    (committed (record m { reference = paste m.reference base r.bits ways }) s base ways r.step)

unfoldable pub stepped_marks : Geometry → Access → ℕ → Marks → Outcome
stepped_marks g a ram_len m =
    let s = set_of g a.addr in
    let base = set_of g a.addr * g.ways in
    after_step m s base g.ways
    (accessed g a ram_len (set_at m s base g.ways)
    (marks (part m.tags base g.ways) (part m.valid base g.ways) (part m.dirty base g.ways) (part m.freq base g.ways) (part m.reference base g.ways)))
