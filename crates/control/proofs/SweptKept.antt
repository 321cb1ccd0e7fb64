-- A sweep's step at a line, and a line that goes, leave a level well formed.
use Rattle.std.proofs.Common.{◌≡◌, ◌≢◌, ◌∙◌, ℕ, ◌+◌, ◌*◌, ◌<◌, ◌≤◌, true, false, Option, None, Some, length, set, ap, sym, refl, mod-lt, arith, ⊎_elim, true≢false}
use Rattle.std.specs.Prelude.{slice_index, slice_index_or}
use Rattle.std.proofs.lemmas.Bool.{cases_eq}
use Rattle.std.proofs.lemmas.List.{length-set, get_or-set_same, get_or-set_other}
use Rattle.control.specs.declared.geometry.Geometry.{Geometry}
use Rattle.control.specs.declared.mark.Mark.{Mark}
use Rattle.control.specs.declared.marks.Marks.{Marks}
use Rattle.control.specs.declared.sweep.Sweep.{Sweep}
use Rattle.control.specs.declared.sweep.Sweep.TheVariants.{Flush, Writeback, Invalidate}
use Rattle.control.specs.Geometry.{set_of}
use Rattle.control.specs.Marks.{part, set_at}
use Rattle.control.specs.Sweep.{dropped_line, swept_mark, swept_line}
use Rattle.control.specs.Formed.{is_set_formed, is_line_formed, is_formed}
use Rattle.control.specs.Lines.{line_mark, with_mark, located, dropped_at, without_line, line_swept, swept_level}
use Rattle.control.proofs.AccessKept.{found_below}
use Rattle.control.proofs.Room.{set_ends}
use Rattle.control.proofs.Pasted.{length_part}
use Rattle.control.proofs.LevelKept.{Whole, Level, SameLine, set_formed, line_formed, from_each, line_fits, line_from_fits, same_line}

-- a mark that is valid only where another is, and then has its tag
pub record Weaker (mark was : Mark) : Type 0 where
  pub valid : mark.valid ≡ true → was.valid ≡ true
  pub tag : mark.tag ≡ was.tag

dropped_weaker : (was : Mark) → Weaker (dropped_line was) was
dropped_weaker was = record { valid = λ on. absurd (true≢false (sym on)); tag = refl }

swept_weaker : (sweep : Sweep) (was : Mark) → Weaker (swept_mark sweep was) was
swept_weaker Flush was = dropped_weaker was
swept_weaker Writeback was = record { valid = λ on. on; tag = refl }
swept_weaker Invalidate was = dropped_weaker was

-- ---- a mark laid down

same_sets : (g : Geometry) (m : Marks) (line s : ℕ) (mark : Mark) → is_set_formed g (with_mark m line mark) s ≡ is_set_formed g m s
unfolding is_set_formed set_at
same_sets g m line s mark = refl

-- the other lines
pub put_others : (m : Marks) (at line : ℕ) (mark : Mark) → line ≢ at → SameLine m (with_mark m at mark) line
put_others m at line mark other =
    record {
      tag = get_or-set_other m.tags at line _ 0 other;
      valid = get_or-set_other m.valid at line _ false other;
      dirty = get_or-set_other m.dirty at line _ false other;
      freq = get_or-set_other m.freq at line _ 0 other;
    }

put_formed :
    (g : Geometry) (m : Marks) (line : ℕ) (mark : Mark)
    → Whole m
    → line < 256
    → Weaker mark (line_mark m line)
    → is_line_formed g m line ≡ true
    → is_line_formed g (with_mark m line mark) line ≡ true
put_formed g m line mark whole l weaker formed =
    let valid : slice_index_or (set m.valid line mark.valid) line false ≡ mark.valid = get_or-set_same m.valid line _ false (omega (arith, whole.valid)) in
    let tag : slice_index (set m.tags line mark.tag) line ≡ mark.tag = get_or-set_same m.tags line _ 0 (omega (arith, whole.tags)) in
    line_from_fits g (with_mark m line mark) line
    (λ on. rw (tag, weaker.tag) (line_fits g m line formed (weaker.valid (sym valid ∙ on))))

-- a weaker mark at one of its lines leaves a level well formed
pub weaker_kept :
    (g : Geometry) (m : Marks) (line : ℕ) (mark : Mark)
    → Level g m
    → line < g.sets * g.ways
    → Weaker mark (line_mark m line)
    → is_formed g (with_mark m line mark) ≡ true
weaker_kept g m line mark level among weaker =
    from_each g (with_mark m line mark)
    (λ s l. same_sets g m line s mark ∙ set_formed g m s level.formed l)
    (λ k l.
    ⊎_elim
    (λ here.
    ap (is_line_formed g (with_mark m line mark)) here
    ∙ put_formed g m line mark level.whole (omega (arith, level.lines, among)) weaker (line_formed g m line level.formed among))
    (λ other. same_line g m (with_mark m line mark) k (put_others m line k mark other) (line_formed g m k level.formed l))
    (cases_eq k line))

put_whole : (m : Marks) (line : ℕ) (mark : Mark) → Whole m → Whole (with_mark m line mark)
put_whole m line mark whole =
    record {
      tags = length-set m.tags line _ ∙ whole.tags;
      valid = length-set m.valid line _ ∙ whole.valid;
      dirty = length-set m.dirty line _ ∙ whole.dirty;
      reference = length-set m.reference line _ ∙ whole.reference;
      freq = length-set m.freq line _ ∙ whole.freq;
      lru_order = whole.lru_order;
      fifo_order = whole.fifo_order;
      clock_hand = whole.clock_hand;
      rand_state = whole.rand_state;
    }

-- ---- a sweep's step

pub swept_formed :
    (sweep : Sweep) (g : Geometry) (line ram_len : ℕ) (m : Marks)
    → Level g m
    → line < g.sets * g.ways
    → is_formed g (swept_level sweep g line ram_len m).marks ≡ true
unfolding swept_level line_swept swept_line
swept_formed sweep g line ram_len m level among = weaker_kept g m line _ level among (swept_weaker sweep (line_mark m line))

pub swept_others :
    (sweep : Sweep) (g : Geometry) (at ram_len : ℕ) (m : Marks) (line : ℕ)
    → line ≢ at
    → SameLine m (swept_level sweep g at ram_len m).marks line
unfolding swept_level line_swept swept_line
swept_others sweep g at ram_len m line other = put_others m at line _ other

pub swept_level_kept :
    (sweep : Sweep) (g : Geometry) (line ram_len : ℕ) (m : Marks)
    → Level g m
    → line < g.sets * g.ways
    → Level g (swept_level sweep g line ram_len m).marks
unfolding swept_level line_swept swept_line
swept_level_kept sweep g line ram_len m level among =
    record {
      fits = level.fits;
      lines = level.lines;
      whole = put_whole m line _ level.whole;
      formed = weaker_kept g m line _ level among (swept_weaker sweep (line_mark m line));
    }

-- ---- a line that goes

located_among :
    (g : Geometry) (addr way : ℕ) (m : Marks)
    → Level g m
    → located g addr m ≡ Some way
    → set_of g addr * g.ways + way < g.sets * g.ways
unfolding located
located_among g addr way m level found =
    let among : set_of g addr < g.sets = mod-lt _ {m = g.sets} level.fits.some_sets in
    let ends : set_of g addr * g.ways + g.ways ≤ g.sets * g.ways = set_ends (set_of g addr) g.sets g.ways among in
    let there = found_below _ (part m.valid (set_of g addr * g.ways) g.ways) _ way found in
    let long : length (part m.valid (set_of g addr * g.ways) g.ways) ≡ g.ways = length_part m.valid (set_of g addr * g.ways) g.ways (omega (arith, level.whole.valid, level.lines)) in
    omega (arith, there)

-- a level whose line at an address goes
pub without_level : (g : Geometry) (addr : ℕ) (m : Marks) → Level g m → Level g (without_line g addr m)
unfolding without_line
without_level g addr m level = by (located g addr m) refl
  where
    by :
        (o : Option ℕ)
        → located g addr m ≡ o
        → Level g (dropped_at o m (set_of g addr * g.ways))
    by None none = level
    by (Some way) found =
        record {
          fits = level.fits;
          lines = level.lines;
          whole = put_whole m (set_of g addr * g.ways + way) _ level.whole;
          formed = weaker_kept g m (set_of g addr * g.ways + way) _ level (located_among g addr way m level found) (dropped_weaker _);
        }

pub without_formed : (g : Geometry) (addr : ℕ) (m : Marks) → Level g m → is_formed g (without_line g addr m) ≡ true
without_formed g addr m level = (without_level g addr m level).formed
