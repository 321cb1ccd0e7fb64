-- A fresh level is well formed.
use Rattle.std.proofs.Common.{◌≡◌, ◌∙◌, ℕ, zero, suc, ◌+◌, ◌-◌, ◌*◌, ◌<◌, ◌≤◌, ◌⊎◌, inl, true, false, List, length, take, replicate, sym, refl, arith, ⊎_elim, true≢false}
use Rattle.std.specs.Prelude.{slice_index, slice_index_or}
use Rattle.std.specs.List.{range_with_len}
use Rattle.std.proofs.lemmas.Bool.{cases_eq}
use Rattle.std.proofs.lemmas.List.{length-set, length-take, length-append, length-replicate, get_or-replicate}
use Rattle.std.proofs.lemmas.List.Edits.{length-paste}
use Rattle.sets.specs.Order.{fresh_order, is_order}
use Rattle.control.specs.declared.geometry.Geometry.{Geometry}
use Rattle.control.specs.declared.marks.Marks.{Marks}
use Rattle.control.specs.Geometry.{Fits}
use Rattle.control.specs.Marks.{order_at, set_at}
use Rattle.control.specs.Formed.{is_set_formed, is_line_formed, is_formed}
use Rattle.control.specs.Lines.{opened, fresh_marks}
use Rattle.control.proofs.Ranges.{each_below}
use Rattle.control.proofs.Room.{set_ends}
use Rattle.control.proofs.LevelKept.{Whole, Level, from_each, line_from_fits, well_formed, own_order, other_part}

-- a fresh order, of up to 16 ways
fresh_is_order : (ways : ℕ) → ways ≤ 16 → is_order ways (fresh_order ways) ≡ true
unfolding is_order fresh_order
fresh_is_order ways few = each_below (λ n. is_order n (fresh_order n)) 17 ways refl (omega arith)

fresh_long : (ways : ℕ) → ways ≤ 16 → length (fresh_order ways) ≡ 16
unfolding fresh_order
fresh_long ways few =
    let zeros : List ℕ = replicate (16 - ways) 0 in
    let counts : List ℕ = range_with_len 0 16 in
    length-append (take ways counts) zeros
    ∙ omega (arith, length-take ways counts, length-replicate {A = ℕ} (16 - ways) 0)

-- ---- what opening set after set leaves

opened_valid : (ways n : ℕ) → (opened ways n).valid ≡ replicate 256 false
unfolding opened
opened_valid ways zero = refl
opened_valid ways (suc n) = opened_valid ways n

opened_hand : (ways n : ℕ) → (opened ways n).clock_hand ≡ replicate 256 0
unfolding opened
opened_hand ways zero = refl
opened_hand ways (suc n) = opened_hand ways n

-- so many opened sets fit
more_fits : (ways n : ℕ) → suc n * ways ≤ 256 → n * ways + ways ≤ 256
more_fits ways n fits = omega (arith, set_ends n (suc n) ways (omega arith))

opened_whole : (ways n : ℕ) → ways ≤ 16 → n * ways ≤ 256 → Whole (opened ways n)
unfolding opened
opened_whole ways zero few fits =
    record {
      tags = length-replicate 256 zero;
      valid = length-replicate 256 false;
      dirty = length-replicate 256 false;
      reference = length-replicate 256 false;
      freq = length-replicate 256 zero;
      lru_order = length-replicate 256 zero;
      fifo_order = length-replicate 256 zero;
      clock_hand = length-replicate 256 zero;
      rand_state = length-replicate 256 zero;
    }
opened_whole ways (suc n) few fits =
    let room : n * ways + ways ≤ 256 = more_fits ways n fits in
    let w : Whole (opened ways n) = opened_whole ways n few (omega arith) in
    let enough : ways ≤ length (fresh_order ways) = omega (arith, fresh_long ways few) in
    record {
      tags = w.tags;
      valid = w.valid;
      dirty = w.dirty;
      reference = w.reference;
      freq = w.freq;
      lru_order = length-paste (opened ways n).lru_order (n * ways) (fresh_order ways) ways (omega (arith, w.lru_order)) enough ∙ w.lru_order;
      fifo_order = length-paste (opened ways n).fifo_order (n * ways) (fresh_order ways) ways (omega (arith, w.fifo_order)) enough ∙ w.fifo_order;
      clock_hand = w.clock_hand;
      rand_state = length-set (opened ways n).rand_state n _ ∙ w.rand_state;
    }

-- an opened set's orders are orders
abbrev Ordered : ℕ → Marks → ℕ → Type 0
Ordered ways m s = (is_order ways (order_at m.lru_order (s * ways) ways) ≡ true) × (is_order ways (order_at m.fifo_order (s * ways) ways) ≡ true)

opened_ordered : (ways n s : ℕ) → ways ≤ 16 → n * ways ≤ 256 → s < n → Ordered ways (opened ways n) s
unfolding opened
opened_ordered ways zero s few fits l = absurd (omega arith)
opened_ordered ways (suc n) s few fits l =
    let room : n * ways + ways ≤ 256 = more_fits ways n fits in
    let w : Whole (opened ways n) = opened_whole ways n few (omega arith) in
    let enough : ways ≤ length (fresh_order ways) = omega (arith, fresh_long ways few) in
    let lru : n * ways ≤ length (opened ways n).lru_order = omega (arith, w.lru_order) in
    let fifo : n * ways ≤ length (opened ways n).fifo_order = omega (arith, w.fifo_order) in
    ⊎_elim
    (λ here.
    rw here (
      own_order (opened ways n).lru_order (fresh_order ways) (n * ways) ways lru enough ∙ fresh_is_order ways few,
      own_order (opened ways n).fifo_order (fresh_order ways) (n * ways) ways fifo enough ∙ fresh_is_order ways few,
    ))
    (λ other.
    let below : s < n = omega (arith, other) in
    let before : (s * ways + ways ≤ n * ways) ⊎ (n * ways + ways ≤ s * ways) = inl (set_ends s n ways below) in
    let was : Ordered ways (opened ways n) s = opened_ordered ways n s few (omega arith) below in (
      rw (other_part (opened ways n).lru_order (fresh_order ways) (n * ways) (s * ways) ways lru enough before) was.0,
      rw (other_part (opened ways n).fifo_order (fresh_order ways) (n * ways) (s * ways) ways fifo enough before) was.1,
    ))
    (cases_eq s n)

-- ---- the level

fresh_set :
    (g : Geometry) (s : ℕ)
    → Fits g
    → g.sets * g.ways ≤ 256
    → s < g.sets
    → is_set_formed g (fresh_marks g) s ≡ true
unfolding is_set_formed set_at
fresh_set g s fits lines l =
    let ordered : Ordered g.ways (opened g.ways g.sets) s = opened_ordered g.ways g.sets s fits.few_ways lines l in
    let hand : slice_index (fresh_marks g).clock_hand s ≡ 0 = rw (opened_hand g.ways g.sets) (get_or-replicate 256 s 0 0 (omega (arith, fits.few_sets, l))) in
    well_formed _ g.ways ordered.0 ordered.1 (rw hand fits.some_ways)

fresh_line : (g : Geometry) (line : ℕ) → line < 256 → is_line_formed g (fresh_marks g) line ≡ true
fresh_line g line l =
    let empty : slice_index_or (fresh_marks g).valid line false ≡ false = rw (opened_valid g.ways g.sets) (get_or-replicate 256 line false false l) in
    line_from_fits g (fresh_marks g) line (λ valid. absurd (true≢false (sym valid ∙ empty)))

pub fresh_formed : (g : Geometry) → Fits g → g.sets * g.ways ≤ 256 → is_formed g (fresh_marks g) ≡ true
fresh_formed g fits lines =
    from_each g (fresh_marks g) (λ s l. fresh_set g s fits lines l) (λ line l. fresh_line g line (omega (arith, lines, l)))

-- so a fresh level may serve its first access
pub fresh_level : (g : Geometry) → Fits g → g.sets * g.ways ≤ 256 → Level g (fresh_marks g)
fresh_level g fits lines =
    record {
      fits = fits;
      lines = lines;
      whole = opened_whole g.ways g.sets fits.few_ways lines;
      formed = fresh_formed g fits lines;
    }
