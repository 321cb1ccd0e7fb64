-- What an access keeps of a whole level: every other line and set, what stands past the last, and a well-formed level.
use Rattle.std.proofs.Common.{◌≡◌, ◌≢◌, ◌∙◌, ℕ, ◌+◌, ◌-◌, ◌*◌, ◌^◌, ◌<◌, ◌≤◌, ◌⊎◌, true, false, List, ◌++◌, length, take, drop, set, replicate, nat_lt, ap, sym, refl, mod-lt, arith, ⊎_elim}
use Rattle.std.specs.Prelude.{slice_index, slice_index_or}
use Rattle.std.proofs.Math.Seq.{paste}
use Rattle.std.proofs.lemmas.Bool.{and_parts, lt-ltb, ltb-true, cases_Bool, cases_eq}
use Rattle.std.proofs.lemmas.List.{length-set, length-append, length-replicate, get_or-set_same, get_or-set_other, drop-set-lt, length-take-le, take_at}
use Rattle.std.proofs.lemmas.List.Edits.{length-paste}
use Rattle.sets.specs.Order.{is_order}
use Rattle.sets.specs.Policy.{is_well_formed}
use Rattle.sets.specs.declared.set.CacheSet.{CacheSet}
use Rattle.sets.proofs.SetKept.{parts}
use Rattle.control.specs.declared.geometry.Geometry.{Geometry}
use Rattle.control.specs.declared.marks.Marks.{Marks}
use Rattle.control.specs.declared.plan.Access.{Access}
use Rattle.control.specs.Geometry.{Fits, set_of}
use Rattle.control.specs.Access.{Stepped, accessed, marks}
use Rattle.control.specs.Marks.{part, order_at, set_at, committed, stepped_marks}
use Rattle.control.specs.Formed.{is_set_formed, is_line_formed, is_formed}
use Rattle.control.proofs.Ranges.{all_below, each_below}
use Rattle.control.proofs.Room.{set_ends, sets_apart}
use Rattle.control.proofs.Pasted.{length_part, part_entry, part_pasted, part_before, part_past, drop_pasted, entry_before, entry_past}
use Rattle.control.proofs.AccessKept.{Sized, set_kept, way_among, bits_length, tag_fits}
use Rattle.control.proofs.OrdersLong.{Long, orders_long}

-- each list has 256 entries
pub record Whole (m : Marks) : Type 0 where
  pub tags : length m.tags ≡ 256
  pub valid : length m.valid ≡ 256
  pub dirty : length m.dirty ≡ 256
  pub reference : length m.reference ≡ 256
  pub freq : length m.freq ≡ 256
  pub lru_order : length m.lru_order ≡ 256
  pub fifo_order : length m.fifo_order ≡ 256
  pub clock_hand : length m.clock_hand ≡ 256
  pub rand_state : length m.rand_state ≡ 256

-- a level's geometry within the limits, and marks that it can have
pub record Level (g : Geometry) (m : Marks) : Type 0 where
  pub fits : Fits g
  pub lines : g.sets * g.ways ≤ 256
  pub whole : Whole m
  pub formed : is_formed g m ≡ true

-- ---- a well-formed level, set by set and line by line

pub set_formed : (g : Geometry) (m : Marks) (s : ℕ) → is_formed g m ≡ true → s < g.sets → is_set_formed g m s ≡ true
unfolding is_formed
set_formed g m s formed l = each_below (is_set_formed g m) g.sets s (and_parts _ _ formed).0 l

pub line_formed :
    (g : Geometry) (m : Marks) (line : ℕ)
    → is_formed g m ≡ true
    → line < g.sets * g.ways
    → is_line_formed g m line ≡ true
unfolding is_formed
line_formed g m line formed l = each_below (is_line_formed g m) (g.sets * g.ways) line (and_parts _ _ formed).1 l

pub from_each :
    (g : Geometry) (m : Marks)
    → ((s : ℕ) → s < g.sets → is_set_formed g m s ≡ true)
    → ((line : ℕ) → line < g.sets * g.ways → is_line_formed g m line ≡ true)
    → is_formed g m ≡ true
unfolding is_formed
from_each g m sets lines =
    rw (all_below (is_set_formed g m) g.sets sets, all_below (is_line_formed g m) (g.sets * g.ways) lines) refl

pub line_fits :
    (g : Geometry) (m : Marks) (line : ℕ)
    → is_line_formed g m line ≡ true
    → slice_index_or m.valid line false ≡ true
    → slice_index m.tags line * g.sets * g.line_size < 2 ^ 32
unfolding is_line_formed
line_fits g m line formed valid = ltb-true _ _ (rw valid at formed)

pub line_from_fits :
    (g : Geometry) (m : Marks) (line : ℕ)
    → (slice_index_or m.valid line false ≡ true → slice_index m.tags line * g.sets * g.line_size < 2 ^ 32)
    → is_line_formed g m line ≡ true
unfolding is_line_formed
line_from_fits g m line fits =
    ⊎_elim
    (λ on. let below : nat_lt (slice_index m.tags line * g.sets * g.line_size) (2 ^ 32) ≡ true = lt-ltb _ _ (fits on) in rw (on, below) refl)
    (λ off. rw off refl)
    (cases_Bool (slice_index_or m.valid line false))

-- ---- the answer to an access

abbrev base_of_set : Geometry → Access → ℕ
base_of_set g a = set_of g a.addr * g.ways

abbrev answer : Geometry → Access → ℕ → Marks → Stepped
answer g a ram_len m =
    accessed g a ram_len (set_at m (set_of g a.addr) (base_of_set g a) g.ways)
    (marks (part m.tags (base_of_set g a) g.ways) (part m.valid (base_of_set g a) g.ways) (part m.dirty (base_of_set g a) g.ways)
    (part m.freq (base_of_set g a) g.ways) (part m.reference (base_of_set g a) g.ways))

abbrev after : Geometry → Access → ℕ → Marks → Marks
after g a ram_len m = (stepped_marks g a ram_len m).marks

abbrev served_line : Geometry → Access → ℕ → Marks → ℕ
served_line g a ram_len m = (stepped_marks g a ram_len m).served.line

set_among : (g : Geometry) (a : Access) → Fits g → set_of g a.addr < g.sets
set_among g a fits = mod-lt _ {m = g.sets} fits.some_sets

-- what is known of the answer
record Known (g : Geometry) (a : Access) (ram_len : ℕ) (m : Marks) : Type 0 where
  pub set : set_of g a.addr < g.sets
  pub room : base_of_set g a + g.ways ≤ g.sets * g.ways
  pub sized : Sized (marks (part m.tags (base_of_set g a) g.ways) (part m.valid (base_of_set g a) g.ways) (part m.dirty (base_of_set g a) g.ways)
      (part m.freq (base_of_set g a) g.ways) (part m.reference (base_of_set g a) g.ways)) g.ways
  pub was : is_well_formed (set_at m (set_of g a.addr) (base_of_set g a) g.ways) g.ways ≡ true
  pub way : (answer g a ram_len m).step.way < g.ways
  pub formed : is_well_formed (answer g a ram_len m).step.set g.ways ≡ true
  pub bits : length (answer g a ram_len m).bits ≡ g.ways
  pub lru : length (answer g a ram_len m).step.set.lru_order ≡ 16
  pub fifo : length (answer g a ram_len m).step.set.fifo_order ≡ 16

order_long : (flat : List ℕ) (base ways : ℕ) → base + ways ≤ length flat → ways ≤ 16 → length (order_at flat base ways) ≡ 16
order_long flat base ways fits few =
    omega (arith, length-append (part flat base ways) (replicate (16 - ways) 0), length_part flat base ways fits, length-replicate {A = ℕ} (16 - ways) 0)

sized_at : (m : Marks) (base ways : ℕ) → Whole m → base + ways ≤ 256
    → Sized (marks (part m.tags base ways) (part m.valid base ways) (part m.dirty base ways) (part m.freq base ways) (part m.reference base ways)) ways
sized_at m base ways whole inside =
    record {
      tags = length_part m.tags base ways (omega (arith, whole.tags));
      valid = length_part m.valid base ways (omega (arith, whole.valid));
      dirty = length_part m.dirty base ways (omega (arith, whole.dirty));
      freq = length_part m.freq base ways (omega (arith, whole.freq));
      bits = length_part m.reference base ways (omega (arith, whole.reference));
    }

long_at : (m : Marks) (s base ways : ℕ) → Whole m → base + ways ≤ 256 → ways ≤ 16 → Long (set_at m s base ways)
unfolding set_at
long_at m s base ways whole inside few =
    (order_long m.lru_order base ways (omega (arith, whole.lru_order)) few, order_long m.fifo_order base ways (omega (arith, whole.fifo_order)) few)

formed_at : (g : Geometry) (m : Marks) (s : ℕ) → is_set_formed g m s ≡ true → is_well_formed (set_at m s (s * g.ways) g.ways) g.ways ≡ true
unfolding is_set_formed
formed_at g m s formed = formed

known : (g : Geometry) (a : Access) (ram_len : ℕ) (m : Marks) → Level g m → Known g a ram_len m
known g a ram_len m level =
    let among : set_of g a.addr < g.sets = set_among g a level.fits in
    let ends : base_of_set g a + g.ways ≤ g.sets * g.ways = set_ends (set_of g a.addr) g.sets g.ways among in
    let inside : base_of_set g a + g.ways ≤ 256 = omega (arith, level.lines) in
    let sized : Sized (marks (part m.tags (base_of_set g a) g.ways) (part m.valid (base_of_set g a) g.ways) (part m.dirty (base_of_set g a) g.ways)
    (part m.freq (base_of_set g a) g.ways) (part m.reference (base_of_set g a) g.ways)) g.ways = sized_at m (base_of_set g a) g.ways level.whole inside in
    let was : is_well_formed (set_at m (set_of g a.addr) (base_of_set g a) g.ways) g.ways ≡ true =
    formed_at g m (set_of g a.addr) (set_formed g m (set_of g a.addr) level.formed among) in
    let long : Long (answer g a ram_len m).step.set = orders_long g a ram_len _ _ (long_at m (set_of g a.addr) (base_of_set g a) g.ways level.whole inside level.fits.few_ways) in
    record {
      set = among;
      room = ends;
      sized = sized;
      was = was;
      way = way_among g a ram_len _ _ level.fits.some_ways sized was;
      formed = set_kept g a ram_len _ _ level.fits.some_ways sized was;
      bits = bits_length g a ram_len _ _ ∙ sized.bits;
      lru = long.0;
      fifo = long.1;
    }

-- ---- the other lines

-- a line's tag, valid, dirty and frequency are as they were
pub record SameLine (m after : Marks) (line : ℕ) : Type 0 where
  pub tag : slice_index after.tags line ≡ slice_index m.tags line
  pub valid : slice_index_or after.valid line false ≡ slice_index_or m.valid line false
  pub dirty : slice_index_or after.dirty line false ≡ slice_index_or m.dirty line false
  pub freq : slice_index after.freq line ≡ slice_index m.freq line

-- every line but the one that is served
pub other_lines :
    (g : Geometry) (a : Access) (ram_len : ℕ) (m : Marks) (line : ℕ)
    → line ≢ (stepped_marks g a ram_len m).served.line
    → SameLine m (stepped_marks g a ram_len m).marks line
unfolding stepped_marks committed
other_lines g a ram_len m line other =
    record {
      tag = get_or-set_other m.tags _ line _ 0 other;
      valid = get_or-set_other m.valid _ line _ false other;
      dirty = get_or-set_other m.dirty _ line _ false other;
      freq = get_or-set_other m.freq _ line _ 0 other;
    }

-- the reference bit of every line outside the set
pub other_bits :
    (g : Geometry) (a : Access) (ram_len : ℕ) (m : Marks) (line : ℕ)
    → Level g m
    → (line < set_of g a.addr * g.ways) ⊎ (set_of g a.addr * g.ways + g.ways ≤ line)
    → slice_index_or (stepped_marks g a ram_len m).marks.reference line false ≡ slice_index_or m.reference line false
unfolding stepped_marks committed
other_bits g a ram_len m line level outside =
    let k = known g a ram_len m level in
    let bits : base_of_set g a ≤ length m.reference = omega (arith, level.whole.reference, level.lines, k.room) in
    ⊎_elim
    (λ before.
    get_or-set_other _ _ line _ false (λ e. absurd (omega (arith, e, before)))
    ∙ entry_before m.reference (base_of_set g a) (answer g a ram_len m).bits g.ways line false bits before)
    (λ past.
    get_or-set_other _ _ line _ false (λ e. absurd (omega (arith, e, past, k.way)))
    ∙ entry_past m.reference (base_of_set g a) (answer g a ram_len m).bits g.ways line false bits (omega (arith, k.bits)) past)
    outside

-- ---- past the last line and set

-- all that stands there is as it was
pub record SamePast (g : Geometry) (m after : Marks) : Type 0 where
  pub tags : drop (g.sets * g.ways) after.tags ≡ drop (g.sets * g.ways) m.tags
  pub valid : drop (g.sets * g.ways) after.valid ≡ drop (g.sets * g.ways) m.valid
  pub dirty : drop (g.sets * g.ways) after.dirty ≡ drop (g.sets * g.ways) m.dirty
  pub reference : drop (g.sets * g.ways) after.reference ≡ drop (g.sets * g.ways) m.reference
  pub freq : drop (g.sets * g.ways) after.freq ≡ drop (g.sets * g.ways) m.freq
  pub lru_order : drop (g.sets * g.ways) after.lru_order ≡ drop (g.sets * g.ways) m.lru_order
  pub fifo_order : drop (g.sets * g.ways) after.fifo_order ≡ drop (g.sets * g.ways) m.fifo_order
  pub clock_hand : drop g.sets after.clock_hand ≡ drop g.sets m.clock_hand
  pub rand_state : drop g.sets after.rand_state ≡ drop g.sets m.rand_state

pub past_the_last :
    (g : Geometry) (a : Access) (ram_len : ℕ) (m : Marks)
    → Level g m
    → SamePast g m (stepped_marks g a ram_len m).marks
unfolding stepped_marks committed
past_the_last g a ram_len m level =
    let k = known g a ram_len m level in
    let line : base_of_set g a + (answer g a ram_len m).step.way < g.sets * g.ways = omega (arith, k.way, k.room) in
    record {
      tags = drop-set-lt _ m.tags _ _ line;
      valid = drop-set-lt _ m.valid _ _ line;
      dirty = drop-set-lt _ m.dirty _ _ line;
      reference =
          drop-set-lt _ _ _ _ line
          ∙ drop_pasted m.reference _ (answer g a ram_len m).bits g.ways _ (omega (arith, level.whole.reference, level.lines, k.room)) (omega (arith, k.bits)) k.room;
      freq = drop-set-lt _ m.freq _ _ line;
      lru_order =
          drop_pasted m.lru_order _ (answer g a ram_len m).step.set.lru_order g.ways _ (omega (arith, level.whole.lru_order, level.lines, k.room))
          (omega (arith, k.lru, level.fits.few_ways)) k.room;
      fifo_order =
          drop_pasted m.fifo_order _ (answer g a ram_len m).step.set.fifo_order g.ways _ (omega (arith, level.whole.fifo_order, level.lines, k.room))
          (omega (arith, k.fifo, level.fits.few_ways)) k.room;
      clock_hand = drop-set-lt _ m.clock_hand _ _ k.set;
      rand_state = drop-set-lt _ m.rand_state _ _ k.set;
    }

-- ---- the lists' lengths

pub whole_kept : (g : Geometry) (a : Access) (ram_len : ℕ) (m : Marks) → Level g m → Whole (stepped_marks g a ram_len m).marks
unfolding stepped_marks committed
whole_kept g a ram_len m level =
    let k = known g a ram_len m level in
    let w = level.whole in
    let bits = length-paste m.reference (base_of_set g a) (answer g a ram_len m).bits g.ways (omega (arith, w.reference, level.lines, k.room)) (omega (arith, k.bits)) in
    record {
      tags = length-set m.tags _ _ ∙ w.tags;
      valid = length-set m.valid _ _ ∙ w.valid;
      dirty = length-set m.dirty _ _ ∙ w.dirty;
      reference = length-set _ _ _ ∙ bits ∙ w.reference;
      freq = length-set m.freq _ _ ∙ w.freq;
      lru_order =
          length-paste m.lru_order _ (answer g a ram_len m).step.set.lru_order g.ways (omega (arith, w.lru_order, level.lines, k.room))
          (omega (arith, k.lru, level.fits.few_ways))
          ∙ w.lru_order;
      fifo_order =
          length-paste m.fifo_order _ (answer g a ram_len m).step.set.fifo_order g.ways (omega (arith, w.fifo_order, level.lines, k.room))
          (omega (arith, k.fifo, level.fits.few_ways))
          ∙ w.fifo_order;
      clock_hand = length-set m.clock_hand _ _ ∙ w.clock_hand;
      rand_state = length-set m.rand_state _ _ ∙ w.rand_state;
    }

-- ---- the other sets

pub other_part :
    (flat order : List ℕ) (at base ways : ℕ)
    → at ≤ length flat
    → ways ≤ length order
    → (base + ways ≤ at) ⊎ (at + ways ≤ base)
    → part (paste flat at order ways) base ways ≡ part flat base ways
other_part flat order at base ways there enough apart =
    ⊎_elim
    (λ before. part_before flat at order ways base there before)
    (λ past. part_past flat at order ways base there enough past)
    apart

-- a set that is not the access's is as it was
pub other_sets :
    (g : Geometry) (a : Access) (ram_len : ℕ) (m : Marks) (s : ℕ)
    → Level g m
    → s ≢ set_of g a.addr
    → set_at (stepped_marks g a ram_len m).marks s (s * g.ways) g.ways ≡ set_at m s (s * g.ways) g.ways
unfolding stepped_marks committed set_at
other_sets g a ram_len m s level other =
    let k = known g a ram_len m level in
    let apart = sets_apart s (set_of g a.addr) g.ways other in
    let lru : part (paste m.lru_order (base_of_set g a) (answer g a ram_len m).step.set.lru_order g.ways) (s * g.ways) g.ways ≡ part m.lru_order (s * g.ways) g.ways =
    other_part m.lru_order (answer g a ram_len m).step.set.lru_order (base_of_set g a) (s * g.ways) g.ways (omega (arith, level.whole.lru_order, level.lines, k.room)) (omega (arith, k.lru, level.fits.few_ways)) apart
    in
    let fifo : part (paste m.fifo_order (base_of_set g a) (answer g a ram_len m).step.set.fifo_order g.ways) (s * g.ways) g.ways ≡ part m.fifo_order (s * g.ways) g.ways =
    other_part m.fifo_order (answer g a ram_len m).step.set.fifo_order (base_of_set g a) (s * g.ways) g.ways (omega (arith, level.whole.fifo_order, level.lines, k.room)) (omega (arith, k.fifo, level.fits.few_ways)) apart
    in
    let hand : slice_index (set m.clock_hand (set_of g a.addr) (answer g a ram_len m).step.set.clock_hand) s ≡ slice_index m.clock_hand s = get_or-set_other m.clock_hand _ s _ 0 other in
    let state : slice_index (set m.rand_state (set_of g a.addr) (answer g a ram_len m).step.set.rand_state) s ≡ slice_index m.rand_state s = get_or-set_other m.rand_state _ s _ 0 other in
    λ i. record {
      lru_order = lru i ++ replicate (16 - g.ways) 0;
      fifo_order = fifo i ++ replicate (16 - g.ways) 0;
      rand_state = state i;
      clock_hand = hand i;
    }

pub other_sets_formed :
    (g : Geometry) (a : Access) (ram_len : ℕ) (m : Marks) (s : ℕ)
    → Level g m
    → s ≢ set_of g a.addr
    → is_set_formed g (stepped_marks g a ram_len m).marks s ≡ is_set_formed g m s
unfolding is_set_formed
other_sets_formed g a ram_len m s level other = ap (λ (held : CacheSet). is_well_formed held g.ways) (other_sets g a ram_len m s level other)

-- ---- the access's own set

-- the first entries alone make an order
same_order : (ways : ℕ) (xs ys : List ℕ) → take ways xs ≡ take ways ys → is_order ways xs ≡ is_order ways ys
unfolding is_order
same_order ways xs ys e = rw e refl

pub own_order :
    (flat order : List ℕ) (base ways : ℕ)
    → base ≤ length flat
    → ways ≤ length order
    → is_order ways (order_at (paste flat base order ways) base ways) ≡ is_order ways order
own_order flat order base ways there enough =
    same_order ways _ _
    (ap (λ (xs : List ℕ). take ways (xs ++ replicate (16 - ways) 0)) (part_pasted flat base order ways there enough)
    ∙ take_at (take ways order) (replicate (16 - ways) 0) ways (length-take-le ways order enough))

pub well_formed :
    (held : CacheSet) (ways : ℕ)
    → is_order ways held.lru_order ≡ true
    → is_order ways held.fifo_order ≡ true
    → held.clock_hand < ways
    → is_well_formed held ways ≡ true
unfolding is_well_formed
well_formed held ways lru fifo hand = rw (lru, fifo) (lt-ltb held.clock_hand ways hand)

own_set_formed :
    (g : Geometry) (a : Access) (ram_len : ℕ) (m : Marks)
    → Level g m
    → is_set_formed g (stepped_marks g a ram_len m).marks (set_of g a.addr) ≡ true
unfolding stepped_marks committed set_at is_set_formed
own_set_formed g a ram_len m level =
    let k = known g a ram_len m level in
    let p = parts (answer g a ram_len m).step.set g.ways k.formed in
    let hand : slice_index (set m.clock_hand (set_of g a.addr) (answer g a ram_len m).step.set.clock_hand) (set_of g a.addr) ≡ (answer g a ram_len m).step.set.clock_hand =
    get_or-set_same m.clock_hand (set_of g a.addr) _ 0 (omega (arith, k.set, level.fits.few_sets, level.whole.clock_hand)) in
    well_formed _ g.ways
    (own_order m.lru_order (answer g a ram_len m).step.set.lru_order (base_of_set g a) g.ways (omega (arith, level.whole.lru_order, level.lines, k.room)) (omega (arith, k.lru, level.fits.few_ways)) ∙ p.lru)
    (own_order m.fifo_order (answer g a ram_len m).step.set.fifo_order (base_of_set g a) g.ways (omega (arith, level.whole.fifo_order, level.lines, k.room)) (omega (arith, k.fifo, level.fits.few_ways)) ∙ p.fifo)
    (rw hand p.hand)

-- ---- the lines

pub same_line :
    (g : Geometry) (m after : Marks) (line : ℕ)
    → SameLine m after line
    → is_line_formed g m line ≡ true
    → is_line_formed g after line ≡ true
unfolding is_line_formed
same_line g m after line same formed = rw (same.valid, same.tag) formed

-- what the part's entries have, by what the level's lines have
fits_in_part :
    (g : Geometry) (m : Marks) (base : ℕ)
    → base + g.ways ≤ g.sets * g.ways
    → is_formed g m ≡ true
    → (way : ℕ)
    → way < g.ways
    → slice_index_or (part m.valid base g.ways) way false ≡ true
    → slice_index (part m.tags base g.ways) way * g.sets * g.line_size < 2 ^ 32
fits_in_part g m base room formed way l valid =
    let here : slice_index_or m.valid (base + way) false ≡ true = sym (part_entry m.valid base g.ways way false l) ∙ valid in
    let tag : slice_index (part m.tags base g.ways) way ≡ slice_index m.tags (base + way) = part_entry m.tags base g.ways way 0 l in
    let fits = line_fits g m (base + way) (line_formed g m (base + way) formed (omega (arith, l, room))) here in
    rw tag fits

served_fits :
    (g : Geometry) (a : Access) (ram_len : ℕ) (m : Marks)
    → Level g m
    → a.addr < 2 ^ 32
    → (answer g a ram_len m).step.mark.valid ≡ true
    → (answer g a ram_len m).step.mark.tag * g.sets * g.line_size < 2 ^ 32
served_fits g a ram_len m level addr =
    let k = known g a ram_len m level in
    tag_fits g a ram_len _ _ level.fits.some_ways k.sized k.was addr (fits_in_part g m (base_of_set g a) k.room level.formed)

served_formed :
    (g : Geometry) (a : Access) (ram_len : ℕ) (m : Marks)
    → Level g m
    → a.addr < 2 ^ 32
    → is_line_formed g (stepped_marks g a ram_len m).marks (stepped_marks g a ram_len m).served.line ≡ true
unfolding stepped_marks committed
served_formed g a ram_len m level addr =
    let k = known g a ram_len m level in
    let step = (answer g a ram_len m).step in
    let valid : slice_index_or (set m.valid (base_of_set g a + step.way) step.mark.valid) (base_of_set g a + step.way) false ≡ step.mark.valid =
    get_or-set_same m.valid _ _ false (omega (arith, k.way, k.room, level.lines, level.whole.valid)) in
    let tag : slice_index (set m.tags (base_of_set g a + step.way) step.mark.tag) (base_of_set g a + step.way) ≡ step.mark.tag =
    get_or-set_same m.tags _ _ 0 (omega (arith, k.way, k.room, level.lines, level.whole.tags)) in
    line_from_fits g _ (base_of_set g a + step.way) (λ on. rw tag (served_fits g a ram_len m level addr (sym valid ∙ on)))

-- ---- the level

-- a well-formed level stays one
pub formed_kept :
    (g : Geometry) (a : Access) (ram_len : ℕ) (m : Marks)
    → Level g m
    → a.addr < 2 ^ 32
    → is_formed g (stepped_marks g a ram_len m).marks ≡ true
formed_kept g a ram_len m level addr =
    from_each g (after g a ram_len m)
    (λ s l.
    ⊎_elim
    (λ own. ap (is_set_formed g (after g a ram_len m)) own ∙ own_set_formed g a ram_len m level)
    (λ other. other_sets_formed g a ram_len m s level other ∙ set_formed g m s level.formed l)
    (cases_eq s (set_of g a.addr)))
    (λ line l.
    ⊎_elim
    (λ own. ap (is_line_formed g (after g a ram_len m)) own ∙ served_formed g a ram_len m level addr)
    (λ other. same_line g m (after g a ram_len m) line (other_lines g a ram_len m line other) (line_formed g m line level.formed l))
    (cases_eq line (served_line g a ram_len m)))

-- so access after access may be served
pub level_kept :
    (g : Geometry) (a : Access) (ram_len : ℕ) (m : Marks)
    → Level g m
    → a.addr < 2 ^ 32
    → Level g (stepped_marks g a ram_len m).marks
level_kept g a ram_len m level addr =
    record {
      fits = level.fits;
      lines = level.lines;
      whole = whole_kept g a ram_len m level;
      formed = formed_kept g a ram_len m level addr;
    }
