-- What an access keeps: a well-formed set, a way among its ways, its number of reference bits, and tags of addresses.
use Rattle.std.proofs.Common.{◌≡◌, ◌∙◌, ℕ, zero, suc, ◌+◌, ◌*◌, ◌/◌, ◌^◌, ◌<◌, ◌≤◌, Bool, true, false, ◌&&◌, ◌==◌, List, Option, None, Some, length, set, slice_index, slice_index_or, refl, arith}
use Rattle.std.specs.List.{zip}
use Rattle.std.proofs.Math.Nat.{div-mul-le_self, mul-le-mul_right}
use Rattle.std.proofs.lemmas.Bool.{cond_both}
use Rattle.std.proofs.lemmas.List.{length-set}
use Rattle.std.proofs.lemmas.List.Quantifiers.{position-Some}
use Rattle.std.proofs.lemmas.Slice.Zip.{length-zip}
use Rattle.config.specs.declared.policy.ReplacementPolicy.{ReplacementPolicy}
use Rattle.config.specs.declared.policy.ReplacementPolicy.TheVariants.{Lru, Mru, Fifo, Random, Lfu, Clock}
use Rattle.sets.specs.declared.set.CacheSet.{CacheSet}
use Rattle.sets.specs.Ways.{lookup_of, free_of}
use Rattle.sets.specs.Policy.{is_well_formed}
use Rattle.sets.specs.Victim.{Choice, Sweep, sweep, chosen, free_or, victim_of}
use Rattle.sets.proofs.SetKept.{touched_keeps, installed_keeps, victim_keeps, victim_below}
use Rattle.control.specs.declared.allocate.Evicted.{Evicted}
use Rattle.control.specs.declared.geometry.Geometry.{Geometry}
use Rattle.control.specs.declared.mark.Mark.{Mark}
use Rattle.control.specs.declared.plan.Access.{Access}
use Rattle.control.specs.Geometry.{tag_of}
use Rattle.control.specs.Access.{Marks, refused_store, hit_step, past_step, filled_mark, filled_or, alloc_step, accessed}
use Rattle.control.proofs.AccessCases.{by_cases}

-- each list of the marks has an entry for each way
pub record Sized (m : Marks) (ways : ℕ) : Type 0 where
  pub tags : length m.tags ≡ ways
  pub valid : length m.valid ≡ ways
  pub dirty : length m.dirty ≡ ways
  pub freq : length m.freq ≡ ways
  pub bits : length m.bits ≡ ways

-- ---- the way and the set

-- a way of the set, and a well-formed set
abbrev KeptSet : ℕ → ℕ → CacheSet → Type 0
KeptSet ways way set = (way < ways) × (is_well_formed set ways ≡ true)

pub found_below : (tags : List ℕ) (valid : List Bool) (tag way : ℕ) → lookup_of tags valid tag ≡ Some way → way < length valid
unfolding lookup_of
found_below tags valid tag way found =
    let here = position-Some (λ (line : Bool × ℕ). line.0 && line.1 == tag) (zip valid tags) way (false, 0) found in
    omega (arith, here.0, length-zip valid tags)

victim_kept :
    (ways : ℕ) (set : CacheSet) (policy : ReplacementPolicy) (m : Marks)
    → 0 < ways
    → Sized m ways
    → is_well_formed set ways ≡ true
    → let c = victim_of set policy m.valid m.freq m.bits in KeptSet ways c.victim.way c.victim.set
victim_kept ways set policy m pos sized formed =
    let some : 0 < length m.freq = omega arith in
    let lines : length m.valid ≡ length m.freq = omega arith in
    let bits : length m.bits ≡ length m.freq = omega arith in
    let at_freq : is_well_formed set (length m.freq) ≡ true = rw sized.freq formed in
    rw (← sized.freq)
    (victim_below set policy m.valid m.freq m.bits some lines bits at_freq, victim_keeps set policy m.valid m.freq m.bits some lines bits at_freq)

filled_kept :
    (o : Option ℕ) (g : Geometry) (a : Access) (way : ℕ) (mark : Mark) (set : CacheSet) (e : Evicted)
    → KeptSet g.ways way set
    → let step = filled_or o g a way mark set e in KeptSet g.ways step.way step.set
filled_kept (Some place) g a way mark set e kept = kept
filled_kept None g a way mark set e kept = (kept.0, installed_keeps set way g.ways g.replacement kept.0 kept.1)

kept :
    (g : Geometry) (a : Access) (ram_len : ℕ) (set : CacheSet) (m : Marks)
    → 0 < g.ways
    → Sized m g.ways
    → is_well_formed set g.ways ≡ true
    → let step = (accessed g a ram_len set m).step in KeptSet g.ways step.way step.set
unfolding refused_store hit_step past_step alloc_step
kept g a ram_len set m pos sized formed =
    by_cases (λ r. KeptSet g.ways r.step.way r.step.set) g a ram_len set m
    (λ place. (pos, formed))
    (λ way _ found.
    let l : way < g.ways = omega (arith, found_below m.tags m.valid (tag_of g a.addr) way found) in
    (l, touched_keeps set way g.ways g.replacement l formed))
    (pos, formed)
    (λ _. filled_kept _ g a _ _ _ _ (victim_kept g.ways set g.replacement m pos sized formed))

-- the set stays well-formed
pub set_kept :
    (g : Geometry) (a : Access) (ram_len : ℕ) (set : CacheSet) (m : Marks)
    → 0 < g.ways
    → Sized m g.ways
    → is_well_formed set g.ways ≡ true
    → is_well_formed (accessed g a ram_len set m).step.set g.ways ≡ true
set_kept g a ram_len set m pos sized formed = (kept g a ram_len set m pos sized formed).1

-- the step's way is one of the set's
pub way_among :
    (g : Geometry) (a : Access) (ram_len : ℕ) (set : CacheSet) (m : Marks)
    → 0 < g.ways
    → Sized m g.ways
    → is_well_formed set g.ways ≡ true
    → (accessed g a ram_len set m).step.way < g.ways
way_among g a ram_len set m pos sized formed = (kept g a ram_len set m pos sized formed).0

-- ---- the reference bits

sweep_length : (looks hand : ℕ) (bits : List Bool) → length (sweep looks hand bits).bits ≡ length bits
unfolding sweep
sweep_length zero hand bits = refl
sweep_length (suc looks) hand bits =
    cond_both (slice_index_or bits hand false) _ _
    (λ (s : Sweep). length s.bits ≡ length bits)
    (λ _. sweep_length looks _ (set bits hand false) ∙ length-set bits hand false)
    (λ _. refl)

chosen_length :
    (set : CacheSet) (policy : ReplacementPolicy) (freq : List ℕ) (bits : List Bool)
    → length (chosen set policy freq bits).bits ≡ length bits
unfolding chosen
chosen_length set Lru freq bits = refl
chosen_length set Mru freq bits = refl
chosen_length set Fifo freq bits = refl
chosen_length set Random freq bits = refl
chosen_length set Lfu freq bits = refl
chosen_length set Clock freq bits = sweep_length (length bits + 1) set.clock_hand bits

free_length :
    (o : Option ℕ) (set : CacheSet) (bits : List Bool) (choice : Choice)
    → length choice.bits ≡ length bits
    → length (free_or o set bits choice).bits ≡ length bits
free_length None set bits choice e = e
free_length (Some way) set bits choice e = refl

-- the set has as many reference bits as before
pub bits_length :
    (g : Geometry) (a : Access) (ram_len : ℕ) (set : CacheSet) (m : Marks)
    → length (accessed g a ram_len set m).bits ≡ length m.bits
unfolding victim_of
bits_length g a ram_len set m =
    by_cases (λ r. length r.bits ≡ length m.bits) g a ram_len set m
    (λ place. refl)
    (λ way _ found. refl)
    refl
    (λ _. free_length (free_of m.valid) set m.bits _ (chosen_length set g.replacement m.freq m.bits))

-- ---- the tag

-- a valid line has the tag of a 32-bit address
abbrev TagFits : Geometry → Mark → Type 0
TagFits g mark = mark.valid ≡ true → mark.tag * g.sets * g.line_size < 2 ^ 32

tag_below : (addr line sets : ℕ) → addr / line / sets * sets * line ≤ addr
tag_below addr line sets =
    omega (arith, mul-le-mul_right line (div-mul-le_self (addr / line) sets), div-mul-le_self addr line)

filled_fits :
    (o : Option ℕ) (g : Geometry) (a : Access) (way : ℕ) (mark : Mark) (set : CacheSet) (e : Evicted)
    → a.addr < 2 ^ 32
    → TagFits g mark
    → TagFits g (filled_or o g a way mark set e).mark
unfolding filled_mark
filled_fits (Some place) g a way mark set e addr fits = fits
filled_fits None g a way mark set e addr fits = λ _. omega (arith, tag_below a.addr g.line_size g.sets)

-- where each valid line of the set has the tag of a 32-bit address, the step's line does
pub tag_fits :
    (g : Geometry) (a : Access) (ram_len : ℕ) (set : CacheSet) (m : Marks)
    → 0 < g.ways
    → Sized m g.ways
    → is_well_formed set g.ways ≡ true
    → a.addr < 2 ^ 32
    → ((way : ℕ)
    → way < g.ways
    → slice_index_or m.valid way false ≡ true
    → slice_index m.tags way * g.sets * g.line_size < 2 ^ 32)
    → (accessed g a ram_len set m).step.mark.valid ≡ true
    → (accessed g a ram_len set m).step.mark.tag * g.sets * g.line_size < 2 ^ 32
unfolding refused_store hit_step past_step alloc_step
tag_fits g a ram_len set m pos sized formed addr fits =
    by_cases (λ r. TagFits g r.step.mark) g a ram_len set m
    (λ place. fits 0 pos)
    (λ way _ found. fits way (omega (arith, found_below m.tags m.valid (tag_of g a.addr) way found)))
    (fits 0 pos)
    (λ _. filled_fits _ g a _ _ _ _ addr (fits _ (victim_kept g.ways set g.replacement m pos sized formed).0))
