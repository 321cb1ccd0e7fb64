-- Each rule keeps a set well-formed, and the victim is one of its ways.
use Rattle.std.proofs.Common.{◌≡◌, ◌∙◌, ℕ, zero, suc, ◌+◌, ◌-◌, ◌%◌, ◌<◌, Bool, true, false, not, ◌&&◌, List, [], ◌∷◌, Option, None, Some, length, take, reverse, set, find, unwrap_or, slice_index, slice_index_or, nat_lt, mod-lt, refl, arith, get_or-take, All, ⊎_elim}
use Rattle.std.specs.List.{list_all}
use Rattle.std.proofs.lemmas.Bool.{and_parts, lt-ltb, ltb-true, cond_both, cases_lt}
use Rattle.std.proofs.lemmas.List.{length-take, length-set, length-reverse, get_or-reverse, get_or_past}
use Rattle.std.proofs.lemmas.List.Sums.{AllPass-from_list_all}
use Rattle.std.proofs.lemmas.List.Quantifiers.{position-Some}
use Rattle.config.specs.declared.policy.ReplacementPolicy.{ReplacementPolicy}
use Rattle.config.specs.declared.policy.ReplacementPolicy.TheVariants.{Lru, Mru, Fifo, Random, Lfu, Clock}
use Rattle.sets.specs.declared.set.CacheSet.{CacheSet}
use Rattle.sets.specs.Ways.{free_of}
use Rattle.sets.specs.Order.{to_front, is_order}
use Rattle.sets.specs.Policy.{is_well_formed, used_first, touched, installed}
use Rattle.sets.specs.Victim.{Choice, Sweep, sweep, has_freq, least, lfu_of, random_step, chosen, free_or, victim_of}
use Rattle.sets.proofs.OrderKept.{to_front_keeps}

-- what `is_well_formed` tests, part by part
pub record Parts (set : CacheSet) (ways : ℕ) : Type 0 where
  pub lru : is_order ways set.lru_order ≡ true
  pub fifo : is_order ways set.fifo_order ≡ true
  pub hand : set.clock_hand < ways

pub parts : (set : CacheSet) (ways : ℕ) → is_well_formed set ways ≡ true → Parts set ways
unfolding is_well_formed
parts set ways formed =
    let orders = and_parts (is_order ways set.lru_order && is_order ways set.fifo_order) (nat_lt set.clock_hand ways) formed in
    let each = and_parts (is_order ways set.lru_order) (is_order ways set.fifo_order) orders.0 in
    record { lru = each.0; fifo = each.1; hand = ltb-true _ _ orders.1 }

whole : (set : CacheSet) (ways : ℕ) → Parts set ways → is_well_formed set ways ≡ true
unfolding is_well_formed
whole set ways p = rw (p.lru, p.fifo) (lt-ltb set.clock_hand ways p.hand)

-- ---- a hit and an install

used_first_keeps :
    (set : CacheSet) (way ways : ℕ)
    → way < ways
    → is_well_formed set ways ≡ true
    → is_well_formed (used_first set way) ways ≡ true
used_first_keeps set way ways l formed =
    let p = parts set ways formed in
    whole (used_first set way) ways (record { lru = to_front_keeps ways way set.lru_order l p.lru; fifo = p.fifo; hand = p.hand })

-- a hit keeps a set well-formed
pub touched_keeps :
    (set : CacheSet) (way ways : ℕ) (policy : ReplacementPolicy)
    → way < ways
    → is_well_formed set ways ≡ true
    → is_well_formed (touched set way policy) ways ≡ true
unfolding touched
touched_keeps set way ways Lru l formed = used_first_keeps set way ways l formed
touched_keeps set way ways Mru l formed = used_first_keeps set way ways l formed
touched_keeps set way ways Fifo l formed = formed
touched_keeps set way ways Random l formed = formed
touched_keeps set way ways Lfu l formed = used_first_keeps set way ways l formed
touched_keeps set way ways Clock l formed = formed

-- an install keeps a set well-formed
pub installed_keeps :
    (set : CacheSet) (way ways : ℕ) (policy : ReplacementPolicy)
    → way < ways
    → is_well_formed set ways ≡ true
    → is_well_formed (installed set way policy) ways ≡ true
unfolding installed
installed_keeps set way ways Lru l formed = used_first_keeps set way ways l formed
installed_keeps set way ways Mru l formed = used_first_keeps set way ways l formed
installed_keeps set way ways Fifo l formed =
    let p = parts set ways formed in
    whole (record set { fifo_order = to_front way set.fifo_order }) ways
    (record { lru = p.lru; fifo = to_front_keeps ways way set.fifo_order l p.fifo; hand = p.hand })
installed_keeps set way ways Random l formed = formed
installed_keeps set way ways Lfu l formed = used_first_keeps set way ways l formed
installed_keeps set way ways Clock l formed = formed

-- ---- the ways that the policies give up

entries_below : (ways : ℕ) (order : List ℕ) → is_order ways order ≡ true → All (λ w. w < ways) (take ways order)
unfolding is_order
entries_below ways order ordered k d l =
    ltb-true _ _
    (AllPass-from_list_all (λ w. nat_lt w ways) (take ways order) (and_parts (list_all (λ w. nat_lt w ways) (take ways order)) _ ordered).0 k d l)

entry_below :
    (ways at : ℕ) (order : List ℕ)
    → at < ways
    → is_order ways order ≡ true
    → slice_index order at < ways
entry_below ways at order l ordered =
    ⊎_elim
    (λ short. rw (← get_or-take ways order at 0 l) (entries_below ways order ordered at 0 (omega (arith, short, length-take ways order))))
    (λ past. rw (get_or_past order at 0 past) (omega arith))
    (cases_lt at (length order))

found_below : (q : ℕ → Bool) (n : ℕ) (xs : List ℕ) → 0 < n → All (λ w. w < n) xs → unwrap_or (find q xs) 0 < n
found_below q n [] pos all = pos
found_below q n (x ∷ xs) pos all =
    cond_both (q x) (Some x) (find q xs)
    (λ o. unwrap_or o 0 < n)
    (λ _. all 0 x (omega arith))
    (λ _. found_below q n xs pos (λ k d l. all (suc k) d (omega arith)))

reversed_all : (n : ℕ) (xs : List ℕ) → All (λ w. w < n) xs → All (λ w. w < n) (reverse xs)
reversed_all n xs all k d l =
    let in_xs : k < length xs = omega (arith, length-reverse xs) in
    rw (get_or-reverse xs k d in_xs) (all (length xs - 1 - k) d (omega arith))

lfu_below : (freq order : List ℕ) → 0 < length freq → is_order (length freq) order ≡ true → lfu_of freq order < length freq
unfolding lfu_of
lfu_below freq order pos ordered =
    found_below (has_freq freq (least freq)) (length freq) (reverse (take (length freq) order)) pos
    (reversed_all (length freq) (take (length freq) order) (entries_below (length freq) order ordered))

-- a sweep ends at a way, and the hand stays at one
abbrev SweptBelow : ℕ → Sweep → Type 0
SweptBelow n s = (s.swept.way < n) × (s.swept.hand < n)

sweep_below : (ways looks hand : ℕ) (bits : List Bool) → length bits ≡ ways → hand < ways → SweptBelow ways (sweep looks hand bits)
unfolding sweep
sweep_below ways zero hand bits e l = (l, l)
sweep_below ways (suc looks) hand bits e l =
    let next : (hand + 1) % length bits < ways = omega (arith, mod-lt (hand + 1) {m = length bits} (omega arith)) in
    cond_both (slice_index_or bits hand false) _ _
    (SweptBelow ways)
    (λ _. sweep_below ways looks ((hand + 1) % length bits) (set bits hand false) (length-set bits hand false ∙ e) next)
    (λ _. (l, next))

-- ---- the victim

abbrev pub Kept : ℕ → Choice → Type 0
Kept ways choice = (choice.victim.way < ways) × Parts choice.victim.set ways

pub chosen_kept :
    (set : CacheSet) (policy : ReplacementPolicy) (freq : List ℕ) (bits : List Bool)
    → 0 < length freq
    → length bits ≡ length freq
    → Parts set (length freq)
    → Kept (length freq) (chosen set policy freq bits)
unfolding chosen
chosen_kept set Lru freq bits pos marks p =
    (entry_below (length freq) (length freq - 1) set.lru_order (omega arith) p.lru, p)
chosen_kept set Mru freq bits pos marks p = (entry_below (length freq) 0 set.lru_order pos p.lru, p)
chosen_kept set Fifo freq bits pos marks p =
    (entry_below (length freq) (length freq - 1) set.fifo_order (omega arith) p.fifo, p)
chosen_kept set Random freq bits pos marks p =
    (mod-lt (random_step set.rand_state) {m = length freq} pos, record { lru = p.lru; fifo = p.fifo; hand = p.hand })
chosen_kept set Lfu freq bits pos marks p = (lfu_below freq set.lru_order pos p.lru, p)
chosen_kept set Clock freq bits pos marks p =
    let below = sweep_below (length freq) (length bits + 1) set.clock_hand bits marks p.hand in
    (below.0, record { lru = p.lru; fifo = p.fifo; hand = below.1 })

victim_kept :
    (set : CacheSet) (policy : ReplacementPolicy) (valid : List Bool) (freq : List ℕ) (bits : List Bool)
    → 0 < length freq
    → length valid ≡ length freq
    → length bits ≡ length freq
    → is_well_formed set (length freq) ≡ true
    → Kept (length freq) (victim_of set policy valid freq bits)
unfolding victim_of free_of
victim_kept set policy valid freq bits pos lines marks formed = by (free_of valid) refl
  where
    p : Parts set (length freq)
    p = parts set (length freq) formed

    by : (free : Option ℕ) → free_of valid ≡ free → Kept (length freq) (free_or free set bits (chosen set policy freq bits))
    by None none = chosen_kept set policy freq bits pos marks p
    by (Some way) found = (rw (← lines) (position-Some not valid way false found).0, p)

-- the victim is one of the ways
pub victim_below :
    (set : CacheSet) (policy : ReplacementPolicy) (valid : List Bool) (freq : List ℕ) (bits : List Bool)
    → 0 < length freq
    → length valid ≡ length freq
    → length bits ≡ length freq
    → is_well_formed set (length freq) ≡ true
    → (victim_of set policy valid freq bits).victim.way < length freq
victim_below set policy valid freq bits pos lines marks formed =
    (victim_kept set policy valid freq bits pos lines marks formed).0

-- the choice keeps a set well-formed
pub victim_keeps :
    (set : CacheSet) (policy : ReplacementPolicy) (valid : List Bool) (freq : List ℕ) (bits : List Bool)
    → 0 < length freq
    → length valid ≡ length freq
    → length bits ≡ length freq
    → is_well_formed set (length freq) ≡ true
    → is_well_formed (victim_of set policy valid freq bits).victim.set (length freq) ≡ true
victim_keeps set policy valid freq bits pos lines marks formed =
    whole _ _ (victim_kept set policy valid freq bits pos lines marks formed).1
