-- An access keeps a set's orders at 16 entries.
use Rattle.std.proofs.Common.{◌≡◌, ◌∙◌, ℕ, Bool, List, Option, None, Some, length}
use Rattle.config.specs.declared.policy.ReplacementPolicy.{ReplacementPolicy}
use Rattle.config.specs.declared.policy.ReplacementPolicy.TheVariants.{Lru, Mru, Fifo, Random, Lfu, Clock}
use Rattle.sets.specs.declared.set.CacheSet.{CacheSet}
use Rattle.sets.specs.Ways.{free_of}
use Rattle.sets.specs.Policy.{used_first, touched, installed}
use Rattle.sets.specs.Victim.{Choice, chosen, free_or, victim_of}
use Rattle.sets.proofs.OrderKept.{to_front_length}
use Rattle.control.specs.declared.allocate.Evicted.{Evicted}
use Rattle.control.specs.declared.geometry.Geometry.{Geometry}
use Rattle.control.specs.declared.mark.Mark.{Mark}
use Rattle.control.specs.declared.plan.Access.{Access}
use Rattle.control.specs.Access.{Marks, refused_store, hit_step, past_step, filled_or, alloc_step, accessed}
use Rattle.control.proofs.AccessCases.{by_cases}

abbrev pub Long : CacheSet → Type 0
Long set = (length set.lru_order ≡ 16) × (length set.fifo_order ≡ 16)

used_first_long : (set : CacheSet) (way : ℕ) → Long set → Long (used_first set way)
used_first_long set way long = (to_front_length way set.lru_order ∙ long.0, long.1)

touched_long : (set : CacheSet) (way : ℕ) (policy : ReplacementPolicy) → Long set → Long (touched set way policy)
unfolding touched
touched_long set way Lru long = used_first_long set way long
touched_long set way Mru long = used_first_long set way long
touched_long set way Fifo long = long
touched_long set way Random long = long
touched_long set way Lfu long = used_first_long set way long
touched_long set way Clock long = long

installed_long : (set : CacheSet) (way : ℕ) (policy : ReplacementPolicy) → Long set → Long (installed set way policy)
unfolding installed
installed_long set way Lru long = used_first_long set way long
installed_long set way Mru long = used_first_long set way long
installed_long set way Fifo long = (long.0, to_front_length way set.fifo_order ∙ long.1)
installed_long set way Random long = long
installed_long set way Lfu long = used_first_long set way long
installed_long set way Clock long = long

chosen_long :
    (set : CacheSet) (policy : ReplacementPolicy) (freq : List ℕ) (bits : List Bool)
    → Long set
    → Long (chosen set policy freq bits).victim.set
unfolding chosen
chosen_long set Lru freq bits long = long
chosen_long set Mru freq bits long = long
chosen_long set Fifo freq bits long = long
chosen_long set Random freq bits long = long
chosen_long set Lfu freq bits long = long
chosen_long set Clock freq bits long = long

free_long :
    (o : Option ℕ) (set : CacheSet) (bits : List Bool) (choice : Choice)
    → Long set
    → Long choice.victim.set
    → Long (free_or o set bits choice).victim.set
free_long None set bits choice long after = after
free_long (Some way) set bits choice long after = long

filled_long :
    (o : Option ℕ) (g : Geometry) (a : Access) (way : ℕ) (mark : Mark) (set : CacheSet) (e : Evicted)
    → Long set
    → Long (filled_or o g a way mark set e).set
filled_long (Some place) g a way mark set e long = long
filled_long None g a way mark set e long = installed_long set way g.replacement long

pub orders_long :
    (g : Geometry) (a : Access) (ram_len : ℕ) (set : CacheSet) (m : Marks)
    → Long set
    → Long (accessed g a ram_len set m).step.set
unfolding refused_store hit_step past_step alloc_step victim_of
orders_long g a ram_len set m long =
    by_cases (λ r. Long r.step.set) g a ram_len set m
    (λ place. long)
    (λ way _ found. touched_long set way g.replacement long)
    long
    (λ _. filled_long _ g a _ _ _ _ (free_long (free_of m.valid) set m.bits _ long (chosen_long set g.replacement m.freq m.bits long)))
