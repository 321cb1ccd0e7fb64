-- A free way is one of the marks; of a full set the choice is one of the ways.
use Rattle.std.proofs.Common.{◌∙◌, ◌<◌, false, not, length, sym, subst, arith}
use Rattle.std.proofs.lemmas.List.Quantifiers.{position-Some}
use Rattle.sets.specs.Ways.{free_of}
use Rattle.sets.specs.Victim.{Choice}
use Rattle.sets.proofs.SetKept.{chosen_kept, parts}
use Rattle.sets.proofs.set.CacheSet.find_victim.Goals as goal

pub returns-in-Some-clause-below : goal.returns-in-Some-clause-below
unfolding free_of
returns-in-Some-clause-below c formed lines =
    rw (← lines) (position-Some not _ c.in-Some.way false (sym c.free_way.ensures ∙ c.in-Some.is)).0

pub returns-in-None-clause-below : goal.returns-in-None-clause-below
returns-in-None-clause-below c formed lines =
    subst (λ (choice : Choice). choice.victim.way < length c.args.freq.now) (sym c.choose.ensures)
    (chosen_kept c.args.self c.args.policy c.args.freq.now c.args.ref_bits.now (omega arith) (omega arith) (parts _ _ formed)).0
