use Rattle.std.proofs.Common.{◌≡◌, ◌<◌, ◌+◌, ◌-◌}
use Rattle.sets.specs.Victim.{sweep}
use Rattle.sets.proofs.victim.sweep.Given as goal

abbrev pub invariant-loop : goal.invariant-loop
invariant-loop l =
    (l.hand < l.ways)
    × (sweep (l.ways + 1) l.from l.fn.ref_bits ≡ sweep (l.ways + 1 - l.counter) l.hand l.ref_bits)
