-- The sweep that is left begins with a look at a clear bit.
use Rattle.std.proofs.Common.{rules, arith}
use Rattle.sets.proofs.ClockLaws.{sweep_end}
use Rattle.sets.proofs.victim.sweep.Goals as goal

pub returns-then-not-ref_bits-way-clause-ends : goal.returns-then-not-ref_bits-way-clause-ends
returns-then-not-ref_bits-way-clause-ends c =
    sweep_end _ _ _ _ _ (omega arith) (search rules) (search rules) c.loop.invariant.1
