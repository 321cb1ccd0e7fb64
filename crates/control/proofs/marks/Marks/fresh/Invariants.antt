use Rattle.std.proofs.Common.{◌≡◌}
use Rattle.control.specs.Lines.{opened}
use Rattle.control.proofs.marks.Marks.fresh.Given as goal

abbrev pub invariant-loop-set : goal.invariant-loop-set
invariant-loop-set l = l.marks ≡ opened l.ways l.set
