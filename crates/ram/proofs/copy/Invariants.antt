use Rattle.std.proofs.Common.{◌≡◌, drop}
use Rattle.std.proofs.Math.Seq.{paste}
use Rattle.ram.proofs.copy.Given as goal

abbrev pub invariant-loop-i : goal.invariant-loop-i
invariant-loop-i l = l.dst ≡ paste l.fn.dst l.at (drop l.from l.src) l.i
