use Rattle.std.proofs.Common.{◌≡◌, ℕ, ◌<◌, true}
use Rattle.control.specs.Formed.{is_set_formed}
use Rattle.control.proofs.marks.Marks.are_sets_formed.Given as goal

abbrev pub invariant-loop-set : goal.invariant-loop-set
invariant-loop-set l = (k : ℕ) → k < l.set → is_set_formed l.g l.self k ≡ true
