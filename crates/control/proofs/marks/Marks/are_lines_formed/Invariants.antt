use Rattle.std.proofs.Common.{◌≡◌, ℕ, ◌<◌, true}
use Rattle.control.specs.Formed.{is_line_formed}
use Rattle.control.proofs.marks.Marks.are_lines_formed.Given as goal

abbrev pub invariant-loop-line : goal.invariant-loop-line
invariant-loop-line l = (k : ℕ) → k < l.line → is_line_formed l.g l.self k ≡ true
