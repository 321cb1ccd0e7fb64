use Rattle.std.proofs.Common.{sym, arith}
use Rattle.control.specs.Formed.{is_line_formed}
use Rattle.control.proofs.Ranges.{all_below, one_below}
use Rattle.control.proofs.marks.Marks.are_lines_formed.Goals as goal

pub returns-then-not-is_line_formed : goal.returns-then-not-is_line_formed
returns-then-not-is_line_formed c =
    sym (one_below (is_line_formed c.args.g c.args.self.now) c.args.lines c.loop-line.line (omega arith) (cc))

pub returns : goal.returns
returns c =
    sym (all_below (is_line_formed c.args.g c.args.self.now) c.args.lines (λ k l. c.loop-line.invariant k (omega arith)))
