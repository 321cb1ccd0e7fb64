use Rattle.std.proofs.Common.{sym, arith}
use Rattle.control.specs.Formed.{is_set_formed}
use Rattle.control.proofs.Ranges.{all_below, one_below}
use Rattle.control.proofs.marks.Marks.are_sets_formed.Goals as goal

pub returns-then-not-is_set_formed : goal.returns-then-not-is_set_formed
returns-then-not-is_set_formed c =
    sym (one_below (is_set_formed c.args.g c.args.self.now) c.args.g.sets c.loop-set.set (omega arith) (cc))

pub returns : goal.returns
returns c =
    sym (all_below (is_set_formed c.args.g c.args.self.now) c.args.g.sets (λ k l. c.loop-set.invariant k (omega arith)))
