-- The reason that `validate` gives is the one that its number names.
use Rattle.std.proofs.Common.{◌∙◌, ap, sym}
use Rattle.config.specs.Reasons.{verdict_of}
use Rattle.level.proofs.OpeningLaws.{with_reason}
use Rattle.level.proofs.cache.Cache.new.Goals as goal

pub returns-in-Err : goal.returns-in-Err
returns-in-Err c =
    rw (c.bypass.ensures)
    (with_reason c.in-Err.reason c.args.config c.args.lines.now (ap verdict_of (sym c.in-Err.is) ∙ c.validate.ensures))
