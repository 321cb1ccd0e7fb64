-- Opening a level.
use Rattle.std.specs.Prelude.{ℕ, List, Option, None, Some, Ok, Err, if◌then◌else◌, ◌==◌, length, replicate}
use Rattle.config.specs.declared.CacheConfig.{CacheConfig}
use Rattle.config.specs.declared.reason.Reason.{Reason}
use Rattle.config.specs.declared.reason.Reason.TheVariants.{NoSize, LineTooShort, NoWays, LineNotPowerOfTwo, SetOverflows, SetAboveSize, SizeNotWholeSets, SetsNotPowerOfTwo, InclusionUnsupported}
use Rattle.config.specs.Config.{reason_of, none}
use Rattle.control.specs.declared.geometry.Geometry.{Geometry}
use Rattle.control.specs.Geometry.{geometry_of}
use Rattle.control.specs.Lines.{blank, fresh_marks}
use Rattle.control.specs.Stats.{nothing}
use Rattle.level.specs.declared.cache.Cache.{Cache}
use Rattle.level.specs.declared.cache.Opened.{Opened}
use Rattle.level.specs.declared.refusal.Refusal.{Refusal}
use Rattle.level.specs.declared.refusal.Refusal.TheVariants.{Unusable, BeyondLimits, LinesMisfit}

-- a level with nothing in it
abbrev pub bypass : CacheConfig → Cache
bypass c = record { config = c; marks = blank; stats = nothing }

abbrev pub unopened : Refusal → Opened
unopened refusal = record { answer = Err refusal; level = bypass none }

-- what opening answers, and the line buffer after it
pub record Opening : Type 0 where
  pub opened : Opened
  pub lines : List ℕ

abbrev pub opened : Opened → List ℕ → Opening
opened o lines = record { opened = o; lines = lines }

-- the reason by its number
unfoldable pub reason_by : ℕ → Reason
reason_by number =
    if number == 1 then NoSize else
    if number == 2 then LineTooShort else
    if number == 3 then NoWays else
    if number == 4 then LineNotPowerOfTwo else
    if number == 5 then SetOverflows else
    if number == 6 then SetAboveSize else
    if number == 7 then SizeNotWholeSets else if number == 8 then SetsNotPowerOfTwo else InclusionUnsupported

-- of a valid configuration: the limits, then the line buffer
abbrev pub opening_by : Option Geometry → CacheConfig → List ℕ → Opening
opening_by None c lines = opened (unopened BeyondLimits) lines
opening_by (Some g) c lines =
    if length lines == c.size
    then opened (record { answer = Ok tt; level = record { config = c; marks = fresh_marks g; stats = nothing } }) (replicate (length lines) 0)
    else opened (unopened LinesMisfit) lines

-- a configuration that cannot be used opens all the same, and its reason is told
unfoldable pub opening : CacheConfig → List ℕ → Opening
opening c lines =
    if reason_of c == 0
    then opening_by (geometry_of c) c lines
    else opened (record { answer = Err (Unusable (reason_by (reason_of c))); level = bypass c }) lines
