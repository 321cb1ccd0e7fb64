-- The reasons for which a configuration cannot be used, by number and as text.
use Rattle.std.specs.Prelude.{ℕ, List, codes, Result, Ok, Err}
use Rattle.config.specs.declared.reason.Reason.{Reason}
use Rattle.config.specs.declared.reason.Reason.TheVariants.{
  NoSize,
  LineTooShort,
  NoWays,
  LineNotPowerOfTwo,
  SetOverflows,
  SetAboveSize,
  SizeNotWholeSets,
  SetsNotPowerOfTwo,
  InclusionUnsupported,
}

abbrev pub number_of : Reason → ℕ
number_of NoSize = 1
number_of LineTooShort = 2
number_of NoWays = 3
number_of LineNotPowerOfTwo = 4
number_of SetOverflows = 5
number_of SetAboveSize = 6
number_of SizeNotWholeSets = 7
number_of SetsNotPowerOfTwo = 8
number_of InclusionUnsupported = 9

abbrev pub text_of : Reason → List ℕ
text_of NoSize = codes "size must be > 0"
text_of LineTooShort = codes "line size must be >= 4 B"
text_of NoWays = codes "associativity must be >= 1"
text_of LineNotPowerOfTwo = codes "line size is not a power of 2"
text_of SetOverflows = codes "associativity x line size overflows 64 bits"
text_of SetAboveSize = codes "associativity x line size > size: need >= 1 set"
text_of SizeNotWholeSets = codes "size is not divisible by associativity x line size"
text_of SetsNotPowerOfTwo = codes "the number of sets is not a power of 2"
text_of InclusionUnsupported = codes "inclusion must be NonInclusive"

-- a verdict in numbers: 0 for a configuration that can be used, else its reason's number
abbrev pub verdict_of : Result (Unit {0}) Reason → ℕ
verdict_of (Ok _) = 0
verdict_of (Err reason) = number_of reason
