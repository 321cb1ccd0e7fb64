-- A configuration that cannot be used opens with its reason.
use Rattle.std.proofs.Common.{◌≡◌, ℕ, List, refl}
use Rattle.std.specs.Prelude.{Err}
use Rattle.config.specs.declared.CacheConfig.{CacheConfig}
use Rattle.config.specs.declared.reason.Reason.{Reason}
use Rattle.config.specs.declared.reason.Reason.TheVariants.{NoSize, LineTooShort, NoWays, LineNotPowerOfTwo, SetOverflows, SetAboveSize, SizeNotWholeSets, SetsNotPowerOfTwo, InclusionUnsupported}
use Rattle.config.specs.Config.{reason_of}
use Rattle.config.specs.Reasons.{number_of}
use Rattle.level.specs.declared.refusal.Refusal.TheVariants.{Unusable}
use Rattle.level.specs.Opening.{bypass, opened, opening, reason_by}

pub with_reason :
    (reason : Reason) (c : CacheConfig) (lines : List ℕ)
    → number_of reason ≡ reason_of c
    → opened (record { answer = Err (Unusable reason); level = bypass c }) lines ≡ opening c lines
unfolding opening reason_by
with_reason NoSize c lines e = rw (← e) refl
with_reason LineTooShort c lines e = rw (← e) refl
with_reason NoWays c lines e = rw (← e) refl
with_reason LineNotPowerOfTwo c lines e = rw (← e) refl
with_reason SetOverflows c lines e = rw (← e) refl
with_reason SetAboveSize c lines e = rw (← e) refl
with_reason SizeNotWholeSets c lines e = rw (← e) refl
with_reason SetsNotPowerOfTwo c lines e = rw (← e) refl
with_reason InclusionUnsupported c lines e = rw (← e) refl
