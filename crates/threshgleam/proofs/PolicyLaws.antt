-- The policy of a number, as `TryFrom` finds it.
use Rattle.std.proofs.Common.{◌≡◌, ℕ, ◌<◌, false, eqb, ne_eqb, lit<, refl, arith}
use Rattle.std.specs.Prelude.{Result, Ok, Err}
use Rattle.config.specs.Policies.{Names, replacement_number}
use Rattle.config.specs.Numbers.{clock}
use Rattle.std.specs.Result.{result_ok}
use Rattle.config.specs.declared.policy.UnknownPolicy.{UnknownPolicy}
use Rattle.config.specs.declared.policy.ReplacementPolicy.{ReplacementPolicy}
use Rattle.config.specs.declared.policy.ReplacementPolicy.TheVariants.{Lru, Mru, Fifo, Random, Lfu, Clock}
use Rattle.threshgleam.specs.SetRules.{policy_of}

pub named :
    (answer : Result ReplacementPolicy UnknownPolicy) (number : ℕ)
    → Names replacement_number clock number answer
    → result_ok answer ≡ policy_of number
unfolding policy_of
named (Ok Lru) number e = rw (← e) refl
named (Ok Mru) number e = rw (← e) refl
named (Ok Fifo) number e = rw (← e) refl
named (Ok Random) number e = rw (← e) refl
named (Ok Lfu) number e = rw (← e) refl
named (Ok Clock) number e = rw (← e) refl
named (Err unknown) number e =
    let no : (k : ℕ) → k < 6 → eqb number k ≡ false = λ k less. ne_eqb number k (λ same. omega (arith, less, same, e.1)) in
    rw (no 0 (lit< tt), no 1 (lit< tt), no 2 (lit< tt), no 3 (lit< tt), no 4 (lit< tt), no 5 (lit< tt)) refl
