-- The policy of a number, as `TryFrom` finds it, and the last one past them.
use Rattle.std.proofs.Common.{◌≡◌, ℕ, ◌<◌, false, eqb, ne_eqb, refl, arith}
use Rattle.std.specs.Prelude.{Result, Ok, Err}
use Rattle.std.specs.Result.{result_unwrap_or}
use Rattle.config.specs.Numbers.{clock, write_back, no_write_allocate}
use Rattle.config.specs.Policies.{Names, replacement_number, write_number, write_alloc_number}
use Rattle.config.specs.declared.policy.UnknownPolicy.{UnknownPolicy}
use Rattle.config.specs.declared.policy.ReplacementPolicy.{ReplacementPolicy}
use Rattle.config.specs.declared.policy.ReplacementPolicy.TheVariants.{Lru, Mru, Fifo, Random, Lfu, Clock}
use Rattle.config.specs.declared.policy.WritePolicy.{WritePolicy}
use Rattle.config.specs.declared.policy.WritePolicy.TheVariants.{WriteThrough, WriteBack}
use Rattle.config.specs.declared.policy.WriteAllocPolicy.{WriteAllocPolicy}
use Rattle.config.specs.declared.policy.WriteAllocPolicy.TheVariants.{WriteAllocate, NoWriteAllocate}
use Rattle.control.specs.Geometry.{replacement_by, write_by, write_alloc_by}

-- a number past n is not n
no : (number k : ℕ) → k < number → eqb number k ≡ false
no number k less = ne_eqb number k (λ same. omega (arith, less, same))

pub replacement_named :
    (answer : Result ReplacementPolicy UnknownPolicy) (number : ℕ)
    → Names replacement_number clock number answer
    → result_unwrap_or answer Clock ≡ replacement_by number
unfolding replacement_by
replacement_named (Ok Lru) number e = rw (← e) refl
replacement_named (Ok Mru) number e = rw (← e) refl
replacement_named (Ok Fifo) number e = rw (← e) refl
replacement_named (Ok Random) number e = rw (← e) refl
replacement_named (Ok Lfu) number e = rw (← e) refl
replacement_named (Ok Clock) number e = rw (← e) refl
replacement_named (Err unknown) number e =
    rw (no number 0 (omega (arith, e.1)), no number 1 (omega (arith, e.1)), no number 2 (omega (arith, e.1)), no number 3 (omega (arith, e.1)), no number 4 (omega (arith, e.1))) refl

pub write_named :
    (answer : Result WritePolicy UnknownPolicy) (number : ℕ)
    → Names write_number write_back number answer
    → result_unwrap_or answer WriteBack ≡ write_by number
unfolding write_by
write_named (Ok WriteThrough) number e = rw (← e) refl
write_named (Ok WriteBack) number e = rw (← e) refl
write_named (Err unknown) number e = rw (no number 0 (omega (arith, e.1))) refl

pub write_alloc_named :
    (answer : Result WriteAllocPolicy UnknownPolicy) (number : ℕ)
    → Names write_alloc_number no_write_allocate number answer
    → result_unwrap_or answer NoWriteAllocate ≡ write_alloc_by number
unfolding write_alloc_by
write_alloc_named (Ok WriteAllocate) number e = rw (← e) refl
write_alloc_named (Ok NoWriteAllocate) number e = rw (← e) refl
write_alloc_named (Err unknown) number e = rw (no number 0 (omega (arith, e.1))) refl
