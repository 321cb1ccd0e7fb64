-- A line's base modulo 2^32, step by step.
use Rattle.std.proofs.Common.{◌≡◌, ℕ, ◌+◌, ◌*◌, ◌%◌, refl}
use native.Mathlib.Nat.{mod-add-mod, mod-mod}
use Rattle.std.proofs.lemmas.Nat.{mul-mod}

-- a product of what was cut before is the product, cut
pub base_wraps : (tag sets set line m : ℕ) → ((tag * sets % m + set) % m * line) % m ≡ (tag * sets + set) * line % m
base_wraps tag sets set line m =
    rw (mod-add-mod (tag * sets) m set, mul-mod ((tag * sets + set) % m) line m, mod-mod (tag * sets + set) m, ← mul-mod (tag * sets + set) line m) refl
