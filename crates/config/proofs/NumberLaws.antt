-- Division: one after another, and rounded up.
use Rattle.std.proofs.Common.{◌≡◌, ℕ, zero, suc, refl, ◌+◌, ◌-◌, ◌*◌, ◌/◌, ◌%◌, ◌<◌, ◌≤◌, sym, le_trans, min, mod-lt, add-mul, one-mul, div-add-mod', div-le_self, div-mul-le_self, arith}
use Rattle.config.specs.Config.{num_sets}
use Rattle.config.specs.declared.CacheConfig.{CacheConfig}
use native.Mathlib.Nat.{div-eq_of_lt-le, div-div-eq-div-mul}

-- two divisions in a row are one by the product; a name for it that `using` can say
pub quotient_twice : (a b c : ℕ) → a / b / c ≡ a / (b * c)
quotient_twice a b c = div-div-eq-div-mul a b c

-- there are no more lines than bytes
pub lines_le : (c : CacheConfig) → num_sets c * c.associativity ≤ c.size
unfolding num_sets
lines_le c =
    rw (← quotient_twice c.size c.line_size c.associativity)
    (le_trans (div-mul-le_self (c.size / c.line_size) c.associativity) (div-le_self c.size c.line_size))

-- a quotient, and one more where something is left
pub rounded_up : (a b : ℕ) → 0 < b → a / b + min 1 (a % b) ≡ (a + (b - 1)) / b
rounded_up a b pos = go (a % b) refl
  where
    go : (left : ℕ) → a % b ≡ left → a / b + min 1 left ≡ (a + (b - 1)) / b
    go zero e =
        sym
        (div-eq_of_lt-le b
        (omega (arith, e, div-add-mod' a b))
        (omega (arith, e, div-add-mod' a b, add-mul (a / b) 1 b, one-mul b)))
    go (suc left) e =
        let one : min 1 (suc left) ≡ 1 = omega arith in
        rw one
        (sym
        (div-eq_of_lt-le b
        (omega (arith, e, div-add-mod' a b, add-mul (a / b) 1 b, one-mul b))
        (omega (arith, e, div-add-mod' a b, mod-lt a {m = b} pos, add-mul (a / b) 1 b, add-mul (a / b + 1) 1 b, one-mul b))))
