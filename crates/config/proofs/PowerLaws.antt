-- A number of k digits has one digit set exactly where it is two to the number of its trailing zeros.
use Rattle.std.proofs.Common.{◌≡◌, ℕ, zero, suc, ◌/◌, ◌%◌, ◌^◌, ◌<◌, ◌↔◌, refl, mod-lt, div-add-mod', lit<, arith}
use native.Mathlib.Nat.{pow-suc}
use Rattle.std.specs.Prelude.{count_ones}
use Rattle.std.specs.Int.{is_power_of_two}
use Rattle.std.specs.Int.Count.{count_trailing_zeros, ones_step, under}
use Rattle.std.proofs.lemmas.Nat.{ones_le_self, zero_from_ones}
use Rattle.std.proofs.lemmas.Bool.Decides.{Decides-eqb, same_from_decides}
use Rattle.config.specs.Config.{power_of_two}

-- the lowest digit d, and the t zeros below the lowest set one of the rest
step :
    (n t d : ℕ) → n % 2 ≡ d → ((count_ones (n / 2) ≡ 1) ↔ (n / 2 ≡ 2 ^ t)) → (count_ones n ≡ 1) ↔ (n ≡ 2 ^ under d t)
step n t zero e rest = (
  λ one. omega (arith, e, pow-suc 2 t, div-add-mod' n 2, rest.0 (omega (arith, e, one, ones_step n))),
  λ power. omega (arith, e, ones_step n, rest.1 (omega (arith, e, power, pow-suc 2 t, div-add-mod' n 2))),
)
step n t (suc d) e rest = (
  λ one. omega (arith, e, div-add-mod' n 2, mod-lt n {m = 2} (lit< tt), zero_from_ones (n / 2) (omega (arith, e, one, ones_step n))),
  λ power. omega (arith, e, power, ones_step n, ones_le_self n),
)

one_set : (k n : ℕ) → n < 2 ^ k → (count_ones n ≡ 1) ↔ (n ≡ 2 ^ count_trailing_zeros k n)
unfolding count_trailing_zeros
one_set zero n h = (λ one. omega (arith, h, one, ones_le_self n), λ one. omega (arith, h, one))
one_set (suc k) n h =
    step n (count_trailing_zeros k (n / 2)) (n % 2) refl (one_set k (n / 2) (omega (arith, h, pow-suc 2 k, div-add-mod' n 2)))

-- what std's `is_power_of_two` tests is `power_of_two`
pub one_set_power : (n : ℕ) → n < 2 ^ 64 → is_power_of_two n ≡ power_of_two n
unfolding power_of_two
one_set_power n h =
    let one = Decides-eqb (count_ones n) 1 in
    let set = one_set 64 n h in
    same_from_decides _ _ (λ t. set.0 (one.0 t), λ e. one.1 (set.1 e)) (Decides-eqb n (2 ^ count_trailing_zeros 64 n))
