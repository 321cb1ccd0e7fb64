-- Where a set ends.
use Rattle.std.proofs.Common.{◌≢◌, ℕ, ◌+◌, ◌*◌, ◌<◌, ◌≤◌, ◌⊎◌, inl, inr, add-mul, one-mul, mul-le-mul_right, arith, ⊎_elim}
use Rattle.std.proofs.lemmas.Bool.{cases_eq, cases_lt}

pub set_ends : (s sets ways : ℕ) → s < sets → s * ways + ways ≤ sets * ways
set_ends s sets ways l =
    let next : s + 1 ≤ sets = omega arith in
    omega (arith, add-mul s 1 ways, one-mul ways, mul-le-mul_right ways next)

pub set_within : (s sets ways : ℕ) → s < sets → sets * ways ≤ 256 → s * ways + ways ≤ 256
set_within s sets ways l fits = omega (arith, set_ends s sets ways l)

-- two sets lie apart
pub sets_apart : (s t ways : ℕ) → s ≢ t → (s * ways + ways ≤ t * ways) ⊎ (t * ways + ways ≤ s * ways)
sets_apart s t ways other =
    ⊎_elim
    (λ less. inl (set_ends s t ways less))
    (λ least. inr (set_ends t s ways (below least)))
    (cases_lt s t)
  where
    below : t ≤ s → t < s
    below least = ⊎_elim (λ here. absurd (other here)) (λ not. omega arith) (cases_eq s t)
