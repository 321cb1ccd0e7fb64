-- A sweep comes to a clear bit: each look at a set one leaves one fewer.
use Rattle.std.proofs.Common.{◌≡◌, ℕ, zero, suc, ◌+◌, ◌%◌, ◌<◌, Bool, true, false, cond, List, length, set, mod-lt, refl, arith, ⊎_elim}
use Rattle.std.specs.Prelude.{slice_index_or, count_by}
use Rattle.std.proofs.lemmas.Bool.{cases_Bool}
use Rattle.std.proofs.lemmas.List.{length-set}
use Rattle.std.proofs.lemmas.List.Sums.{sum_by-set, count_by-le-length}
use Rattle.sets.specs.Victim.{sweep}

-- how many bits are set
abbrev marked : List Bool → ℕ
marked bits = count_by (λ b. b) bits

one_fewer :
    (hand : ℕ) (bits : List Bool)
    → hand < length bits
    → slice_index_or bits hand false ≡ true
    → marked (set bits hand false) + 1 ≡ marked bits
one_fewer hand bits there on =
    let counted = rw on at (sum_by-set (λ b. cond b 1 0) bits hand false false there) in omega (arith, counted)

-- two sweeps end alike where each has more looks than bits are set
ends_alike :
    (looks more hand : ℕ) (bits : List Bool)
    → hand < length bits
    → marked bits < looks
    → marked bits < more
    → sweep looks hand bits ≡ sweep more hand bits
unfolding sweep
ends_alike zero more hand bits there l m = absurd (omega arith)
ends_alike (suc looks) zero hand bits there l m = absurd (omega arith)
ends_alike (suc looks) (suc more) hand bits there l m =
    ⊎_elim
    (λ on.
    let fewer = one_fewer hand bits there on in
    let next : (hand + 1) % length bits < length (set bits hand false) =
    omega (arith, length-set bits hand false, mod-lt (hand + 1) {m = length bits} (omega arith))
    in
    rw on (ends_alike looks more ((hand + 1) % length bits) (set bits hand false) next (omega arith) (omega arith)))
    (λ off. rw off refl)
    (cases_Bool (slice_index_or bits hand false))

-- a sweep never needs more than one look more than there are ways
pub sweep_ends :
    (more hand : ℕ) (bits : List Bool)
    → hand < length bits
    → sweep (length bits + 1 + more) hand bits ≡ sweep (length bits + 1) hand bits
sweep_ends more hand bits there =
    let few = count_by-le-length (λ b. b) bits in
    ends_alike (length bits + 1 + more) (length bits + 1) hand bits there (omega (arith, few)) (omega (arith, few))
