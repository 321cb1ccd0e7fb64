-- The looks of a sweep, one by one.
use Rattle.std.proofs.Common.{◌≡◌, ◌∙◌, ℕ, zero, suc, ◌+◌, ◌%◌, ◌<◌, Bool, true, false, List, length, set, refl, add-one, lt_irrefl}
use Rattle.std.specs.Prelude.{slice_index_or}
use Rattle.sets.specs.Victim.{Sweep, sweep, swept_bits}

-- a look at a set bit clears it and goes on
pub sweep_look :
    (s : Sweep) (looks more hand : ℕ) (bits : List Bool)
    → looks ≡ more + 1
    → slice_index_or bits hand false ≡ true
    → s ≡ sweep looks hand bits
    → s ≡ sweep more ((hand + 1) % length bits) (set bits hand false)
unfolding sweep
sweep_look s looks more hand bits e on was =
    was ∙ rw (e, add-one more, on) refl

-- a look at a clear bit ends the sweep
pub sweep_end :
    (s : Sweep) (looks hand ways : ℕ) (bits : List Bool)
    → 0 < looks
    → length bits ≡ ways
    → slice_index_or bits hand false ≡ false
    → s ≡ sweep looks hand bits
    → swept_bits (record { way = hand; hand = (hand + 1) % ways }) bits ≡ s
unfolding sweep
sweep_end s zero hand ways bits l e off was = absurd (lt_irrefl 0 l)
sweep_end s (suc more) hand ways bits l e off was = rw (was, off, e) refl

-- no look is left
pub sweep_out :
    (s : Sweep) (looks hand : ℕ) (bits : List Bool)
    → looks ≡ 0
    → s ≡ sweep looks hand bits
    → swept_bits (record { way = hand; hand = hand }) bits ≡ s
unfolding sweep
sweep_out s looks hand bits e was = rw (was, e) refl
