-- A store of a value's first bytes looks at no byte past them.
use Rattle.std.proofs.Common.{◌≡◌, ℕ, ◌-◌, ◌≤◌, ◌∙◌, min, List, length, take, refl, arith}
use Rattle.std.proofs.Math.Seq.{paste}
use Rattle.std.proofs.lemmas.List.{take-take, length-take}
use Rattle.ram.specs.Ram.{reach_of, stored, Storing}

paste_take : (d : List ℕ) (at : ℕ) (s : List ℕ) (m n : ℕ) → m ≤ n → paste d at (take n s) m ≡ paste d at s m
paste_take d at s m n h = rw (take-take m n s h) refl

pub stored_first :
    (after : Storing) (ram : List ℕ) (addr : ℕ) (bytes part : List ℕ) (n : ℕ)
    → n ≤ length bytes
    → part ≡ take n bytes
    → after ≡ stored ram addr part (length part)
    → after ≡ stored ram addr bytes n
unfolding stored reach_of
stored_first after ram addr bytes part n h e was =
    let whole : length (take n bytes) ≡ n = rw (length-take n bytes) (omega arith) in
    was ∙ rw (e, whole, paste_take ram addr bytes (min n (length ram - addr)) n (omega arith)) refl
