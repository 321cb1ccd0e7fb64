-- What moving a way to the front does to an order.
use Rattle.std.proofs.Common.{◌≡◌, ℕ, ◌+◌, ◌-◌, ◌==◌, List, [], ◌∷◌, ◌++◌, Some, length, take, drop, add-one, refl, arith}
use Rattle.std.specs.Prelude.{position}
use Rattle.std.proofs.Math.Seq.{take-suc, drop-append_seam, take-append_seam}
use Rattle.std.proofs.lemmas.Bool.{eqb-true}
use Rattle.std.proofs.lemmas.List.{length-append}
use Rattle.std.proofs.lemmas.List.Quantifiers.{position-Some}

-- a list turned by one place: its last entry is in front
turned : (xs : List ℕ) (last n : ℕ) → n ≡ length xs → drop n (xs ++ last ∷ []) ++ take n (xs ++ last ∷ []) ≡ last ∷ xs
turned xs last n e = rw (e, drop-append_seam xs (last ∷ []), take-append_seam xs (last ∷ [])) refl

-- the entries up to the way, turned by one place: the way is in front
pub rotated :
    (order : List ℕ) (way at : ℕ)
    → position (λ w. w == way) order ≡ Some at
    → drop (length (take (at + 1) order) - 1) (take (at + 1) order) ++ take (length (take (at + 1) order) - 1) (take (at + 1) order)
    ≡ way ∷ take at order
rotated order way at found =
    let here = position-Some (λ w. w == way) order at 0 found in
    let split : take (at + 1) order ≡ take at order ++ way ∷ [] =
    rw (add-one, take-suc order at 0 here.0, eqb-true _ _ here.1) refl
    in
    rw split (turned (take at order) way _ (rw (length-append) (omega arith)))
