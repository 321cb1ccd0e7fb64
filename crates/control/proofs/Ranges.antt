-- What each number below n passes, and one that does not.
use Rattle.std.proofs.Common.{◌≡◌, ℕ, zero, suc, ◌+◌, ◌<◌, ◌≤◌, Bool, true, false, ◌&&◌, refl, arith, ⊎_elim}
use Rattle.std.specs.List.{list_all, range_with_len}
use Rattle.std.proofs.lemmas.Bool.{and_parts, cases_eq}

from_all :
    (p : ℕ → Bool) (from n : ℕ)
    → ((k : ℕ) → from ≤ k → k < from + n → p k ≡ true)
    → list_all p (range_with_len from n) ≡ true
from_all p from zero all = refl
from_all p from (suc n) all =
    rw (all from (omega arith) (omega arith), from_all p (from + 1) n (λ k low high. all k (omega arith) (omega arith))) refl

from_one :
    (p : ℕ → Bool) (from n k : ℕ)
    → from ≤ k
    → k < from + n
    → p k ≡ false
    → list_all p (range_with_len from n) ≡ false
from_one p from zero k low high fails = absurd (omega arith)
from_one p from (suc n) k low high fails =
    ⊎_elim
    (λ here. let first : p from ≡ false = rw here fails in rw first refl)
    (λ later. rw (from_one p (from + 1) n k (omega (arith, later)) (omega arith) fails) (and_false (p from)))
    (cases_eq from k)
  where
    and_false : (b : Bool) → (b && false) ≡ false
    and_false true = refl
    and_false false = refl

to_each :
    (p : ℕ → Bool) (from n k : ℕ)
    → list_all p (range_with_len from n) ≡ true
    → from ≤ k
    → k < from + n
    → p k ≡ true
to_each p from zero k all low high = absurd (omega arith)
to_each p from (suc n) k all low high =
    ⊎_elim
    (λ here. rw (← here) (and_parts _ _ all).0)
    (λ later. to_each p (from + 1) n k (and_parts _ _ all).1 (omega (arith, later)) (omega arith))
    (cases_eq from k)

pub all_below : (p : ℕ → Bool) (n : ℕ) → ((k : ℕ) → k < n → p k ≡ true) → list_all p (range_with_len 0 n) ≡ true
all_below p n all = from_all p 0 n (λ k low high. all k (omega arith))

pub one_below : (p : ℕ → Bool) (n k : ℕ) → k < n → p k ≡ false → list_all p (range_with_len 0 n) ≡ false
one_below p n k l fails = from_one p 0 n k (omega arith) (omega arith) fails

pub each_below : (p : ℕ → Bool) (n k : ℕ) → list_all p (range_with_len 0 n) ≡ true → k < n → p k ≡ true
each_below p n k all l = to_each p 0 n k all (omega arith) (omega arith)
