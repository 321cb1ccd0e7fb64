-- What a paste leaves as it was, and a part of a list.
use Rattle.std.proofs.Common.{◌≡◌, ◌∙◌, ℕ, ◌+◌, ◌-◌, ◌<◌, ◌≤◌, List, ◌++◌, length, take, drop, get_or, ap, sym, arith}
use Rattle.std.proofs.Math.Seq.{paste}
use Rattle.std.proofs.lemmas.List.{append_assoc, length-take, length-take-le, length-drop, get_or-take, get_or-drop, take-take, take-append-le, drop-drop, drop-take, drop_at}
use Rattle.std.proofs.lemmas.List.Edits.{take-paste, drop-paste}
use Rattle.control.specs.Marks.{part}

-- ---- a part

pub length_part : {X : Type 0} (xs : List X) (base n : ℕ) → base + n ≤ length xs → length (part xs base n) ≡ n
length_part xs base n fits = omega (arith, length-take n (drop base xs), length-drop base xs)

pub part_entry : {X : Type 0} (xs : List X) (base n k : ℕ) (d : X) → k < n → get_or (part xs base n) k d ≡ get_or xs (base + k) d
part_entry xs base n k d l = get_or-take n (drop base xs) k d l ∙ get_or-drop base xs k d

-- ---- a paste

take_pasted :
    {X : Type 0} (d : List X) (at : ℕ) (s : List X) (n k : ℕ)
    → at ≤ length d
    → k ≤ at
    → take k (paste d at s n) ≡ take k d
take_pasted d at s n k there below =
    ap (take k) (append_assoc (take at d) (take n s) (drop (at + n) d))
    ∙ take-append-le k (take at d) (take n s ++ drop (at + n) d) (omega (arith, length-take-le at d there))
    ∙ take-take k at d below

-- past it nothing moves
pub drop_pasted :
    {X : Type 0} (d : List X) (at : ℕ) (s : List X) (n k : ℕ)
    → at ≤ length d
    → n ≤ length s
    → at + n ≤ k
    → drop k (paste d at s n) ≡ drop k d
drop_pasted d at s n k there enough past =
    let e : at + n + (k - (at + n)) ≡ k = omega arith in
    ap (λ (j : ℕ). drop j (paste d at s n)) (sym e)
    ∙ sym (drop-drop (k - (at + n)) (at + n) (paste d at s n))
    ∙ ap (drop (k - (at + n))) (drop-paste d at s n there enough)
    ∙ drop-drop (k - (at + n)) (at + n) d
    ∙ ap (λ (j : ℕ). drop j d) e

-- the part that was pasted, one before it, and one past it
pub part_pasted :
    {X : Type 0} (d : List X) (at : ℕ) (s : List X) (n : ℕ)
    → at ≤ length d
    → n ≤ length s
    → part (paste d at s n) at n ≡ take n s
part_pasted d at s n there enough =
    sym (drop-take at n (paste d at s n))
    ∙ ap (drop at) (take-paste d at s n there enough)
    ∙ drop_at (take at d) (take n s) at (length-take-le at d there)

pub part_before :
    {X : Type 0} (d : List X) (at : ℕ) (s : List X) (n base : ℕ)
    → at ≤ length d
    → base + n ≤ at
    → part (paste d at s n) base n ≡ part d base n
part_before d at s n base there below =
    sym (drop-take base n (paste d at s n))
    ∙ ap (drop base) (take_pasted d at s n (base + n) there below)
    ∙ drop-take base n d

pub part_past :
    {X : Type 0} (d : List X) (at : ℕ) (s : List X) (n base : ℕ)
    → at ≤ length d
    → n ≤ length s
    → at + n ≤ base
    → part (paste d at s n) base n ≡ part d base n
part_past d at s n base there enough past = ap (take n) (drop_pasted d at s n base there enough past)

-- an entry before it, and one past it
pub entry_before :
    {X : Type 0} (d : List X) (at : ℕ) (s : List X) (n k : ℕ) (x : X)
    → at ≤ length d
    → k < at
    → get_or (paste d at s n) k x ≡ get_or d k x
entry_before d at s n k x there below =
    sym (get_or-take at (paste d at s n) k x below)
    ∙ ap (λ (xs : List _). get_or xs k x) (take_pasted d at s n at there (omega arith))
    ∙ get_or-take at d k x below

pub entry_past :
    {X : Type 0} (d : List X) (at : ℕ) (s : List X) (n k : ℕ) (x : X)
    → at ≤ length d
    → n ≤ length s
    → at + n ≤ k
    → get_or (paste d at s n) k x ≡ get_or d k x
entry_past d at s n k x there enough past =
    let e : k + 0 ≡ k = omega arith in
    ap (λ (j : ℕ). get_or (paste d at s n) j x) (sym e)
    ∙ sym (get_or-drop k (paste d at s n) 0 x)
    ∙ ap (λ (xs : List _). get_or xs 0 x) (drop_pasted d at s n k there enough past)
    ∙ get_or-drop k d 0 x
    ∙ ap (λ (j : ℕ). get_or d j x) e
