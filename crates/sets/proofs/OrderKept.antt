-- Moving a way to the front keeps an order an order.
use Rattle.std.proofs.Common.{◌≡◌, ◌∙◌, ℕ, zero, suc, ◌+◌, ◌==◌, ◌<◌, ◌≤◌, Bool, true, false, ◌&&◌, ◌||◌, cond, not, List, [], ◌∷◌, ◌++◌, Option, Some, None, length, take, drop, get_or, nat_lt, ap, sym, refl, arith, true≢false, ⊎_elim}
use Rattle.std.specs.Prelude.{position}
use Rattle.std.specs.List.{list_all, list_any, range_with_len, position_or_len}
use Rattle.std.proofs.lemmas.Bool.{lt-ltb, eqb-true, and_parts, cases_eq}
use Rattle.std.proofs.lemmas.List.{length-take, length-drop, length-append}
use Rattle.std.proofs.lemmas.List.Sums.{split_at_first, passes_at_first}
use Rattle.std.proofs.lemmas.List.Quantifiers.{position-Some}
use Rattle.sets.specs.Order.{moved_from, to_front, is_order}

-- ---- a way among the first entries, or in front of them

swap_and : (a b c : Bool) → (a && (b && c)) ≡ (b && (a && c))
swap_and true b c = refl
swap_and false true c = refl
swap_and false false c = refl

swap_or : (a b c : Bool) → (a || (b || c)) ≡ (b || (a || c))
swap_or true true c = refl
swap_or true false c = refl
swap_or false b c = refl

all_same :
    (q : ℕ → Bool) (way n : ℕ) (before after : List ℕ)
    → length before ≤ n
    → list_all q (take (suc n) (before ++ way ∷ after)) ≡ list_all q (way ∷ take n (before ++ after))
all_same q way n [] after l = refl
all_same q way zero (x ∷ before) after l = absurd (omega arith)
all_same q way (suc n) (x ∷ before) after l =
    rw (all_same q way n before after (omega arith)) (swap_and (q x) (q way) _)

any_same :
    (q : ℕ → Bool) (way n : ℕ) (before after : List ℕ)
    → length before ≤ n
    → list_any q (take (suc n) (before ++ way ∷ after)) ≡ list_any q (way ∷ take n (before ++ after))
any_same q way n [] after l = refl
any_same q way zero (x ∷ before) after l = absurd (omega arith)
any_same q way (suc n) (x ∷ before) after l =
    rw (any_same q way n before after (omega arith)) (swap_or (q x) (q way) _)

rest_same :
    (way n : ℕ) (before after : List ℕ)
    → length before ≤ n
    → drop (suc n) (before ++ way ∷ after) ≡ drop n (before ++ after)
rest_same way n [] after l = refl
rest_same way zero (x ∷ before) after l = absurd (omega arith)
rest_same way (suc n) (x ∷ before) after l = rest_same way n before after (omega arith)

order_same :
    (way n : ℕ) (before after : List ℕ)
    → length before ≤ n
    → is_order (suc n) (before ++ way ∷ after) ≡ is_order (suc n) (way ∷ (before ++ after))
unfolding is_order
order_same way n before after l = λ i.
    all_same (λ w. nat_lt w (suc n)) way n before after l i
    && list_all (λ v. any_same (λ w. w == v) way n before after l i) (range_with_len 0 (suc n))

-- ---- where the way stands

-- what passes for each number of a range passes for one in it
in_range :
    (q : ℕ → Bool) (from n v : ℕ)
    → list_all q (range_with_len from n) ≡ true
    → from ≤ v
    → v < from + n
    → q v ≡ true
in_range q from zero v all low high = absurd (omega arith)
in_range q from (suc n) v all low high =
    ⊎_elim
    (λ here. rw (← here) (and_parts _ _ all).0)
    (λ later. in_range q (from + 1) n v (and_parts _ _ all).1 (omega (arith, later)) (omega arith))
    (cases_eq from v)

first_below :
    (q : ℕ → Bool) (n : ℕ) (xs : List ℕ)
    → list_any q (take n xs) ≡ true
    → (position_or_len q xs < n) × (position_or_len q xs < length xs)
first_below q zero xs any = absurd (true≢false (sym any))
first_below q (suc n) [] any = absurd (true≢false (sym any))
first_below q (suc n) (x ∷ xs) any = by (q x) any (first_below q n xs)
  where
    by :
        (b : Bool)
        → (b || list_any q (take n xs)) ≡ true
        → (list_any q (take n xs) ≡ true → (position_or_len q xs < n) × (position_or_len q xs < length xs))
        → (cond (not b) (1 + position_or_len q xs) 0 < suc n) × (cond (not b) (1 + position_or_len q xs) 0 < suc (length xs))
    by true any rest = (omega arith, omega arith)
    by false any rest = let r = rest any in (omega arith, omega arith)

-- an order with the way in it, and with the way in front
record Split (n way : ℕ) (order : List ℕ) : Type 0 where
  pub before : List ℕ
  pub after : List ℕ
  pub within : length before ≤ n
  pub was : order ≡ before ++ way ∷ after
  pub moved : to_front way order ≡ way ∷ (before ++ after)

has_way :
    (ways way : ℕ) (order : List ℕ)
    → way < ways
    → is_order ways order ≡ true
    → list_any (λ w. w == way) (take ways order) ≡ true
unfolding is_order
has_way ways way order l ordered =
    in_range
    (λ v. list_any (λ w. w == v) (take ways order))
    0
    ways
    way
    (and_parts (list_all (λ w. nat_lt w ways) (take ways order)) _ ordered).1
    (omega arith)
    (omega arith)

split : (n way : ℕ) (order : List ℕ) → way < suc n → is_order (suc n) order ≡ true → Split n way order
unfolding to_front
split n way order l ordered =
    let test : ℕ → Bool = λ w. w == way in
    let at = first_below test (suc n) order (has_way (suc n) way order l ordered) in
    let here : get_or order (position_or_len test order) 0 ≡ way = eqb-true _ _ (passes_at_first test order 0 at.1) in
    record {
      before = take (position_or_len test order) order;
      after = drop (position_or_len test order + 1) order;
      within = omega (arith, at.0, length-take (position_or_len test order) order);
      was = split_at_first test order 0 at.1 ∙ rw here refl;
      moved = rw (lt-ltb _ _ at.1) refl;
    }

-- ---- the laws

-- an order stays an order
pub to_front_keeps :
    (ways way : ℕ) (order : List ℕ)
    → way < ways
    → is_order ways order ≡ true
    → is_order ways (to_front way order) ≡ true
to_front_keeps zero way order l ordered = absurd (omega arith)
to_front_keeps (suc n) way order l ordered =
    let s = split n way order l ordered in
    ap (is_order (suc n)) s.moved
    ∙ sym (order_same way n s.before s.after s.within)
    ∙ ap (is_order (suc n)) (sym s.was)
    ∙ ordered

-- the entries past the ways are left alone
pub to_front_rest :
    (ways way : ℕ) (order : List ℕ)
    → way < ways
    → is_order ways order ≡ true
    → drop ways (to_front way order) ≡ drop ways order
to_front_rest zero way order l ordered = absurd (omega arith)
to_front_rest (suc n) way order l ordered =
    let s = split n way order l ordered in
    ap (drop (suc n)) s.moved ∙ sym (rest_same way n s.before s.after s.within) ∙ ap (drop (suc n)) (sym s.was)

-- no entry is lost or added
pub to_front_length : (way : ℕ) (order : List ℕ) → length (to_front way order) ≡ length order
unfolding to_front
to_front_length way order = by (position (λ w. w == way) order) refl
  where
    by :
        (at : Option ℕ)
        → position (λ w. w == way) order ≡ at
        → length (moved_from way order at) ≡ length order
    by None found = refl
    by (Some at) found =
        let here = position-Some (λ w. w == way) order at 0 found in
        omega (arith, here.0, length-append (take at order) (drop (at + 1) order), length-take at order, length-drop (at + 1) order)
