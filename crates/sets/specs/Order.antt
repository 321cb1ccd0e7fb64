-- An order of a set's ways, the front one first: its entries past the ways mean nothing.
use Rattle.std.specs.Prelude.{ℕ, ◌+◌, Bool, List, ◌∷◌, ◌++◌, Option, None, Some, ◌&&◌, ◌==◌, nat_lt, position, take, drop, replicate, ◌-◌}
use Rattle.std.specs.List.{list_all, list_any, range_with_len}

abbrev pub moved_from : ℕ → List ℕ → Option ℕ → List ℕ
moved_from way order None = order
moved_from way order (Some at) = way ∷ (take at order ++ drop (at + 1) order)

-- the way in front, and the others as they stood
unfoldable pub to_front : ℕ → List ℕ → List ℕ
to_front way order = moved_from way order (position (λ w. w == way) order)

-- the ways as they count, and zeros past them
unfoldable pub fresh_order : ℕ → List ℕ
fresh_order ways = take ways (range_with_len 0 16) ++ replicate (16 - ways) 0

-- each of the first entries is a way, and each way is one of them
unfoldable pub is_order : ℕ → List ℕ → Bool
is_order ways order =
    list_all (λ w. nat_lt w ways) (take ways order)
    && list_all (λ way. list_any (λ w. w == way) (take ways order)) (range_with_len 0 ways)
