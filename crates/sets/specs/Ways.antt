-- The lowest way of a set that passes a test.
use Rattle.std.specs.Prelude.{ℕ, Bool, List, Option, not, ◌&&◌, ◌==◌, position}
use Rattle.std.specs.List.{zip}

-- a hit: the lowest valid way with the tag
unfoldable pub lookup_of : List ℕ → List Bool → ℕ → Option ℕ
lookup_of tags valid tag = position (λ line. line.0 && line.1 == tag) (zip valid tags)

-- the lowest invalid way
unfoldable pub free_of : List Bool → Option ℕ
free_of valid = position not valid
