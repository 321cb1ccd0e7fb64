-- A turn of a copy byte by byte lays down one byte more.
use Rattle.std.proofs.Common.{◌≡◌, ℕ, ◌+◌, ◌<◌, List, length, get_or, drop, add-one, arith, length-drop}
use Rattle.std.proofs.Math.ListN.{set}
use Rattle.std.proofs.Math.Seq.{paste, paste-suc, get_or-drop}

pub turn :
    (d₀ d s : List ℕ) (at from i : ℕ)
    → d ≡ paste d₀ at (drop from s) i
    → at + i < length d₀
    → from + i < length s
    → set d (at + i) (get_or s (from + i) 0) ≡ paste d₀ at (drop from s) (i + 1)
turn d₀ d s at from i e h k =
    let l : i < length (drop from s) = simp length-drop (omega arith) in
    rw (e, ← get_or-drop from s i 0, add-one) (paste-suc d₀ at (drop from s) i 0 h l)
