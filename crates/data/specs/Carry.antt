-- A plan carried out: six moves in their order, each the identity where its count is 0.
use Rattle.std.specs.Prelude.{ℕ, List, if◌then◌else◌, nat_lt, drop, slice_index}
use Rattle.std.proofs.Math.Seq.{paste}
use Rattle.ram.specs.Ram.{bytes_of}
use Rattle.control.specs.declared.plan.Plan.{Plan}
use Rattle.data.specs.declared.Places.{Places}

-- RAM and the line bytes after a plan, and the byte that was read
pub record Moved : Type 0 where
  pub ram : List ℕ
  pub lines : List ℕ
  pub value : ℕ

abbrev pub moved : List ℕ → List ℕ → ℕ → Moved
moved ram lines value = record { ram = ram; lines = lines; value = value }

-- value to RAM, then line to RAM
abbrev pub ram_after : Plan → Places → List ℕ → List ℕ → ℕ → List ℕ
ram_after plan at ram lines value =
    paste (paste ram at.addr (bytes_of value) plan.store) plan.back_to (drop at.line lines) plan.back

-- RAM to line, then value into the line
abbrev pub lines_after : Plan → Places → List ℕ → List ℕ → ℕ → List ℕ
lines_after plan at ram lines value =
    paste (paste lines at.line (drop at.base ram) plan.fill) at.cell (bytes_of value) plan.put

-- the line's byte where one is read, else RAM's where one is loaded
abbrev pub value_of : Plan → Places → List ℕ → List ℕ → ℕ
value_of plan at ram lines =
    if nat_lt 0 plan.read then slice_index lines at.cell else
    if nat_lt 0 plan.load then slice_index ram at.addr else 0

unfoldable pub carried : Plan → Places → List ℕ → List ℕ → ℕ → Moved
carried plan at ram lines value =
    let after = ram_after plan at ram lines value in
    let filled = lines_after plan at after lines value in
    moved after filled (value_of plan at after filled)
