-- What moves, and what lies outside RAM.
use Rattle.std.specs.Prelude.{ℕ, ◌+◌, if◌then◌else◌, Option, None, Some, nat_lt}
use Rattle.ram.specs.Ram.{reach_of}
use Rattle.control.specs.declared.plan.Access.{Access}
use Rattle.control.specs.declared.plan.Kind.{Kind}
use Rattle.control.specs.declared.plan.Kind.TheVariants.{Fetch, Load, Store}
use Rattle.control.specs.declared.plan.Plan.{Plan}

-- nothing moves
abbrev pub still : Plan
still = record { store = 0; back = 0; back_to = 0; fill = 0; put = 0; read = 0; load = 0; refused = None }

-- the first of n bytes from addr on that lies outside RAM
unfoldable pub outside_of : ℕ → ℕ → ℕ → Option ℕ
outside_of ram_len addr n =
    if nat_lt (reach_of ram_len addr n) n then Some (addr + reach_of ram_len addr n) else None

-- of so many bytes those that are stored, and those that are read
abbrev pub stored_of : Kind → ℕ → ℕ
stored_of Fetch width = 0
stored_of Load width = 0
stored_of Store width = width

abbrev pub read_of : Kind → ℕ → ℕ
read_of Fetch width = width
read_of Load width = width
read_of Store width = 0

-- an access on a level that passes everything on: its bytes, as far as RAM reaches
unfoldable pub straight_plan : Access → ℕ → Plan
straight_plan a ram_len =
    record still {
      store = reach_of ram_len a.addr (stored_of a.kind a.width);
      load = reach_of ram_len a.addr (read_of a.kind a.width);
      refused = outside_of ram_len a.addr a.width;
    }
