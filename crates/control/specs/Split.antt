-- Which accesses a call makes.
use Rattle.std.specs.Prelude.{ℕ, ◌+◌, ◌-◌, ◌/◌, ◌%◌, ◌^◌, if◌then◌else◌, nat_lt}
use Rattle.control.specs.declared.geometry.Geometry.{Geometry}
use Rattle.control.specs.declared.plan.Access.{Access}
use Rattle.control.specs.declared.plan.Kind.{Kind}
use Rattle.control.specs.declared.plan.Kind.TheVariants.{Fetch, Load, Store}
use Rattle.control.specs.declared.split.Request.{Request}
use Rattle.control.specs.Geometry.{offset_of}

-- a read goes byte by byte; a store too, if fewer bytes than it has are left in the line from its offset on
abbrev pub width_of : Kind → ℕ → ℕ → ℕ
width_of Fetch room width = 1
width_of Load room width = 1
width_of Store room width = if nat_lt room width then 1 else width

unfoldable pub piece_width : Geometry → Request → ℕ
piece_width g r = width_of r.kind (g.line_size - offset_of g r.addr) r.width

unfoldable pub pieces : Geometry → Request → ℕ
pieces g r = r.width / piece_width g r

-- at rising addresses modulo 2^32
unfoldable pub piece_of : Geometry → Request → ℕ → Access
piece_of g r number = record { kind = r.kind; addr = (r.addr + number) % 2 ^ 32; width = piece_width g r }
