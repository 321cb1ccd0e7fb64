-- RAM as a list of bytes: how far a run of bytes reaches into it, and what a load and a store answer and leave.
use Rattle.std.specs.Prelude.{ℕ, ◌+◌, ◌-◌, ◌/◌, ◌%◌, min, if◌then◌else◌, List, [], ◌∷◌, ◌++◌, codes, decimal, nat_lt, length, slice_index, Result, Ok, Err}
use Rattle.std.proofs.Math.Seq.{paste}
use Rattle.ram.specs.declared.Refusal.{Refusal}
use Rattle.ram.specs.declared.Refusal.TheVariants.{RamTooLong, Outside}
use Rattle.ram.specs.declared.Loaded.{Loaded}
use Rattle.ram.specs.declared.Stored.{Stored}

-- the longest RAM that a call is given
abbrev pub max_ram : ℕ
max_ram = 16777216

-- how many of n bytes from addr on lie inside len bytes
unfoldable pub reach_of : ℕ → ℕ → ℕ → ℕ
reach_of len addr n = min n (len - addr)

-- a value's bytes, the lowest first
abbrev pub bytes_of : ℕ → List ℕ
bytes_of v = v % 256 ∷ v / 256 % 256 ∷ v / 65536 % 256 ∷ v / 16777216 % 256 ∷ []

-- ---- refusals by number and place, and as text

abbrev pub number_of : Refusal → ℕ
number_of RamTooLong = 22
number_of (Outside _) = 23

abbrev pub place_of : Refusal → ℕ
place_of RamTooLong = 0
place_of (Outside addr) = addr

abbrev pub text_of : Refusal → List ℕ
text_of RamTooLong = codes "RAM is longer than 16777216 bytes"
text_of (Outside addr) = codes "address " ++ decimal addr ++ codes " lies outside RAM"

-- ---- a load

abbrev pub refused_load : ℕ → ℕ → Loaded
refused_load number place = record { no = number; place = place; value = 0 }

-- an answer in numbers: 0 and the byte, or the refusal's number and place
abbrev pub loaded_of : Result ℕ Refusal → Loaded
loaded_of (Ok value) = record { no = 0; place = 0; value = value }
loaded_of (Err refusal) = refused_load (number_of refusal) (place_of refusal)

-- 22 where RAM is too long, else the byte, or 23 and its address
unfoldable pub loaded : List ℕ → ℕ → Loaded
loaded ram addr =
    if nat_lt max_ram (length ram) then refused_load 22 0 else
    if nat_lt addr (length ram) then record { no = 0; place = 0; value = slice_index ram addr } else refused_load 23 addr

-- ---- a store

-- an answer in numbers: 0, or the refusal's number and place
abbrev pub stored_of : Result (Unit {0}) Refusal → Stored
stored_of (Ok _) = record { no = 0; place = 0 }
stored_of (Err refusal) = record { no = number_of refusal; place = place_of refusal }

-- what a store answers, and RAM after it
pub record Storing : Type 0 where
  pub answer : Stored
  pub ram : List ℕ

abbrev pub storing : Stored → List ℕ → Storing
storing a r = record { answer = a; ram = r }

-- of n bytes from addr on, `got` lie inside: 23 and the first address outside where that is not all of them
abbrev pub answered : ℕ → ℕ → ℕ → Stored
answered addr n got =
    if nat_lt got n then record { no = 23; place = addr + got } else record { no = 0; place = 0 }

-- 22 where RAM is too long and nothing is touched, else those of the first n of the bytes that lie inside are stored
unfoldable pub stored : List ℕ → ℕ → List ℕ → ℕ → Storing
stored ram addr bytes n =
    if nat_lt max_ram (length ram) then storing (record { no = 22; place = 0 }) ram else
    storing (answered addr n (reach_of (length ram) addr n)) (paste ram addr bytes (reach_of (length ram) addr n))
