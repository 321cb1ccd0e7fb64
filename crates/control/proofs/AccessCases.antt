-- The four things that an access can be.
use Rattle.std.proofs.Common.{◌≡◌, ℕ, Option, None, Some, refl}
use Rattle.std.proofs.lemmas.Bool.{cond_both}
use Rattle.sets.specs.declared.set.CacheSet.{CacheSet}
use Rattle.sets.specs.Ways.{lookup_of}
use Rattle.sets.specs.Victim.{victim_of}
use Rattle.control.specs.declared.geometry.Geometry.{Geometry}
use Rattle.control.specs.declared.plan.Access.{Access}
use Rattle.control.specs.Geometry.{tag_of}
use Rattle.control.specs.Plan.{outside_of}
use Rattle.control.specs.Access.{Marks, Stepped, stepped, mark_of, through, allocates, refused_store, hit_step, past_step, after_choice, looked_up, after_store, accessed}

-- what holds of a store that RAM refuses, of a hit, and of a miss that goes past the level or brings the line in, holds of an access
pub by_cases :
    (P : Stepped → Type 0) (g : Geometry) (a : Access) (ram_len : ℕ) (set : CacheSet) (m : Marks)
    → ((place : ℕ) → P (stepped (refused_store a ram_len place (mark_of m m.bits 0) set) m.bits))
    → ((way : ℕ)
    → outside_of ram_len a.addr (through g a) ≡ None
    → lookup_of m.tags m.valid (tag_of g a.addr) ≡ Some way
    → P (stepped (hit_step g a way (mark_of m m.bits way) set) m.bits))
    → P (stepped (past_step g a ram_len (mark_of m m.bits 0) set) m.bits)
    → (outside_of ram_len a.addr (through g a) ≡ None
    → P (after_choice g a ram_len m (victim_of set g.replacement m.valid m.freq m.bits)))
    → P (accessed g a ram_len set m)
unfolding accessed
by_cases P g a ram_len set m refused hit past alloc = asked _ refl
  where
    found :
        (o : Option ℕ)
        → outside_of ram_len a.addr (through g a) ≡ None
        → lookup_of m.tags m.valid (tag_of g a.addr) ≡ o
        → P (looked_up o g a ram_len set m)
    found (Some way) free here = hit way free here
    found None free here = cond_both (allocates g.write_alloc a.kind) _ _ P (λ _. alloc free) (λ _. past)

    asked : (o : Option ℕ) → outside_of ram_len a.addr (through g a) ≡ o → P (after_store o g a ram_len set m)
    asked (Some place) free = refused place
    asked None free = found _ free refl
