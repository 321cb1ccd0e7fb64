-- The bytes that an access moves lie inside RAM and inside the line.
use Rattle.std.proofs.Common.{◌≡◌, ℕ, ◌+◌, ◌<◌, ◌≤◌, Option, None, Some, ◌⊎◌, inl, inr, refl, arith}
use Rattle.std.proofs.lemmas.Bool.{cond_both}
use Rattle.ram.specs.Ram.{reach_of}
use Rattle.sets.specs.declared.set.CacheSet.{CacheSet}
use Rattle.control.specs.declared.allocate.Evicted.{Evicted}
use Rattle.control.specs.declared.geometry.Geometry.{Geometry}
use Rattle.control.specs.declared.mark.Mark.{Mark}
use Rattle.control.specs.declared.plan.Access.{Access}
use Rattle.control.specs.declared.plan.Kind.{Kind}
use Rattle.control.specs.declared.plan.Kind.TheVariants.{Fetch, Load, Store}
use Rattle.control.specs.declared.plan.Plan.{Plan}
use Rattle.control.specs.Geometry.{base_of, offset_of, set_of, line_base}
use Rattle.control.specs.Plan.{still, outside_of, stored_of, read_of}
use Rattle.control.specs.Access.{Marks, through, refused_store, hit_step, past_step, written_back, writes_back, evicted_of, or_else, filled_or, alloc_step, accessed}
use Rattle.control.proofs.AccessCases.{by_cases}
use Rattle.control.proofs.Reach.{reach_le}

-- what moves of RAM lies inside it, at most a line goes back, a fill is a whole line, and of the line no more moves than the access asks for
pub record Inside (g : Geometry) (a : Access) (ram_len : ℕ) (plan : Plan) : Type 0 where
  pub store : 0 < plan.store → a.addr + plan.store ≤ ram_len
  pub back : 0 < plan.back → plan.back_to + plan.back ≤ ram_len
  pub short : plan.back ≤ g.line_size
  pub fill : 0 < plan.fill → base_of g a.addr + plan.fill ≤ ram_len
  pub whole : (plan.fill ≡ 0) ⊎ (plan.fill ≡ g.line_size)
  pub put : plan.put ≤ a.width
  pub read : plan.read ≤ a.width

-- ---- RAM

reach_inside : (len addr n : ℕ) → 0 < reach_of len addr n → addr + reach_of len addr n ≤ len
unfolding reach_of
reach_inside len addr n some = omega arith

-- where no byte lies outside RAM, all of them lie inside
all_inside : (len addr n : ℕ) → outside_of len addr n ≡ None → 0 < n → addr + n ≤ len
unfolding outside_of reach_of
all_inside len addr n none some = grind (arith, none)

-- ---- the line

stored_le : (kind : Kind) (width : ℕ) → stored_of kind width ≤ width
stored_le Fetch width = omega arith
stored_le Load width = omega arith
stored_le Store width = omega arith

read_le : (kind : Kind) (width : ℕ) → read_of kind width ≤ width
read_le Fetch width = omega arith
read_le Load width = omega arith
read_le Store width = omega arith

-- ---- each step

stored_inside :
    (g : Geometry) (a : Access) (ram_len store put read : ℕ) (refused : Option ℕ)
    → (0 < store → a.addr + store ≤ ram_len)
    → put ≤ a.width
    → read ≤ a.width
    → Inside g a ram_len (record still { store = store; put = put; read = read; refused = refused })
stored_inside g a ram_len store put read refused inside put_le read_le =
    record {
      store = inside;
      back = λ some. absurd (omega arith);
      short = omega arith;
      fill = λ some. absurd (omega arith);
      whole = inl refl;
      put = put_le;
      read = read_le;
    }

hit_inside :
    (g : Geometry) (a : Access) (ram_len way : ℕ) (mark : Mark) (set : CacheSet)
    → outside_of ram_len a.addr (through g a) ≡ None
    → Inside g a ram_len (hit_step g a way mark set).plan
unfolding hit_step
hit_inside g a ram_len way mark set free =
    stored_inside g a ram_len _ _ _ None (all_inside ram_len a.addr (through g a) free) (stored_le a.kind a.width) (read_le a.kind a.width)

refused_inside :
    (g : Geometry) (a : Access) (ram_len place : ℕ) (mark : Mark) (set : CacheSet)
    → Inside g a ram_len (refused_store a ram_len place mark set).plan
unfolding refused_store
refused_inside g a ram_len place mark set =
    stored_inside g a ram_len _ 0 0 (Some place) (reach_inside ram_len a.addr a.width) (omega arith) (omega arith)

past_inside :
    (g : Geometry) (a : Access) (ram_len : ℕ) (mark : Mark) (set : CacheSet)
    → Inside g a ram_len (past_step g a ram_len mark set).plan
unfolding past_step
past_inside g a ram_len mark set =
    stored_inside g a ram_len _ 0 0 _ (reach_inside ram_len a.addr a.width) (omega arith) (omega arith)

-- what a victim sends to RAM lies inside it, and is no longer than a line
abbrev BackInside : Geometry → ℕ → Evicted → Type 0
BackInside g ram_len e = (0 < e.back → e.back_to + e.back ≤ ram_len) × (e.back ≤ g.line_size)

evicted_inside :
    (g : Geometry) (kind : Kind) (mark : Mark) (set ram_len : ℕ)
    → BackInside g ram_len (evicted_of g kind mark set ram_len)
unfolding evicted_of written_back
evicted_inside g kind mark set ram_len =
    cond_both (writes_back kind mark) _ _
    (BackInside g ram_len)
    (λ _. (reach_inside ram_len (line_base g mark.tag set) g.line_size, reach_le ram_len (line_base g mark.tag set) g.line_size))
    (λ _. (λ some. absurd (omega arith), omega arith))

neither : (x y : Option ℕ) → or_else x y ≡ None → y ≡ None
neither None y e = e
neither (Some place) y e = cc

alloc_inside :
    (g : Geometry) (a : Access) (ram_len way : ℕ) (mark : Mark) (set : CacheSet)
    → outside_of ram_len a.addr (through g a) ≡ None
    → Inside g a ram_len (alloc_step g a ram_len way mark set).plan
unfolding alloc_step
alloc_inside g a ram_len way mark set free = by _ refl
  where
    e : Evicted
    e = evicted_of g a.kind mark (set_of g a.addr) ram_len

    back : BackInside g ram_len e
    back = evicted_inside g a.kind mark (set_of g a.addr) ram_len

    by :
        (o : Option ℕ)
        → or_else e.refused (outside_of ram_len (base_of g a.addr) g.line_size) ≡ o
        → Inside g a ram_len (filled_or o g a way mark set e).plan
    by (Some place) _ =
        record {
          store = all_inside ram_len a.addr (through g a) free;
          back = back.0;
          short = back.1;
          fill = λ some. absurd (omega arith);
          whole = inl refl;
          put = omega arith;
          read = omega arith;
        }
    by None none =
        record {
          store = all_inside ram_len a.addr (through g a) free;
          back = back.0;
          short = back.1;
          fill = all_inside ram_len (base_of g a.addr) g.line_size (neither e.refused _ none);
          whole = inr refl;
          put = stored_le a.kind a.width;
          read = read_le a.kind a.width;
        }

-- ---- one access

-- all that an access moves lies inside
pub plan_inside :
    (g : Geometry) (a : Access) (ram_len : ℕ) (set : CacheSet) (m : Marks)
    → Inside g a ram_len (accessed g a ram_len set m).step.plan
plan_inside g a ram_len set m =
    by_cases (λ r. Inside g a ram_len r.step.plan) g a ram_len set m
    (λ place. refused_inside g a ram_len place _ set)
    (λ way free _. hit_inside g a ram_len way _ set free)
    (past_inside g a ram_len _ set)
    (λ free. alloc_inside g a ram_len _ _ _ free)

-- the bytes stored at the address lie inside RAM
pub store_inside :
    (g : Geometry) (a : Access) (ram_len : ℕ) (set : CacheSet) (m : Marks)
    → 0 < (accessed g a ram_len set m).step.plan.store
    → a.addr + (accessed g a ram_len set m).step.plan.store ≤ ram_len
store_inside g a ram_len set m = (plan_inside g a ram_len set m).store

-- the bytes written back lie inside RAM
pub back_inside :
    (g : Geometry) (a : Access) (ram_len : ℕ) (set : CacheSet) (m : Marks)
    → 0 < (accessed g a ram_len set m).step.plan.back
    → (accessed g a ram_len set m).step.plan.back_to + (accessed g a ram_len set m).step.plan.back ≤ ram_len
back_inside g a ram_len set m = (plan_inside g a ram_len set m).back

-- no more than a line is written back
pub back_short :
    (g : Geometry) (a : Access) (ram_len : ℕ) (set : CacheSet) (m : Marks)
    → (accessed g a ram_len set m).step.plan.back ≤ g.line_size
back_short g a ram_len set m = (plan_inside g a ram_len set m).short

-- the bytes that fill a line come from inside RAM
pub fill_inside :
    (g : Geometry) (a : Access) (ram_len : ℕ) (set : CacheSet) (m : Marks)
    → 0 < (accessed g a ram_len set m).step.plan.fill
    → base_of g a.addr + (accessed g a ram_len set m).step.plan.fill ≤ ram_len
fill_inside g a ram_len set m = (plan_inside g a ram_len set m).fill

-- a line is filled whole or not at all
pub fill_whole :
    (g : Geometry) (a : Access) (ram_len : ℕ) (set : CacheSet) (m : Marks)
    → ((accessed g a ram_len set m).step.plan.fill ≡ 0) ⊎ ((accessed g a ram_len set m).step.plan.fill ≡ g.line_size)
fill_whole g a ram_len set m = (plan_inside g a ram_len set m).whole

-- the bytes put into the line lie inside it, where the access does
pub put_inside :
    (g : Geometry) (a : Access) (ram_len : ℕ) (set : CacheSet) (m : Marks)
    → offset_of g a.addr + a.width ≤ g.line_size
    → offset_of g a.addr + (accessed g a ram_len set m).step.plan.put ≤ g.line_size
put_inside g a ram_len set m one = omega (arith, (plan_inside g a ram_len set m).put)

-- the bytes read from the line lie inside it, where the access does
pub read_inside :
    (g : Geometry) (a : Access) (ram_len : ℕ) (set : CacheSet) (m : Marks)
    → offset_of g a.addr + a.width ≤ g.line_size
    → offset_of g a.addr + (accessed g a ram_len set m).step.plan.read ≤ g.line_size
read_inside g a ram_len set m one = omega (arith, (plan_inside g a ram_len set m).read)
