-- One set more is opened.
use Rattle.std.proofs.Common.{◌≡◌, ℕ, ◌+◌, add-one, refl}
use Rattle.control.specs.Lines.{opened, opened_set}
use Rattle.control.specs.declared.marks.Marks.{Marks}

pub one_more : (m : Marks) (ways n : ℕ) → m ≡ opened ways n → opened_set ways n m ≡ opened ways (n + 1)
unfolding opened
one_more m ways n e = rw (e, add-one n) refl
