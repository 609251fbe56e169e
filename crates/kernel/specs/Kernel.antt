-- What the facade adds to the definitions of the crates below it.
use Rattle.std.specs.Prelude.{◌≡◌, List, ℕ, ◌+◌, ◌*◌, ℤ}
use Rattle.table.specs.declared.count.CountAnswer.{CountAnswer}
use Rattle.table.specs.Count.{count_of}
use Rattle.inversion.specs.Theorem.{count_holes}

-- what is counted keeps the formula, v − e + f = 2 (s − h) + r
abbrev pub KeepsFormula : CountAnswer → Type 0
KeepsFormula c = c.refusal ≡ 0 → c.vertices + c.faces + 2 * c.holes ≡ c.edges + c.rings + 2 * c.solids

-- by the theorem about counting
pub counted_keeps : (x : List ℕ) (p : List ℤ) (c : CountAnswer) → c ≡ count_of x p → KeepsFormula c
counted_keeps x p c e = rw e (count_holes x p)
