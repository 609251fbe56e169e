-- A face of n corners in all its loops: its sweep adds n vertices, 2n edges, n faces and n loops and leaves s, r and h.
use Rattle.std.specs.Prelude.{◌≡◌, ℕ, ◌+◌, ◌*◌}
use Rattle.table.specs.declared.count.CountAnswer.{CountAnswer}

-- the counts b are those of a with n corners swept
pub record CountsGrown (a b : CountAnswer) (n : ℕ) : Type 0 where
  pub solids : b.solids ≡ a.solids
  pub faces : b.faces ≡ a.faces + n
  pub loops : b.loops ≡ a.loops + n
  pub edges : b.edges ≡ a.edges + 2 * n
  pub vertices : b.vertices ≡ a.vertices + n
  pub rings : b.rings ≡ a.rings
  pub holes : b.holes ≡ a.holes
