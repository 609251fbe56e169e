-- The two vertices whose words change, and the words when both have.
use Rattle.std.specs.Prelude.{◌≡◌, List, ℕ, ◌≤◌}
use Rattle.std.proofs.Common.{◌∙◌}
use Rattle.std.proofs.Math.Path.{ap}
use Rattle.script.specs.declared.Operator.{Operator}
use Rattle.layout.specs.declared.shape.Shape.{Shape}
use Rattle.layout.specs.Layout.{start_of, next_of}
use Rattle.euler.specs.declared.records.Two.{Two}
use Rattle.euler.specs.Valence.{one_less, two, leave_of, come_of, less_at}
use Rattle.euler.specs.Valence.{more_at}
use Rattle.euler.specs.Valence.{less_starts, more_starts}

-- ---- two words

-- both are numbers that a word holds
abbrev pub Words : Two → Type 0
Words t = (t.one ≤ 65535) × (t.other ≤ 65535)

pub less_both : (sh : Shape) (x : List ℕ) (t : Two) {y r : List ℕ} → y ≡ one_less sh x t.one → r ≡ one_less sh y t.other
    → r ≡ less_at sh x t
less_both sh x t ey er = rw (er, ey)

-- the vertex between k and the half-edge after it
abbrev pub between : Shape → List ℕ → ℕ → Two
between sh x k = two (start_of sh x (next_of sh x k)) (start_of sh x (next_of sh x k))

-- the two read before: those that o leaves in x, before its steps made y, and those where half-edges come in y
module _ (sh : Shape) (o : Operator) (y : List ℕ) {t : Two} {r : List ℕ} where
  pub less_read : (x : List ℕ) → r ≡ less_at sh y t → t ≡ leave_of sh x o → r ≡ less_starts sh x o y
  unfolding less_starts
  less_read x g e = g ∙ ap (less_at sh y) e

  pub more_read : r ≡ more_at sh y t → t ≡ come_of sh y o → r ≡ more_starts sh o y
  unfolding more_starts
  more_read g e = g ∙ ap (more_at sh y) e
