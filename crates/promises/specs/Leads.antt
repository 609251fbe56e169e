-- The live log as operators. `Leads` says that its first n, each carried out on the table that the one before left,
-- lead to a given table and to given bytes behind them.
use Rattle.std.specs.Prelude.{◌≡◌, List, ◌++◌, ℕ, suc, ℤ, length}
use Rattle.script.specs.declared.Operator.{Operator}
use Rattle.script.specs.Operator.{operator_bytes}
use Rattle.layout.specs.declared.shape.Shape.{Shape}
use Rattle.euler.specs.Exec.{refusal_of, links_after, points_after}

-- the first n operators of the bytes q, carried out on the table x, p, lead to the table x₀, p₀, and q₀ are the bytes
-- behind them
pub data Leads (sh : Shape) (x₀ : List ℕ) (p₀ : List ℤ) (q₀ : List ℕ) : ℕ → List ℕ → List ℤ → List ℕ → Type 0 where
  none : {x : List ℕ} {p : List ℤ} {q : List ℕ} → x ≡ x₀ → p ≡ p₀ → q ≡ q₀ → Leads sh x₀ p₀ q₀ 0 x p q
  first : {n : ℕ} {x : List ℕ} {p : List ℤ} {q : List ℕ} (o : Operator) (rest : List ℕ) → q ≡ operator_bytes o ++ rest
      → length o.args ≡ 8 → refusal_of sh x o ≡ 0
      → Leads sh x₀ p₀ q₀ n (links_after sh x o) (points_after sh x p o) rest → Leads sh x₀ p₀ q₀ (suc n) x p q
