-- Parts that stand in more than one edge operator, as the code has them.
use Rattle.std.specs.Prelude.{◌≡◌, ℕ, ◌+◌, ◌<◌, List}
use Rattle.layout.specs.declared.shape.Shape.{Shape}
use Rattle.layout.specs.Layout.{start_of, loop_of, next_of, prev_of}
use Rattle.layout.specs.Mate.{mate}
use Rattle.layout.specs.Fields.{half_kind}
use Rattle.layout.specs.Writes.{cleared, writes}
use Rattle.script.specs.declared.Operator.{Operator}
use Rattle.script.specs.Operator.{with_number}
use Rattle.euler.specs.declared.records.Half.{Half}
use Rattle.euler.specs.Surgery.{renew}

-- h has the four words of half-edge k
pub record IsHalf (sh : Shape) (x : List ℕ) (k : ℕ) (h : Half) : Type 0 where
  pub start : h.start ≡ start_of sh x k
  pub owner : h.owner ≡ loop_of sh x k
  pub next : h.next ≡ next_of sh x k
  pub prev : h.prev ≡ prev_of sh x k
  pub start_small : h.start < 65536
  pub owner_small : h.owner < 65536
  pub next_small : h.next < 65536
  pub prev_small : h.prev < 65536

-- the operator with a, b, c for the operands i, i + 1, i + 2
unfoldable pub with_three : Operator → ℕ → ℕ → ℕ → ℕ → Operator
with_three op i a b c = with_number (with_number (with_number op i a) (i + 1) b) (i + 2) c

-- the loops l and l' on the two sides of k's edge have their firsts anew
unfoldable pub renew_sides : Shape → List ℕ → ℕ → ℕ → ℕ → ℕ → ℕ → List ℕ
renew_sides sh x l low l' low' k = renew sh (renew sh x l low k 0) l' low' (mate k) 0

-- both halves of n's edge cleared
unfoldable pub clear_edge : Shape → List ℕ → ℕ → List ℕ
clear_edge sh x n = writes sh (cleared half_kind (mate n)) (writes sh (cleared half_kind n) x)
