-- What `with_three` computes step by step is what its definition says: one premise for each call.
use Rattle.std.specs.Prelude.{◌≡◌, ℕ, ◌+◌}
use Rattle.script.specs.declared.Operator.{Operator}
use Rattle.script.specs.Operator.{with_number}
use Rattle.euler_edges.specs.Parts.{with_three}

-- three operands one behind the other
pub three_steps : (o : Operator) (i a b c : ℕ) {o1 o2 o3 : Operator}
    → o1 ≡ with_number o i a → o2 ≡ with_number o1 (i + 1) b → o3 ≡ with_number o2 (i + 2) c → o3 ≡ with_three o i a b c
unfolding with_three
three_steps o i a b c e1 e2 e3 = rw (e3, e2, e1)
