-- The inverse that a run logs is small: on a sound table its operands are in the table's range, and it is written in at
-- most 19 bytes.
use Rattle.std.specs.Prelude.{◌≡◌, List, ℕ, ◌≤◌, ◌<◌, ℤ, length}
use Rattle.script.specs.declared.Operator.{Operator}
use Rattle.script.specs.Operator.{operator_bytes}
use Rattle.script.specs.Scripts.{operator_size}
use Rattle.layout.specs.declared.shape.Shape.{Shape}
use Rattle.euler.specs.Exec.{range_refusal, refusal_of, inverse}
use Rattle.sound_tables.specs.Accepted.{accepted}
use Rattle.sound_tables.specs.Good.{Good}
use Rattle.sound_operators.specs.Theorems.{all_hold}
use Rattle.promises.specs.Checked.{good_within}
use Rattle.euler.specs.Inverses.{inverse_eight}
use Rattle.promises.specs.Reading.{in_range_lem, range_writable}
use Rattle.evidence_fuel.specs.Operands.{OperandInRange, operands_in_range}

-- operator i is in range of the table, operand by operand, and takes 2 to 19 bytes
pub record SmallOperator (sh : Shape) (i : Operator) : Type 0 where
  pub range : range_refusal sh i ≡ 0
  pub operands : (n : ℕ) → n < 8 → OperandInRange sh i n
  pub least : 2 ≤ length (operator_bytes i)
  pub most : length (operator_bytes i) ≤ 19

-- an accepted operator is
pub accepted_small : {sh : Shape} {x : List ℕ} {p : List ℤ} → Good sh x p → (o : Operator) → length o.args ≡ 8
    → refusal_of sh x o ≡ 0 → SmallOperator sh o
accepted_small {sh} {x} g o len h =
    let s = operator_size o (range_writable (good_within g) o len (accepted sh x o h)) in
    record { range = (in_range_lem sh x o h).0; operands = operands_in_range g o len h; least = s.0; most = s.1 }

-- and so is its inverse, which the table that it leaves accepts
pub inverse_small : {sh : Shape} {x : List ℕ} {p : List ℤ} → Good sh x p → (o : Operator) → length o.args ≡ 8
    → refusal_of sh x o ≡ 0
    → SmallOperator sh (inverse sh x p o)
inverse_small {sh} {x} {p} g o len h =
    let a = all_hold sh x p o g len h in
    accepted_small a.0 (inverse sh x p o) (inverse_eight sh x p o) a.1.accepted
