-- Operands as bytes: numbers one behind the other, none for an unused operand.
use Rattle.std.specs.Prelude.{ℕ, List, [], ◌∷◌, ◌++◌, eqb}
use Rattle.std.specs.Prelude.{Option, Some, None}
use Rattle.laws.specs.Bools.{pick}
use Rattle.numbers.specs.Number.{read_number, groups, on_num}
use Rattle.codec.specs.Operands.{unused}

-- READING
-- what follows numbers that were read, or a refusal
abbrev pub on_numbers {ℓ} : {X : Type ℓ} → Option (List ℕ × ℕ) → (List ℕ → ℕ → X) → X → X
on_numbers (Some (ns, next)) got cut = got ns next
on_numbers None got cut = cut

-- an unused operand is 0 and takes no byte
unfoldable pub read_operand : ℕ → List ℕ → ℕ → Option (ℕ × ℕ)
read_operand kind s at = pick (eqb kind unused) (Some (0, at)) (read_number s at)

-- the operands of these kinds, from `at` on, and the place behind them; none where one is no number
unfoldable pub read_operands : List ℕ → List ℕ → ℕ → Option (List ℕ × ℕ)
read_operands [] s at = Some ([], at)
read_operands (k ∷ ks) s at =
    on_num (read_operand k s at)
    (λ n next. on_numbers (read_operands ks s next) (λ ns end. Some (n ∷ ns, end)) None) None

-- WRITING
unfoldable pub operand_bytes : ℕ → ℕ → List ℕ
operand_bytes kind n = pick (eqb kind unused) [] (groups n)

unfoldable pub operands_bytes : List ℕ → List ℕ → List ℕ
operands_bytes [] ns = []
operands_bytes (k ∷ ks) [] = []
operands_bytes (k ∷ ks) (n ∷ ns) = operand_bytes k n ++ operands_bytes ks ns
