-- Checking a table: refusal 1 for a wrong capacity or length, 2 with the lowest broken rule, 0 for a sound table.
use Rattle.std.specs.Prelude.{ℕ, List, eqb, ℤ}
use Rattle.laws.specs.Bools.{pick}
use Rattle.layout.specs.Layout.{shape_of}
use Rattle.table.specs.declared.check.CheckAnswer.{CheckAnswer}
use Rattle.check_items.specs.Rules.{broken_rule}
use Rattle.table.specs.Sizes.{table_fits}

abbrev pub answer : ℕ → ℕ → CheckAnswer
answer refusal rule = record { refusal = refusal; rule = rule }

-- 0 is no broken rule
abbrev pub ruled : ℕ → CheckAnswer
ruled n = pick (eqb n 0) (answer 0 0) (answer 2 n)

-- the answer of the check
unfoldable pub check_of : List ℕ → List ℤ → CheckAnswer
check_of x p = pick (table_fits x p) (ruled (broken_rule (shape_of x) x p)) (answer 1 0)
