-- The half of an edge by an even way, and an operand as the number of an item.
use Rattle.std.specs.Prelude.{◌≡◌, ℕ, ◌-◌, ◌*◌, ◌%◌, ◌<◌, ◌≤◌}
use Rattle.std.proofs.Common.{eq-eqb, le-leb}
use Rattle.std.proofs.lemmas.Bool.{lt-leb}
use Rattle.bounds.specs.Bounds.{most_halves}
use Rattle.script.specs.declared.Operator.{Operator}
use Rattle.script.specs.Operator.{operand_of}
use Rattle.euler.specs.Surgery.{half_by, item_of}

pub half_even : (e w : ℕ) → w % 2 ≡ 0 → 2 * e - 1 ≡ half_by e w
half_even e w h = rw (eq-eqb (w % 2) 0 h)

-- in range, and past 8,192
pub item_number : (o : Operator) (i n : ℕ) → n ≡ operand_of o i → n ≤ most_halves → n ≡ item_of o i
item_number o i n e h = rw (← e, le-leb n most_halves h)

pub item_none : (o : Operator) (i n : ℕ) → n ≡ operand_of o i → most_halves < n → 0 ≡ item_of o i
item_none o i n e h = rw (← e, lt-leb n most_halves h)
