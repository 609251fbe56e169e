-- Stores as data: a list of cells with their new words. On links it is the stores one after the other, on columns the
-- changes.
use Rattle.std.specs.Prelude.{List, [], ◌∷◌, map, ℕ, get_or}
use Rattle.layout.specs.declared.shape.Shape.{Shape}
use Rattle.layout.specs.Fields.{Field, Columns, records, put, change}

-- word `value` for field `field` of item `item`
pub record Write : Type 0 where
  pub field : Field
  pub item : ℕ
  pub value : ℕ

abbrev pub write : Field → ℕ → ℕ → Write
write F n v = record { field = F; item = n; value = v }

-- record n of kind g is cleared: 0 for each of its fields, as `records` has them
abbrev pub cleared : ℕ → ℕ → List Write
cleared g n = map (λ F. write F n 0) (get_or records g [])

-- on links
abbrev pub writes : Shape → List Write → List ℕ → List ℕ
writes sh [] x = x
writes sh (w ∷ ws) x = writes sh ws (put sh w.field x w.item w.value)

-- on columns
abbrev pub changes : List Write → Columns → Columns
changes [] c = c
changes (w ∷ ws) c = changes ws (change c w.field w.item w.value)
