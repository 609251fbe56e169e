-- A column as the code hands it on: where its words stand and how many there are.
use Rattle.std.specs.Prelude.{ℕ, List}
use Rattle.laws.specs.Columns.{col}
use Rattle.layout.specs.declared.shape.Shape.{Shape}
use Rattle.layout.specs.declared.column.Column.{Column}
use Rattle.layout.specs.Fields.{Field, group_of, word_of, kind, group_at, cap_of}

-- the column's word of record n
abbrev pub entry_of : Column → List ℕ → ℕ → ℕ
entry_of c = col (kind c.base c.width) c.word

-- the column of a field: its entries are `column sh F`
abbrev pub column_at : Shape → Field → Column
column_at sh F =
    record {
      base = (group_at sh (group_of F)).base;
      width = (group_at sh (group_of F)).width;
      word = word_of F;
      count = cap_of sh F;
    }
