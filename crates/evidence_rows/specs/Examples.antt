-- The checked examples, one list under one theorem: the thirteen operators on small tables, every word of what they
-- leave, each accepted one also undone.
use Rattle.std.specs.Prelude.{refl, List, ◌++◌}
use Rattle.evidence_rows.specs.Row.{Row, leaves, Hold}
use Rattle.evidence_rows.specs.RowsDocument.{document_rows}
use Rattle.evidence_rows.specs.RowsSolids.{solids_rows}
use Rattle.evidence_rows.specs.RowsSpurs.{spurs_rows}
use Rattle.evidence_rows.specs.RowsCuts.{cuts_rows}
use Rattle.evidence_rows.specs.RowsBridges.{bridges_rows}
use Rattle.evidence_rows.specs.RowsRingfaces.{ringfaces_rows}
use Rattle.evidence_rows.specs.RowsSplits.{splits_rows}
use Rattle.evidence_rows.specs.RowsRings.{rings_rows}

-- all rows
abbrev pub rows : List Row
rows = document_rows
    ++ (solids_rows ++ (spurs_rows ++ (cuts_rows ++ (bridges_rows ++ (ringfaces_rows ++ (splits_rows ++ rings_rows))))))

-- what the definition leaves, row for row and both ways, is what the rows say
pub rows_hold : Hold rows
unfolding leaves
rows_hold = refl
