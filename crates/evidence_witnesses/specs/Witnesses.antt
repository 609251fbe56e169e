-- No clause of the operators' conditions but one can be dropped: a witness for each, one list under one theorem, by
-- computation. Dropping a clause lets an unsound table through, but for one: mef's "h1 = h2" in the ways 2 and 3 keeps
-- the inverse of the inverse exact. Of kvsf's "one face" there is no witness, since on a sound table it follows from
-- the other two clauses (`Needless`).
use Rattle.std.specs.Prelude.{refl, List, ◌++◌}
use Rattle.evidence_witnesses.specs.Witness.{Witness, shown, Hold}
use Rattle.evidence_witnesses.specs.RowsEdges.{edge_rows}
use Rattle.evidence_witnesses.specs.RowsFaces.{face_rows}

-- all witnesses
abbrev pub witnesses : List Witness
witnesses = edge_rows ++ face_rows

-- the table is sound, the operator fails in one clause and is refused with 8, and what comes of it is as the witness
-- says
pub witnesses_hold : Hold witnesses
unfolding shown
witnesses_hold = refl
