-- Job 1 of document 02: examples b, c and d as the drawing office sends them, three groups for every number. The same
-- tables and logs, but for the bytes used; what is logged is in fewest groups, in the redo log too, and a padded log is
-- undone.
use Rattle.std.specs.Prelude.{ℕ, List, [], ◌∷◌, ◌++◌, pos}
use Rattle.script.specs.declared.Operator.{Operator}
use Rattle.machine.specs.Machine.{Read, ToRead}
use Rattle.evidence_cases.specs.Case.{Row, row, editing, redoable, step, runs, undoes}
use Rattle.evidence_cases.specs.Tables.{lent, links_b, points_zero, log_d, table_b, table_c, table_d, back_c, back_b}
use Rattle.evidence_cases.specs.Tables.{undone_with}
use Rattle.evidence_cases.specs.RowsRuns.{script_b, script_d, scriptCD, scriptBCD, clearing, running_b}
use Rattle.evidence_cases.specs.RowsRefused.{unread, refused_on_b}

-- ---- the scripts; 0 is 80 80 00, 1 is 81 80 00

-- mvsf 1 1 1 1 0 0 0
abbrev pub padded_b : List ℕ
padded_b =
    129 ∷ 128 ∷ 0 ∷ 129 ∷ 128 ∷ 0 ∷ 129 ∷ 128 ∷ 0 ∷ 129 ∷ 128 ∷ 0 ∷ 129 ∷ 128 ∷ 0 ∷ 128 ∷ 128 ∷ 0 ∷ 128 ∷ 128 ∷ 0
    ∷ 128 ∷ 128 ∷ 0 ∷ []

-- mev 1 0 1 2 0 100 0 0; 100 travels as 200, C8 81 00
abbrev pub padded_c : List ℕ
padded_c =
    131 ∷ 128 ∷ 0 ∷ 129 ∷ 128 ∷ 0 ∷ 128 ∷ 128 ∷ 0 ∷ 129 ∷ 128 ∷ 0 ∷ 130 ∷ 128 ∷ 0 ∷ 128 ∷ 128 ∷ 0 ∷ 200 ∷ 129 ∷ 0
    ∷ 128 ∷ 128 ∷ 0 ∷ 128 ∷ 128 ∷ 0 ∷ []

-- mef 1 1 2 2 2 2 0
abbrev pub padded_d : List ℕ
padded_d =
    133 ∷ 128 ∷ 0 ∷ 129 ∷ 128 ∷ 0 ∷ 129 ∷ 128 ∷ 0 ∷ 130 ∷ 128 ∷ 0 ∷ 130 ∷ 128 ∷ 0 ∷ 130 ∷ 128 ∷ 0 ∷ 130 ∷ 128 ∷ 0
    ∷ 128 ∷ 128 ∷ 0 ∷ []

-- a log of eight bytes with 02 01 padded: 82 80 00 81 00
abbrev pub padded_log : List ℕ
padded_log = 238 ∷ 238 ∷ 238 ∷ 130 ∷ 128 ∷ 0 ∷ 129 ∷ 0 ∷ []

-- kev 1
abbrev pub kev_one : Operator
kev_one = record { code = 4; count = 1; args = pos 1 ∷ pos 0 ∷ pos 0 ∷ pos 0 ∷ pos 0 ∷ pos 0 ∷ pos 0 ∷ pos 0 ∷ [] }

-- ---- the rows

-- all of them
abbrev pub padded_rows : List Row
padded_rows =
    -- b, c and d in one script; undone one by one
    row lent
    (clearing ∷ runs (padded_b ++ (padded_c ++ padded_d)) 0 3 75 table_d
    ∷ undoes 1 0 1 (redoable back_c script_d) ∷ undoes 1 0 1 (redoable back_b scriptCD)
    ∷ undoes 1 0 1 (redoable (undone_with log_d) scriptBCD) ∷ [])
    -- c behind b, then a code cut off within
    ∷ row lent (clearing ∷ running_b ∷ runs (padded_c ++ (133 ∷ 128 ∷ [])) 3 1 27 table_c ∷ [])
    -- a padded log undone; one more finds it ended
    ∷ row (editing links_b points_zero padded_log 3)
    (undoes 1 0 1 (redoable (undone_with padded_log) script_b)
    ∷ undoes 1 11 0 (redoable (undone_with padded_log) script_b)
    ∷ [])
    -- codes 14 and 0; four groups
    ∷ row lent
    (clearing ∷ running_b ∷ refused_on_b (142 ∷ 0 ∷ []) 4 ∷ unread (142 ∷ 0 ∷ []) 4 ∷ refused_on_b (128 ∷ 0 ∷ []) 4
    ∷ unread (128 ∷ 0 ∷ []) 4 ∷ refused_on_b (4 ∷ 129 ∷ 128 ∷ 128 ∷ 0 ∷ []) 3
    ∷ unread (4 ∷ 129 ∷ 128 ∷ 128 ∷ 0 ∷ []) 3 ∷ [])
    -- 04 81 80 00 is kev 1
    ∷ row lent
    (clearing ∷ running_b
    ∷ step (Read (4 ∷ 129 ∷ 128 ∷ 0 ∷ []) 0) (ToRead (record { refusal = 0; next = 4; op = kev_one })) table_b ∷ [])
    ∷ []
