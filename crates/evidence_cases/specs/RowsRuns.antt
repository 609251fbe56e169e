-- Examples a to d of document 01: scripts run one after the other from a cleared table, then undone. Undo
-- writes what it undoes into the redo log (document 02, job 4): the inverse of b's inverse is b.
use Rattle.std.specs.Prelude.{ℕ, List, [], ◌∷◌, ◌++◌}
use Rattle.sessions.specs.Editing.{Editing}
use Rattle.evidence_cases.specs.Case.{Step, Row, row, editing, redoable, clears, checks, counting, runs, undoes}
use Rattle.evidence_cases.specs.Tables.{lent, links_empty, links_b, points_zero, log_b, log_c, log_d, empty, table_b}
use Rattle.evidence_cases.specs.Tables.{table_c, table_d, back_c, back_b, undone_with}

-- ---- the scripts

-- mvsf 1 1 1 1 0 0 0
abbrev pub script_b : List ℕ
script_b = 1 ∷ 1 ∷ 1 ∷ 1 ∷ 1 ∷ 0 ∷ 0 ∷ 0 ∷ []

-- mev 1 0 1 2 0 100 0 0
abbrev pub script_c : List ℕ
script_c = 3 ∷ 1 ∷ 0 ∷ 1 ∷ 2 ∷ 0 ∷ 200 ∷ 1 ∷ 0 ∷ 0 ∷ []

-- mef 1 1 2 2 2 2 0
abbrev pub script_d : List ℕ
script_d = 5 ∷ 1 ∷ 1 ∷ 2 ∷ 2 ∷ 2 ∷ 2 ∷ 0 ∷ []

-- b and c
abbrev pub scriptBC : List ℕ
scriptBC = script_b ++ script_c

-- c and d
abbrev pub scriptCD : List ℕ
scriptCD = script_c ++ script_d

-- b, c and d
abbrev pub scriptBCD : List ℕ
scriptBCD = script_b ++ scriptCD

-- ---- the steps that lead to the tables

abbrev pub clearing : Step
clearing = clears 1 2 2 2 2 0 empty

abbrev pub running_b : Step
running_b = runs script_b 0 1 8 table_b

abbrev pub running_c : Step
running_c = runs script_c 0 1 10 table_c

abbrev pub running_d : Step
running_d = runs script_d 0 1 8 table_d

-- ---- room in the log

-- the empty table with a log of two bytes, which the inverse of mvsf just fills
abbrev pub narrow : Editing
narrow = editing links_empty points_zero (238 ∷ 238 ∷ []) 2

-- and with no log at all
abbrev pub logless : Editing
logless = editing links_empty points_zero [] 0

-- ---- the rows

abbrev pub run_rows : List Row
run_rows =
    -- a: the empty script; undo 0
    row lent (clearing ∷ runs [] 0 0 0 empty ∷ undoes 0 0 0 empty ∷ [])
    -- b; undo 0; all undone
    ∷ row lent (clearing ∷ running_b ∷ undoes 0 0 0 table_b ∷ undoes 1 0 1 (redoable (undone_with log_b) script_b) ∷ [])
    -- c; all undone
    ∷ row lent (clearing ∷ running_b ∷ running_c ∷ undoes 2 0 2 (redoable (undone_with log_c) scriptBC) ∷ [])
    -- d; all undone
    ∷ row lent (clearing ∷ running_b ∷ running_c ∷ running_d ∷ undoes 3 0 3 (redoable (undone_with log_d) scriptBCD)
    ∷ [])
    -- the same, with calls between that write nothing: each table checked and counted
    ∷ row lent
    (clearing ∷ checks 0 0 empty ∷ running_b ∷ checks 0 0 table_b ∷ counting 1 1 1 0 1 0 0 table_b
    ∷ running_c ∷ checks 0 0 table_c ∷ counting 1 1 1 1 2 0 0 table_c
    ∷ running_d ∷ checks 0 0 table_d ∷ counting 1 2 2 2 2 0 0 table_d
    ∷ undoes 3 0 3 (redoable (undone_with log_d) scriptBCD) ∷ [])
    -- d, undone one by one; one more finds the log ended
    ∷ row lent
    (clearing ∷ running_b ∷ running_c ∷ running_d
    ∷ undoes 1 0 1 (redoable back_c script_d) ∷ undoes 1 0 1 (redoable back_b scriptCD)
    ∷ undoes 1 0 1 (redoable (undone_with log_d) scriptBCD) ∷ undoes 1 11 0 (redoable (undone_with log_d) scriptBCD)
    ∷ [])
    -- b, c and d as one script; all undone
    ∷ row lent (clearing ∷ runs scriptBCD 0 3 26 table_d ∷ undoes 3 0 3 (redoable (undone_with log_d) scriptBCD) ∷ [])
    -- b where its inverse just fits, and where there is no log
    ∷ row narrow (runs script_b 0 1 8 (editing links_b points_zero (2 ∷ 1 ∷ []) 0) ∷ [])
    ∷ row logless (runs script_b 9 0 0 logless ∷ [])
    ∷ []
