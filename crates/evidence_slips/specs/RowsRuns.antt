-- Slips in running, undoing and the calls that are lent a session.
use Rattle.std.specs.Prelude.{ℕ, List, [], ◌∷◌, ◌++◌, length, replicate}
use Rattle.layout.specs.Layout.{shape_of}
use Rattle.euler.specs.Surgery.{operator}
use Rattle.euler.specs.Exec.{admit_of}
use Rattle.runs.specs.Run.{State, state, Leaves, Ran, run_refusal, run_from, run_of}
use Rattle.runs.specs.Move.{Moved, moved_by, part_of, move_of}
use Rattle.sessions.specs.declared.Session.{Session}
use Rattle.sessions.specs.declared.Left.{Left}
use Rattle.sessions.specs.declared.UndoAnswer.{UndoAnswer}
use Rattle.sessions.specs.Session.{undone_session}
use Rattle.sessions.specs.Editing.{Editing, log_state, redo_state, clear_in, undo_in, invert_in}
use Rattle.evidence_cases.specs.Case.{redo_at}
use Rattle.evidence_cases.specs.Tables.{links_empty, links_b, points_zero, log_b, empty, table_b}
use Rattle.evidence_cases.specs.RowsRuns.{script_b, script_c, scriptBC}
use Rattle.evidence_slips.specs.Slip.{Slip, row}

-- ---- states

-- the empty table, and b's, with their logs
abbrev state_empty : State
state_empty = log_state empty

abbrev state_b : State
state_b = log_state table_b

-- b's table with no log
abbrev logless_b : State
logless_b = state links_b points_zero [] 0

-- b's table with a redo log of eight bytes, nothing in it: what is undone goes there
abbrev undoing_b : State
undoing_b = state links_b points_zero (replicate 8 221) 8

-- b's table, with something to redo from 12 on
abbrev redoable : Editing
redoable = redo_at table_b (replicate 30 221) 12

-- ---- what is asked

-- a run's refusal, operators done, bytes used, start
abbrev ran_to : Ran → List ℕ
ran_to r = r.answer.refusal ∷ r.answer.done ∷ r.answer.used ∷ r.answer.start ∷ []

-- a move's refusal, operators done, and both starts
abbrev moved_to : Moved → List ℕ
moved_to m = m.answer.refusal ∷ m.answer.done ∷ m.answer.from ∷ m.answer.to ∷ []

-- undo's refusal, operators undone, start
abbrev undone_to : Leaves (Left UndoAnswer) → List ℕ
undone_to u = u.answer.answer.refusal ∷ u.answer.answer.undone ∷ u.answer.answer.start ∷ []

-- a session's two starts
abbrev starts_of : Session → List ℕ
starts_of s = s.log ∷ s.redo ∷ []

-- ---- the rows

abbrev pub run_rows : List Slip
run_rows =
    -- a refused operator is passed over: after kvsf 1, which is refused on the empty table, b would be run
    row (ran_to (run_of state_empty (2 ∷ 1 ∷ script_b)))
    (ran_to (run_from 9 (shape_of links_empty) (2 ∷ 1 ∷ script_b) 2 0 state_empty))
    -- a run stops at an operator that is accepted: b would not be done
    ∷ row (ran_to (run_of state_empty script_b)) (0 ∷ 0 ∷ 0 ∷ 8 ∷ [])
    -- the start stays, so that each inverse is written over the one before: b and c
    ∷ row ((run_of state_empty scriptBC).answer.start ∷ (run_of state_empty scriptBC).log)
    (8 ∷ replicate 6 238 ++ (4 ∷ 1 ∷ []))
    -- one operator counted before the first is done
    ∷ row (ran_to (run_of state_empty script_b)) (ran_to (run_from 8 (shape_of links_empty) script_b 0 1 state_empty))
    -- the bytes from the refused operator on count as used: c, then b again
    ∷ row (ran_to (run_of state_b (script_c ++ script_b))) (7 ∷ 1 ∷ length (script_c ++ script_b) ∷ 4 ∷ [])
    -- 9 before 7: b again, where its inverse would not fit
    ∷ row (run_refusal (shape_of links_b) logless_b script_b 0 ∷ []) (9 ∷ [])
    -- 6 before 5: kemr 1 5 on b, where half-edge 1 is free and loop 5 out of range
    ∷ row (run_refusal (shape_of links_b) state_b (7 ∷ 1 ∷ 5 ∷ []) 0 ∷ [])
    (admit_of (shape_of links_b) links_b (operator 7 (1 ∷ 5 ∷ [])) ∷ [])
    -- a start beyond the source let in: from 9 on in a log of eight bytes nothing would be left to undo, 11
    ∷ row (moved_to (move_of log_b 9 undoing_b 1)) (moved_to (moved_by 1 (part_of undoing_b log_b 9 1)))
    ∷ []

abbrev pub session_rows : List Slip
session_rows =
    -- a refused take-down reported done: b's log has six bytes free, and 19 are asked for
    row ((invert_in table_b).answer.answer.refusal ∷ []) (0 ∷ [])
    -- a refused clearing empties both logs: five capacities that do not fit
    ∷ row (starts_of (clear_in redoable 1 2 2 2 3).answer.session) (8 ∷ 30 ∷ [])
    -- undo reads the log from its front, not from its start
    ∷ row (undone_to (undo_in table_b 1)) (undone_to (undone_session (move_of log_b 0 (redo_state table_b) 1)))
    ∷ []
