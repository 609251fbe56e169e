-- Job 4 of document 02: redo. Behind b, c and d a log of eight bytes reads 06 04 04 01 02 01 from 2 on; the redo log
-- has thirty bytes where a row does not say another. Undo of d writes d there, that of c writes c in front of it.
use Rattle.std.specs.Prelude.{ℕ, List, [], ◌∷◌, ◌++◌, ℤ, pos, set, replicate}
use Rattle.sessions.specs.Editing.{Editing}
use Rattle.machine.specs.Machine.{Undo, Redo, ToUndo, ToRedo}
use Rattle.evidence_cases.specs.Case.{Step, Row, row, editing, redo_at, redoable, step, clears, checks, runs}
use Rattle.evidence_cases.specs.Case.{undoes, redoes, inverts}
use Rattle.evidence_cases.specs.Tables.{lent, links_empty, links_b, links_c, links_d, points_zero, points_at, log_b}
use Rattle.evidence_cases.specs.Tables.{log_c, log_d, table_b, table_c, table_d, back_c, back_b, undone_with}
use Rattle.evidence_cases.specs.RowsRuns.{script_b, script_c, script_d, scriptCD, scriptBCD, clearing, running_b}
use Rattle.evidence_cases.specs.RowsRuns.{running_c, running_d}
use Rattle.evidence_cases.specs.RowsRefused.{mev_bytes}
use Rattle.evidence_cases.specs.RowsPadded.{padded_d}

-- ---- redo logs

-- n bytes with something in every place
abbrev pub blank : ℕ → List ℕ
blank n = replicate n 221

-- the same of a log
abbrev pub blank_log : ℕ → List ℕ
blank_log n = replicate n 238

-- what undo of d and c leaves; from there on the start says what is live: c and d from 12, d from 22, nothing from 30
abbrev pub redoCD : List ℕ
redoCD = blank 12 ++ scriptCD

-- the same, all three undone: from 4 on
abbrev pub redoBCD : List ℕ
redoBCD = blank 4 ++ scriptBCD

-- what undo of c alone leaves: from 20 on
abbrev pub redo_c : List ℕ
redo_c = blank 20 ++ script_c

-- ---- the steps that lead there

-- cleared; b, c and d run; two undone; then these steps
abbrev pub two_undone : List Step → Row
two_undone ss =
    row lent (clearing ∷ running_b ∷ running_c ∷ running_d ∷ undoes 2 0 2 (redo_at back_b redoCD 12) ∷ ss)

-- ---- there and back

-- undone and done again
abbrev pub redone_rows : List Row
redone_rows =
    -- c and d again, one by one: the table of d and the very log; one more finds the redo log ended; none is no refusal
    two_undone
    (redoes 1 0 1 (redo_at back_c redoCD 22) ∷ redoes 1 0 1 (redo_at table_d redoCD 30)
    ∷ redoes 1 11 0 (redo_at table_d redoCD 30) ∷ redoes 0 0 0 (redo_at table_d redoCD 30)
    ∷ checks 0 0 (redo_at table_d redoCD 30) ∷ [])
    -- one of two undone again: the redo log is written as before
    ∷ two_undone
    (redoes 1 0 1 (redo_at back_c redoCD 22) ∷ undoes 1 0 1 (redo_at back_b redoCD 12)
    ∷ redoes 2 0 2 (redo_at table_d redoCD 30) ∷ [])
    -- all three undone; redo past the end does those that are there
    ∷ two_undone
    (undoes 2 11 1 (redo_at (undone_with log_d) redoBCD 4) ∷ redoes 4 11 3 (redo_at table_d redoBCD 30) ∷ [])
    ∷ []

-- ---- what empties the redo log, and what leaves it; no byte of it changes

-- behind two undone: c with another point, mev 1 0 1 2 0 50000 0 0
abbrev pub other_c : Editing
other_c = editing links_c (points_at (pos 50000)) log_d 4

-- b and c in a log of thirty bytes, enough for the take-down of b, which asks for 19
abbrev pub wide : List ℕ → List ℤ → ℕ → Editing
wide x p i = editing x p (blank_log 26 ++ (4 ∷ 1 ∷ 2 ∷ 1 ∷ [])) i

-- b's table
abbrev pub wide_b : Editing
wide_b = wide links_b points_zero 28

-- taken down by kvsf 1; its inverse, b, is logged over c's 04 01
abbrev pub down_b : Editing
down_b = editing links_empty points_zero (blank_log 20 ++ (script_b ++ (2 ∷ 1 ∷ []))) 20

-- operators done by other calls, and calls that do none
abbrev pub emptied_rows : List Row
emptied_rows =
    -- a run that does an operator: nothing is left to redo
    two_undone
    (runs (mev_bytes 160 141) 0 1 11 (redo_at other_c redoCD 30) ∷ redoes 1 11 0 (redo_at other_c redoCD 30) ∷ [])
    -- also where its second is refused: c, and c again
    ∷ two_undone
    (runs (script_c ++ script_c) 7 1 10 (redo_at back_c redoCD 30) ∷ redoes 1 11 0 (redo_at back_c redoCD 30) ∷ [])
    -- runs that do none: the empty script; b again; a code 0E. Then c and d again
    ∷ two_undone
    (runs [] 0 0 0 (redo_at back_b redoCD 12) ∷ runs script_b 7 0 0 (redo_at back_b redoCD 12)
    ∷ runs (14 ∷ []) 4 0 0 (redo_at back_b redoCD 12) ∷ redoes 2 0 2 (redo_at table_d redoCD 30) ∷ [])
    -- clearing; where it is refused, all stays. Nothing is left to redo, nor to undo
    ∷ two_undone
    (clears 1 2 2 2 3 1 (redo_at back_b redoCD 12) ∷ clears 1 2 2 2 2 0 (redo_at (undone_with log_d) redoCD 30)
    ∷ redoes 1 11 0 (redo_at (undone_with log_d) redoCD 30) ∷ undoes 1 11 0 (redo_at (undone_with log_d) redoCD 30)
    ∷ [])
    -- a take-down that does an operator
    ∷ row (wide links_c (points_at (pos 100)) 26)
    (undoes 1 0 1 (redo_at wide_b redo_c 20) ∷ inverts 0 1 (redo_at down_b redo_c 30)
    ∷ redoes 1 11 0 (redo_at down_b redo_c 30)
    ∷ [])
    -- one of an empty table leaves the redo log, and one that is refused, too few bytes of the log being free
    ∷ row (redo_at down_b redo_c 20) (inverts 0 0 (redo_at down_b redo_c 20) ∷ [])
    ∷ row (redo_at table_b redo_c 20) (inverts 9 0 (redo_at table_b redo_c 20) ∷ [])
    ∷ []

-- ---- room in the redo log: d takes eight bytes, c ten, b eight

-- undo where the redo log is short, or its start near its front
abbrev pub room_rows : List Row
room_rows =
    -- 17 bytes: undone is d alone, and no more; d again
    row (redo_at table_d (blank 17) 17)
    (undoes 2 9 1 (redo_at back_c (blank 9 ++ script_d) 9) ∷ undoes 1 9 0 (redo_at back_c (blank 9 ++ script_d) 9)
    ∷ redoes 1 0 1 (redo_at table_d (blank 9 ++ script_d) 17) ∷ [])
    -- 18 bytes: both; then none
    ∷ row (redo_at table_d (blank 18) 18)
    (undoes 2 0 2 (redo_at back_b scriptCD 0) ∷ undoes 1 9 0 (redo_at back_b scriptCD 0) ∷ [])
    -- 25 bytes: not b; 26 bytes: all
    ∷ row (redo_at table_d (blank 25) 25) (undoes 3 9 2 (redo_at back_b (blank 7 ++ scriptCD) 7) ∷ [])
    ∷ row (redo_at table_d (blank 26) 26) (undoes 3 0 3 (redo_at (undone_with log_d) scriptBCD 0) ∷ [])
    -- no redo log: nothing is undone, and undo 0 is no refusal
    ∷ row (redo_at table_d [] 0) (undoes 1 9 0 (redo_at table_d [] 0) ∷ undoes 0 0 0 (redo_at table_d [] 0) ∷ [])
    -- room is what lies in front of the start: seven bytes, and eight; what is behind them stays
    ∷ row (redo_at table_d (blank 30) 7) (undoes 1 9 0 (redo_at table_d (blank 30) 7) ∷ [])
    ∷ row (redo_at table_d (blank 30) 8) (undoes 1 0 1 (redo_at back_c (script_d ++ blank 22) 0) ∷ [])
    -- nothing left to undo comes before no room
    ∷ row (redo_at (undone_with log_d) [] 0) (undoes 1 11 0 (redo_at (undone_with log_d) [] 0) ∷ [])
    ∷ []

-- ---- refusals

-- b's table, whose redo log starts beyond its end
abbrev pub astray : Editing
astray = redo_at table_b (blank 30) 31

-- b's table, whose log does, with c to redo
abbrev pub lost : Editing
lost = redo_at (editing links_b points_zero log_b 9) redo_c 20

-- b's table, but its solid's word is 7, which breaks rule 1
abbrev pub unsound : Editing
unsound = redo_at (editing (set links_b 5 7) points_zero log_b 6) redo_c 20

-- redo of these bytes on b's table is refused, and nothing changes
abbrev pub unredone : List ℕ → ℕ → Row
unredone s refusal = row (redo_at table_b s 0) (redoes 1 refusal 0 (redo_at table_b s 0) ∷ [])

-- b's table, i bytes free in its log, c and d to redo
abbrev pub tight : ℕ → Editing
tight i = redo_at (editing links_b points_zero log_b i) scriptCD 0

-- starts beyond their logs, a table that is not sound, operators refused, a log that is full
abbrev pub unredone_rows : List Row
unredone_rows =
    -- the redo start beyond its log: undo and redo give 1, also by none; a run or take-down that does nothing leaves
    -- it, a run that does an operator sets it
    row astray
    (undoes 1 1 0 astray ∷ undoes 0 1 0 astray ∷ redoes 1 1 0 astray ∷ redoes 0 1 0 astray ∷ runs [] 0 0 0 astray
    ∷ runs script_b 7 0 0 astray ∷ inverts 9 0 astray ∷ runs script_c 0 1 10 (redo_at table_c (blank 30) 30) ∷ [])
    -- so does a take-down that does one, and clearing
    ∷ row (redo_at wide_b (blank 30) 31) (inverts 0 1 (redo_at down_b (blank 30) 30) ∷ [])
    ∷ row astray (clears 1 2 2 2 2 0 (redo_at (undone_with log_b) (blank 30) 30) ∷ [])
    -- so undo after such a run is accepted: the start that undo meets is what counts (`RedoRoom`)
    ∷ row astray
    (runs script_c 0 1 10 (redo_at table_c (blank 30) 30)
    ∷ undoes 1 0 1 (redo_at (editing links_b points_zero log_c 6) redo_c 20) ∷ [])
    -- the log's start beyond its log
    ∷ row lost (undoes 0 1 0 lost ∷ redoes 0 1 0 lost ∷ runs [] 1 0 0 lost ∷ inverts 1 0 lost ∷ [])
    -- a table that is not sound
    ∷ row unsound
    (step (Undo 1) (ToUndo (record { refusal = 2; rule = 1; undone = 0; start = 6 })) unsound
    ∷ step (Redo 1) (ToRedo (record { refusal = 2; rule = 1; done = 0 })) unsound ∷ [])
    -- redo logs of a stranger: nothing; c cut off; code 0E; kev 5, of four half-edges; kev 1, which is free; b again;
    -- rmov 1 1, of a loop that is no ring
    ∷ unredone [] 11 ∷ unredone (3 ∷ 1 ∷ []) 3 ∷ unredone (14 ∷ []) 4 ∷ unredone (4 ∷ 5 ∷ []) 5
    ∷ unredone (4 ∷ 1 ∷ []) 6 ∷ unredone script_b 7 ∷ unredone (13 ∷ 1 ∷ 1 ∷ []) 8
    -- no room in the log for 04 01: 9; where there is for it but not for 06 04, c stands
    ∷ row (tight 1) (redoes 2 9 0 (tight 1) ∷ [])
    ∷ row (tight 3)
    (redoes 2 9 1
    (redo_at (editing links_c (points_at (pos 100)) (238 ∷ 4 ∷ 1 ∷ 238 ∷ 238 ∷ 238 ∷ 2 ∷ 1 ∷ []) 1) scriptCD 10) ∷ [])
    ∷ []

-- ---- padded numbers

-- behind b, c and d: 06 04 as 86 00 84 80 00, from 1 on
abbrev pub padded_front : Editing
padded_front =
    editing links_d (points_at (pos 100)) (238 ∷ 134 ∷ 0 ∷ 132 ∷ 128 ∷ 0 ∷ 4 ∷ 1 ∷ 2 ∷ 1 ∷ []) 1

-- d undone
abbrev pub padded_undone : Editing
padded_undone =
    editing links_c (points_at (pos 100)) (238 ∷ 134 ∷ 0 ∷ 132 ∷ 128 ∷ 0 ∷ 4 ∷ 1 ∷ 2 ∷ 1 ∷ []) 6

-- and done again: 06 04 from 4 on
abbrev pub short_front : Editing
short_front = editing links_d (points_at (pos 100)) (238 ∷ 134 ∷ 0 ∷ 132 ∷ 6 ∷ 4 ∷ 4 ∷ 1 ∷ 2 ∷ 1 ∷ []) 4

-- logs with padded numbers
abbrev pub padded_redo_rows : List Row
padded_redo_rows =
    -- undone and done again, what was padded is in shortest form, so the log's start does not return
    row padded_front
    (undoes 1 0 1 (redoable padded_undone script_d) ∷ redoes 1 0 1 (redo_at short_front (blank 22 ++ script_d) 30) ∷ [])
    -- a padded redo log: done by it is d, and undone it is in shortest form, behind what is left of the padded one
    ∷ row (redo_at table_c padded_d 0)
    (redoes 1 0 1 (redo_at table_d padded_d 24)
    ∷ undoes 1 0 1
    (redo_at back_c
    (133 ∷ 128 ∷ 0 ∷ 129 ∷ 128 ∷ 0 ∷ 129 ∷ 128 ∷ 0 ∷ 130 ∷ 128 ∷ 0 ∷ 130 ∷ 128 ∷ 0 ∷ 130 ∷ script_d) 16) ∷ [])
    ∷ []

-- all of them
abbrev pub redo_rows : List Row
redo_rows = redone_rows ++ (emptied_rows ++ (room_rows ++ (unredone_rows ++ padded_redo_rows)))
