-- Example e of document 01: after b mef and kfmrh are run, the table is counted and taken down. With two loops none is
-- free, and none is called for (document 02, job 6; kfmrh freed face 2): as with three it goes down to nothing, by
-- mfkrh 2 2 0, kef 2, kvsf 1, and the script logged builds it again.
use Rattle.std.specs.Prelude.{ℕ, ◌+◌, List, [], ◌∷◌, ◌++◌, pos, replicate}
use Rattle.sessions.specs.Editing.{Editing}
use Rattle.evidence_cases.specs.Case.{Step, Row, row, lending, editing, redoable, clears, checks, counting, runs}
use Rattle.evidence_cases.specs.Case.{undoes, inverts}
use Rattle.evidence_cases.specs.Tables.{links_empty, links_b, links_e, links_empty3, links_b3, links_e3}
use Rattle.evidence_cases.specs.Tables.{points_zero, log_e}
use Rattle.evidence_cases.specs.RowsRuns.{script_b}

-- ---- the scripts

-- mef 1 0 0 1 2 2 0, kfmrh 1 2
abbrev pub script_e : List ℕ
script_e = 5 ∷ 1 ∷ 0 ∷ 0 ∷ 1 ∷ 2 ∷ 2 ∷ 0 ∷ 9 ∷ 1 ∷ 2 ∷ []

-- mfkrh 2 2 0, kef 2, kvsf 1 (what b and e log reads the same)
abbrev pub script_down : List ℕ
script_down = 10 ∷ 2 ∷ 2 ∷ 0 ∷ 6 ∷ 2 ∷ 2 ∷ 1 ∷ []

-- the inverses of kvsf 1, kef 2, mfkrh 2 2 0: mvsf 1 1 1 1 0 0 0, mef 1 0 0 1 2 2 0, kfmrh 1 2
abbrev pub script_up : List ℕ
script_up = 1 ∷ 1 ∷ 1 ∷ 1 ∷ 1 ∷ 0 ∷ 0 ∷ 0 ∷ 5 ∷ 1 ∷ 0 ∷ 0 ∷ 1 ∷ 2 ∷ 2 ∷ 0 ∷ 9 ∷ 1 ∷ 2 ∷ []

-- ---- tables with their logs, of n bytes more than b and e fill

-- memory as it is lent, m words, with something in every place
abbrev pub lent_with : ℕ → ℕ → Editing
lent_with m n = lending (replicate m 7) (replicate 6 (pos 7)) (replicate (n + 8) 238) 3 (replicate 30 221) 4

-- cleared; after b; after e: links x, and what is logged at the end
abbrev pub cleared_with : List ℕ → ℕ → Editing
cleared_with x n = editing x points_zero (replicate (n + 8) 238) (n + 8)

abbrev pub after_b : List ℕ → ℕ → Editing
after_b x n = editing x points_zero (replicate (n + 6) 238 ++ (2 ∷ 1 ∷ [])) (n + 6)

abbrev pub after_e : List ℕ → ℕ → Editing
after_e x n = editing x points_zero (replicate n 238 ++ log_e) n

-- all undone: no byte of the log has changed
abbrev pub undone_e : List ℕ → ℕ → Editing
undone_e x n = editing x points_zero (replicate n 238 ++ log_e) (n + 8)

-- links x with the log that the take-down leaves where 114 bytes are free; the live part begins at i
abbrev pub down_at : List ℕ → ℕ → Editing
down_at x i = editing x points_zero (replicate 95 238 ++ (script_up ++ log_e)) i

-- ---- the steps that lead to them

-- l loops: cleared, b, then e, its table checked and counted: v 1, e 1, f 1, r 1, s 1, h 1; the links are x, y and z
abbrev pub making : ℕ → List ℕ → List ℕ → List ℕ → ℕ → List Step
making l x y z n =
    clears 1 2 l 2 2 0 (cleared_with x n) ∷ runs script_b 0 1 8 (after_b y n) ∷ runs script_e 0 2 11 (after_e z n)
    ∷ checks 0 0 (after_e z n) ∷ counting 1 1 2 1 1 1 1 (after_e z n) ∷ []

-- with two loops, then these steps
abbrev pub making2 : ℕ → List Step → Row
making2 n ss = row (lent_with 34 n) (making 2 links_empty links_b links_e n ++ ss)

-- with three loops, then these steps
abbrev pub making3 : ℕ → List Step → Row
making3 n ss = row (lent_with 37 n) (making 3 links_empty3 links_b3 links_e3 n ++ ss)

-- ---- the rows: 114 bytes are asked for, 19 × (v + 2f + 2r + 3h − 2s)

abbrev pub takedown_rows : List Row
takedown_rows =
    -- two loops, 114 bytes free: down to nothing; cleared, and built again by what was logged
    making2 114
    (inverts 0 3 (down_at links_empty 95) ∷ clears 1 2 2 2 2 0 (down_at links_empty 122)
    ∷ runs script_up 0 3 19 (down_at links_e 114) ∷ [])
    -- the take-down undone, then all else
    ∷ making2 114
    (inverts 0 3 (down_at links_empty 95) ∷ undoes 3 0 3 (redoable (down_at links_e 114) script_down)
    ∷ undoes 3 0 3 (redoable (down_at links_empty 122) (script_up ++ script_down)) ∷ [])
    -- two loops, one byte less free: 9; no byte free: 9, and all undone
    ∷ making2 113 (inverts 9 0 (after_e links_e 113) ∷ [])
    ∷ making2 0 (inverts 9 0 (after_e links_e 0) ∷ undoes 3 0 3 (redoable (undone_e links_empty 0) script_up) ∷ [])
    -- three loops, 114 bytes free: down to nothing; cleared, and built again by what was logged
    ∷ making3 114
    (inverts 0 3 (down_at links_empty3 95) ∷ clears 1 2 3 2 2 0 (down_at links_empty3 122)
    ∷ runs script_up 0 3 19 (down_at links_e3 114) ∷ [])
    -- the three operators as a script leave the same
    ∷ making3 114 (runs script_down 0 3 8 (down_at links_empty3 95) ∷ [])
    -- the take-down undone, then all else
    ∷ making3 114
    (inverts 0 3 (down_at links_empty3 95) ∷ undoes 3 0 3 (redoable (down_at links_e3 114) script_down)
    ∷ undoes 3 0 3 (redoable (down_at links_empty3 122) (script_up ++ script_down)) ∷ [])
    -- what was logged, run with another log
    ∷ row (lent_with 37 0)
    (clears 1 2 3 2 2 0 (cleared_with links_empty3 0) ∷ runs script_up 0 3 19 (after_e links_e3 0) ∷ [])
    -- three loops, one byte less free: 9; no byte free: 9
    ∷ making3 113 (inverts 9 0 (after_e links_e3 113) ∷ [])
    ∷ making3 0 (inverts 9 0 (after_e links_e3 0) ∷ [])
    ∷ []
