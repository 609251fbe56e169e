-- A row of the checked examples of document 01, and of jobs 1, 2 and 4 of document 02: what the editor lends, the acts
-- (crate `machine`) done on it one after the other, and for each the whole answer with every word, coordinate and byte
-- that it is to leave, and both starts.
use Rattle.std.specs.Prelude.{ℕ, ◌-◌, ◌≡◌, List, ◌++◌, map, ℤ, length, replicate}
use Rattle.table.specs.Check.{answer}
use Rattle.table.specs.Count.{counts}
use Rattle.sessions.specs.Session.{starts}
use Rattle.sessions.specs.Editing.{Editing}
use Rattle.machine.specs.Machine.{Act, Clear, Check, Count, Run, Undo, Redo, Invert}
use Rattle.machine.specs.Machine.{Answer, ToClear, ToCheck, ToCount, ToRun, ToUndo, ToRedo, ToInvert, Left, left}
use Rattle.machine.specs.Machine.{do_all}

-- ---- rows

-- an act, and all that it is to leave
pub record Step : Type 0 where
  pub act : Act
  pub wanted : Left

-- what is lent, and the steps
pub record Row : Type 0 where
  pub lent : Editing
  pub steps : List Step

abbrev pub row : Editing → List Step → Row
row t ss = record { lent = t; steps = ss }

-- the definitions leave what the rows want, step for step
abbrev pub Hold : List Row → Type 0
Hold rs = map (λ r. do_all r.lent (map (λ s. s.act) r.steps)) rs ≡ map (λ r. map (λ s. s.wanted) r.steps) rs

-- ---- writing what is lent or left

-- a table and its log with where that starts, and a redo log with where that starts
abbrev pub lending : List ℕ → List ℤ → List ℕ → ℕ → List ℕ → ℕ → Editing
lending x p log i redo j = record { links = x; points = p; log = log; redo = redo; session = starts i j }

-- the same with another redo log
abbrev pub redo_at : Editing → List ℕ → ℕ → Editing
redo_at t redo j = lending t.links t.points t.log t.session.log redo j

-- with a redo log of thirty bytes, something in every place, whose live part is these bytes
abbrev pub redoable : Editing → List ℕ → Editing
redoable t live = redo_at t (replicate (30 - length live) 221 ++ live) (30 - length live)

-- a table and its log, and such a redo log with nothing in it: that of all rows that do not say another
abbrev pub editing : List ℕ → List ℤ → List ℕ → ℕ → Editing
editing x p log i = lending x p log i (replicate 30 221) 30

-- ---- writing steps

abbrev pub step : Act → Answer → Editing → Step
step a b t = record { act = a; wanted = left b t }

-- clearing with these capacities answers this refusal, and leaves t
abbrev pub clears : ℕ → ℕ → ℕ → ℕ → ℕ → ℕ → Editing → Step
clears s f l e v refusal t = step (Clear s f l e v) (ToClear (record { refusal = refusal })) t

-- the check answers this refusal and rule
abbrev pub checks : ℕ → ℕ → Editing → Step
checks refusal rule t = step Check (ToCheck (answer refusal rule)) t

-- the sound table t is counted: solids, faces, loops, edges, vertices, rings, holes
abbrev pub counting : ℕ → ℕ → ℕ → ℕ → ℕ → ℕ → ℕ → Editing → Step
counting s f l e v r h t = step Count (ToCount (counts 0 0 s f l e v r h)) t

-- a script answers refusal, operators done, bytes used, and leaves t
abbrev pub runs : List ℕ → ℕ → ℕ → ℕ → Editing → Step
runs s refusal done used t =
    step (Run s) (ToRun (record { refusal = refusal; rule = 0; done = done; used = used; start = t.session.log })) t

-- undo by n answers refusal and operators undone, and leaves t
abbrev pub undoes : ℕ → ℕ → ℕ → Editing → Step
undoes n refusal undone t =
    step (Undo n) (ToUndo (record { refusal = refusal; rule = 0; undone = undone; start = t.session.log })) t

-- redo by n answers refusal and operators done again, and leaves t
abbrev pub redoes : ℕ → ℕ → ℕ → Editing → Step
redoes n refusal done t = step (Redo n) (ToRedo (record { refusal = refusal; rule = 0; done = done })) t

-- the take-down answers refusal and operators done, and leaves t
abbrev pub inverts : ℕ → ℕ → Editing → Step
inverts refusal done t =
    step Invert (ToInvert (record { refusal = refusal; rule = 0; done = done; start = t.session.log })) t
