-- THE FIVE CALLS THAT ARE LENT A SESSION (document 02, job 4): clearing, run, undo, redo, take-down. Each is a line
-- over the definition that knows nothing of sessions (`clear_of`, `run_of`, `move_of`, `invert_of`), and gives the
-- session
-- that the call leaves beside its answer.
use Rattle.std.specs.Prelude.{ℕ, ◌≡◌, List, eqb, ℤ}
use Rattle.laws.specs.Bools.{pick}
use Rattle.table.specs.Clear.{Cleared, clear_of}
use Rattle.runs.specs.Run.{state, Ran, Leaves, leaves, run_of}
use Rattle.runs.specs.Move.{Moved, move_of}
use Rattle.takedown.specs.Inversion.{Inverted, invert_of}
use Rattle.sessions.specs.declared.Session.{Session}
use Rattle.sessions.specs.declared.Left.{Left}
use Rattle.table.specs.declared.clear.ClearAnswer.{ClearAnswer}
use Rattle.runs.specs.declared.answers.RunAnswer.{RunAnswer}
use Rattle.sessions.specs.declared.UndoAnswer.{UndoAnswer}
use Rattle.sessions.specs.declared.RedoAnswer.{RedoAnswer}
use Rattle.takedown.specs.declared.answer.InvertAnswer.{InvertAnswer}

-- where the live parts of log and redo log start
abbrev pub starts : ℕ → ℕ → Session
starts log redo = record { log = log; redo = redo }

-- ---- clearing

-- what clearing leaves: its answer with the session, and the table
pub record ClearLeaves : Type 0 where
  pub answer : Left ClearAnswer
  pub links : List ℕ
  pub points : List ℤ

abbrev pub clear_leaves : Left ClearAnswer → List ℕ → List ℤ → ClearLeaves
clear_leaves a x p = record { answer = a; links = x; points = p }

-- both logs start at their ends; a refusal leaves the session
abbrev pub clear_session : ℕ → ℕ → Session → Cleared → ClearLeaves
clear_session log redo s c =
    clear_leaves
    (record { answer = c.answer; session = pick (eqb c.answer.refusal 0) (starts log redo) s })
    c.links c.points

-- clearing; of the two logs only the lengths are told
unfoldable pub session_clear : List ℕ → List ℤ → ℕ → ℕ → Session → ℕ → ℕ → ℕ → ℕ → ℕ → ClearLeaves
session_clear x p log redo s solids faces loops edges vertices =
    clear_session log redo s (clear_of x p solids faces loops edges vertices)

-- ---- run and take-down

-- "an operator done by any call but these two" (undo and redo) "empties it": the redo log starts at its end then, and
-- where none was done as before; the log starts where the call says
abbrev pub onward : ℕ → Session → ℕ → ℕ → Session
onward redo s done start = starts start (pick (eqb done 0) s.redo redo)

-- what a run leaves, with the session
abbrev pub ran_session : ℕ → Session → Ran → Leaves (Left RunAnswer)
ran_session redo s r =
    leaves (record { answer = r.answer; session = onward redo s r.answer.done r.answer.start }) r.links
    r.points r.log

-- a script run; of the redo log only the length is told
unfoldable pub session_run : List ℕ → List ℤ → List ℕ → ℕ → Session → List ℕ → Leaves (Left RunAnswer)
session_run x p log redo s script = ran_session redo s (run_of (state x p log s.log) script)

-- what the take-down leaves, with the session
abbrev pub inverted_session : ℕ → Session → Inverted → Leaves (Left InvertAnswer)
inverted_session redo s r =
    leaves (record { answer = r.answer; session = onward redo s r.answer.done r.answer.start }) r.links
    r.points r.log

-- the take-down; of the redo log only the length is told
unfoldable pub session_invert : List ℕ → List ℤ → List ℕ → ℕ → Session → Leaves (Left InvertAnswer)
session_invert x p log redo s = inverted_session redo s (invert_of (state x p log s.log))

-- ---- undo and redo

-- a move out of the log as undo: it leaves the redo log
abbrev pub undone_session : Moved → Leaves (Left UndoAnswer)
undone_session m =
    leaves
    (record {
      answer = record {
        refusal = m.answer.refusal;
        rule = m.answer.rule;
        undone = m.answer.done;
        start = m.answer.from;
      };
      session = starts m.answer.from m.answer.to;
    })
    m.links m.points m.log

-- undo: n operators of the log, their inverses into the redo log
unfoldable pub session_undo : List ℕ → List ℤ → List ℕ → List ℕ → Session → ℕ → Leaves (Left UndoAnswer)
session_undo x p log redo s n = undone_session (move_of log s.log (state x p redo s.redo) n)

-- a move out of the redo log as redo: it leaves the log
abbrev pub redone_session : Moved → Leaves (Left RedoAnswer)
redone_session m =
    leaves
    (record {
      answer = record { refusal = m.answer.refusal; rule = m.answer.rule; done = m.answer.done };
      session = starts m.answer.to m.answer.from;
    })
    m.links m.points m.log

-- redo: n operators of the redo log, their inverses into the log
unfoldable pub session_redo : List ℕ → List ℤ → List ℕ → List ℕ → Session → ℕ → Leaves (Left RedoAnswer)
session_redo x p log redo s n = redone_session (move_of redo s.redo (state x p log s.log) n)

-- ---- the same as contracts: what goes in, the answer with the session, what is left

abbrev pub Clears : List ℕ → List ℤ → ℕ → ℕ → Session → ℕ → ℕ → ℕ → ℕ → ℕ → Left ClearAnswer → List ℕ → List ℤ → Type 0
Clears x p log redo s solids faces loops edges vertices r x' p' =
    clear_leaves r x' p' ≡ session_clear x p log redo s solids faces loops edges vertices

abbrev pub Runs : List ℕ → List ℤ → List ℕ → ℕ → Session → List ℕ → Left RunAnswer → List ℕ → List ℤ → List ℕ → Type 0
Runs x p log redo s script r x' p' log' = leaves r x' p' log' ≡ session_run x p log redo s script

abbrev pub Undoes : List ℕ → List ℤ → List ℕ → List ℕ → Session → ℕ → Left UndoAnswer → List ℕ → List ℤ → List ℕ
    → Type 0
Undoes x p log redo s n r x' p' redo' = leaves r x' p' redo' ≡ session_undo x p log redo s n

abbrev pub Redoes : List ℕ → List ℤ → List ℕ → List ℕ → Session → ℕ → Left RedoAnswer → List ℕ → List ℤ → List ℕ
    → Type 0
Redoes x p log redo s n r x' p' log' = leaves r x' p' log' ≡ session_redo x p log redo s n

abbrev pub Inverts : List ℕ → List ℤ → List ℕ → ℕ → Session → Left InvertAnswer → List ℕ → List ℤ → List ℕ → Type 0
Inverts x p log redo s r x' p' log' = leaves r x' p' log' ≡ session_invert x p log redo s
