-- The calls with a session, one after the other: what the editor lends, and what each call leaves of it.
use Rattle.std.specs.Prelude.{ℕ, List, ℤ, length}
use Rattle.runs.specs.Run.{State, state, Leaves}
use Rattle.sessions.specs.declared.Session.{Session}
use Rattle.sessions.specs.declared.Left.{Left}
use Rattle.runs.specs.declared.answers.RunAnswer.{RunAnswer}
use Rattle.sessions.specs.declared.UndoAnswer.{UndoAnswer}
use Rattle.sessions.specs.declared.RedoAnswer.{RedoAnswer}
use Rattle.takedown.specs.declared.answer.InvertAnswer.{InvertAnswer}
use Rattle.sessions.specs.Session.{ClearLeaves, session_clear, session_run, session_undo, session_redo, session_invert}

-- what the editor lends: a table, its log and redo log, and the session record
pub record Editing : Type 0 where
  pub links : List ℕ
  pub points : List ℤ
  pub log : List ℕ
  pub redo : List ℕ
  pub session : Session

-- the table with its log, and with its redo log
abbrev pub log_state : Editing → State
log_state e = state e.links e.points e.log e.session.log

abbrev pub redo_state : Editing → State
redo_state e = state e.links e.points e.redo e.session.redo

-- ---- each call on what is lent

abbrev pub clear_in : Editing → ℕ → ℕ → ℕ → ℕ → ℕ → ClearLeaves
clear_in e s f l d v = session_clear e.links e.points (length e.log) (length e.redo) e.session s f l d v

abbrev pub run_in : Editing → List ℕ → Leaves (Left RunAnswer)
run_in e script = session_run e.links e.points e.log (length e.redo) e.session script

abbrev pub undo_in : Editing → ℕ → Leaves (Left UndoAnswer)
undo_in e n = session_undo e.links e.points e.log e.redo e.session n

abbrev pub redo_in : Editing → ℕ → Leaves (Left RedoAnswer)
redo_in e n = session_redo e.links e.points e.log e.redo e.session n

abbrev pub invert_in : Editing → Leaves (Left InvertAnswer)
invert_in e = session_invert e.links e.points e.log (length e.redo) e.session

-- ---- and what it leaves

-- clearing changes no byte of either log
abbrev pub cleared_from : Editing → ClearLeaves → Editing
cleared_from e r = record {
  links = r.links;
  points = r.points;
  log = e.log;
  redo = e.redo;
  session = r.answer.session;
}

-- run, redo and take-down change none of the redo log, undo none of the log
abbrev pub logged : {A : Type 0} → Editing → Session → Leaves A → Editing
logged e s r = record { links = r.links; points = r.points; log = r.log; redo = e.redo; session = s }

abbrev pub ran_from : Editing → List ℕ → Editing
ran_from e script = logged e (run_in e script).answer.session (run_in e script)

abbrev pub redone_from : Editing → ℕ → Editing
redone_from e n = logged e (redo_in e n).answer.session (redo_in e n)

abbrev pub inverted_from : Editing → Editing
inverted_from e = logged e (invert_in e).answer.session (invert_in e)

abbrev pub undone_from : Editing → ℕ → Editing
undone_from e n = record {
  links = (undo_in e n).links;
  points = (undo_in e n).points;
  log = e.log;
  redo = (undo_in e n).log;
  session = (undo_in e n).answer.session;
}
