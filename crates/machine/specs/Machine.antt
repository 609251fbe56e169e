-- The kernel as one machine: what an editor lends (a table, its log and redo log, the session), and the calls that can
-- be made on it one after the other. There is one act for each entry point of crate `kernel`, and what it answers and
-- leaves is what that entry point's contract cites; so a list of acts is a list of calls on memory on which there is no
-- outside hand.
use Rattle.std.specs.Prelude.{ℕ, ◌+◌, Bool, true, false, not, ◌||◌, List, [], ◌∷◌, map}
use Rattle.laws.specs.Bools.{allb}
use Rattle.codec.specs.Operands.{widest}
use Rattle.script.specs.declared.Operator.{Operator}
use Rattle.script.specs.declared.ReadAnswer.{ReadAnswer}
use Rattle.script.specs.declared.WriteAnswer.{WriteAnswer}
use Rattle.script.specs.Operator.{read_operator, write_operator}
use Rattle.table.specs.declared.check.CheckAnswer.{CheckAnswer}
use Rattle.table.specs.declared.clear.ClearAnswer.{ClearAnswer}
use Rattle.table.specs.declared.count.CountAnswer.{CountAnswer}
use Rattle.table.specs.Check.{check_of}
use Rattle.table.specs.Count.{count_of}
use Rattle.wavefront.specs.declared.answer.TextAnswer.{TextAnswer}
use Rattle.wavefront.specs.Obj.{Texted, obj_of}
use Rattle.runs.specs.declared.answers.RunAnswer.{RunAnswer}
use Rattle.takedown.specs.declared.answer.InvertAnswer.{InvertAnswer}
use Rattle.sessions.specs.declared.UndoAnswer.{UndoAnswer}
use Rattle.sessions.specs.declared.RedoAnswer.{RedoAnswer}
use Rattle.sessions.specs.Editing.{Editing, clear_in, cleared_from, run_in, ran_from, undo_in, undone_from, redo_in}
use Rattle.sessions.specs.Editing.{redone_from, invert_in, inverted_from}

-- ---- one act

-- what is asked of what is lent: clearing with five capacities, the check, counting, a script run, undo and redo by a
-- number, the take-down, a solid as OBJ text in a buffer; and without a table: the operator at a place of a
-- script, one written into a destination
pub data Act : Type 0 where
  Clear : ℕ → ℕ → ℕ → ℕ → ℕ → Act
  Check : Act
  Count : Act
  Read : List ℕ → ℕ → Act
  Write : Operator → List ℕ → Act
  Run : List ℕ → Act
  Undo : ℕ → Act
  Redo : ℕ → Act
  Invert : Act
  Obj : ℕ → List ℕ → Act

-- the answer to each; writing leaves a destination as well, and so does the text a buffer
pub data Answer : Type 0 where
  ToClear : ClearAnswer → Answer
  ToCheck : CheckAnswer → Answer
  ToCount : CountAnswer → Answer
  ToRead : ReadAnswer → Answer
  ToWrite : WriteAnswer → List ℕ → Answer
  ToRun : RunAnswer → Answer
  ToUndo : UndoAnswer → Answer
  ToRedo : RedoAnswer → Answer
  ToInvert : InvertAnswer → Answer
  ToObj : TextAnswer → List ℕ → Answer

-- an answer, and what was lent, as it is afterwards
pub record Left : Type 0 where
  pub answer : Answer
  pub after : Editing

abbrev pub left : Answer → Editing → Left
left a e = record { answer = a; after = e }

-- what the text of a solid leaves: what was lent as it is, and the buffer
abbrev pub after_obj : Editing → Texted → Left
after_obj e r = left (ToObj r.answer r.out) e

-- one act, on what was left before
abbrev pub does : Editing → Act → Left
does t (Clear s f l e v) = left (ToClear (clear_in t s f l e v).answer.answer) (cleared_from t (clear_in t s f l e v))
does t Check = left (ToCheck (check_of t.links t.points)) t
does t Count = left (ToCount (count_of t.links t.points)) t
does t (Read s at) = left (ToRead (read_operator widest s at)) t
does t (Write o out) = left (ToWrite (write_operator o out).answer (write_operator o out).out) t
does t (Run s) = left (ToRun (run_in t s).answer.answer) (ran_from t s)
does t (Undo n) = left (ToUndo (undo_in t n).answer.answer) (undone_from t n)
does t (Redo n) = left (ToRedo (redo_in t n).answer.answer) (redone_from t n)
does t Invert = left (ToInvert (invert_in t).answer.answer) (inverted_from t)
does t (Obj s out) = after_obj t (obj_of t.links t.points s out)

-- ---- acts one after the other

-- what each act of a list leaves, each on what the one before left
unfoldable pub do_all : Editing → List Act → List Left
do_all t [] = []
do_all t (a ∷ acts) = does t a ∷ do_all (does t a).after acts

-- what the last of them left; t where there is none
unfoldable pub last_of : Editing → List Left → Editing
last_of t [] = t
last_of t (l ∷ ls) = last_of l.after ls

-- what is left behind a list of acts
abbrev pub behind : Editing → List Act → Editing
behind t acts = last_of t (do_all t acts)

-- the operators that an act answers done: those that it logged
abbrev pub done_of : Answer → ℕ
done_of (ToClear c) = 0
done_of (ToCheck c) = 0
done_of (ToCount c) = 0
done_of (ToRead r) = 0
done_of (ToWrite w out) = 0
done_of (ToRun r) = r.done
done_of (ToUndo u) = 0
done_of (ToRedo r) = r.done
done_of (ToInvert i) = i.done
done_of (ToObj a out) = 0

-- the sum of the done counts
unfoldable pub done_in : List Left → ℕ
done_in [] = 0
done_in (l ∷ ls) = done_of l.answer + done_in ls

-- of a list of acts
abbrev pub done_by : Editing → List Act → ℕ
done_by t acts = done_in (do_all t acts)

-- ---- which acts write

-- a call that may change table, log, redo log or session
abbrev pub is_writing : Act → Bool
is_writing (Clear s f l e v) = true
is_writing Check = false
is_writing Count = false
is_writing (Read s at) = false
is_writing (Write o out) = false
is_writing (Run s) = true
is_writing (Undo n) = true
is_writing (Redo n) = true
is_writing Invert = true
is_writing (Obj s out) = false

-- a run
abbrev pub is_run : Act → Bool
is_run (Clear s f l e v) = false
is_run Check = false
is_run Count = false
is_run (Read s at) = false
is_run (Write o out) = false
is_run (Run s) = true
is_run (Undo n) = false
is_run (Redo n) = false
is_run Invert = false
is_run (Obj s out) = false

-- "no other writing call": each act is a run or writes nothing
abbrev pub only_runs : List Act → Bool
only_runs acts = allb (map (λ a. is_run a || not (is_writing a)) acts)
