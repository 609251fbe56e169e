-- OPERATORS MOVED FROM ONE LOG TO ANOTHER (document 02, job 4): undo and redo, which are one operation with the two
-- logs exchanged. The first n operators of the source's live part are run as a script is, each with its inverse just
-- below the destination's start; 11 where the source has ended before.
use Rattle.std.specs.Prelude.{ℕ, List, eqb, leb, ltb, length}
use Rattle.laws.specs.Bools.{pick}
use Rattle.layout.specs.Layout.{shape_of}
use Rattle.table.specs.declared.check.CheckAnswer.{CheckAnswer}
use Rattle.runs.specs.declared.answers.RunAnswer.{RunAnswer}
use Rattle.runs.specs.declared.answers.MoveAnswer.{MoveAnswer}
use Rattle.runs.specs.Run.{State, Leaves, leaves, Ran, run_from, entry}

-- what a move leaves: its answer, the table and the destination
abbrev pub Moved : Type 0
Moved = Leaves MoveAnswer

-- the refusal of a run by which n operators were due: 11 where it did fewer and was not refused
abbrev pub due_refusal : ℕ → RunAnswer → ℕ
due_refusal n a = pick (eqb a.refusal 0) (pick (ltb a.done n) 11 0) a.refusal

-- such a run as a move: it ended at a place of the source, and at a start of the destination
abbrev pub moved_by : ℕ → Ran → Moved
moved_by n r =
    leaves
    (record {
      refusal = due_refusal n r.answer;
      rule = r.answer.rule;
      done = r.answer.done;
      from = r.answer.used;
      to = r.answer.start;
    })
    r.links r.points r.log

-- stopped with a refusal, 0 for none, after `done` operators, at a place of the source
abbrev pub moved : ℕ → ℕ → ℕ → State → Moved
moved refusal done from t =
    leaves (record { refusal = refusal; rule = 0; done = done; from = from; to = t.start }) t.links t.points
    t.log

-- ---- a part of a script or log, run

-- refused before the first operator, with 1, or with 2 and the rule
abbrev pub not_part : ℕ → ℕ → ℕ → State → Ran
not_part refusal rule from t =
    leaves (record { refusal = refusal; rule = rule; done = 0; used = from; start = t.start }) t.links t.points
    t.log

-- at most n operators from a place on, on a table that may be any: the way in is that of a run
unfoldable pub part_of : State → List ℕ → ℕ → ℕ → Ran
part_of t s from n =
    pick (eqb (entry t).refusal 0) (run_from n (shape_of t.links) s from 0 t)
    (not_part (entry t).refusal (entry t).rule from t)

-- ---- moves

-- refused before the first operator
abbrev pub not_moved : ℕ → ℕ → ℕ → State → Moved
not_moved refusal rule from t =
    leaves (record { refusal = refusal; rule = rule; done = 0; from = from; to = t.start }) t.links t.points
    t.log

-- n operators of the source from a place on, the table's log being the destination; 1 where that place is beyond the
-- source
unfoldable pub move_of : List ℕ → ℕ → State → ℕ → Moved
move_of source from t n = pick (leb from (length source)) (moved_by n (part_of t source from n)) (not_moved 1 0 from t)

-- who is let in: neither start is beyond its log, and the table passes the check; else 1, or 2 with the rule
unfoldable pub move_entry : List ℕ → ℕ → State → CheckAnswer
move_entry source from t = pick (leb from (length source)) (entry t) (record { refusal = 1; rule = 0 })
