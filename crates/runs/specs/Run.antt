-- Running a script (document 01, "Scripts and the log"). An operator is read (3, 4, 5) and admitted (6, 7, 8), and
-- there must be room for its inverse in front of the log's start (9). Undo and redo are runs of a log: `Move`.
use Rattle.std.specs.Prelude.{ℕ, zero, suc, ◌+◌, ◌-◌, List, eqb, leb, ltb, ℤ, length}
use Rattle.laws.specs.Bools.{pick}
use Rattle.script.specs.declared.Operator.{Operator}
use Rattle.script.specs.declared.ReadAnswer.{ReadAnswer}
use Rattle.script.specs.Operator.{read_operator, operator_bytes, put_bytes}
use Rattle.layout.specs.declared.shape.Shape.{Shape}
use Rattle.layout.specs.Layout.{shape_of}
use Rattle.euler.specs.Exec.{limits, admit_of, links_after, points_after, inverse}
use Rattle.table.specs.declared.check.CheckAnswer.{CheckAnswer}
use Rattle.table.specs.Check.{check_of}
use Rattle.runs.specs.declared.answers.RunAnswer.{RunAnswer}

-- ---- one operator

-- the operator that stands at a place of a script or log, its operands within the table's capacities
abbrev pub read_at : Shape → List ℕ → ℕ → ReadAnswer
read_at sh s at = read_operator (limits sh) s at

-- 3 to 5 of what was read, else 6 to 8 of its operator
unfoldable pub admit_read : Shape → List ℕ → ReadAnswer → ℕ
admit_read sh x r = pick (eqb r.refusal 0) (admit_of sh x r.op) r.refusal

-- the refusal of the operator at a place, 3 to 8
abbrev pub refusal_at : Shape → List ℕ → List ℕ → ℕ → ℕ
refusal_at sh x s at = admit_read sh x (read_at sh s at)

-- ---- an operator carried out

-- a table and its log, whose live part begins at `start`
pub record State : Type 0 where
  pub links : List ℕ
  pub points : List ℤ
  pub log : List ℕ
  pub start : ℕ

abbrev pub state : List ℕ → List ℤ → List ℕ → ℕ → State
state x p log start = record { links = x; points = p; log = log; start = start }

-- the bytes of the operator that undoes o
unfoldable pub inverse_bytes : Shape → State → Operator → List ℕ
inverse_bytes sh t o = operator_bytes (inverse sh t.links t.points o)

-- 6 to 8 of the operator, then 9 where the bytes of its inverse do not fit in front of the start
unfoldable pub carry_refusal : Shape → State → Operator → ℕ
carry_refusal sh t o =
    pick (eqb (admit_of sh t.links o) 0) (pick (leb (length (inverse_bytes sh t o)) t.start) 0 9)
    (admit_of sh t.links o)

-- operator o carried out, its inverse just below the start
unfoldable pub stepped : Shape → State → Operator → State
stepped sh t o = record {
  links = links_after sh t.links o;
  points = points_after sh t.links t.points o;
  log = put_bytes t.log (t.start - length (inverse_bytes sh t o)) (inverse_bytes sh t o);
  start = t.start - length (inverse_bytes sh t o);
}

-- what carrying out an operator leaves: its refusal and the state
pub record Carried : Type 0 where
  pub refusal : ℕ
  pub state : State

abbrev pub carried_is : ℕ → State → Carried
carried_is refusal t = record { refusal = refusal; state = t }

-- operator o carried out with its inverse logged, or refused with nothing changed
unfoldable pub carry_of : Shape → State → Operator → Carried
carry_of sh t o =
    pick (eqb (carry_refusal sh t o) 0) (carried_is 0 (stepped sh t o)) (carried_is (carry_refusal sh t o) t)

-- ---- one step of a run

-- 3 to 5 of what was read, else 6 to 9 of its operator
unfoldable pub run_refusal : Shape → State → List ℕ → ℕ → ℕ
run_refusal sh t s at =
    pick (eqb (read_at sh s at).refusal 0) (carry_refusal sh t (read_at sh s at).op) (read_at sh s at).refusal

-- what a step leaves: its refusal, the place behind the operator that was read, and the state
pub record Stepped : Type 0 where
  pub refusal : ℕ
  pub next : ℕ
  pub state : State

abbrev pub step_is : ℕ → ℕ → State → Stepped
step_is refusal next t = record { refusal = refusal; next = next; state = t }

-- the operator at a place of the script: read, then carried out
unfoldable pub step_of : Shape → State → List ℕ → ℕ → Stepped
step_of sh t s at =
    pick (eqb (read_at sh s at).refusal 0)
    (step_is (carry_of sh t (read_at sh s at).op).refusal (read_at sh s at).next
    (carry_of sh t (read_at sh s at).op).state)
    (step_is (read_at sh s at).refusal (read_at sh s at).next t)

-- ---- run

-- what a call leaves that writes to the log: its answer, the table and the log
pub record Leaves (A : Type 0) : Type 0 where
  pub answer : A
  pub links : List ℕ
  pub points : List ℤ
  pub log : List ℕ

abbrev pub leaves : {A : Type 0} → A → List ℕ → List ℤ → List ℕ → Leaves A
leaves a x p log = record { answer = a; links = x; points = p; log = log }

-- what a run leaves
abbrev pub Ran : Type 0
Ran = Leaves RunAnswer

-- stopped with a refusal, 0 for none, after `done` operators that took `used` bytes
abbrev pub ran : ℕ → ℕ → ℕ → State → Ran
ran refusal done used t =
    leaves (record { refusal = refusal; rule = 0; done = done; used = used; start = t.start }) t.links t.points
    t.log

-- from a place of the script on, `done` operators done; at most n more (a run has the script's length for n, which is
-- enough, since each takes a byte; undo and redo have the number asked for)
unfoldable pub run_from : ℕ → Shape → List ℕ → ℕ → ℕ → State → Ran
run_from zero sh s at done t = ran 0 done at t
run_from (suc n) sh s at done t =
    pick (ltb at (length s))
    (pick (eqb (run_refusal sh t s at) 0)
    (run_from n sh s (read_at sh s at).next (done + 1) (stepped sh t (read_at sh s at).op))
    (ran (run_refusal sh t s at) done at t))
    (ran 0 done at t)

-- refused before the first operator, with 1, or with 2 and the rule
abbrev pub not_run : ℕ → ℕ → State → Ran
not_run refusal rule t =
    leaves (record { refusal = refusal; rule = rule; done = 0; used = 0; start = t.start }) t.links t.points
    t.log

-- the start is not beyond the log, and the table passes the check: 1, or 2 with the rule
unfoldable pub entry : State → CheckAnswer
entry t = pick (leb t.start (length t.log)) (check_of t.links t.points) (record { refusal = 1; rule = 0 })

-- a script run on a table
unfoldable pub run_of : State → List ℕ → Ran
run_of t s =
    pick (eqb (entry t).refusal 0) (run_from (length s) (shape_of t.links) s 0 0 t)
    (not_run (entry t).refusal (entry t).rule t)
