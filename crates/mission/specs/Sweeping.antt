-- JOB 7 OF DOCUMENT 02, THE SWEEP, in statements: types only. `Proved` has a proof of each, by the theorem of the
-- field's name. They speak of the definition that the contract of zoghvari_sweep (crate `sweep`) cites, `sweepOf`, on
-- what an editor lends: `sweep_in` is the answer with what is left, `swept_from` all that is lent afterwards, `ops_in`
-- the
-- operators, `corners_lent` the corners of the face. In quotes: document 02.
use Rattle.std.specs.Prelude.{◌≡◌, ◌≢◌, ◌⊎◌, true, List, ℕ, ◌+◌, ◌*◌, ◌≤◌, length}
use Rattle.script.specs.Operator.{write_script}
use Rattle.layout.specs.Layout.{shape_of}
use Rattle.table.specs.Check.{check_of}
use Rattle.table.specs.Count.{count_of}
use Rattle.sessions.specs.Editing.{Editing, run_in, ran_from}
use Rattle.promises.specs.Promises.{RedoRoom}
use Rattle.promises.specs.Sessions.{with_redo_start}
use Rattle.machine.specs.Machine.{behind, done_by, only_runs}
use Rattle.machine.specs.Acts.{scripts_of}
use Rattle.chains.specs.Series.{Each}
use Rattle.chains.specs.Least.{LeastNew}
use Rattle.chains.specs.Runs.{room_for}
use Rattle.chains.specs.Whole.{early, UndoneTo}
use Rattle.sweeps.specs.declared.Vector.{Vector}
use Rattle.sweeps.specs.Refused.{RefusedAs}
use Rattle.sweeps.specs.Counted.{CountsGrown}
use Rattle.sweeps.specs.Result.{SweptFace}
use Rattle.sweeps.specs.Swept.{refusal_in, ops_in, sweep_in, swept_from, corners_lent}
use Rattle.mission.specs.SweepActs.{Call, after_calls, done_calls, acts_for}

-- the sweep is done
abbrev pub Done : Editing → ℕ → Vector → Type 0
Done e f v = (sweep_in e f v).answer.answer.refusal ≡ 0

pub record Sweeping : Type 0 where
  -- "(Before anything is done, in this order: …)": the answer is what is refused before anything is done (`early`: 1
  -- and 2, then `sweepRefusal`), 0 where nothing is
  pub sweep_answers : (e : Editing) (f : ℕ) (v : Vector)
      → (sweep_in e f v).answer.answer.refusal ≡ early e (refusal_in e f v)
  -- "The sweep is done whole or not at all": a refusal is the first that is due (`early`: 1 and 2, then "before
  -- anything is done, in this order: …", `sweepRefusal`), none is done, and every byte of table, logs and session is as
  -- before
  pub sweep_unchanged : (e : Editing) (f : ℕ) (v : Vector) → (sweep_in e f v).answer.answer.refusal ≢ 0
      → ((sweep_in e f v).answer.answer.refusal ≡ early e (refusal_in e f v))
      × ((sweep_in e f v).answer.answer.done ≡ 0) × (swept_from e f v ≡ e)
  -- which is due: each where it is so and never otherwise, by the loops and half-edges that lie in the face
  -- (`RefusedAs`)
  pub sweep_refused : (e : Editing) (f : ℕ) (v : Vector)
      → RefusedAs (shape_of e.links) e.links e.points e.session.log f v (refusal_in e f v)
  -- else all of it: "one riser per corner and one side face per side", two operators for each corner, and it leaves
  -- what the run of their script leaves
  pub sweep_whole : (e : Editing) (f : ℕ) (v : Vector) → Done e f v
      → ((sweep_in e f v).answer.answer.done ≡ 2 * corners_lent e f) × (length (ops_in e f v) ≡ 2 * corners_lent e f)
      × (1 ≤ corners_lent e f) × (swept_from e f v ≡ ran_from e (write_script (ops_in e f v)))
  -- which accepts every one of them: no operator of a sweep is refused, for room or otherwise
  pub sweep_run : (e : Editing) (f : ℕ) (v : Vector) → Done e f v
      → ((run_in e (write_script (ops_in e f v))).answer.answer.refusal ≡ 0)
      × ((run_in e (write_script (ops_in e f v))).answer.answer.done ≡ length (ops_in e f v))
      × ((run_in e (write_script (ops_in e f v))).answer.answer.used ≡ length (write_script (ops_in e f v)))
  -- "9 for a log too short for all their inverses": what is asked for is what they take, to the byte
  pub sweep_room : (e : Editing) (f : ℕ) (v : Vector) → Done e f v
      → (swept_from e f v).session.log + room_for (shape_of e.links) e.links e.points (ops_in e f v)
      ≡ e.session.log
  -- job 4: "an operator done by any call but these two empties it", and the redo log's start is not looked at
  pub sweep_empties : (e : Editing) (f : ℕ) (v : Vector) → Done e f v
      → (swept_from e f v).session.redo ≡ length e.redo
  pub sweep_any_redo : (e : Editing) (f : ℕ) (v : Vector) (k : ℕ) → let w = sweep_in (with_redo_start e k) f v in
      (w.answer.answer ≡ (sweep_in e f v).answer.answer) × (w.links ≡ (sweep_in e f v).links)
      × (w.points ≡ (sweep_in e f v).points) × (w.log ≡ (sweep_in e f v).log)
      × (w.answer.session.log ≡ (sweep_in e f v).answer.session.log)
  -- "new numbers the least free": each of them, in the table that its operator meets
  pub sweep_least : (e : Editing) (f : ℕ) (v : Vector) → Done e f v
      → Each (shape_of e.links) (LeastNew (shape_of e.links)) (ops_in e f v) e.links
  -- "Lift a face by a whole-number vector …" (`SweptFace`): of each loop, from its first half-edge on, over each corner
  -- a side, whose loop is the corner's half-edge, the next riser up, the new edge and the riser down, as the outer loop
  -- of a new face of the solid; each riser leads to a new vertex at the corner's point moved; "the lifted face keeps
  -- its number", and its loops are the new edges in order; all new numbers were free and differ. As they were:
  -- half-edges of other faces, all starts, the face and the lone vertex of each loop, the solid and the outer loop of
  -- each face, marks of solids, and the point of each vertex. (Every word is settled by `sweep_whole`)
  pub sweep_left : (e : Editing) (f : ℕ) (v : Vector) → Done e f v
      → SweptFace (shape_of e.links) e.links e.points f v (swept_from e f v).links (swept_from e f v).points
  -- "A loop of n corners adds n vertices, 2n edges and n faces and leaves s, r and h": said of all loops of the face
  -- together, n the sum of their corners
  pub sweep_counted : (e : Editing) (f : ℕ) (v : Vector) → Done e f v
      → CountsGrown (count_of e.links e.points) (count_of (swept_from e f v).links (swept_from e f v).points)
      (corners_lent e f)
  -- "a sound table stays sound"
  pub sweep_sound : (e : Editing) (f : ℕ) (v : Vector) → Done e f v
      → (check_of (swept_from e f v).links (swept_from e f v).points).refusal ≡ 0
  -- "undoing its operators gives the earlier table": by the number answered, where the redo log has room (job 4); its
  -- start may be any, since the sweep sets it
  pub sweep_undone : (e : Editing) (f : ℕ) (v : Vector) → Done e f v
      → (length (write_script (ops_in e f v)) ≤ length e.redo)
      ⊎ (19 * (sweep_in e f v).answer.answer.done ≤ length e.redo)
      → UndoneTo e (swept_from e f v) (sweep_in e f v).answer.answer.done
  -- Sweeps among other calls: a list of calls with sweeps leaves what a list of the kernel's acts leaves (`acts_for`:
  -- of
  -- a sweep the run of its operators, or a check, which changes nothing), so what is said of acts is said of them
  pub calls_acts : (e : Editing) (cs : List Call)
      → (after_calls e cs ≡ behind e (acts_for e cs)) × (done_calls e cs ≡ done_by e (acts_for e cs))
  pub calls_sound : (e : Editing) (cs : List Call) → (check_of e.links e.points).refusal ≡ 0
      → (check_of (after_calls e cs).links (after_calls e cs).points).refusal ≡ 0
  -- undo by the sum of the done counts, where runs and sweeps alone have written: with room in the redo log, of which
  -- 19 bytes for each operator are enough
  pub calls_undone : (e : Editing) (cs : List Call) → only_runs (acts_for e cs) ≡ true
      → (check_of e.links e.points).refusal ≡ 0 → e.session.log ≤ length e.log
      → RedoRoom e (scripts_of (acts_for e cs)) → UndoneTo e (after_calls e cs) (done_calls e cs)
  pub calls_room : (e : Editing) (cs : List Call) → only_runs (acts_for e cs) ≡ true
      → (check_of e.links e.points).refusal ≡ 0 → (done_calls e cs ≡ 0 → e.session.redo ≤ length e.redo)
      → 19 * done_calls e cs ≤ length e.redo → RedoRoom e (scripts_of (acts_for e cs))
