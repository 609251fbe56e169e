-- THE MISSION, in statements: types only. `Proved` has a proof of each, by the theorem of the field's name.
-- They speak of the definitions that the contracts of crate `kernel`, and of crate `sweep` above it, cite:
--     sessionClear  zoghvari_clear     checkOf  zoghvari_check     readOperator widest  zoghvari_read
--     sessionRun    zoghvari_run       count_of  zoghvari_count     writeOperator        zoghvari_write
--     sessionUndo   zoghvari_undo      objOf    zoghvari_obj
--     sessionRedo   zoghvari_redo      sweepOf  zoghvari_sweep
--     sessionInvert zoghvari_invert
-- Those with a session are a line each over `clear_of`, `run_of`, `move_of` (undo and redo) and `invert_of`, whose
-- answer,
-- table and log they give as they are (crates/sessions/specs/Session.antt).
-- A contract says: for every input the answer, and every word, coordinate and byte that the call leaves, are the
-- definition's. So what is said here of a definition is said of the call, and what is said of a list of acts
-- (`Act`, `doAll` of crate `machine`: one act for each entry point of the kernel) is said of these calls one after the
-- other; with sweeps among them by `calls-acts`.
-- Run, take-down and sweep are handed the redo log's length as a number, clearing the lengths of both logs. Such a call
-- is what the definition says for the numbers handed in. The statements about lists of calls (`Editing`, `Act`) hand in
-- the logs' own lengths; a caller who hands in another number is the "outside hand" that they exclude.
-- In quotes: documents 00 and 01; where it is document 02, it says so.
use Rattle.std.specs.Prelude.{◌≡◌, ◌≢◌, true, false, ◌&&◌, List, [], ◌∷◌, ◌++◌, ℕ, ◌+◌, ◌-◌, ◌*◌, ◌≤◌, ◌<◌, ℤ, length}
use Rattle.std.specs.Prelude.{get_or, take, drop}
use Rattle.std.specs.Prelude.{Some, None}
use Rattle.laws.specs.Bools.{pick}
use Rattle.script.specs.declared.Operator.{Operator}
use Rattle.codec.specs.declared.Limits.{Limits}
use Rattle.codec.specs.Operands.{widest}
use Rattle.script.specs.Operator.{refused, read_operator, operator_bytes, not_written, write_operator, read_script}
use Rattle.numbers.specs.Number.{read_number, groups}
use Rattle.numbers.specs.Padded.{form, shorten, shorten_from, shortest}
use Rattle.numbers.specs.NumberTrip.{Bytes}
use Rattle.numbers.specs.Unread.{Unread}
use Rattle.script.specs.EntryTrips.{Copied, written_all}
use Rattle.script.specs.Unread.{CutShort}
use Rattle.script.specs.RoundTrip.{Writable}
use Rattle.layout.specs.declared.shape.Shape.{Shape}
use Rattle.layout.specs.Layout.{shape_of, vertex_used, set_vertex_used}
use Rattle.layout.specs.Points.{is_zero}
use Rattle.table.specs.Clear.{cleared, clear_of}
use Rattle.table.specs.Check.{answer, check_of}
use Rattle.table.specs.Count.{count_of}
use Rattle.euler.specs.Exec.{Table, exec, admit_of, refusal_of, links_after, points_after}
use Rattle.sound_tables.specs.Good.{Valent}
use Rattle.sound_cuts.specs.MefOperands.{kef_of}
use Rattle.sound_cuts.specs.KefAmid.{KefInPlace}
use Rattle.runs.specs.Run.{State, read_at, refusal_at, inverse_bytes, run_refusal, entry, not_run, run_of}
use Rattle.runs.specs.Move.{moved, move_of, move_entry}
use Rattle.takedown.specs.Inversion.{short_log, inverted, begin, invert_of}
use Rattle.sessions.specs.Session.{redone_session}
use Rattle.sessions.specs.Editing.{Editing, log_state, undo_in, undone_from, redo_in, redone_from, invert_in}
use Rattle.promises.specs.RunAll.{left_by, run_all}
use Rattle.promises.specs.Reading.{Taken}
use Rattle.promises.specs.Carried.{Refusing, Carried, apart}
use Rattle.promises.specs.Moves.{moved_to}
use Rattle.promises.specs.MoveParts.{moved_apart}
use Rattle.promises.specs.MoveSteps.{Moves}
use Rattle.promises.specs.Edits.{edit_all, done_script, used_all}
use Rattle.promises.specs.Promises.{undo_all, Restored, RedoRoom}
use Rattle.promises.specs.Redo.{LetIn, Returned, undo_read, redo_read, UndoRedone, RedoUndone}
use Rattle.promises.specs.Sessions.{Empties, Starts, LooksAtRedo, undo_entry, redo_entry, not_undone, not_redone}
use Rattle.promises.specs.Padded.{short_used, short_source}
use Rattle.promises.specs.ShortLog.{live, written}
use Rattle.machine.specs.Machine.{Act, behind, only_runs}
use Rattle.machine.specs.Acts.{scripts_of, ActsUndone}
use Rattle.inversion.specs.Promise.{clear_links, clear_points, InversionExact, TenExactly, RefusedAsBefore, LogEnough}
use Rattle.inversion.specs.Promise.{InvertAnswers, SpareNeverTen, SpareExact, HolesOne, CountHoles}
use Rattle.wavefront.specs.Obj.{solid_refusal, obj_of}
use Rattle.wavefront_read.specs.Refused.{RefusedAs}
use Rattle.wavefront_read.specs.Written.{TextEnds, TextRead}
use Rattle.sweeps.specs.declared.Vector.{Vector}
use Rattle.sweeps.specs.Swept.{sweep_in}
use Rattle.mission.specs.Refusals.{OneOf, Named}
use Rattle.mission.specs.Sweeping.{Sweeping}

-- a table passes the check
abbrev pub Passes : List ℕ → List ℤ → Type 0
Passes x p = (check_of x p).refusal ≡ 0

-- ---- DEMAND 1. "Whoever hands over bytes, be they a script, a log or a table of their own making, gets a result
-- from every entry point, and each entry point checks for itself." The contracts say so: none asks anything of its
-- caller, and each function is proved to end.

-- "A refusal carries one of eleven numbers." Each entry point answers 0 or one of those that document 01 gives it.
-- Document 02, job 2: "These and later jobs' new numbers join the mission's eleven": 12 and 13, by job 7 also 14
pub record RefusalsNumbered : Type 0 where
  pub clear : (x : List ℕ) (p : List ℤ) (s f l e v : ℕ) → OneOf (0 ∷ 1 ∷ []) (clear_of x p s f l e v).answer.refusal
  pub check : (x : List ℕ) (p : List ℤ) → OneOf (0 ∷ 1 ∷ 2 ∷ []) (check_of x p).refusal
  pub count : (x : List ℕ) (p : List ℤ) → OneOf (0 ∷ 1 ∷ 2 ∷ []) (count_of x p).refusal
  pub read : (s : List ℕ) (at : ℕ) → OneOf (0 ∷ 3 ∷ 4 ∷ 5 ∷ []) (read_operator widest s at).refusal
  pub write : (o : Operator) (out : List ℕ) → OneOf (0 ∷ 4 ∷ 5 ∷ 9 ∷ []) (write_operator o out).answer.refusal
  pub run : (t : State) (s : List ℕ)
      → OneOf (0 ∷ 1 ∷ 2 ∷ 3 ∷ 4 ∷ 5 ∷ 6 ∷ 7 ∷ 8 ∷ 9 ∷ []) (run_of t s).answer.refusal
  pub undo : (e : Editing) (n : ℕ)
      → OneOf (0 ∷ 1 ∷ 2 ∷ 3 ∷ 4 ∷ 5 ∷ 6 ∷ 7 ∷ 8 ∷ 9 ∷ 11 ∷ []) (undo_in e n).answer.answer.refusal
  pub redo : (e : Editing) (n : ℕ)
      → OneOf (0 ∷ 1 ∷ 2 ∷ 3 ∷ 4 ∷ 5 ∷ 6 ∷ 7 ∷ 8 ∷ 9 ∷ 11 ∷ []) (redo_in e n).answer.answer.refusal
  pub invert : (t : State) → OneOf (0 ∷ 1 ∷ 2 ∷ 9 ∷ 10 ∷ []) (invert_of t).answer.refusal
  pub obj : (x : List ℕ) (p : List ℤ) (s : ℕ) (out : List ℕ)
      → OneOf (0 ∷ 1 ∷ 2 ∷ 5 ∷ 6 ∷ 12 ∷ 13 ∷ []) (obj_of x p s out).answer.refusal
  pub sweep : (e : Editing) (f : ℕ) (v : Vector)
      → OneOf (0 ∷ 1 ∷ 2 ∷ 5 ∷ 6 ∷ 9 ∷ 10 ∷ 14 ∷ []) (sweep_in e f v).answer.answer.refusal

-- the first demand
pub record Demand1 : Type 0 where
  pub refusals_numbered : RefusalsNumbered
  -- "2 table not sound; the rule is named": with 2 one of the six, else 0
  pub rule_named : (x : List ℕ) (p : List ℤ) → Named (check_of x p).refusal (check_of x p).rule
  pub obj_named : (x : List ℕ) (p : List ℤ) (s : ℕ) (out : List ℕ)
      → Named (obj_of x p s out).answer.refusal (obj_of x p s out).answer.rule
  pub sweep_named : (e : Editing) (f : ℕ) (v : Vector)
      → Named (sweep_in e f v).answer.answer.refusal (sweep_in e f v).answer.answer.rule
  -- "The refused operator changes neither table nor log; operators before it in the script stand." The bytes used, run
  -- alone, do as many operators and leave the same table, log and start; only the entry refuses them
  pub refused_apart : (t : State) (s : List ℕ)
      → run_of t (take (run_of t s).answer.used s) ≡ apart (entry t) (run_of t s)
  -- and undo of as many as it answers: "what it undid stands"; so too redo, which is the same of the two logs exchanged
  pub move_apart : (source : List ℕ) (from : ℕ) (t : State) (n : ℕ)
      → move_of source from t (move_of source from t n).answer.done
      ≡ moved_apart (move_entry source from t) (move_of source from t n)
  -- "A refusal writes no byte of its own." Where the entry refuses (1 for a start beyond the log, else what the check
  -- answers), none is done and all is as before; so too where clearing, writing or the take-down refuses, but by 10 of
  -- the take-down (`refused_as_before`)
  pub entry_numbered : (t : State) → OneOf (0 ∷ 1 ∷ 2 ∷ []) (entry t).refusal
  pub run_out : (t : State) (s : List ℕ) → (entry t).refusal ≢ 0
      → run_of t s ≡ not_run (entry t).refusal (entry t).rule t
  pub undo_out : (e : Editing) (n : ℕ) → (undo_entry e).refusal ≢ 0
      → undo_in e n ≡ not_undone e (undo_entry e).refusal (undo_entry e).rule
  pub redo_out : (e : Editing) (n : ℕ) → (redo_entry e).refusal ≢ 0
      → redo_in e n ≡ not_redone e (redo_entry e).refusal (redo_entry e).rule
  pub clear_out : (x : List ℕ) (p : List ℤ) (s f l e v : ℕ) → (clear_of x p s f l e v).answer.refusal ≢ 0
      → clear_of x p s f l e v ≡ cleared 1 x p
  pub write_out : (o : Operator) (out : List ℕ) → (write_operator o out).answer.refusal ≢ 0
      → write_operator o out ≡ not_written (write_operator o out).answer.refusal out
  pub invert_out : (t : State) → (invert_of t).answer.refusal ≢ 0 → (invert_of t).answer.refusal ≢ 10
      → invert_of t ≡ inverted (invert_of t).answer.refusal (invert_of t).answer.rule (begin t)
  pub obj_out : (x : List ℕ) (p : List ℤ) (s : ℕ) (out : List ℕ) → (obj_of x p s out).answer.refusal ≢ 0
      → (obj_of x p s out).out ≡ out

-- ---- DEMAND 2. What document 01 says of each operator stands beside its sentences in crates/euler/specs: condition
-- (`conditions`), table after it (`links_after`, `points_after`), inverse. The contract of a run cites them by way of
-- `run_of`. That they leave what the examples and an independent model say: `cases-hold` and `rows-hold`.

-- the second
pub record Demand2 : Type 0 where
  -- "Each operator does to the table what document 01 says of it …": a run that is let in carries out as many of its
  -- script's first operators as it answers done, each on the state that the one before left, up to the script's end or
  -- the first refusal. The bytes used, the refusal, the table, the log and the start are those at that place
  pub run_carried : (t : State) (s : List ℕ) → (entry t).refusal ≡ 0
      → Carried (shape_of t.links) s (run_of t s).answer.refusal (run_of t s).answer.used (left_by (run_of t s))
      (run_of t s).answer.done 0 t
  -- "… and is refused when a condition written there fails and never otherwise": by reading it (3, 4, 5), by the table
  -- (6, 7, 8), for want of room for its inverse (9), in this order, and by nothing else
  pub step_refusal : (sh : Shape) (t : State) (s : List ℕ) (at : ℕ)
      → Refusing (read_at sh s at).refusal (admit_of sh t.links (read_at sh s at).op)
      (length (inverse_bytes sh t (read_at sh s at).op)) t.start (run_refusal sh t s at)
  -- what a run or undo reads and admits, its table accepts in the sense of `refusal_of`, of which the theorems about
  -- one
  -- operator speak
  pub taken : (sh : Shape) (x s : List ℕ) (at : ℕ) → refusal_at sh x s at ≡ 0 → Taken sh x s at
  -- "Operators written and read come back the same; …": what is written is read back, with the length answered behind
  -- it (the record of an operator has eight operands)
  pub write_read : (o : Operator) (out : List ℕ) → length o.args ≡ 8 → (write_operator o out).answer.refusal ≡ 0
      → read_operator widest (write_operator o out).out 0
      ≡ record { refusal = 0; next = (write_operator o out).answer.length; op = o }
  -- and what is read is written back as the shortest form of the bytes that it was read from (`Copied`)
  pub read_write : (s : List ℕ) (at : ℕ) → (read_operator widest s at).refusal ≡ 0
      → Copied s at (read_operator widest s at)
  -- "… a script read and written comes back byte for byte": read to its end, each operator written by way of any
  -- destination of 19 bytes or more. Document 02, job 1: "… from then on concerns shortest scripts" (`Bytes`: each is
  -- below 256); a padded one comes back in its shortest form, which is shortest
  pub script_copied : (s : List ℕ) → Bytes s → shortest s ≡ true → (read_script s).refusal ≡ 0 → (out : List ℕ)
      → 19 ≤ length out → written_all out (read_script s).operators ≡ s
  pub script_shortened : (s : List ℕ) → (read_script s).refusal ≡ 0 → (out : List ℕ) → 19 ≤ length out
      → written_all out (read_script s).operators ≡ shorten s
  pub script_shortest : (s : List ℕ) → (read_script s).refusal ≡ 0 → shortest (shorten s) ≡ true
  -- Document 02, job 1: "Reading shall take any form of at most three groups": those and no others
  pub form_read : (s : List ℕ) (at n g : ℕ) (q : List ℕ) → n < 2097152 → length (groups n) ≤ g → g ≤ 3
      → drop at s ≡ form g n ++ q → read_number s at ≡ Some (n, at + g)
  pub read_form : (s : List ℕ) (at n k : ℕ) → Bytes s → read_number s at ≡ Some (n, k)
      → (g : ℕ) × (k ≡ at + g) × (length (groups n) ≤ g) × (g ≤ 3) × (drop at s ≡ form g n ++ drop k s)
  -- the same: "writing keeps the shortest". An operator that is written in front of shortest bytes leaves them so; what
  -- runs write into the log is shortest, whatever it held (`written`: live now, and in front of the old start); so a
  -- live part that was shortest stays so
  pub operator_shortest : (o : Operator) → Writable o → (q : List ℕ) → shortest q ≡ true
      → shortest (operator_bytes o ++ q) ≡ true
  pub runs_written : (t : State) (ss : List (List ℕ)) → Passes t.links t.points
      → shortest (written t (run_all t ss).last) ≡ true
  pub log_shortest : (t : State) (ss : List (List ℕ)) → Passes t.links t.points → shortest (live t) ≡ true
      → shortest (live (run_all t ss).last) ≡ true
  -- the same: "Refusal 3 then covers only cut-off and too-long numbers". An operator is refused so, whatever its
  -- limits, just where its code or one of its operands (`CutShort`) is a number that is cut off or too long (`Unread`),
  -- and just such numbers are not read
  pub refused_3 : (lim : Limits) (s : List ℕ) (at : ℕ) → (read_operator lim s at).refusal ≡ 3 → CutShort s at
  pub cut_refused : (lim : Limits) (s : List ℕ) (at : ℕ) → CutShort s at → read_operator lim s at ≡ refused 3 at
  pub unread : (s : List ℕ) (at : ℕ) → read_number s at ≡ None → Unread s at
  pub unread_bad : (s : List ℕ) (at : ℕ) → Unread s at → read_number s at ≡ None
  -- the same: "A padded script must do what its shortest form does, bytes taken aside". Of any bytes and from any
  -- state, refused or not, all but the bytes used are the same (`short_used`); so too undo of a padded log and
  -- redo of a padded redo log (`short_source`)
  pub padded_run : (t : State) (s : List ℕ) → run_of t (shorten s) ≡ short_used s (run_of t s)
  pub padded_move : (source : List ℕ) (from : ℕ) (t : State) (n : ℕ)
      → move_of (shorten_from from source) from t n ≡ short_source source from (move_of source from t n)
  -- "A sound table stays sound": under each accepted operator, under any list of runs, undone and redone by any log,
  -- taken down or refused; and a cleared one is sound
  pub valid_kept : (x : List ℕ) (p : List ℤ) (o : Operator) → Passes x p → length o.args ≡ 8
      → refusal_of (shape_of x) x o ≡ 0 → Passes (links_after (shape_of x) x o) (points_after (shape_of x) x p o)
  pub clear_valid : (x : List ℕ) (p : List ℤ) (s f l e v : ℕ) → (clear_of x p s f l e v).answer.refusal ≡ 0
      → Passes (clear_of x p s f l e v).links (clear_of x p s f l e v).points
  pub runs_sound : (t : State) (ss : List (List ℕ)) → Passes t.links t.points
      → Passes (run_all t ss).last.links (run_all t ss).last.points
  pub move_sound : (source : List ℕ) (from : ℕ) (t : State) (n : ℕ) → Passes t.links t.points
      → Passes (move_of source from t n).links (move_of source from t n).points
  pub invert_sound : (t : State) → Passes t.links t.points → Passes (invert_of t).links (invert_of t).points
  -- and so under any list of calls, whichever they are
  pub sound_acts : (t : Editing) (acts : List Act) → Passes t.links t.points
      → Passes (behind t acts).links (behind t acts).points

-- ---- DEMAND 3. "This is one statement about the whole list, not one per run."

-- the third
pub record Demand3 : Type 0 where
  -- "Suppose a table passes the check, whoever made it. Run any list of scripts from it, whatever they hold, refused
  -- runs included: … Undoing as many operators as were done in all, by document 01's meaning of done, then gives the
  -- earlier table, to the byte." (`Restored`: also the log from the first start on, and undo's answer.) Document 02,
  -- job 4: "every promise about undoing, the mission's …, supposes a redo start not beyond the redo log, and room in
  -- that log for the operators undo writes there" (`RedoRoom`: of the start that undo meets, not of the first; and for
  -- the operators done, in shortest form)
  pub undo_exact : (e : Editing) (ss : List (List ℕ)) → Passes e.links e.points → RedoRoom e ss → Restored e ss
  -- "… each …, on the table, log and start the last one left, with no other writing call until the undo and no outside
  -- hand on table or log": the same of any list of calls of which each is a run or writes none of these
  pub undo_acts_lem : (t : Editing) (acts : List Act) → only_runs acts ≡ true → Passes t.links t.points
      → RedoRoom t (scripts_of acts) → ActsUndone t acts
  -- It rests on the inverses, which a run logs: on what an accepted operator left its inverse is accepted, gives back
  -- every word and coordinate, and has that operator for its own inverse
  pub inverse_exact : (t : Table) (o : Operator) → Passes t.links t.points → length o.args ≡ 8
      → refusal_of (shape_of t.links) t.links o ≡ 0
      → exec (shape_of t.links) (exec (shape_of t.links) o t).inverse (exec (shape_of t.links) o t).table
      ≡ record { refusal = 0; inverse = o; table = t }
  -- "Suppose also that one face, one loop and one edge number are free and the log has the space document 01 names."
  -- (`Asked`) "Then the take-down, by document 01's steps in their order, empties the table in at most
  -- v + 2f + 2r + 3h − 2s operators, by the count it answers. What it logs is a script that rebuilds the same table, to
  -- the byte, from an empty one of the same capacities, log space given. Exactly h of that script's operators join two
  -- faces of one solid, …" (`Exact`; the steps are `invert_of`'s, each beside document 01's words)
  pub spare_exact : SpareExact
  -- and it answers 0 only for a table that passes the check and a log with that space
  pub invert_asked : (t : State) → (invert_of t).answer.refusal ≡ 0 → Passes t.links t.points
      × (t.start ≤ length t.log) × (short_log (shape_of t.links) t ≡ false)
  -- "an empty one of the same capacities": what clearing leaves
  pub clear_own : (x : List ℕ) (p : List ℤ) → Passes x p
      → clear_of x p (get_or x 0 0) (get_or x 1 0) (get_or x 2 0) (get_or x 3 0) (get_or x 4 0)
      ≡ cleared 0 (clear_links x) (clear_points x)
  -- "… where v − e + f = 2(s − h) + r": one such h and no other, whole and not negative, for every sound table
  pub holes_one : HolesOne
  -- and counting answers it
  pub count_holes : CountHoles

-- ---- DOCUMENT 02, what its jobs ask beside the demands (job 1 changed some of them, and stands there)

-- job 2: the text of a solid; job 3: kef in place; job 4: redo; job 5: the words of vertices; job 6: full tables;
-- job 7: the sweep
pub record Requests : Type 0 where
  -- "(After 5 and 6 for the solid: 12, …; then 13, the text doesn't fit.)" Every call ends in one of four ways
  -- (`TextEnds`), each with its answer and every byte of the buffer: what the check refuses; what is refused of the
  -- solid; a text that is longer than the buffer; a text. "The length is answered", with 13 too
  pub obj_ends : (x : List ℕ) (p : List ℤ) (s : ℕ) (out : List ℕ) → TextEnds x p s out
  -- "5 and 6 for the solid", and "12, a face has a ring, a lone loop or, in this job only, under three sides": each
  -- where it is so and never otherwise (`RefusedAs`), by the half-edges that name a loop, for every table that passes
  -- the check; 0 where none is so
  pub solid_refused : (x : List ℕ) (p : List ℤ) → Passes x p → (s : ℕ)
      → RefusedAs (shape_of x) x s (solid_refusal (shape_of x) x s)
  -- "A reader of the text must find the same points and the same vertex cycles, turned round. … bytes behind the text
  -- stay." Of every call that answers 0 (`TextRead`): so many bytes of the buffer are the text; a reader of OBJ text,
  -- which knows nothing of tables, finds in it the points of the solid's vertices by number and a cycle of indices for
  -- each face by number; the cycles are the table's, turned round, each the whole loop, and each index leads to the
  -- point of its corner (`TextShows`); behind the text all is as it was
  pub obj_reads : (x : List ℕ) (p : List ℤ) (s : ℕ) (out : List ℕ) → (obj_of x p s out).answer.refusal ≡ 0
      → TextRead x p s out (obj_of x p s out)
  -- "However kef joins the loops now, it shall … relabel the run where it sits, proved so: at each half-edge passed,
  -- those behind name the kept loop, those ahead the killed one, and besides only the killed edge's loop words differ."
  -- Of every kef that a table accepts (`KefInPlace`): the run is the rest of k's loop; when n of it have been passed,
  -- for each n from none to all, it is so, besides nothing differs, and no other links are like that; with all of them
  -- passed kef goes on. That these are the states of the code is the invariant of its loop (`Walked` in the proof of
  -- `relabel_steps`, crate `euler_walks`), of which a turn is one store (`pass_one`); that it has no scratch memory is
  -- seen in its text (tests/gate/scratch.py)
  pub kef_in_place : (x : List ℕ) (p : List ℤ) → Passes x p → (k : ℕ) → refusal_of (shape_of x) x (kef_of k) ≡ 0
      → KefInPlace (shape_of x) x k
  -- Job 5. "The vertex word becomes 1 plus the number of half-edges starting there; 0 is still free." In every table
  -- that passes the check each vertex word is 0 or that (`Valent`)
  pub vertex_words : (x : List ℕ) (p : List ℤ) → Passes x p → Valent (shape_of x) x
  -- "Rule 5 of soundness tests it, rule 1 no longer does": any other number than 0 in its place, of a vertex in use or
  -- a free one, is answered with 2 and rule 5, so none of the rules before it is broken
  pub wrong_word : (x : List ℕ) (p : List ℤ) → Passes x p → (v w : ℕ) → (1 ≤ v) × (v ≤ (shape_of x).vertices)
      → w ≢ 0 → w ≢ vertex_used (shape_of x) x v → check_of (set_vertex_used (shape_of x) x v w) p ≡ answer 2 5
  -- "0 is still free": 0 in the place of a vertex in use is rule 1 where its point is not zero (a free record is all
  -- zero), else rule 2 (what names it names no item in use)
  pub freed_word : (x : List ℕ) (p : List ℤ) → Passes x p → (v : ℕ) → (1 ≤ v) × (v ≤ (shape_of x).vertices)
      → vertex_used (shape_of x) x v ≢ 0
      → check_of (set_vertex_used (shape_of x) x v 0) p
      ≡ answer 2 (pick (is_zero p v 0 && is_zero p v 1 && is_zero p v 2) 2 1)
  -- "and all operators keep it": it is part of `valid_kept`; here by itself. "Restoring to the byte means the new words
  -- from here on": `inverse_exact`, `undo_exact`, `undo_redo` and `inversion_exact` are of all words
  pub valence_kept : (x : List ℕ) (p : List ℤ) (o : Operator) → Passes x p → length o.args ≡ 8
      → refusal_of (shape_of x) x o ≡ 0 → Valent (shape_of x) (links_after (shape_of x) x o)
  -- Job 4. "Undo shall write the inverse of each operator it does into … the redo log, filled from its end like the
  -- first. Redo n runs its first n operators, logged as in a run". Both are moves: one that is let in carries out as
  -- many of the source's operators from its start on as it answers, each on the state that the one before left and with
  -- its inverse just below the destination's start (`stepped`), up to the number due, the source's end (11) or the
  -- first refusal (3 to 8, then 9, by `step_refusal`), which it answers
  pub move_carried : (source : List ℕ) (from : ℕ) (t : State) (n : ℕ) → (move_entry source from t).refusal ≡ 0
      → let m = move_of source from t n in
      Moves (shape_of t.links) source m.answer.refusal m.answer.from (moved_to m) n m.answer.done from t
  -- "clearing, or an operator done by any call but these two, empties it" (`Empties`); a run or a take-down that does
  -- none leaves its start
  pub redo_emptied : (e : Editing) → Empties e
  -- "The editor lends one session record, … and the kernel updates that record": the log's start, which run, undo and
  -- take-down answer too
  pub starts_answered : (e : Editing) → Starts e
  -- "Undoing n and redoing as many as were undone must return table, session and live log bytes exactly, when no other
  -- call and no outside hand on table, session or logs comes between and the log is in shortest form." (`UndoRedone`:
  -- every byte of the log.) For any n and whatever undo answers; only what undo read need be in shortest form, and what
  -- runs and redo log is (`runs_written`, `move_written`). `LetIn`: a sound table, neither start beyond its log
  pub undo_redo : (e : Editing) (n : ℕ) → LetIn e → Bytes e.log → shortest (undo_read e n) ≡ true → UndoRedone e n
  -- and the other way round
  pub redo_undo : (e : Editing) (n : ℕ) → LetIn e → Bytes e.redo → shortest (redo_read e n) ≡ true → RedoUndone e n
  -- and in part
  pub undo_redo_less : (e : Editing) (m n : ℕ) → LetIn e → m ≤ n → (undo_in e n).answer.answer.refusal ≡ 0
      → Bytes e.log → shortest (live (log_state e)) ≡ true
      → Returned (undone_from e (n - m)) (redone_from (undone_from e n) m)
  -- what undo writes into the redo log, and redo into the log, is shortest, whatever it held
  pub move_written : (source : List ℕ) (from : ℕ) (t : State) (n : ℕ) → Passes t.links t.points
      → shortest (written t (moved_to (move_of source from t n))) ≡ true
  pub move_shortest : (source : List ℕ) (from : ℕ) (t : State) (n : ℕ) → Passes t.links t.points
      → shortest (live t) ≡ true → shortest (live (moved_to (move_of source from t n))) ≡ true
  -- "Redo past its log's end gives 11; it and undo alone give 1 for a redo start beyond that log." (`LooksAtRedo`)
  pub redo_ended : (e : Editing) (n : ℕ) → LetIn e → 0 < n → e.session.redo ≡ length e.redo
      → redo_in e n ≡ redone_session (moved 11 0 e.session.redo (log_state e))
  pub redo_beyond : (e : Editing) → LooksAtRedo e
  -- "A full redo log gives 9, and the operator that met it isn't undone: table and session are as before it" (by
  -- `move_apart`). So the room that the undo promise supposes is needed; a redo log as long as the bytes used is enough
  pub undo_full : (e : Editing) (ss : List (List ℕ)) → Passes e.links e.points → e.session.log ≤ length e.log
      → (edit_all e ss).last.session.redo ≤ length e.redo
      → (edit_all e ss).last.session.redo < length (done_script (log_state e) ss)
      → (undo_all e ss).answer.answer.refusal ≡ 9
  pub used_room : (e : Editing) (ss : List (List ℕ)) → Passes e.links e.points
      → (edit_all e ss).last.session.redo ≤ length e.redo → used_all (log_state e) ss ≤ length e.redo
      → RedoRoom e ss
  -- and so are 19 bytes for each operator done
  pub nineteen_room : (e : Editing) (ss : List (List ℕ)) → Passes e.links e.points
      → (edit_all e ss).last.session.redo ≤ length e.redo → 19 * (edit_all e ss).done ≤ length e.redo
      → RedoRoom e ss
  -- the start that undo meets is within the redo log where a run has done an operator, whatever the first session held,
  -- and where the first start was within it
  pub redo_met : (e : Editing) (ss : List (List ℕ))
      → ((edit_all e ss).done ≡ 0 → e.session.redo ≤ length e.redo)
      → (edit_all e ss).last.session.redo ≤ length e.redo
  -- Job 6, "Full tables come down too". Which refusal is answered (`Answers`): 1 and 2 by the way in; 9, since "the
  -- log-space test comes ahead of it"; 10; and where no step lacks a number 0
  pub invert_answers : InvertAnswers
  -- "Give 10 exactly when the steps A to C call for a free number and none of that kind is left" (`Stopped`; `Lack`
  -- names the kind)
  pub ten_exactly : TenExactly
  -- "done is then 0, the table, the live log and the session are as before the call, and of the bytes in front of the
  -- log's start only those that the steps logged into may differ": they keep what was logged (`AsBefore`, `Logged`)
  pub refused_as_before : RefusedAsBefore
  pub session_as_before : (e : Editing) → (invert_in e).answer.answer.refusal ≢ 0
      → (invert_in e).answer.session ≡ e.session
  -- behind that test no operator of the steps is refused, for room or otherwise
  pub log_enough : LogEnough
  -- "The rebuild promise then holds for each table that isn't refused." With the mission's supposition none is by 10
  pub inversion_exact : InversionExact
  pub spare_never_ten : SpareNeverTen
  -- Job 7, the sweep, has a page of its own
  pub sweeping : Sweeping

-- the whole
pub record Mission : Type 0 where
  pub first : Demand1
  pub second : Demand2
  pub third : Demand3
  pub requests : Requests
